-- Unpacking an HFE image to a block image (docs/RULES.md, section 8), and the replies 1 to 7 and 18 (section 7).
-- Assumes nothing: these are definitions.
use Rattle.std.specs.Prelude.{Ok, Err, Bool, true, false, cond, List, ℕ, ◌+◌, ◌*◌, ◌/◌, ◌%◌, ltb, eqb, length, get_or}
use Rattle.std.proofs.Math.Option.{Option, none, some}
use Rattle.laws.specs.Lists.{tab}
use Rattle.laws.specs.Below.{lowest}
use Rattle.laws.specs.Options.{or_else, first_some}
use Rattle.cells.specs.Codes.{Decoded, Cells, WrongCode}
use Rattle.sector_rules.specs.declared.Reply.{Reply}
use Rattle.sector_rules.specs.Search.{Sector}
use Rattle.sector_rules.specs.declared.SectorFault.TheVariants.{Missing, Repeated, NoField, Damaged}
use Rattle.sector_rules.specs.Replies.{reply_with, done, wrong_hfe, wrong_length, unless}
use Rattle.sector_rules.specs.Faults.{refusal_at}
use Rattle.sector_rules.specs.Geometry.{tracks, sides, sectors, track_sectors, all_sectors, sector_bytes, image_bytes}
use Rattle.sector_rules.specs.Search.{sector_of, delivered_bytes}
use Rattle.sector_rules.specs.Hfe.{is_version3, hfe_header_fault, table_fault, coded_side, side_stream}

-- the track of an image sector (§1.2)
abbrev pub track_of : ℕ → ℕ
track_of m = m / track_sectors

-- the side of an image sector: side 0 comes before side 1 (§1.2)
abbrev pub side_of : ℕ → ℕ
side_of m = m % track_sectors / sectors

-- R of an image sector: 1 to 9 (§1.2)
abbrev pub r_of : ℕ → ℕ
r_of m = m % sectors + 1

-- what image sector m gives, judged alone (§4.6)
unfoldable pub sector_at : List ℕ → ℕ → Sector
sector_at h m = sector_of (side_stream h (track_of m) (side_of m)) (track_of m) (side_of m) (r_of m)

-- the bytes that image sector m gives (§4.6)
unfoldable pub sector_bytes_at : List ℕ → ℕ → List ℕ
sector_bytes_at h m = delivered_bytes (side_stream h (track_of m) (side_of m)) (sector_at h m)

-- the reply for what image sector m gives: 4 no header, 5 two or more, 6 no field, 7 its CRC does not hold; with track, side and R (§7.4 §7.5 §7.6 §7.7)
abbrev pub sector_reply : ℕ → Sector → Reply
sector_reply m (Ok p) = done
sector_reply m (Err Missing) = reply_with 4 (track_of m) (side_of m) (r_of m)
sector_reply m (Err Repeated) = reply_with 5 (track_of m) (side_of m) (r_of m)
sector_reply m (Err NoField) = reply_with 6 (track_of m) (side_of m) (r_of m)
sector_reply m (Err Damaged) = reply_with 7 (track_of m) (side_of m) (r_of m)

-- whether a sector is bad: its reply is a refusal (§7.18)
abbrev pub is_bad : Sector → Bool
is_bad (Ok p) = false
is_bad (Err Missing) = true
is_bad (Err Repeated) = true
is_bad (Err NoField) = true
is_bad (Err Damaged) = true

-- the first bad sector by track, side and R, or 1,440 (§7.18)
unfoldable pub first_bad : List ℕ → ℕ
first_bad h = lowest (λ (m : ℕ). is_bad (sector_at h m)) all_sectors

-- the reply for the first bad sector; done where no sector is bad (§7.18)
unfoldable pub sectors_reply : List ℕ → Reply
sectors_reply h = cond (ltb (first_bad h) all_sectors) (sector_reply (first_bad h) (sector_at h (first_bad h))) done

-- the refusal of the n-th side by what its bytes give: 18 with track, side and the place of the first wrong code, or none (§7.25)
abbrev pub side_code_refusal : ℕ → Decoded → Option Reply
side_code_refusal n (Cells c) = none
side_code_refusal n (WrongCode p) = some (reply_with 18 (n / sides) (n % sides) p)

-- the refusal of the first side that has a wrong code, by track and then side; version 1 has no codes (§7.25 §2.7)
unfoldable pub first_code_refusal : List ℕ → Option Reply
first_code_refusal h = cond (is_version3 h) (first_some (λ (n : ℕ). side_code_refusal n (coded_side h (n / sides) (n % sides))) (tracks * sides)) none

-- an HFE image that is read has at least so many bytes (§7.1)
abbrev pub least_hfe : ℕ
least_hfe = 1024

-- the reply of unpack for an HFE image h and a block image of n bytes: 1, the HFE image first (§7.1), 2 with the lowest wrong field (§7.2),
-- 3 with the lowest track whose entry is not good (§7.3), 18 for the first wrong code of all sides (§7.25), then 4 to 7 for the first bad sector (§8.1 §7.18)
unfoldable pub unpack_reply : List ℕ → ℕ → Reply
unpack_reply h n =
    cond (ltb (length h) least_hfe) wrong_hfe
    (cond (eqb n image_bytes)
    (unless (or_else (refusal_at 2 (hfe_header_fault h)) (or_else (refusal_at 3 (table_fault h)) (first_code_refusal h))) (λ (r : Reply). r) (sectors_reply h))
    wrong_length)

-- byte k of the unpacked block image: the bytes of all sectors in the order of image sectors (§8.1 §1.2)
unfoldable pub unpacked_byte : List ℕ → ℕ → ℕ
unpacked_byte h k = get_or (sector_bytes_at h (k / sector_bytes)) (k % sector_bytes) 0

-- the lent block image after unpack: as it was on a refusal (§8.1 §7.19)
unfoldable pub unpack_image : List ℕ → List ℕ → List ℕ
unpack_image h image = cond (eqb (unpack_reply h (length image)).number 0) (tab (unpacked_byte h) image_bytes) image

-- the place of a sector's bytes, of a sector that is delivered (§8.1)
abbrev pub place_of : Sector → ℕ
place_of (Ok p) = p
place_of (Err Missing) = 0
place_of (Err Repeated) = 0
place_of (Err NoField) = 0
place_of (Err Damaged) = 0

-- the refusal of the n-th side of version 3, by track and then side (§7.25)
abbrev pub side_refusal : List ℕ → ℕ → Option Reply
side_refusal h n = side_code_refusal n (coded_side h (n / sides) (n % sides))
