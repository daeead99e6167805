-- Rewriting one sector in an HFE image (docs/RULES.md, section 8), and the reply 17 (section 7).
-- Assumes nothing: these are definitions.
use Rattle.std.specs.Prelude.{Ok, Err, Bool, true, false, cond, ◌&&◌, not, List, ◌∷◌, ℕ, ◌+◌, ◌-◌, ◌*◌, ◌/◌, ◌%◌, leb, ltb, eqb, length, get_or}
use Rattle.std.proofs.Math.Option.{Option}
use Rattle.laws.specs.Lists.{tab, same}
use Rattle.laws.specs.Below.{all}
use Rattle.laws.specs.Options.{is_some, or_else}
use Rattle.cells.specs.Stream.{from, packed}
use Rattle.cells.specs.Sync.{three_sync}
use Rattle.cells.specs.Mfm.{clock}
use Rattle.cells.specs.Written.{bit_before, written_cell}
use Rattle.sector_rules.specs.declared.Reply.{Reply}
use Rattle.sector_rules.specs.declared.Found.{Found}
use Rattle.sector_rules.specs.declared.Found.TheVariants.{One, Nothing, Several}
use Rattle.sector_rules.specs.Search.{Sector}
use Rattle.sector_rules.specs.declared.SectorFault.TheVariants.{Missing, Repeated, NoField, Damaged}
use Rattle.sector_rules.specs.Replies.{done, refusal, wrong_hfe, unless}
use Rattle.sector_rules.specs.Faults.{refusal_at}
use Rattle.sector_rules.specs.Geometry.{tracks, sides, sectors, all_sectors, sector_bytes}
use Rattle.sector_rules.specs.Search.{data_mark, header_cells, gap_cells, first, find_sector}
use Rattle.sector_rules.specs.Hfe.{unit_bytes, version1_fault, table_fault, track_start, track_length, side_stream}
use Rattle.sector_rules.specs.Unpacked.{least_hfe, sector_at, sector_bytes_at, sector_reply}
use Rattle.sector_rules.specs.Packed.{plain_items, with_crc, field_items, image_sector_of}

-- ---- where the data of a sector stand

-- the cell place of the first run that begins at the end of the header at place i or at most 688 cells after it; 0 where there is none (§4.4)
unfoldable pub field_place : List ℕ → ℕ → ℕ
field_place c i = first (λ (j : ℕ). three_sync (from c j)) (λ (j : ℕ). j) 0 (gap_cells + 1) (i + header_cells)

-- the cell place of the data by the search's answer: 64 cells after the run of the field begins, after the mark (§4.6 §8.16); of no meaning where the
-- sector has no field
unfoldable pub data_place_of : List ℕ → Found → ℕ
data_place_of c (One i) = field_place c i + 64
data_place_of c Nothing = 0
data_place_of c Several = 0

-- the cell place of the data of sector R of this track and side, whether the CRC after them holds or not (§8.16)
unfoldable pub data_place : List ℕ → ℕ → ℕ → ℕ → ℕ
data_place c t s r = data_place_of c (find_sector c t s r)

-- ---- the cells that are written

-- the cells of the data and of their CRC: 8,224 (§8.16)
abbrev pub data_cells : ℕ
data_cells = 16 * (sector_bytes + 2)

-- the bytes of a data field with the data d from its mark on: FB, the data, the CRC over the run, FB and the data (§8.16 §3.9)
abbrev pub field_row : List ℕ → List ℕ
field_row d = with_crc (data_mark ∷ d)

-- cell i of a side with the cells c, once a field's bytes after FB are written from place p on: their cells by MFM, so that the first clock cell follows
-- FB's last bit (§3.4); then, where two or more cells follow, the clock cell of the CRC's last bit and the next bit; every other cell stays (§8.16)
unfoldable pub cell_after : List ℕ → ℕ → List ℕ → ℕ → ℕ
cell_after c p row i =
    cond (leb p i && ltb i (p + data_cells)) (written_cell (plain_items row) (16 + (i - p)))
    (cond (eqb i (p + data_cells) && leb (i + 2) (length c)) (clock (bit_before (plain_items row) field_items) (get_or c (i + 1) 0))
    (get_or c i 0))

-- ---- the image

-- which byte of its side byte o of a track's part is (§2.6)
abbrev pub side_byte_of : ℕ → ℕ
side_byte_of o = 256 * (o / unit_bytes) + o % 256

-- of a track that begins at `start` and has `size` bytes a side: whether byte k of the image is one of the n bytes of side s from its byte b on (§2.6)
unfoldable pub is_side_byte : ℕ → ℕ → ℕ → ℕ → ℕ → ℕ → Bool
is_side_byte start size s b n k =
    leb start k && eqb ((k - start) % unit_bytes / 256) s
    && leb b (side_byte_of (k - start)) && ltb (side_byte_of (k - start)) (b + n) && ltb (side_byte_of (k - start)) size

-- an image with the bytes f b, f (b + 1) .., n of them, in place of those of such a side (§2.6)
unfoldable pub with_side_bytes : List ℕ → ℕ → ℕ → ℕ → ℕ → ℕ → (ℕ → ℕ) → List ℕ
with_side_bytes h start size s b n f = tab (λ (k : ℕ). cond (is_side_byte start size s b n k) (f (side_byte_of (k - start))) (get_or h k 0)) (length h)

-- the bytes of a side that hold the cells of data and CRC and one cell more, wherever they begin: 1,029 (§8.16 §3.1)
abbrev pub changed_bytes : ℕ
changed_bytes = data_cells / 8 + 1

-- the image once the data d are written in sector R of this track and side, whose places are those of the table before (§8.16)
unfoldable pub rewritten : List ℕ → ℕ → ℕ → ℕ → List ℕ → List ℕ
rewritten h t s r d =
    let c : List ℕ = side_stream h t s in
    let p : ℕ = data_place c t s r in
    with_side_bytes h (track_start h t) (track_length h t / 2) s (p / 8) changed_bytes (packed (cell_after c p (field_row d)))

-- ---- the reply

-- the number that image sector q gives, judged alone: 0, 4, 5, 6 or 7 (§8.17)
abbrev pub sector_number : List ℕ → ℕ → ℕ
sector_number h q = (sector_reply q (sector_at h q)).number

-- image sector q gives the same number and the same bytes in both images (§8.17)
abbrev pub same_sector : List ℕ → List ℕ → ℕ → Bool
same_sector h g q = eqb (sector_number h q) (sector_number g q) && same (sector_bytes_at h q) (sector_bytes_at g q)

-- image sector m gives the bytes d (§8.17)
abbrev pub gives_data : List ℕ → ℕ → List ℕ → Bool
gives_data g m d = eqb (sector_number g m) 0 && same (sector_bytes_at g m) d

-- image sector q is as it must be in g, where h was the image before and sector m got the data d (§8.17)
unfoldable pub sector_right : List ℕ → List ℕ → ℕ → List ℕ → ℕ → Bool
sector_right h g m d q = cond (eqb q m) (gives_data g m d) (same_sector h g q)

-- 2 for a wrong header, that of version 3 among them, or 3 for a wrong table, or none (§7.2 §7.3 §8.15). A rewrite reaches no byte that 2 judges: data begin
-- at least 28 bytes after their side does
abbrev pub hfe_refusal : List ℕ → Option Reply
hfe_refusal h = or_else (refusal_at 2 (version1_fault h)) (refusal_at 3 (table_fault h))

-- the result g reads as it must: header and table are right, this sector gives the data, and every other sector what it gave before (§8.17)
unfoldable pub result_right : List ℕ → List ℕ → ℕ → List ℕ → Bool
result_right h g m d = not (is_some (hfe_refusal g)) && all (sector_right h g m d) all_sectors

-- whether a sector has a data field, its CRC right or wrong; else it gets 4, 5 or 6 (§8.15)
abbrev pub has_field : Sector → Bool
has_field (Ok p) = true
has_field (Err Damaged) = true
has_field (Err Missing) = false
has_field (Err Repeated) = false
has_field (Err NoField) = false

-- the reply where header, table and arguments are right: 4 to 6 for this sector alone (§8.15), then 17 exactly where the result would not read as it
-- must (§7.24)
unfoldable pub rewrite_sector_reply : List ℕ → ℕ → ℕ → ℕ → List ℕ → Reply
rewrite_sector_reply h t s r d =
    let m : ℕ = image_sector_of t s r in
    cond (has_field (sector_at h m)) (cond (result_right h (rewritten h t s r d) m d) done (refusal 17)) (sector_reply m (sector_at h m))

-- track, side and R name a sector, and the data are those of one (§7.12 §8.15)
abbrev pub rewrite_arguments : ℕ → ℕ → ℕ → List ℕ → Bool
rewrite_arguments t s r d = ltb t tracks && ltb s sides && leb 1 r && leb r sectors && eqb (length d) sector_bytes

-- the reply of rewrite: 1, 12, 2, 3, then those for this sector (§8.15 §7.1)
unfoldable pub rewrite_reply : List ℕ → ℕ → ℕ → ℕ → List ℕ → Reply
rewrite_reply h t s r d =
    cond (ltb (length h) least_hfe) wrong_hfe
    (cond (rewrite_arguments t s r d)
    (unless (hfe_refusal h) (λ (x : Reply). x) (rewrite_sector_reply h t s r d))
    (refusal 12))

-- the lent HFE image after rewrite: as it was on a refusal (§8.15 §7.19)
unfoldable pub rewrite_hfe : List ℕ → ℕ → ℕ → ℕ → List ℕ → List ℕ
rewrite_hfe h t s r d = cond (eqb (rewrite_reply h t s r d).number 0) (rewritten h t s r d) h
