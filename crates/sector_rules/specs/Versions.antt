-- What is promised of the two versions of HFE images (docs/PROMISES.md): version_letters, version_3_plain, version_1_cells, version_3_cells, sectors_read and
-- code_replies.
-- Assumes nothing: these are definitions. The proofs stand in Laws/Versions.
use Rattle.std.specs.Prelude.{Some, None, Ok, true, false, List, [], ◌∷◌, ◌≡◌, ◌≢◌, ℕ, ◌+◌, ◌*◌, ◌/◌, ◌≤◌, ◌<◌, length, get_or}
use Rattle.std.proofs.Math.Option.{none}
use Rattle.laws.specs.Changes.{put}
use Rattle.laws.specs.Lists.{tab}
use Rattle.cells.specs.Stream.{byte_place, stream, hfe_side, from, data_byte}
use Rattle.cells.specs.Codes.{is_code, Cells, WrongCode, coded}
use Rattle.sector_rules.specs.Search.{Sector}
use Rattle.sector_rules.specs.Replies.{reply_with, done}
use Rattle.sector_rules.specs.Geometry.{tracks, sides, all_sectors, sector_bytes, image_bytes}
use Rattle.sector_rules.specs.Search.{sector_of}
use Rattle.sector_rules.specs.Hfe.{hfe_signature, is_version1, is_version3, byte_at, hfe_header_fault, version1_fault, table_fault}
use Rattle.sector_rules.specs.Hfe.{track_length, track_part, coded_side, side_stream}
use Rattle.sector_rules.specs.Unpacked.{track_of, side_of, r_of, is_bad, sector_reply, sectors_reply, first_code_refusal, unpack_reply, unpack_image}
use Rattle.sector_rules.specs.Rewritten.{rewrite_arguments, rewrite_reply}

-- ---- the letters

-- bytes 0 to 7 of an image (§2.2)
abbrev pub letters_of : List ℕ → List ℕ
letters_of h = tab (byte_at h) 8

-- version_letters: eight letters decide of which version an image is; others are refused with 2 at 0, by unpack and by rewrite, which takes version 1 alone
-- and judges its other fields as unpack does (§2.2 §7.2 §8.15)
pub record VersionLetters : Type 0 where
  -- HXCPICFE
  pub version_1 : (h : List ℕ) → is_version1 h ≡ true → letters_of h ≡ 0x48 ∷ 0x58 ∷ 0x43 ∷ 0x50 ∷ 0x49 ∷ 0x43 ∷ 0x46 ∷ 0x45 ∷ []
  pub is_version_1 : (h : List ℕ) → letters_of h ≡ 0x48 ∷ 0x58 ∷ 0x43 ∷ 0x50 ∷ 0x49 ∷ 0x43 ∷ 0x46 ∷ 0x45 ∷ [] → is_version1 h ≡ true
  -- HXCHFEV3
  pub version_3 : (h : List ℕ) → is_version3 h ≡ true → letters_of h ≡ 0x48 ∷ 0x58 ∷ 0x43 ∷ 0x48 ∷ 0x46 ∷ 0x45 ∷ 0x56 ∷ 0x33 ∷ []
  pub is_version_3 : (h : List ℕ) → letters_of h ≡ 0x48 ∷ 0x58 ∷ 0x43 ∷ 0x48 ∷ 0x46 ∷ 0x45 ∷ 0x56 ∷ 0x33 ∷ [] → is_version3 h ≡ true
  -- other letters
  pub unpack_others : (h : List ℕ) → 1024 ≤ length h → is_version1 h ≡ false → is_version3 h ≡ false → unpack_reply h image_bytes ≡ reply_with 2 0 0 0
  -- a rewrite of an image that is not of version 1, after 1 and 12
  pub rewrite_others : (h : List ℕ) (t s r : ℕ) (d : List ℕ) → 1024 ≤ length h → rewrite_arguments t s r d ≡ true → is_version1 h ≡ false
      → rewrite_reply h t s r d ≡ reply_with 2 0 0 0
  -- what 2 judges of an image to rewrite is, in version 1, what it judges of one to unpack
  pub rewrite_fields : (h : List ℕ) → is_version1 h ≡ true → version1_fault h ≡ hfe_header_fault h
  -- and of a version 3 image what it would judge with the letters of version 1
  pub version_3_fields : (h : List ℕ) → is_version3 h ≡ true → hfe_header_fault h ≡ hfe_header_fault (put h 0 hfe_signature)

-- ---- the cells of a side

-- byte b of side s of track t (§2.6)
abbrev pub side_byte_at : List ℕ → ℕ → ℕ → ℕ → ℕ
side_byte_at h t s b = get_or (track_part h t) (byte_place (hfe_side s (track_length h t)) b) 0

-- no byte of side s of track t reads as a code (§2.7)
abbrev pub SideWithoutCodes : List ℕ → ℕ → ℕ → Type 0
SideWithoutCodes h t s = (b : ℕ) → b < track_length h t / 2 → is_code (side_byte_at h t s b) ≡ false

-- no byte of any side reads as a code (§2.7)
pub record WithoutCodes (h : List ℕ) : Type 0 where
  pub each : (t s : ℕ) → t < tracks → s < sides → SideWithoutCodes h t s

-- version_3_plain: where no byte of a version 3 image's sides reads as a code, its reply and its block image are those of the image in which the letters
-- of version 1 replace its own; tracks may lie anywhere, over the letters too (§2.2 §2.8)
abbrev pub Version3Plain : Type 0
Version3Plain =
    (h : List ℕ) → is_version3 h ≡ true → WithoutCodes h
    → ((n : ℕ) → unpack_reply h n ≡ unpack_reply (put h 0 hfe_signature) n)
    × ((image : List ℕ) → unpack_image h image ≡ unpack_image (put h 0 hfe_signature) image)

-- version_1_cells: in a version 1 image the cells of a side are all that its bytes store, and no code is wrong (§2.6 §2.7)
abbrev pub Version1Cells : Type 0
Version1Cells =
    (h : List ℕ) → is_version1 h ≡ true
    → ((t s : ℕ) → side_stream h t s ≡ stream (track_part h t) (hfe_side s (track_length h t))) × (first_code_refusal h ≡ none)

-- version_3_cells: in a version 3 image the cells of a side are what its bytes give (§2.6 §2.8)
pub record Version3Cells : Type 0 where
  -- of a side half the track's length of bytes is read, as codes and data
  pub bytes : (h : List ℕ) (t s : ℕ) → coded_side h t s ≡ coded (tab (side_byte_at h t s) (track_length h t / 2))
  -- the cells that they give are the side's
  pub cells : (h : List ℕ) (t s : ℕ) → is_version3 h ≡ true → (c : List ℕ) → coded_side h t s ≡ Cells c → side_stream h t s ≡ c
  -- a side without codes, whatever the others have, gives what a version 1 side with these bytes does
  pub plain : (h : List ℕ) (t s : ℕ) → is_version3 h ≡ true → SideWithoutCodes h t s
      → side_stream h t s ≡ stream (track_part h t) (hfe_side s (track_length h t))

-- ---- from cells to sectors

-- the cells of the side of image sector m (§1.2)
abbrev pub side_cells_of : List ℕ → ℕ → List ℕ
side_cells_of h m = side_stream h (track_of m) (side_of m)

-- what image sector m gives by these cells, judged alone (§4.6)
abbrev pub sector_read : List ℕ → ℕ → Sector
sector_read h m = sector_of (side_cells_of h m) (track_of m) (side_of m) (r_of m)

-- sectors_read: in an image of either version the cells of its sides decide what its sectors give, the first bad one decides the reply for the sectors, and
-- where unpack is done the block image has the bytes of all (§4.6 §7.18 §8.1)
pub record SectorsRead : Type 0 where
  -- the first bad sector gives its reply
  pub bad : (h : List ℕ) (m : ℕ) → m < all_sectors → ((k : ℕ) → k < m → is_bad (sector_read h k) ≡ false) → is_bad (sector_read h m) ≡ true
      → sectors_reply h ≡ sector_reply m (sector_read h m)
  -- where none is bad, it is done
  pub good : (h : List ℕ) → ((k : ℕ) → k < all_sectors → is_bad (sector_read h k) ≡ false) → sectors_reply h ≡ done
  -- of an image that is accepted the block image has 737,280 bytes
  pub whole : (h image : List ℕ) → (unpack_reply h (length image)).number ≡ 0 → length (unpack_image h image) ≡ image_bytes
  -- and byte k of image sector m is the one whose cells stand 16 k cells after the place of the sector's data
  pub bytes : (h image : List ℕ) → (unpack_reply h (length image)).number ≡ 0 → (m p k : ℕ) → m < all_sectors → k < sector_bytes → sector_read h m ≡ Ok p
      → get_or (unpack_image h image) (sector_bytes * m + k) 0 ≡ data_byte (from (side_cells_of h m) p) (16 * k)

-- ---- the order of the replies

-- a right header of version 3 and a right table (§7.2 §7.3)
pub record Version3Sound (h : List ℕ) : Type 0 where
  pub long : 1024 ≤ length h
  pub version : is_version3 h ≡ true
  pub header : hfe_header_fault h ≡ None
  pub table : table_fault h ≡ None

-- code_replies: 18 after 3 and before 4 to 7, whatever the sectors give, and in version 3 alone (§7.25)
pub record CodeReplies : Type 0 where
  -- a wrong header and then a wrong table come first, in either version
  pub header : (h : List ℕ) (o : ℕ) → 1024 ≤ length h → hfe_header_fault h ≡ Some o → unpack_reply h image_bytes ≡ reply_with 2 o 0 0
  pub table : (h : List ℕ) (k : ℕ) → 1024 ≤ length h → hfe_header_fault h ≡ None → table_fault h ≡ Some k → unpack_reply h image_bytes ≡ reply_with 3 k 0 0
  -- in version 1 the sectors decide next
  pub version_1 : (h : List ℕ) → 1024 ≤ length h → is_version1 h ≡ true → hfe_header_fault h ≡ None → table_fault h ≡ None
      → unpack_reply h image_bytes ≡ sectors_reply h
  -- in version 3 the first side with a wrong code is named, and the place of its first wrong code; earlier sides have none
  pub first : (h : List ℕ) → Version3Sound h → (t s p : ℕ) → t < tracks → s < sides → coded_side h t s ≡ WrongCode p
      → ((u v q : ℕ) → v < sides → sides * u + v < sides * t + s → coded_side h u v ≢ WrongCode q)
      → unpack_reply h image_bytes ≡ reply_with 18 t s p
  -- where no side has one, the sectors decide
  pub none : (h : List ℕ) → Version3Sound h → ((t s p : ℕ) → t < tracks → s < sides → coded_side h t s ≢ WrongCode p)
      → unpack_reply h image_bytes ≡ sectors_reply h
