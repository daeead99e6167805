-- The HFE image to read: its header, track table and sides (docs/RULES.md, section 2), and what 2 and 3 judge (section 7).
-- Assumes nothing: these are definitions.
use Rattle.std.specs.Prelude.{Bool, cond, ◌&&◌, ◌||◌, not, List, [], ◌∷◌, ℕ, ◌+◌, ◌*◌, ◌%◌, leb, ltb, eqb, length, get_or, take, drop}
use Rattle.laws.specs.Lists.{stands_at}
use Rattle.laws.specs.Numbers.{quotient_up, low_first}
use Rattle.cells.specs.Stream.{stream, hfe_side}
use Rattle.cells.specs.Codes.{stored_bytes, Decoded, coded, cells_of}
use Rattle.sector_rules.specs.Faults.{Fault}
use Rattle.sector_rules.specs.Faults.{wrong_at, or_fault, lowest_fault}
use Rattle.sector_rules.specs.Geometry.{tracks, sides}

-- ---- the header

-- the letters of bytes 0 to 7 in version 1: HXCPICFE (§2.2)
unfoldable pub hfe_signature : List ℕ
hfe_signature = 0x48 ∷ 0x58 ∷ 0x43 ∷ 0x50 ∷ 0x49 ∷ 0x43 ∷ 0x46 ∷ 0x45 ∷ []

-- the letters of bytes 0 to 7 in version 3: HXCHFEV3 (§2.2)
unfoldable pub version3_signature : List ℕ
version3_signature = 0x48 ∷ 0x58 ∷ 0x43 ∷ 0x48 ∷ 0x46 ∷ 0x45 ∷ 0x56 ∷ 0x33 ∷ []

-- the image is of version 1 (§2.2)
unfoldable pub is_version1 : List ℕ → Bool
is_version1 h = stands_at h 0 hfe_signature

-- the image is of version 3 (§2.2)
unfoldable pub is_version3 : List ℕ → Bool
is_version3 h = stands_at h 0 version3_signature

-- byte o of an image, where fields of the header are one byte (§2.2 §2.3)
abbrev pub byte_at : List ℕ → ℕ → ℕ
byte_at h o = get_or h o 0

-- a flag, byte 22 or 24, is FF or 00 (§2.3)
abbrev pub flag_right : List ℕ → ℕ → Bool
flag_right h o = eqb (byte_at h o) 0xFF || eqb (byte_at h o) 0

-- where a flag is 00, the byte after it, 23 or 25, is 0 (§2.3)
abbrev pub after_flag_right : List ℕ → ℕ → Bool
after_flag_right h o = not (eqb (byte_at h o) 0) || eqb (byte_at h (o + 1)) 0

-- fields 8 to 12: revision 0, 80 to 255 tracks, 2 sides, encoding 0, bit rate 250 (§2.2 §2.3)
unfoldable pub format_fault : List ℕ → Fault
format_fault h =
    or_fault (wrong_at 8 (eqb (byte_at h 8) 0))
    (or_fault (wrong_at 9 (leb tracks (byte_at h 9)))
    (or_fault (wrong_at 10 (eqb (byte_at h 10) sides))
    (or_fault (wrong_at 11 (eqb (byte_at h 11) 0)) (wrong_at 12 (eqb (low_first h 12 2) 250)))))

-- a flag at o, and the byte after it (§2.3)
unfoldable pub flag_fault : List ℕ → ℕ → Fault
flag_fault h o = or_fault (wrong_at o (flag_right h o)) (wrong_at (o + 1) (after_flag_right h o))

-- the lowest wrong field, given whether the letters are right: fields 8 to 12, the table's unit, which is 1 or more, and both flags (§2.2 §2.3 §7.2)
unfoldable pub field_fault : Bool → List ℕ → Fault
field_fault letters h =
    or_fault (wrong_at 0 letters)
    (or_fault (format_fault h)
    (or_fault (wrong_at 18 (leb 1 (low_first h 18 2)))
    (or_fault (flag_fault h 22) (flag_fault h 24))))

-- the lowest wrong field of an image to unpack: the letters are those of either version (§2.2 §7.2)
unfoldable pub hfe_header_fault : List ℕ → Fault
hfe_header_fault h = field_fault (is_version1 h || is_version3 h) h

-- the lowest wrong field of an image to rewrite: the letters are those of version 1 (§2.2 §7.2 §8.15)
unfoldable pub version1_fault : List ℕ → Fault
version1_fault h = field_fault (is_version1 h) h

-- ---- the track table

-- bytes of a unit, by which the places of the table and of tracks are counted (§2.1)
abbrev pub unit_bytes : ℕ
unit_bytes = 512

-- where the four bytes of the entry of track t begin in the image (§2.4)
unfoldable pub entry_place : List ℕ → ℕ → ℕ
entry_place h t = unit_bytes * low_first h 18 2 + 4 * t

-- where track t begins in the image: its entry has the unit, low byte first (§2.1 §2.4)
unfoldable pub track_start : List ℕ → ℕ → ℕ
track_start h t = unit_bytes * low_first h (entry_place h t) 2

-- the length of track t in bytes, both sides together, low byte first (§2.1 §2.4)
unfoldable pub track_length : List ℕ → ℕ → ℕ
track_length h t = low_first h (entry_place h t + 2) 2

-- the bytes of all units that the length needs (§2.5)
unfoldable pub track_unit_bytes : List ℕ → ℕ → ℕ
track_unit_bytes h t = unit_bytes * quotient_up (track_length h t) unit_bytes

-- the entry of track t is good: its length is even and above 0, and its four bytes and all the track's units are within the image (§2.5)
unfoldable pub track_good : List ℕ → ℕ → Bool
track_good h t =
    leb (entry_place h t + 4) (length h) && eqb (track_length h t % 2) 0 && ltb 0 (track_length h t)
    && leb (track_start h t + track_unit_bytes h t) (length h)

-- the lowest track of 0 to 79 whose entry is not good (§2.4 §7.3)
unfoldable pub table_fault : List ℕ → Fault
table_fault h = lowest_fault (λ (t : ℕ). not (track_good h t)) tracks

-- ---- the sides

-- the track's part of the image: its units (§2.6)
unfoldable pub track_part : List ℕ → ℕ → List ℕ
track_part h t = take (track_unit_bytes h t) (drop (track_start h t) h)

-- what the bytes of side s of track t give in version 3: the side's cells, or the place of its first wrong code (§2.8 §2.9)
unfoldable pub coded_side : List ℕ → ℕ → ℕ → Decoded
coded_side h t s = coded (stored_bytes (track_part h t) (hfe_side s (track_length h t)))

-- the cells of side s of track t: in version 1 all that its bytes store (§2.6), in version 3 those that its bytes give (§2.8), none where a code is wrong
unfoldable pub side_stream : List ℕ → ℕ → ℕ → List ℕ
side_stream h t s = cond (is_version3 h) (cells_of (coded_side h t s)) (stream (track_part h t) (hfe_side s (track_length h t)))
