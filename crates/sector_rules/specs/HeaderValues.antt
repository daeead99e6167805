-- hfe_header_values: the bytes of a packed HFE header (§5.4),
-- and what unpacking says of an image of either version in whose header one byte is one more or one less (§2.2, §2.3, §7.2).
-- Computed, so that each number of the header and each offset that 2 names is stated twice: in the definitions by rule, here by value.
-- Assumes nothing: these are definitions. The proof is `hfe_header_values` in Laws/Values/HeaderValues.antt.
use Rattle.std.specs.Prelude.{cond, List, [], ◌∷◌, ◌++◌, map, ◌≡◌, ℕ, ◌+◌, ◌%◌, ◌≤◌, eqb, length, get_or, set, take, drop, replicate}
use Rattle.laws.specs.Lists.{tab}
use Rattle.sector_rules.specs.declared.Reply.{Reply}
use Rattle.sector_rules.specs.Geometry.{image_bytes}
use Rattle.sector_rules.specs.Packed.{hfe_bytes, pack_hfe}
use Rattle.sector_rules.specs.Unpacked.{unpack_reply}

-- the 26 bytes up to the last that is judged: HXCPICFE; revision, tracks, sides, encoding; bit rate 250 and turns a minute 300, low byte first; mode, FF;
-- the table's unit 1; FF (§5.4 §5.5)
unfoldable pub hfe_header : List ℕ
hfe_header =
    0x48 ∷ 0x58 ∷ 0x43 ∷ 0x50 ∷ 0x49 ∷ 0x43 ∷ 0x46 ∷ 0x45
    ∷ 0x00 ∷ 0x50 ∷ 0x02 ∷ 0x00 ∷ 0xFA ∷ 0x00 ∷ 0x2C ∷ 0x01
    ∷ 0x07 ∷ 0xFF ∷ 0x01 ∷ 0x00 ∷ 0xFF ∷ 0xFF ∷ 0xFF ∷ 0xFF
    ∷ 0xFF ∷ 0xFF ∷ []

-- the same with the letters of version 3: HXCHFEV3 (§2.2)
unfoldable pub version3_header : List ℕ
version3_header = 0x48 ∷ 0x58 ∷ 0x43 ∷ 0x48 ∷ 0x46 ∷ 0x45 ∷ 0x56 ∷ 0x33 ∷ drop 8 hfe_header

-- the place that a reply of this number names, or `other` where its number is another (§7.17)
unfoldable pub place_named : ℕ → ℕ → Reply → ℕ
place_named number other r = cond (eqb r.number number) r.first other

-- what unpacking names with 2 in an image that begins with these bytes, or 26 (§7.2)
unfoldable pub hfe_field_named : List ℕ → List ℕ → ℕ
hfe_field_named start rest = place_named 2 26 (unpack_reply (start ++ rest) image_bytes)

-- a byte one more; 00 follows FF (§7.2 §7.8)
unfoldable pub one_more : ℕ → ℕ
one_more v = (v + 1) % 256

-- a byte one less; FF follows 00 (§7.2 §7.8)
unfoldable pub one_less : ℕ → ℕ
one_less v = (v + 255) % 256

-- a header of which byte o is changed by g (§7.2 §7.8)
unfoldable pub changed_at : (ℕ → ℕ) → List ℕ → ℕ → List ℕ
changed_at g start o = set start o (g (get_or start o 0))

-- a header of which each byte from o on is changed by g (§7.2 §7.8)
unfoldable pub changed_from : (ℕ → ℕ) → List ℕ → ℕ → List ℕ
changed_from g start o = take o start ++ map g (drop o start)

-- ---- what is promised

-- by value: the offset that is named in an image that begins with a header, bytes of which are one more or one less, or 26 where none is (§2.2 §2.3 §7.2)
pub record FieldsNamed (named : List ℕ → ℕ) (header : List ℕ) : Type 0 where
  -- one byte one more. More than 80 tracks (9) and any table offset but 0 (18) are accepted; 23 and 25 are judged where the byte before them is 00
  pub one_more_lem : tab (λ (o : ℕ). named (changed_at one_more header o)) 26
      ≡ 0 ∷ 0 ∷ 0 ∷ 0 ∷ 0 ∷ 0 ∷ 0 ∷ 0 ∷ 8 ∷ 26 ∷ 10 ∷ 11 ∷ 12 ∷ 12 ∷ 26 ∷ 26 ∷ 26 ∷ 26 ∷ 26 ∷ 26 ∷ 26 ∷ 26 ∷ 23 ∷ 26 ∷ 25 ∷ 26 ∷ []
  -- one less: 79 tracks are refused, a table offset of 0, and flags other than FF and 00
  pub one_less_lem : tab (λ (o : ℕ). named (changed_at one_less header o)) 26
      ≡ 0 ∷ 0 ∷ 0 ∷ 0 ∷ 0 ∷ 0 ∷ 0 ∷ 0 ∷ 8 ∷ 9 ∷ 10 ∷ 11 ∷ 12 ∷ 12 ∷ 26 ∷ 26 ∷ 26 ∷ 26 ∷ 18 ∷ 26 ∷ 26 ∷ 26 ∷ 22 ∷ 26 ∷ 24 ∷ 26 ∷ []
  -- each byte from o on one less: the lowest wrong field is named
  pub all_less : tab (λ (o : ℕ). named (changed_from one_less header o)) 26
      ≡ 0 ∷ 0 ∷ 0 ∷ 0 ∷ 0 ∷ 0 ∷ 0 ∷ 0 ∷ 8 ∷ 9 ∷ 10 ∷ 11 ∷ 12 ∷ 12 ∷ 22 ∷ 22 ∷ 22 ∷ 22 ∷ 22 ∷ 22 ∷ 22 ∷ 22 ∷ 22 ∷ 24 ∷ 24 ∷ 26 ∷ []
  -- accepted are the header as it is, with 255 tracks, and with each flag 00 and the byte after it 0; where that byte is 1 it is named
  pub accepted : (named header ≡ 26) × (named (set header 9 255) ≡ 26)
      × (named (set (set header 22 0) 23 0) ≡ 26) × (named (set (set header 24 0) 25 0) ≡ 26)
  pub flag_refused : (named (set (set header 22 0) 23 1) ≡ 23) × (named (set (set header 24 0) 25 1) ≡ 25)
  -- the table offset comes after the bit rate and before the flags, and what follows the first flag before the second
  pub in_order : (named (set (set header 12 0) 18 0) ≡ 12) × (named (set (set header 18 0) 22 1) ≡ 18) × (named (set (set (set header 22 0) 23 1) 24 1) ≡ 23)

-- by value: the header that pack writes, and what 2 names where bytes of it are one more or one less (§5.4 §5.5 §7.2)
pub record HfeHeaderValues : Type 0 where
  -- the header that pack writes: the 26 bytes, and FF in the rest of its unit
  pub packed_header : (image hfe : List ℕ) → length image ≡ image_bytes → length hfe ≡ hfe_bytes
      → take 512 (pack_hfe image hfe) ≡ hfe_header ++ replicate 486 0xFF
  -- unpacking an image of 1,024 bytes or more that begins with the header: the offset that 2 names, or 26
  pub version_1 : (rest : List ℕ) → 998 ≤ length rest → FieldsNamed (λ (start : List ℕ). hfe_field_named start rest) hfe_header
  -- the same with the letters of version 3
  pub version_3 : (rest : List ℕ) → 998 ≤ length rest → FieldsNamed (λ (start : List ℕ). hfe_field_named start rest) version3_header
