-- The written side and the written image, place by place.
-- Rests on the laws of numbers in bytes and of the CRC.
use Rattle.std.specs.Prelude.{cond, List, ◌∷◌, ◌≡◌, ℕ, ◌+◌, ◌-◌, ◌*◌, ◌/◌, ◌%◌, ◌≤◌, ◌<◌, ltb, eqb, get_or}
use Rattle.std.proofs.Common.{◌∙◌, get_or-append-add}
use Rattle.std.proofs.Math.Nat.{div-one}
use native.Mathlib.Omega.{arith}
use Rattle.std.proofs.Math.ListN.{length, get_or-append}
use borrow.Author.Tests.{lt-ltb, le-ltb, eq-eqb}
use Rattle.laws.specs.Lists.{tab}
use Rattle.laws.specs.Numbers.{high_byte, low_byte}
use Rattle.cells.specs.Stream.{packed}
use Rattle.cells.specs.Written.{written_cell}
use Rattle.cells.proofs.Laws.Crc.{crc_lt}
use Rattle.cells.specs.declared.Item.{Item}
use Rattle.cells.specs.declared.Item.TheVariants.{Plain, Sync}
use Rattle.sector_rules.specs.declared.Reply.{Reply}
use Rattle.sector_rules.specs.Replies.{done}
use Rattle.sector_rules.specs.Geometry.{image_bytes}
use Rattle.sector_rules.specs.Search.{data_mark}
use Rattle.sector_rules.specs.Packed.{image_side, first_unit, track_units, written_length, hfe_bytes, hfe_header_byte, hfe_table_byte, hfe_track_byte, hfe_byte}
use Rattle.sector_rules.specs.Packed.{pack_reply, pack_hfe, span, field_crc, with_crc, header_row, gap_byte, sector_item, sector_items, side_item}

-- ---- spans

module _ (n : ℕ) (f g : ℕ → Item) (q : ℕ) where
  -- the first n items of a row are those of its first part
  pub span_left : q < n → span n f g q ≡ f q
  unfolding span
  span_left h = rw (lt-ltb q n h)

  -- the items from n on are those of its second part
  pub span_right : n ≤ q → span n f g q ≡ g (q - n)
  unfolding span
  span_right h = rw (le-ltb q n h)

-- ---- the items of a sector

sub_sub : (a b c : ℕ) → a - b - c ≡ a - (b + c)
sub_sub a b c = omega arith

shift_59 : (o : ℕ) → o - 12 - 3 - 7 - 22 - 12 - 3 ≡ o - 59
shift_59 o = rw (sub_sub o 12 3, sub_sub o 15 7, sub_sub o 22 22, sub_sub o 44 12, sub_sub o 56 3)

module _ (t s r : ℕ) (d : List ℕ) (o : ℕ) where
  -- items 0 to 11 of a sector are 00
  pub sector_lead : o < 12 → sector_item t s r d o ≡ Plain 0
  unfolding sector_item
  sector_lead h = span_left 12 _ _ _ h

  -- items 12 to 14 of a sector are sync marks
  pub sector_sync : 12 ≤ o → o < 15 → sector_item t s r d o ≡ Sync
  unfolding sector_item
  sector_sync l h = span_right 12 _ _ _ l ∙ span_left 3 _ _ _ (omega arith)

  -- items 15 to 21 of a sector are its header and CRC
  pub sector_header : 15 ≤ o → o < 22 → sector_item t s r d o ≡ Plain (get_or (with_crc (header_row t s r)) (o - 15) 0)
  unfolding sector_item
  sector_header l h =
      let e : o - 12 - 3 ≡ o - 15 = omega arith in
      span_right 12 _ _ _ (omega arith) ∙ span_right 3 _ _ _ (omega arith) ∙ span_left 7 _ _ _ (omega arith) ∙ rw e

  -- items 22 to 43 of a sector are gap bytes
  pub sector_gap : 22 ≤ o → o < 44 → sector_item t s r d o ≡ Plain gap_byte
  unfolding sector_item
  sector_gap l h =
      span_right 12 _ _ _ (omega arith) ∙ span_right 3 _ _ _ (omega arith) ∙ span_right 7 _ _ _ (omega arith) ∙ span_left 22 _ _ _ (omega arith)

  -- items 44 to 55 of a sector are 00
  pub sector_zeros : 44 ≤ o → o < 56 → sector_item t s r d o ≡ Plain 0
  unfolding sector_item
  sector_zeros l h =
      span_right 12 _ _ _ (omega arith) ∙ span_right 3 _ _ _ (omega arith) ∙ span_right 7 _ _ _ (omega arith)
      ∙ span_right 22 _ _ _ (omega arith) ∙ span_left 12 _ _ _ (omega arith)

  -- items 56 to 58 of a sector are sync marks
  pub sector_mark : 56 ≤ o → o < 59 → sector_item t s r d o ≡ Sync
  unfolding sector_item
  sector_mark l h =
      span_right 12 _ _ _ (omega arith) ∙ span_right 3 _ _ _ (omega arith) ∙ span_right 7 _ _ _ (omega arith)
      ∙ span_right 22 _ _ _ (omega arith) ∙ span_right 12 _ _ _ (omega arith) ∙ span_left 3 _ _ _ (omega arith)

  -- items 59 to 573 of a sector are its data mark, its data and CRC
  pub sector_field : 59 ≤ o → o < 574 → sector_item t s r d o ≡ Plain (get_or (with_crc (data_mark ∷ d)) (o - 59) 0)
  unfolding sector_item
  sector_field l h =
      span_right 12 _ _ _ (omega arith) ∙ span_right 3 _ _ _ (omega arith) ∙ span_right 7 _ _ _ (omega arith)
      ∙ span_right 22 _ _ _ (omega arith) ∙ span_right 12 _ _ _ (omega arith) ∙ span_right 3 _ _ _ (omega arith)
      ∙ span_left 515 _ _ _ (rw (shift_59 o) (omega arith)) ∙ rw (shift_59 o)

-- ---- the items of a side

module _ (t s : ℕ) (d : ℕ → List ℕ) (q : ℕ) where
  -- after the 146 items before the first sector of a side stand its sectors, then gap bytes
  pub past_lead : 146 ≤ q
      → side_item t s d q
      ≡ span 5922 (λ (o : ℕ). sector_item t s (o / sector_items + 1) (d (o / sector_items + 1)) (o % sector_items)) (λ (o : ℕ). Plain gap_byte) (q - 146)
  unfolding side_item
  past_lead l =
      let e : q - 80 - 12 - 3 - 1 - 50 ≡ q - 146 = omega arith in
      span_right 80 _ _ _ (omega arith) ∙ span_right 12 _ _ _ (omega arith) ∙ span_right 3 _ _ _ (omega arith)
      ∙ span_right 1 _ _ _ (omega arith) ∙ span_right 50 _ _ _ (omega arith) ∙ rw e

  -- the items of a side's sectors are those of sector R, 658 for each
  pub side_sector : 146 ≤ q → q - 146 < 5922
      → side_item t s d q ≡ sector_item t s ((q - 146) / 658 + 1) (d ((q - 146) / 658 + 1)) ((q - 146) % 658)
  side_sector l h = past_lead l ∙ span_left 5922 _ _ _ h

-- ---- a row with its CRC

-- the CRC of a field has 16 bits
pub field_crc_lt : (xs : List ℕ) → field_crc xs < 65536
unfolding field_crc
field_crc_lt xs = crc_lt _

module _ (xs : List ℕ) where
  tail : List ℕ
  tail = tab (high_byte 2 (field_crc xs)) 2

  -- a row with its CRC begins with the row
  pub crc_before : (k : ℕ) → k < length xs → get_or (with_crc xs) k 0 ≡ get_or xs k 0
  unfolding with_crc
  crc_before k h = get_or-append xs _ 0 k h

  -- after the row stands the high byte of its CRC
  pub crc_high : (k : ℕ) → k ≡ length xs → get_or (with_crc xs) k 0 ≡ field_crc xs / 256
  unfolding with_crc tail tab high_byte
  crc_high k e = let z : k ≡ length xs + 0 = omega arith in rw z (get_or-append-add xs tail 0 0 ∙ omega (arith, field_crc_lt xs))

  -- after that stands the low byte of its CRC
  pub crc_low : (k : ℕ) → k ≡ length xs + 1 → get_or (with_crc xs) k 0 ≡ field_crc xs % 256
  unfolding with_crc tail tab high_byte
  crc_low k e = rw e (get_or-append-add xs tail 1 0 ∙ omega arith)

-- ---- the bytes of the image

module _ (j : ℕ) where
  table_in : j < 320 → hfe_table_byte j ≡ cond (ltb (j % 4) 2) (low_byte (first_unit + track_units * (j / 4)) (j % 4)) (low_byte written_length (j % 4 - 2))
  unfolding hfe_table_byte
  table_in h = rw (lt-ltb j 320 h)

  -- the low byte of a track's offset in the table
  pub table_0 : j < 320 → j % 4 ≡ 0 → hfe_table_byte j ≡ (2 + 49 * (j / 4)) % 256
  unfolding low_byte
  table_0 h e = table_in h ∙ rw (e, div-one (2 + 49 * (j / 4)))

  -- the high byte of a track's offset in the table
  pub table_1 : j < 320 → j % 4 ≡ 1 → hfe_table_byte j ≡ (2 + 49 * (j / 4)) / 256 % 256
  unfolding low_byte
  table_1 h e = table_in h ∙ rw e

  -- the low byte of a track's length in the table
  pub table_2 : j < 320 → j % 4 ≡ 2 → hfe_table_byte j ≡ 168
  unfolding low_byte
  table_2 h e = table_in h ∙ rw e

  -- the high byte of a track's length in the table
  pub table_3 : j < 320 → j % 4 ≡ 3 → hfe_table_byte j ≡ 97
  unfolding low_byte
  table_3 h e = table_in h ∙ rw e

module _ (image : List ℕ) where
  -- a byte of a track's units, but for the unused ends, is a byte of one of its two sides
  pub track_in : (t o : ℕ) → 256 * (o / 512) + o % 256 < 12500
      → hfe_track_byte image t o ≡ packed (written_cell (image_side image t (o % 512 / 256))) (256 * (o / 512) + o % 256)
  unfolding hfe_track_byte
  track_in t o h = rw (lt-ltb (256 * (o / 512) + o % 256) 12500 h)

  -- the first 512 bytes of the written image are its header
  pub hfe_header_lem : (k : ℕ) → k < 512 → hfe_byte image k ≡ hfe_header_byte k
  unfolding hfe_byte
  hfe_header_lem k h = rw (lt-ltb k 512 h)

  -- the next 512 bytes are its track table
  pub hfe_table : (k : ℕ) → 512 ≤ k → k < 1024 → hfe_byte image k ≡ hfe_table_byte (k - 512)
  unfolding hfe_byte
  hfe_table k l h = rw (le-ltb k 512 l, lt-ltb k 1024 h)

  -- the bytes after them are those of its tracks, 25,088 for each
  pub hfe_track : (k : ℕ) → 512 ≤ k → 1024 ≤ k → hfe_byte image k ≡ hfe_track_byte image ((k - 1024) / 25088) ((k - 1024) % 25088)
  unfolding hfe_byte
  hfe_track k l h = rw (le-ltb k 512 l, le-ltb k 1024 h)

-- the replies of packing
module _ (n m : ℕ) where
  -- where both lengths are right, packing is done
  pub pack_done : m ≡ hfe_bytes → n ≡ image_bytes → pack_reply n m ≡ done
  unfolding pack_reply
  pack_done e f = rw (eq-eqb m hfe_bytes e, eq-eqb n image_bytes f)

-- the HFE image after packing, by the reply: written, or as it was
pub hfe_after : (image h : List ℕ) (r : Reply) → pack_reply (length image) (length h) ≡ r
    → pack_hfe image h ≡ cond (eqb r.number 0) (tab (hfe_byte image) hfe_bytes) h
unfolding pack_hfe
hfe_after image h r e = rw e
