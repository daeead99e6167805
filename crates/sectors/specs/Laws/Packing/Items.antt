-- The parts of a written side and of the written image that only the writer tells apart.
-- Rests on the written image place by place (Base.Packed of sector_rules) and on the cell layer's laws of the CRC.
use Rattle.std.specs.Prelude.{List, [], ◌∷◌, ◌++◌, ◌≡◌, refl, ℕ, zero, suc, ◌+◌, ◌-◌, ◌*◌, ◌/◌, ◌%◌, ◌≤◌, ◌<◌, length, get_or, take, drop}
use Rattle.std.proofs.Common.{sym, ◌∙◌, arith}
use Rattle.std.proofs.Math.ListN.{get_or-eq_default}
use borrow.Author.Tests.{le-ltb, eq-eqb, ne_eqb}
use Rattle.laws.specs.Lists.{window}
use Rattle.laws.specs.Numbers.{low_byte}
use Rattle.laws.specs.Laws.Cases.{by_equal}
use Rattle.laws.specs.Laws.Tab.{window_in, window_length, window_part}
use Rattle.cells.specs.Crc.{crc_start, crc_from, crc}
use Rattle.cells.proofs.Laws.Crc.{crc_from_append}
use Rattle.cells.specs.declared.Item.TheVariants.{Plain, Index}
use Rattle.sector_rules.specs.Replies.{reply_with}
use Rattle.sector_rules.specs.Geometry.{tracks, sector_bytes, image_bytes}
use Rattle.sector_rules.specs.Hfe.{hfe_signature}
use Rattle.sector_rules.specs.Search.{data_mark}
use Rattle.sector_rules.specs.Packed.{hfe_bytes, fill_byte, hfe_header_rest, hfe_header_byte, hfe_table_byte, pack_reply}
use Rattle.sector_rules.specs.Packed.{field_crc, with_crc, header_row, gap_byte, sector_item, side_item}
use Rattle.sector_rules.proofs.Laws.Base.Packed.{span_left, span_right, past_lead, field_crc_lt, crc_before, crc_high, crc_low}

-- ---- the items of a side, part by part

-- after a sector's field
module _ (t s r : ℕ) (d : List ℕ) (o : ℕ) where
  -- items 574 and on of a sector are gap bytes
  pub sector_tail : 574 ≤ o → sector_item t s r d o ≡ Plain gap_byte
  unfolding sector_item
  sector_tail l =
      span_right 12 _ _ _ (omega arith) ∙ span_right 3 _ _ _ (omega arith) ∙ span_right 7 _ _ _ (omega arith)
      ∙ span_right 22 _ _ _ (omega arith) ∙ span_right 12 _ _ _ (omega arith) ∙ span_right 3 _ _ _ (omega arith)
      ∙ span_right 515 _ _ _ (omega arith)

-- the lead, and what follows the last sector
module _ (t s : ℕ) (d : ℕ → List ℕ) (q : ℕ) where
  -- items 0 to 79 of a side are gap bytes
  pub side_gap : q < 80 → side_item t s d q ≡ Plain gap_byte
  unfolding side_item
  side_gap h = span_left 80 _ _ _ h

  -- items 80 to 91 of a side are 00
  pub side_zeros : 80 ≤ q → q < 92 → side_item t s d q ≡ Plain 0
  unfolding side_item
  side_zeros l h = span_right 80 _ _ _ l ∙ span_left 12 _ _ _ (omega arith)

  -- items 92 to 94 of a side are index marks
  pub side_index : 92 ≤ q → q < 95 → side_item t s d q ≡ Index
  unfolding side_item
  side_index l h = span_right 80 _ _ _ (omega arith) ∙ span_right 12 _ _ _ (omega arith) ∙ span_left 3 _ _ _ (omega arith)

  -- item 95 of a side is FC
  pub side_mark : 95 ≤ q → q < 96 → side_item t s d q ≡ Plain 0xFC
  unfolding side_item
  side_mark l h =
      span_right 80 _ _ _ (omega arith) ∙ span_right 12 _ _ _ (omega arith) ∙ span_right 3 _ _ _ (omega arith) ∙ span_left 1 _ _ _ (omega arith)

  -- items 96 to 145 of a side are gap bytes
  pub side_gap2 : 96 ≤ q → q < 146 → side_item t s d q ≡ Plain gap_byte
  unfolding side_item
  side_gap2 l h =
      span_right 80 _ _ _ (omega arith) ∙ span_right 12 _ _ _ (omega arith) ∙ span_right 3 _ _ _ (omega arith)
      ∙ span_right 1 _ _ _ (omega arith) ∙ span_left 50 _ _ _ (omega arith)

  -- the items after the last sector of a side are gap bytes
  pub side_tail : 146 ≤ q → 5922 ≤ q - 146 → side_item t s d q ≡ Plain gap_byte
  side_tail l h = past_lead t s d q l ∙ span_right 5922 _ _ _ h

-- ---- rows with a CRC

-- the CRC of a header row, as code computes it
pub header_row_crc : (t s r : ℕ) → crc_from crc_start (0xA1 ∷ (0xA1 ∷ (0xA1 ∷ header_row t s r))) ≡ field_crc (header_row t s r)
unfolding field_crc crc
header_row_crc t s r = refl

-- the CRC of a field whose 512 bytes stand in a list, as code computes it
pub field_crc_lem : (image : List ℕ) (at : ℕ) → at + sector_bytes ≤ length image
    → crc_from (crc_from crc_start (0xA1 ∷ (0xA1 ∷ (0xA1 ∷ (data_mark ∷ []))))) (take sector_bytes (drop at image))
    ≡ field_crc (data_mark ∷ window image at sector_bytes)
unfolding field_crc crc
field_crc_lem image at h =
    sym (crc_from_append crc_start (0xA1 ∷ (0xA1 ∷ (0xA1 ∷ (data_mark ∷ [])))) (take sector_bytes (drop at image))) ∙ rw (window_part image at sector_bytes h)

-- after a row come the two bytes of its CRC, the high one first
pub with_crc_end : (xs : List ℕ) (k : ℕ) → length xs ≤ k → k < length xs + 2
    → get_or (field_crc xs / 256 % 256 ∷ (field_crc xs % 256 ∷ [])) (k - length xs) 0 ≡ get_or (with_crc xs) k 0
with_crc_end xs k l h = by_equal k (length xs) high low
  where
    high : k ≡ length xs → get_or (field_crc xs / 256 % 256 ∷ (field_crc xs % 256 ∷ [])) (k - length xs) 0 ≡ get_or (with_crc xs) k 0
    high e =
        let z : k - length xs ≡ 0 = omega arith in
        let small : field_crc xs / 256 % 256 ≡ field_crc xs / 256 = omega (arith, field_crc_lt xs) in
        rw (z, small) (sym (crc_high xs k e))

    low : (k ≡ length xs → ⊥) → get_or (field_crc xs / 256 % 256 ∷ (field_crc xs % 256 ∷ [])) (k - length xs) 0 ≡ get_or (with_crc xs) k 0
    low n = let z : k - length xs ≡ 1 = omega arith in rw z (sym (crc_low xs k (omega arith)))

-- the bytes of a header row, as they stand in the row that code makes
pub row_header : (t s r k : ℕ) → k < 5
    → get_or (0xA1 ∷ (0xA1 ∷ (0xA1 ∷ header_row t s r))) (3 + k) 0 ≡ get_or (with_crc (header_row t s r)) k 0
row_header t s r k h =
    let e : 3 + k ≡ suc (suc (suc k)) = omega arith in
    rw e (sym (crc_before (header_row t s r) k h))

-- the bytes of a data field
module _ (image : List ℕ) (at : ℕ) where
  abbrev field : List ℕ
  field = data_mark ∷ window image at sector_bytes

  field_length : length field ≡ 513
  field_length = omega (arith, window_length image at sector_bytes)

  -- byte 0 of a field's row is the data mark
  pub row_mark : get_or (with_crc (data_mark ∷ window image at sector_bytes)) 0 0 ≡ data_mark
  row_mark = crc_before field 0 (omega (arith, field_length))

  -- bytes 1 to 512 of a field's row are those of the image
  pub row_data : (k : ℕ) → (k ≡ 0 → ⊥) → k ≤ sector_bytes → at + sector_bytes ≤ length image
      → get_or (with_crc (data_mark ∷ window image at sector_bytes)) k 0 ≡ get_or image (at + (k - 1)) 0
  row_data zero n h l = absurd (n refl)
  row_data (suc k) n h l =
      let e : suc k - 1 ≡ k = omega arith in
      crc_before field (suc k) (omega (arith, field_length)) ∙ rw e (window_in image at sector_bytes k (omega arith))

  -- bytes 513 and 514 of a field's row are those of its CRC
  pub row_end : (k : ℕ) → 513 ≤ k → k < 515
      → get_or (field_crc field / 256 % 256 ∷ (field_crc field % 256 ∷ [])) (k - 513) 0 ≡ get_or (with_crc field) k 0
  row_end k l h = rw field_length at (with_crc_end field k (omega (arith, field_length)) (omega (arith, field_length)))

-- ---- the bytes of the image

-- the header bytes that are not named are FF
pub header_out : (k : ℕ) → 20 ≤ k → hfe_header_byte k ≡ fill_byte
unfolding hfe_header_byte hfe_signature hfe_header_rest low_byte
header_out k h = get_or-eq_default (hfe_signature ++ hfe_header_rest) fill_byte h

-- past the last entry
module _ (j : ℕ) where
  -- the table bytes after the last track's entry are FF
  pub table_past : 4 * tracks ≤ j → hfe_table_byte j ≡ fill_byte
  unfolding hfe_table_byte
  table_past h = rw (le-ltb j (4 * tracks) h)

-- refusals
module _ (n m : ℕ) where
  -- an HFE image of another length is refused with 1, 1
  pub pack_hfe_lem : (m ≡ hfe_bytes → ⊥) → pack_reply n m ≡ reply_with 1 1 0 0
  unfolding pack_reply
  pack_hfe_lem e = rw (ne_eqb m hfe_bytes e)

  -- a block image of another length is refused with 1, 2
  pub pack_image : m ≡ hfe_bytes → (n ≡ image_bytes → ⊥) → pack_reply n m ≡ reply_with 1 2 0 0
  unfolding pack_reply
  pack_image e f = rw (eq-eqb m hfe_bytes e, ne_eqb n image_bytes f)
