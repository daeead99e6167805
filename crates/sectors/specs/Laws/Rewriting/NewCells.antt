-- The bytes of a side once a row of bytes is written, as the code makes them.
-- Rests on the definitions of rewriting and the laws of lists.
use Rattle.std.specs.Prelude.{List, ◌∷◌, ◌≡◌, ℕ, ◌+◌, ◌<◌, get_or}
use Rattle.std.proofs.Common.{sym, ◌∙◌, zero-add, arith, ext_get_or}
use Rattle.std.proofs.Math.Path.{ap}
use Rattle.std.proofs.Math.ListN.{length, length-append}
use Rattle.laws.specs.Lists.{tab, window}
use Rattle.laws.specs.Numbers.{high_byte}
use Rattle.laws.specs.Laws.Tab.{tab_length, eq_window}
use Rattle.cells.specs.Stream.{packed}
use Rattle.sector_rules.specs.Geometry.{sector_bytes}
use Rattle.sector_rules.specs.Search.{data_mark}
use Rattle.sector_rules.specs.Packed.{field_crc, with_crc, field_items}
use Rattle.sector_rules.specs.Rewritten.{field_row, cell_after}

-- n bytes of a side with the cells c, from byte b on, once the row is written from place p on
pub record Renewed (c : List ℕ) (p : ℕ) (row : List ℕ) (b n : ℕ) (xs : List ℕ) : Type 0 where
  pub each : (j : ℕ) → j < n → get_or xs j 0 ≡ packed (cell_after c p row) (b + j)

-- ---- the row of a data field

module _ (content : List ℕ) (long : length content ≡ sector_bytes) where
  -- data that stand alone are their own part of 512 bytes
  content_window : window content 0 sector_bytes ≡ content
  content_window = sym (eq_window content content 0 sector_bytes long (λ k l. ap (λ (i : ℕ). get_or content i 0) (sym (zero-add k))))

  -- a byte of the row of data that stand alone
  pub row_window : (k : ℕ) → get_or (with_crc (data_mark ∷ window content 0 sector_bytes)) k 0 ≡ get_or (field_row content) k 0
  row_window k = ap (λ (d : List ℕ). get_or (with_crc (data_mark ∷ d)) k 0) content_window

  row_length : length (field_row content) ≡ field_items
  unfolding with_crc
  row_length =
      length-append (data_mark ∷ content) (tab (high_byte 2 (field_crc (data_mark ∷ content))) 2)
      ∙ ap (λ (n : ℕ). length (data_mark ∷ content) + n) (tab_length (high_byte 2 (field_crc (data_mark ∷ content))) 2)
      ∙ (let z : length (data_mark ∷ content) + 2 ≡ field_items = omega (arith, long) in z)

  -- a list with the bytes of the row is the row
  pub row_whole : (row : List ℕ) → length row ≡ field_items → ((i : ℕ) → i < field_items → get_or row i 0 ≡ get_or (field_row content) i 0)
      → row ≡ field_row content
  row_whole row e each = ext_get_or 0 row (field_row content) (e ∙ sym row_length) (λ i l. each i (omega (arith, e, l)))
