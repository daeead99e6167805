-- The cells of a side once data are written, one by one, and that the image with the changed bytes has these cells.
-- Rests on the cells of a side byte by byte (Base) and on the cell layer's laws of packed cells.
use Rattle.std.specs.Prelude.{false, ◌&&◌, List, ◌≡◌, refl, ℕ, ◌+◌, ◌-◌, ◌*◌, ◌/◌, ◌%◌, ◌^◌, ◌≤◌, ◌<◌, eqb, length, get_or}
use Rattle.std.proofs.Common.{sym, ap, ◌∙◌, le_refl, arith}
use Rattle.std.proofs.Math.Dec.{leb, ltb}
use Rattle.laws.specs.Lists.{tab}
use Rattle.laws.specs.Numbers.{quotient_up}
use Rattle.laws.specs.Laws.Cases.{by_order}
use Rattle.laws.specs.Laws.Tests.{le_true, le_false, lt_true, lt_false, eq_true, eq_false, and_true, and_false_left, and_false_right, cond_true, cond_false}
use Rattle.laws.specs.Laws.Tab.{tab_in, tab_out, eq_tab, get_d_past}
use Rattle.cells.specs.Stream.{packed}
use Rattle.cells.specs.Mfm.{clock}
use Rattle.cells.specs.Written.{bit_before, written_cell}
use Rattle.cells.proofs.Laws.Mfm.{cond_bit, clock_bit}
use Rattle.cells.proofs.Laws.Packed.{packed_bit}
use Rattle.cells.proofs.Laws.Written.{written_cell_bit}
use Rattle.sector_rules.specs.Damage.{Binary}
use Rattle.sector_rules.specs.Packed.{plain_items, field_items}
use Rattle.sector_rules.specs.Rewritten.{data_cells, cell_after, with_side_bytes, changed_bytes}
use Rattle.sector_rules.specs.Rewriting.{side_cells_at}
use Rattle.sector_rules.proofs.Laws.Rewrite.Base.{cells_length, cells_bit, cells_in, with_byte, with_other_byte}

module _ (c : List ℕ) (p : ℕ) (row : List ℕ) where
  -- ---- each cell

  -- the cells from place p on are those of data and CRC, after those of FB
  pub after_written : (i : ℕ) → p ≤ i → i < p + data_cells → cell_after c p row i ≡ written_cell (plain_items row) (16 + (i - p))
  unfolding cell_after
  after_written i l m = cond_true _ _ (and_true (le_true l) (lt_true m))

  not_written : (i : ℕ) → (leb p i && ltb i (p + data_cells)) ≡ false → (eqb i (p + data_cells) && leb (i + 2) (length c)) ≡ false
      → cell_after c p row i ≡ get_or c i 0
  unfolding cell_after
  not_written i e f = cond_false _ _ e ∙ cond_false _ _ f

  -- the cell after them is the clock of the CRC's last bit and the next bit, where there is one
  pub after_clock : p + data_cells + 2 ≤ length c
      → cell_after c p row (p + data_cells) ≡ clock (bit_before (plain_items row) field_items) (get_or c (p + data_cells + 1) 0)
  unfolding cell_after
  after_clock l =
      cond_false _ _ (and_false_right (leb p (p + data_cells)) (lt_false (le_refl (p + data_cells))))
      ∙ cond_true _ (get_or c (p + data_cells) 0) (and_true (eq_true {a = p + data_cells} refl) (le_true l))

  -- where no data cell follows, that cell is as it was
  pub after_last : length c ≤ p + data_cells + 1 → cell_after c p row (p + data_cells) ≡ get_or c (p + data_cells) 0
  after_last l =
      let m : length c < p + data_cells + 2 = omega arith in
      not_written (p + data_cells) (and_false_right (leb p (p + data_cells)) (lt_false (le_refl (p + data_cells))))
      (and_false_right (eqb (p + data_cells) (p + data_cells)) (le_false m))

  -- every cell before them is as it was
  pub after_before : (i : ℕ) → i < p → cell_after c p row i ≡ get_or c i 0
  after_before i l =
      not_written i (and_false_left (ltb i (p + data_cells)) (le_false l))
      (and_false_left (leb (i + 2) (length c)) (eq_false (λ (e : i ≡ p + data_cells). omega arith)))

  -- every cell after the clock cell that follows them is as it was
  pub after_after : (i : ℕ) → p + data_cells < i → cell_after c p row i ≡ get_or c i 0
  after_after i l =
      let m : p + data_cells ≤ i = omega arith in
      not_written i (and_false_right (leb p i) (lt_false m))
      (and_false_left (leb (i + 2) (length c)) (eq_false (λ (e : i ≡ p + data_cells). omega arith)))

  -- every cell is 0 or 1
  pub after_bit : Binary c → (i : ℕ) → cell_after c p row i < 2
  unfolding cell_after
  after_bit bit i =
      cond_bit (leb p i && ltb i (p + data_cells)) _ _ (written_cell_bit (plain_items row) (16 + (i - p)))
      (cond_bit (eqb i (p + data_cells) && leb (i + 2) (length c)) _ _ (clock_bit _ _) (bit i))

  -- ---- as a list

  -- in the list of these cells one that is as it was is the old cell, past the end too
  pub after_kept : (i : ℕ) → cell_after c p row i ≡ get_or c i 0 → get_or (tab (cell_after c p row) (length c)) i 0 ≡ get_or c i 0
  after_kept i e =
      by_order i (length c) (λ l. tab_in (cell_after c p row) (length c) i l ∙ e)
      (λ l. tab_out (cell_after c p row) (length c) i l ∙ sym (get_d_past c i l))

-- ---- as bytes of an image

-- a byte of a side is among the units of its track
side_within : (start long s x : ℕ) → s < 2 → x < long / 2 → start + 256 * s + 512 * (x / 256) + x % 256 < start + 512 * quotient_up long 512
unfolding quotient_up
side_within start long s x hs l = omega arith

module _ (h : List ℕ) (start long s p : ℕ) (row : List ℕ) (hs : s < 2) (within : start + 512 * quotient_up long 512 ≤ length h) where
  abbrev c : List ℕ
  c = side_cells_at h start long s

  abbrev g : List ℕ
  g = with_side_bytes h start (long / 2) s (p / 8) changed_bytes (packed (cell_after c p row))

  cell_kept : (i : ℕ) → i < 8 * (long / 2) → ((p / 8 ≤ i / 8) × (i / 8 < p / 8 + changed_bytes) → ⊥) → cell_after c p row i ≡ get_or c i 0
      → get_or (side_cells_at g start long s) i 0 ≡ cell_after c p row i
  cell_kept i l out e =
      cells_in g start long s i hs l
      ∙ ap (λ (v : ℕ). v / 2 ^ (i % 8) % 2) (with_other_byte h start (long / 2) s (p / 8) changed_bytes (packed (cell_after c p row)) (i / 8) hs out)
      ∙ sym (e ∙ cells_in h start long s i hs l)

  cell_new : (i : ℕ) → i < 8 * (long / 2) → p / 8 ≤ i / 8 → i / 8 < p / 8 + changed_bytes → get_or (side_cells_at g start long s) i 0 ≡ cell_after c p row i
  cell_new i l m n =
      cells_in g start long s i hs l
      ∙ ap (λ (v : ℕ). v / 2 ^ (i % 8) % 2)
      (with_byte h start (long / 2) s (p / 8) changed_bytes (packed (cell_after c p row)) (i / 8) hs m n (omega arith)
      (omega (arith, side_within start long s (i / 8) hs (omega arith))))
      ∙ packed_bit (cell_after c p row) (after_bit c p row (cells_bit h start long s)) i

  cell_after_lem : (i : ℕ) → i < 8 * (long / 2) → get_or (side_cells_at g start long s) i 0 ≡ cell_after c p row i
  cell_after_lem i l =
      by_order (i / 8) (p / 8)
      (λ m. cell_kept i l (λ w. let z : p / 8 ≤ i / 8 = w.0 in omega arith) (after_before c p row i (omega arith)))
      (λ m. by_order (i / 8) (p / 8 + changed_bytes) (λ n. cell_new i l m n)
      (λ n. cell_kept i l (λ w. let z : i / 8 < p / 8 + changed_bytes = w.1 in omega arith) (after_after c p row i (omega arith))))

  -- the image with the changed bytes of a side has on that side the cells once the data are written
  pub cells_after :
      side_cells_at (with_side_bytes h start (long / 2) s (p / 8) changed_bytes (packed (cell_after (side_cells_at h start long s) p row))) start long s
      ≡ tab (cell_after (side_cells_at h start long s) p row) (length (side_cells_at h start long s))
  cells_after =
      eq_tab (side_cells_at g start long s) (cell_after c p row) (length c) (cells_length g start long s ∙ sym (cells_length h start long s))
      (λ i l. cell_after_lem i (rw (cells_length h start long s) at l))
