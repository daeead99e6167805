-- The cells of a written side: those that are known, and what clock cells say of the cells beside them.
-- Rests on the known cells of a sector (Known), on the written side (Trip.SideTrip) and on the cell layer's laws of clock cells.
use Rattle.std.specs.Prelude.{List, ◌≡◌, ℕ, ◌+◌, ◌-◌, ◌*◌, ◌/◌, ◌%◌, ◌≤◌, ◌<◌, length, get_or}
use Rattle.std.proofs.Common.{sym, ap, ◌∙◌, arith}
use Rattle.laws.specs.Laws.Cases.{by_order, by_equal}
use Rattle.laws.specs.Laws.Tab.{tab_in}
use Rattle.cells.specs.Written.{left_out, written_cell, written}
use Rattle.cells.proofs.Laws.Clocks.{clock_after, clock_before}
use Rattle.cells.proofs.Laws.Written.{left_out_lem, written_bit, written_length_lem}
use Rattle.sector_rules.specs.Packed.{side_item, side_items}
use Rattle.sector_rules.specs.Damage.{Binary}
use Rattle.sector_rules.proofs.Laws.Base.Packed.{sector_mark, sector_field}
use Rattle.sector_rules.proofs.Laws.Burst.Known.{sector_start, known_cell, known_cell_lem}
use Rattle.sector_rules.proofs.Laws.Trip.SideTrip.{written_side, item_at}

bit_one : (b : ℕ) → (b ≡ 0 → ⊥) → b < 2 → b ≡ 1
bit_one b n h = omega arith

module _ (t s : ℕ) (dd : ℕ → List ℕ) where
  -- every cell of a written side is 0 or 1
  pub side_cells : Binary (written_side t s dd)
  unfolding written_side
  side_cells = written_bit (side_item t s dd) side_items

  -- a side has 100,000 cells
  pub side_long : length (written_side t s dd) ≡ 100000
  unfolding written_side
  side_long = written_length_lem (side_item t s dd) side_items

  -- each cell of a written side is that of its items
  pub cell_is : (k : ℕ) → k < 100000 → get_or (written_side t s dd) k 0 ≡ written_cell (side_item t s dd) k
  unfolding written_side written
  cell_is k h = tab_in (written_cell (side_item t s dd)) 100000 k h

  module _ (x : ℕ) (hx : x < 9) where
    -- a known cell of a sector is as written on the side
    pub known : t < 128 → s < 2 → (k : ℕ) → 2 ≤ k → k < 960 → (v : ℕ) → known_cell k ≡ v → v < 2 → get_or (written_side t s dd) (sector_start x + k) 0 ≡ v
    known ht hs k lo hi v e hv = cell_is (sector_start x + k) (omega arith) ∙ known_cell_lem t s ht hs dd x hx k lo hi v e hv

    -- no clock is left out from the end of the field's sync bytes on
    left_none : (k : ℕ) → sector_start x + 940 ≤ k → k < sector_start x + 1100 → k % 16 ≡ left_out (side_item t s dd (k / 16)) → ⊥
    left_none k lo hi e =
        let q : k / 16 ≡ 146 + 658 * x + (k - sector_start x) / 16 = omega arith in
        let a = e ∙ ap (λ (n : ℕ). left_out (side_item t s dd n)) q ∙ ap left_out (item_at t s dd x ((k - sector_start x) / 16) hx (omega arith)) in
        by_order k (sector_start x + 944)
        (λ l.
        let z : k % 16 ≡ 10 = a ∙ ap left_out (sector_mark t s (x + 1) (dd (x + 1)) ((k - sector_start x) / 16) (omega arith) (omega arith)) in
        omega arith)
        (λ l.
        let z : k % 16 ≡ 16 = a ∙ ap left_out (sector_field t s (x + 1) (dd (x + 1)) ((k - sector_start x) / 16) (omega arith) (omega arith)) in
        omega arith)

    -- after the last clock that a field's sync bytes leave out, no three cells in a row are 0 with a clock in the middle
    pub zeros_none : (l : ℕ) → l % 2 ≡ 1 → sector_start x + 939 ≤ l → l < sector_start x + 1099
        → get_or (written_side t s dd) l 0 ≡ 0 → get_or (written_side t s dd) (l + 1) 0 ≡ 0 → get_or (written_side t s dd) (l + 2) 0 ≡ 0 → ⊥
    zeros_none l odd lo hi a b c =
        left_none (l + 1) (omega arith) (omega arith)
        (left_out_lem (side_item t s dd) l odd (sym (cell_is l (omega arith)) ∙ a) (sym (cell_is (l + 1) (omega arith)) ∙ b)
        (sym (cell_is (l + 2) (omega arith)) ∙ c))

    -- the data cell before a clock cell 1 is 0
    pub zero_before : (l : ℕ) → l % 2 ≡ 1 → l < 90000 → get_or (written_side t s dd) (l + 1) 0 ≡ 1 → get_or (written_side t s dd) l 0 ≡ 0
    zero_before l odd h e =
        by_equal (get_or (written_side t s dd) l 0) 0 (λ z. z)
        (λ n.
        let one : written_cell (side_item t s dd) l ≡ 1 = sym (cell_is l (omega arith)) ∙ bit_one (get_or (written_side t s dd) l 0) n (side_cells l) in
        let z : get_or (written_side t s dd) (l + 1) 0 ≡ 0 = cell_is (l + 1) (omega arith) ∙ clock_after (side_item t s dd) l odd one in
        absurd (omega arith))

    -- the data cell after a clock cell 1 is 0
    pub zero_after : (l : ℕ) → l % 2 ≡ 1 → l < 90000 → get_or (written_side t s dd) (l + 1) 0 ≡ 1 → get_or (written_side t s dd) (l + 2) 0 ≡ 0
    zero_after l odd h e =
        by_equal (get_or (written_side t s dd) (l + 2) 0) 0 (λ z. z)
        (λ n.
        let one : written_cell (side_item t s dd) (l + 2) ≡ 1 =
        sym (cell_is (l + 2) (omega arith)) ∙ bit_one (get_or (written_side t s dd) (l + 2) 0) n (side_cells (l + 2)) in
        let z : get_or (written_side t s dd) (l + 1) 0 ≡ 0 = cell_is (l + 1) (omega arith) ∙ clock_before (side_item t s dd) l odd one in
        absurd (omega arith))
