-- The clock cells of a written row: each follows from the data cells around it, unless it is left out.
-- Rests on the laws of a written row.
use Rattle.std.specs.Prelude.{◌≡◌, refl, ℕ, ◌+◌, ◌*◌, ◌/◌, ◌%◌, eqb}
use Rattle.std.proofs.Common.{sym, ap₂, ◌∙◌, arith}
use Rattle.std.proofs.Math.Path.{ap}
use Rattle.laws.specs.Laws.Cases.{by_equal}
use Rattle.laws.specs.Laws.Tests.{and_false_right, cond_false}
use Rattle.cells.specs.Mfm.{clock}
use Rattle.cells.specs.Written.{left_out, written_cell}
use Rattle.cells.specs.declared.Item.{Item}
use Rattle.cells.proofs.Laws.Written.{data_cell, clock_cell, before_cell, left_cell}

module _ (items : ℕ → Item) (l : ℕ) (odd : l % 2 ≡ 1) where
  -- the clock cell between two data cells is the clock of these two, unless it is left out
  pub clock_between : ((l + 1) % 16 ≡ left_out (items ((l + 1) / 16)) → ⊥)
      → written_cell items (l + 1) ≡ clock (written_cell items l) (written_cell items (l + 2))
  clock_between n =
      let q : ℕ = (l + 1) / 16 in
      let k : ℕ = (l + 1) % 16 / 2 in
      let m : l + 1 ≡ 16 * q + 2 * k = omega arith in
      let r : l + 2 ≡ 16 * q + (2 * k + 1) = omega arith in
      let e : 2 * k ≡ (l + 1) % 16 = omega arith in
      ap (written_cell items) m ∙ clock_cell items q k (omega arith) (λ s. n (sym e ∙ s))
      ∙ sym (ap₂ clock (before_cell items q k l (omega arith) m) (ap (written_cell items) r ∙ data_cell items q k (omega arith)))

  -- a clock cell that is left out is 0
  pub clock_missing : (l + 1) % 16 ≡ left_out (items ((l + 1) / 16)) → written_cell items (l + 1) ≡ 0
  clock_missing e =
      let m : l + 1 ≡ 16 * ((l + 1) / 16) + (l + 1) % 16 = omega arith in
      ap (written_cell items) m ∙ left_cell items ((l + 1) / 16) ((l + 1) % 16) (omega arith) e

  -- a clock cell after a data cell 1 is 0
  pub clock_after : written_cell items l ≡ 1 → written_cell items (l + 1) ≡ 0
  unfolding clock
  clock_after e =
      by_equal ((l + 1) % 16) (left_out (items ((l + 1) / 16))) clock_missing
      (λ n. clock_between n ∙ ap (λ (a : ℕ). clock a (written_cell items (l + 2))) e ∙ one (written_cell items (l + 2)))
    where
      one : (b : ℕ) → clock 1 b ≡ 0
      one b = cond_false 1 0 (and_false_right (eqb b 0) refl)

  -- a clock cell before a data cell 1 is 0
  pub clock_before : written_cell items (l + 2) ≡ 1 → written_cell items (l + 1) ≡ 0
  unfolding clock
  clock_before e =
      by_equal ((l + 1) % 16) (left_out (items ((l + 1) / 16))) clock_missing
      (λ n. clock_between n ∙ ap (clock (written_cell items l)) e)
