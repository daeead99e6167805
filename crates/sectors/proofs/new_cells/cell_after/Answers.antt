-- `cell_after` meets its contract.
-- Rests on: the laws in sector_rules::Rewrite.After and cells::Stream; the contracts of cells::cell, row_cell, cells_from, row_bit_before and clock.
-- Assumes nothing.
use mathlib.Core.Path.{◌≡◌, sym, ◌∙◌}
use Prim.Native.Nat.{◌+◌}
use native.Mathlib.Omega.{arith}
use Rattle.sector_rules.proofs.Laws.Rewrite.After.{after_written, after_clock, after_last, after_before, after_after}
use Rattle.cells.proofs.Laws.Stream.{from_length}
use Rattle.cells.proofs.Laws.Mfm.{clock_bit}
use Rattle.cells.proofs.Laws.Written.{written_cell_bit}
use Rattle.sector_rules.specs.Rewritten.{data_cells}
use Rattle.sectors.proofs.new_cells.cell_after.Goals as goal

pub returns-then-i-p : goal.returns-then-i-p
returns-then-i-p c = (c.cell-old.ensures.0 ∙ sym (after_before _ _ _ _ c.if-i-p.true), c.cell-old.ensures.1)

pub returns-then-i-p-2 : goal.returns-then-i-p-2
returns-then-i-p-2 c = (c.row_cell.ensures ∙ sym (after_written _ _ _ _ (omega arith) (omega arith)), rw c.row_cell.ensures (written_cell_bit _ _))

pub returns-then-p-i : goal.returns-then-p-i
returns-then-p-i c = (c.cell-old.ensures.0 ∙ sym (after_after _ _ _ _ c.if-p-i.true), c.cell-old.ensures.1)

pub returns-then-cells_from-lt2 : goal.returns-then-cells_from-lt2
returns-then-cells_from-lt2 c =
    let left = c.cells_from.ensures.0 ∙ from_length c.args.cells.now c.args.i in
    let e : c.args.i ≡ c.args.p + data_cells = omega arith in
    (c.cell-old.ensures.0 ∙ rw e (sym (after_last _ _ _ (omega (arith, left)))), c.cell-old.ensures.1)

pub returns : goal.returns
returns c =
    let left = c.cells_from.ensures.0 ∙ from_length c.args.cells.now c.args.i in
    let e : c.args.i ≡ c.args.p + data_cells = omega arith in (
      c.clock.ensures ∙ rw (c.row_bit_before.ensures, c.cell.ensures.0, e) (sym (after_clock _ _ _ (omega (arith, left)))),
      rw c.clock.ensures (clock_bit _ _),
    )
