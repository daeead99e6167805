-- `Cells::cell_from` meets its contract.
-- Rests on: the laws in Stream; the contracts of len and cell.
-- Assumes nothing.
use mathlib.Core.Path.{sym, ◌∙◌}
use native.Mathlib.Omega.{arith}
use lib.Dec.{lit<}
use Rattle.cells.proofs.Laws.Stream.{from_at, from_length, from_past}
use Rattle.cells.proofs.stream.Cells.cell_from.Goals as goal

pub returns-then-saturating_sub-k : goal.returns-then-saturating_sub-k
returns-then-saturating_sub-k c = (sym (from_past _ _ _ (rw from_length (omega arith))), lit< tt)

pub returns : goal.returns
returns c = (c.cell.ensures.0 ∙ sym (from_at _ _ _), c.cell.ensures.1)
