-- `cells_dropped` meets its contract where a count is given: to drop more than eight cells is to drop all.
-- Rests on: the laws in Codes.
-- Assumes nothing.
use mathlib.Core.Path.{sym}
use native.Mathlib.Omega.{arith}
use Rattle.cells.specs.Codes.{cells_given}
use Rattle.cells.proofs.Laws.Codes.{part_dropped}
use Rattle.cells.proofs.codes.cells_dropped.Goals as goal

pub returns-in-Partial : goal.returns-in-Partial
unfolding cells_given
returns-in-Partial c = (rw (c.in-Partial.is, c.min.ensures) (sym (part_dropped _ _)), omega arith)
