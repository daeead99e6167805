-- `append_given` meets its contract.
-- Rests on: the laws in Codes and CodesAppended; the contracts of cells_dropped and append_byte.
-- Assumes nothing.
use mathlib.Core.List.{append-nil}
use mathlib.Core.Path.{refl, sym}
use native.Mathlib.Omega.{arith}
use Rattle.cells.proofs.Laws.Codes.{eight_cells}
use Rattle.cells.proofs.Laws.CodesAppended.{part_appended}
use Rattle.cells.proofs.codes.append_given.Goals as goal

pub returns-then-d-eq8 : goal.returns-then-d-eq8
returns-then-d-eq8 c = (sym (rw (c.cells_dropped-d.ensures.0, c.if-d-eq8.true, eight_cells) (append-nil _)), refl, omega arith)

pub returns : goal.returns
returns c = (
  rw c.cells_dropped-d.ensures.0 (part_appended _ _ _ _ _ c.cells_dropped-d.ensures.1 c.append_byte.ensures.0),
  c.append_byte.ensures.1,
  omega arith,
)
