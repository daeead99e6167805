-- `Cells::sync_at` meets its contract.
-- Rests on: the laws in Sync; the contracts of cells_from and cell_from.
-- Assumes nothing.
use mathlib.Core.Path.{sym, refl, ◌∙◌}
use native.Mathlib.Omega.{arith}
use borrow.Author.Rules.{rules}
use borrow.Author.Tests.{tests}
use Rattle.std.proofs.lemmas.Iterator.{YieldsList-from_range}
use Rattle.std.proofs.lemmas.Iterator.Search.{all_from_yields_List}
use Rattle.cells.specs.Stream.{from}
use Rattle.cells.proofs.Laws.Sync.{sync_past, sync_cell, sync_cells_listed}
use Rattle.cells.proofs.stream.Cells.sync_at.Goals.{then-room-lt16-via-then-room-lt16, then-room-lt16-via-else-room-lt16+then-room-k}
use Rattle.cells.proofs.stream.Cells.sync_at.Goals as goal

pub returns-then-room-lt16 : goal.returns-then-room-lt16
returns-then-room-lt16 c = elim c.then-room-lt16.branch [
  | then-room-lt16-via-then-room-lt16 w ↦ sym (sync_past _ _ (rw (← c.cells_from-room.ensures.0) (omega arith)))
  | then-room-lt16-via-else-room-lt16+then-room-k w ↦ sym (sync_past _ _ (rw (← c.cells_from-room.ensures.0) (omega arith)))
]

pub returns : goal.returns
returns c =
    all_from_yields_List (sync_cell (from c.args.self.now c.args.i) c.args.k) _ _ _ c.all.ensures.ran (YieldsList-from_range 0 16 16 refl refl)
    (λ x b q k. search (rules, tests))
    ∙ sync_cells_listed _ _ c.cells_from-room.ensures.2 (rw (← c.cells_from-room.ensures.0) (omega arith))
