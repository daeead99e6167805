-- `Cells::row_byte` meets its contract.
-- Rests on: the laws in Stream and Number; the contracts of cells_from and data_byte.
-- Assumes nothing.
use mathlib.Core.Path.{sym}
use native.Mathlib.Omega.{arith}
use Rattle.cells.proofs.Laws.Stream.{from_past}
use Rattle.cells.proofs.Laws.Number.{byte_past}
use Rattle.cells.proofs.stream.Cells.row_byte.Goals.{then-room-k-via-then-room-k, then-room-k-via-else-room-k+then-room-j}
use Rattle.cells.proofs.stream.Cells.row_byte.Goals as goal

pub returns-then-room-k : goal.returns-then-room-k
returns-then-room-k c =
    sym (byte_past _ _ (λ j h. from_past _ _ _ (rw (← c.cells_from-room.ensures.0)
    (elim c.then-room-k.branch [
      | then-room-k-via-then-room-k w ↦ omega arith
      | then-room-k-via-else-room-k+then-room-j w ↦ omega arith
    ]))))
