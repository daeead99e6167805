-- `Side::cells_from` meets its contract.
-- Rests on: the laws in Stream.
-- Assumes nothing.
use native.Mathlib.Omega.{arith}
use Rattle.cells.proofs.Laws.Stream.{stream_length, from_length}
use Rattle.cells.proofs.Side.cells_from.Goals as goal

pub returns : goal.returns
returns c = (λ part. rw (from_length, stream_length) (omega arith), omega arith)
