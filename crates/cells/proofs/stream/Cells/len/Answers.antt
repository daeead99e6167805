-- `Cells::len` meets its contract.
-- Rests on: the laws in Stream.
-- Assumes nothing.
use native.Mathlib.Omega.{arith}
use Rattle.cells.proofs.Laws.Stream.{stream_length, stream_bit}
use Rattle.cells.proofs.stream.Cells.len.Goals as goal

pub returns : goal.returns
returns c = (rw (← c.self.view_is, stream_length) (omega arith), omega arith, rw (← c.self.view_is) (stream_bit _ _))
