-- `Cells::cells_from` meets its contract.
-- Rests on: the laws in Stream; the contract of Side::cells_from.
-- Assumes nothing.
use Rattle.cells.proofs.Laws.Stream.{from_bit, stream_bit}
use Rattle.cells.proofs.stream.Cells.cells_from.Goals as goal

pub returns : goal.returns
returns c = (
  rw (← c.self.view_is) (c.cells_from.ensures.0 _),
  c.cells_from.ensures.1,
  rw (← c.self.view_is) (from_bit _ _ (stream_bit _ _)),
)
