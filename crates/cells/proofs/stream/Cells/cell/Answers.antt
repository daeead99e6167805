-- `Cells::cell` meets its contract.
-- Rests on: the laws in Stream; the contracts of len and Side::byte.
-- Assumes nothing.
use mathlib.Core.Path.{◌≡◌, sym}
use native.Mathlib.Omega.{arith}
use lib.ListN.{length}
use Rattle.cells.specs.Stream.{cell_at}
use Rattle.cells.proofs.Laws.Stream.{stream_in, stream_length}
use Rattle.cells.proofs.stream.Cells.cell.Goals as goal

pub returns : goal.returns
unfolding cell_at
returns c =
    let e : length c.args.self.now ≡ c.self.inside.side.cells = rw (← c.self.view_is) (stream_length _ _) in
    (rw (← c.self.view_is, c.byte.ensures) (sym (stream_in _ _ _ (omega (arith, e)))), omega arith)
