-- `side_cells` meets its contract.
-- Rests on: the laws in Unpacking/Codes; the contracts of track_part, track_length, cells::hfe_side and cells::coded_cells.
-- Assumes nothing.
use native.Mathlib.Omega.{arith}
use Rattle.sectors.specs.Laws.Unpacking.Codes.{coded_cells}
use Rattle.sectors.proofs.codes.side_cells.Goals as goal

pub returns : goal.returns
returns c = coded_cells c.args.hfe.now.bytes.now c.args.track c.args.head c.requires.0 _ _ c.track_length.result _
    c.track_part-part.ensures
    c.hfe_side-side.ensures c.track_length.ensures (omega arith) c.requires.3 _
    c.coded_cells.ensures.0
