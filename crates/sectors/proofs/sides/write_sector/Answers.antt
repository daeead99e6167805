-- `write_sector` meets its contract: the first k bytes are written.
-- Rests on: the laws in Unpacking/Sides and laws::Changes; the contract of Cells::data_byte.
-- Assumes nothing.
use native.Mathlib.Omega.{arith}
use lib.ListN.{length-set}
use Rattle.laws.specs.Laws.Changes.{element_more}
use Rattle.sector_rules.specs.Search.{sector_byte}
use Rattle.sectors.specs.Laws.Unpacking.Sides.{part_overlaid}
use Rattle.sectors.proofs.sides.write_sector.Goals as goal

pub loop-k-preserved : goal.loop-k-preserved
unfolding sector_byte
loop-k-preserved c = (
  simp length-set c.loop-k.invariant.0,
  element_more c.loop-k.byte-items 0 (sector_byte c.args.cells.now c.args.p) c.loop-k.k _ (omega arith) c.loop-k.invariant.1 c.data_byte.ensures,
)

pub returns : goal.returns
returns c = part_overlaid c.args.image.now _ _ 512 c.requires c.loop-k.invariant.0 _ (λ i h. c.loop-k.invariant.1 i (omega arith))
