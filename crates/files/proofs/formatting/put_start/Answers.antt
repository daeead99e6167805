-- `put_start` meets its contract.
-- Rests on: the laws in Calling/Fresh; the contracts of sectors::Geometry::side_place_table and backward_table,
-- fields::copy_into, fields::put_high4 and fields::put_high2.
-- Assumes nothing.
use Rattle.files.specs.Laws.Calling.Fresh.{started_is}
use Rattle.files.proofs.formatting.put_start.Goals as goal

pub returns : goal.returns
returns c = started_is _ _ _ _ _ _ _ _ _ _ c.side_place_table-first.ensures c.copy_into.ensures
    c.backward_table-second.ensures c.copy_into-2.ensures
    c.put_high4.ensures c.put_high2.ensures c.put_high2-2.ensures
    c.put_high2-3.ensures
