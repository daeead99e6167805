-- `put_dimensions` meets its contract.
-- Rests on: the laws in Calling/Fresh; the contract of fields::put_high2.
-- Assumes nothing.
use Rattle.files.specs.Laws.Calling.Fresh.{sized_is}
use Rattle.files.proofs.formatting.put_dimensions.Goals as goal

pub returns : goal.returns
returns c = sized_is _ _ _ _ _ _ _ _ _ c.put_high2.ensures c.put_high2-2.ensures
    c.put_high2-3.ensures c.put_high2-4.ensures c.put_high2-5.ensures
    c.put_high2-6.ensures c.put_high2-7.ensures
