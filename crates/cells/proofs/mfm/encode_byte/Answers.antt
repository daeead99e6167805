-- `cells::encode_byte` meets its contract.
-- Rests on: the contract of encode_item.
-- Assumes nothing.
use Rattle.cells.proofs.mfm.encode_byte.Goals as goal

pub returns : goal.returns
returns c = c.encode_item.ensures
