-- `cells::last_bit` meets its contract.
-- Rests on: the contracts of byte_of and bit_of.
-- Assumes nothing.
use Rattle.cells.proofs.mfm.last_bit.Goals as goal

pub returns : goal.returns
returns c = rw (← c.byte_of.ensures) c.bit_of.ensures
