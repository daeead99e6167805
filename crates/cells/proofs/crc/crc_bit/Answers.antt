-- `cells::crc_bit` meets its contract.
-- Rests on: the code alone.
-- Assumes nothing.
use mathlib.Core.Path.{refl}
use Rattle.cells.specs.Crc.{crc_bit}
use Rattle.cells.proofs.crc.crc_bit.Goals as goal

pub returns : goal.returns
unfolding crc_bit
returns c = refl
