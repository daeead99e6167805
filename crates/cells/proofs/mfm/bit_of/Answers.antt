-- `cells::bit_of` meets its contract.
-- Rests on: the code alone.
-- Assumes nothing.
use mathlib.Core.Path.{refl}
use Rattle.cells.specs.Mfm.{bit_of}
use Rattle.cells.proofs.mfm.bit_of.Goals as goal

pub returns : goal.returns
unfolding bit_of
returns c = refl
