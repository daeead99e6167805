-- `blocks_of` meets its contract.
-- Rests on: arithmetic alone.
-- Assumes nothing.
use mathlib.Core.Path.{refl}
use native.Mathlib.Omega.{arith}
use Rattle.laws.specs.Numbers.{quotient_up}
use Rattle.files.proofs.blocks.blocks_of.Goals as goal

pub returns : goal.returns
unfolding quotient_up
returns c = (refl, omega arith)
