-- `blocks_for` meets its contract.
-- Rests on: the contract of blocks_of.
-- Assumes nothing.
use native.Mathlib.Omega.{arith}
use Rattle.file_rules.specs.Written.{blocks_for}
use Rattle.files.proofs.adding.blocks_for.Goals as goal

pub returns : goal.returns
unfolding blocks_for
returns c = (c.blocks_of.ensures.0, omega (arith, c.blocks_of.ensures.1))
