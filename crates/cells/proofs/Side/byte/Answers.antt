-- `Side::byte` meets its contract.
-- Rests on: the code alone.
-- Assumes nothing.
use native.Mathlib.Omega.{arith}
use Rattle.std.proofs.lemmas.Option.{gets}
use Rattle.std.proofs.lemmas.Grind.{common_steps}
use Rattle.cells.specs.Stream.{byte_place}
use Rattle.cells.proofs.Side.byte.Goals as goal

pub returns : goal.returns
unfolding byte_place
returns c = grind (arith, common_steps, gets)
