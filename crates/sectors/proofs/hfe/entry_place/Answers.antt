-- `entry_place` meets its contract.
-- Rests on: the contract of fields::low2.
-- Assumes nothing.
use native.Mathlib.Omega.{arith}
use Rattle.sector_rules.specs.Hfe.{entry_place}
use Rattle.sectors.proofs.hfe.entry_place.Goals as goal

pub returns : goal.returns
unfolding entry_place
returns c = (omega arith, omega arith)
