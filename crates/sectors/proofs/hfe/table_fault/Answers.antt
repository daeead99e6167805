-- `table_fault` meets its contract: the search over the tracks finds the first whose entry is not good.
-- Rests on: the laws of the lowest number that passes a test (laws, FirstBelow); the contract of track_good.
-- Assumes nothing.
use mathlib.Core.Path.{◌≡◌}
use mathlib.Core.Bool.{true, false, not}
use Prim.Native.Nat.{ℕ}
use Rattle.std.proofs.Common.{rules, tests}
use Rattle.std.proofs.lemmas.Iterator.{first_from_Range}
use Rattle.laws.specs.Below.{first_below}
use Rattle.laws.specs.Laws.FirstBelow.{first_below_told}
use Rattle.sector_rules.specs.Faults.{fault_below, lowest_fault}
use Rattle.sector_rules.specs.Geometry.{tracks}
use Rattle.sector_rules.specs.Hfe.{track_good, table_fault}
use Rattle.sectors.proofs.hfe.table_fault.Goals as goal

pub returns : goal.returns
unfolding table_fault lowest_fault fault_below first_below
returns c = let test = λ (t : ℕ). not (track_good c.args.hfe.now t) in
    first_below_told test tracks c.find.result
    (first_from_Range _ _ _ _ (λ t. test t ≡ true) (λ t. test t ≡ false) c.find.ensures.ran (λ x q k. search (rules, tests)) (λ x q k. search (rules, tests)))
