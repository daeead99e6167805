-- `all_codes` meets its contract: no side below n has a wrong code.
use mathlib.Core.Option.{none}
use mathlib.Core.Path.{◌≡◌}
use Prim.Native.Nat.{◌-◌, ◌*◌, ◌≤◌}
use Rattle.laws.specs.Options.{first_some}
use Rattle.sector_rules.specs.Geometry.{tracks, sides}
use Rattle.sector_rules.specs.Unpacked.{side_refusal}
use Rattle.sectors.proofs.codes.all_codes.Given as goal

abbrev pub invariant-loop-n : goal.invariant-loop-n
invariant-loop-n l = (l.n ≤ tracks * sides) × (first_some (side_refusal l.hfe.bytes.now) l.n ≡ none)

abbrev pub decreases-loop-n : goal.decreases-loop-n
decreases-loop-n l = tracks * sides - l.n
