-- `Trial::sides_right` meets its contract: the sectors of the sides below n are as they must be.
use Rattle.std.proofs.Common.{◌≡◌, ◌*◌, true}
use Rattle.laws.specs.Below.{all}
use Rattle.sector_rules.specs.Geometry.{sectors}
use Rattle.sectors.specs.Laws.Rewriting.Exchanged.{tried}
use Rattle.sectors.proofs.Trial.sides_right.Given as goal

abbrev pub invariant-loop-n : goal.invariant-loop-n
invariant-loop-n l = (l.hfe ≡ l.initial.hfe) × (all (tried l.initial.hfe l.self) (sectors * l.n) ≡ true)
