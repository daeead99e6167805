-- `judge_side` meets its contract: the sectors below k are good, and the places of their bytes are noted.
use mathlib.Core.Path.{◌≡◌}
use Prim.Native.Nat.{◌+◌, ◌-◌, ◌*◌, ◌≤◌}
use lib.ListN.{length}
use Rattle.sector_rules.specs.Geometry.{sectors, all_sectors}
use Rattle.sectors.specs.Laws.Unpacking.SectorsJudged.{Noted}
use Rattle.sectors.proofs.unpacking.judge_side.Given as goal

abbrev pub invariant-loop-k : goal.invariant-loop-k
invariant-loop-k l = (l.k ≤ sectors) × (length l.places ≡ all_sectors) × Noted l.hfe.bytes.now l.places (sectors * l.n + l.k)

abbrev pub decreases-loop-k : goal.decreases-loop-k
decreases-loop-k l = sectors - l.k
