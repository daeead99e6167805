-- `judge_all` meets its contract: the sectors of the sides below n are good.
use mathlib.Core.Path.{◌≡◌}
use Prim.Native.Nat.{◌-◌, ◌*◌, ◌≤◌}
use lib.ListN.{length}
use Rattle.sector_rules.specs.Geometry.{tracks, sides, sectors, all_sectors}
use Rattle.sectors.specs.Laws.Unpacking.SectorsJudged.{Noted}
use Rattle.sectors.proofs.unpacking.judge_all.Given as goal

abbrev pub invariant-loop-n : goal.invariant-loop-n
invariant-loop-n l = (l.n ≤ tracks * sides) × (length l.places ≡ all_sectors) × Noted l.hfe.bytes.now l.places (sectors * l.n)

abbrev pub decreases-loop-n : goal.decreases-loop-n
decreases-loop-n l = tracks * sides - l.n
