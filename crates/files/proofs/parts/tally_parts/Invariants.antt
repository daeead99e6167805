-- `tally_parts` meets its contract: the records before the block that the walk is at are counted.
use Rattle.std.proofs.Common.{ℕ, ◌-◌, Option, Some, None}
use Rattle.sector_rules.specs.Geometry.{blocks}
use Rattle.files.specs.Laws.Loading.Chains.{TalliedTo}
use Rattle.files.proofs.parts.tally_parts.Given as goal

-- how many blocks there are from the next of a file on
abbrev blocks_left : Option ℕ → ℕ
blocks_left (Some b) = blocks - b
blocks_left None = 0

abbrev pub invariant-loop-at : goal.invariant-loop-at
invariant-loop-at l = TalliedTo l.tally l.map l.f l.n l.at

abbrev pub decreases-loop-at : goal.decreases-loop-at
decreases-loop-at l = blocks_left l.at
