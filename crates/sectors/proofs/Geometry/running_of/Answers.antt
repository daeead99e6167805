-- `Geometry::running_of` meets its contract.
-- Rests on: the laws in Reading/Placement; the contract of Geometry::remainder_at.
-- Assumes nothing.
use Prim.Native.Nat.{◌<◌}
use native.Mathlib.Omega.{arith}
use Rattle.sector_rules.specs.Geometry.{track_sectors}
use Rattle.sectors.specs.Laws.Reading.Placement.{remainder_lt, running_by_rule}
use Rattle.sectors.proofs.Geometry.running_of.Goals as goal

-- what stands there is a sector of the track
remainder-bound : (c : goal.After-remainder_at-remainder) → c.remainder_at-remainder.result < track_sectors
remainder-bound c = rw c.remainder_at-remainder.ensures (remainder_lt _ _ (omega arith) (omega arith))

pub overflow_mul-result : goal.overflow_mul-result
overflow_mul-result c = omega (arith, c.requires)

pub overflow_add-result : goal.overflow_add-result
overflow_add-result c = omega (arith, c.requires, remainder-bound c)

pub returns : goal.returns
returns c = running_by_rule _ _ c.remainder_at-remainder.ensures
