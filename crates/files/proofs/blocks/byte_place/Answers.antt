-- `byte_place` meets its contract.
-- Rests on: the laws in sector_rules::Base/Geometry.
-- Assumes nothing.
use Prim.Native.Nat.{◌<◌}
use native.Mathlib.Omega.{arith}
use Rattle.sector_rules.proofs.Laws.Base.Geometry.{image_lt}
use Rattle.file_rules.specs.Disk.{image_place}
use Rattle.files.proofs.blocks.byte_place.Goals as goal

bound : (c : goal.After-struct_known-1) → c.place-at.result.0 < 1440
bound c =
    let h : c.running-sector.result.0 < 1440 = omega (arith, c.running-sector.ensures) in
    rw c.place-at.ensures (image_lt _ h)

pub overflow_mul-result : goal.overflow_mul-result
overflow_mul-result c = record { fits = omega (arith, bound c) }

pub overflow_add-result : goal.overflow_add-result
overflow_add-result c = record { fits = omega (arith, bound c) }

pub returns : goal.returns
unfolding image_place
returns c = (rw (c.place-at.ensures, c.running-sector.ensures), omega (arith, bound c))
