-- `write_sides` meets its contract: the sides below n are written.
use mathlib.Core.Path.{◌≡◌}
use Prim.Native.Nat.{◌-◌, ◌*◌, ◌≤◌}
use lib.ListN.{length}
use Rattle.laws.specs.Changes.{overlay}
use Rattle.sector_rules.specs.Geometry.{tracks, sides, sectors, sector_bytes, image_bytes}
use Rattle.sector_rules.specs.Unpacked.{unpacked_byte}
use Rattle.sectors.proofs.unpacking.write_sides.Given as goal

abbrev pub invariant-loop-n : goal.invariant-loop-n
invariant-loop-n l = (l.n ≤ tracks * sides) × (length l.image ≡ image_bytes) ×
    (l.image ≡ overlay l.initial.image 0 (sector_bytes * (sectors * l.n)) (unpacked_byte l.hfe.bytes.now))

abbrev pub decreases-loop-n : goal.decreases-loop-n
decreases-loop-n l = tracks * sides - l.n
