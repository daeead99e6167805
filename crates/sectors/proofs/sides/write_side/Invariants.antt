-- `write_side` meets its contract: the sectors below k are written.
use Rattle.std.proofs.Common.{◌≡◌, ◌*◌, length}
use Rattle.laws.specs.Changes.{overlay}
use Rattle.sector_rules.specs.Geometry.{sector_bytes, image_bytes}
use Rattle.sectors.specs.Laws.Unpacking.Sides.{placed_byte}
use Rattle.sectors.proofs.sides.write_side.Given as goal

abbrev pub invariant-loop-k : goal.invariant-loop-k
invariant-loop-k l = (length l.image ≡ image_bytes) ×
    (l.image ≡ overlay l.initial.image (sector_bytes * l.at) (sector_bytes * l.k) (placed_byte l.cells l.places l.at))
