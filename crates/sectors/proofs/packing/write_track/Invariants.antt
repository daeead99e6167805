-- `write_track` meets its contract: the units below `u` are written.
use Rattle.std.proofs.Common.{◌≡◌, ◌*◌, length}
use Rattle.laws.specs.Changes.{overlay}
use Rattle.sector_rules.specs.Hfe.{unit_bytes}
use Rattle.sector_rules.specs.Packed.{hfe_bytes}
use Rattle.sectors.specs.Laws.Packing.Runs.{unit_place, unit_byte}
use Rattle.sectors.proofs.packing.write_track.Given as goal

abbrev pub invariant-loop-u : goal.invariant-loop-u
invariant-loop-u l = (length l.hfe ≡ hfe_bytes)
    × (l.hfe ≡ overlay l.initial.hfe (unit_place l.track 0) (unit_bytes * l.u) (unit_byte l.image l.track 0))
