-- `write_tracks` meets its contract: the tracks below `track` are written.
use Rattle.std.proofs.Common.{◌≡◌, ◌*◌, length}
use Rattle.laws.specs.Changes.{overlay}
use Rattle.sector_rules.specs.Hfe.{unit_bytes}
use Rattle.sector_rules.specs.Packed.{hfe_bytes, track_units, first_unit}
use Rattle.sectors.specs.Laws.Packing.Runs.{tracks_byte}
use Rattle.sectors.proofs.packing.write_tracks.Given as goal

abbrev pub invariant-loop-track : goal.invariant-loop-track
invariant-loop-track l = (length l.hfe ≡ hfe_bytes)
    × (l.hfe ≡ overlay l.initial.hfe (first_unit * unit_bytes) (unit_bytes * track_units * l.track) (tracks_byte l.image))
