-- `write_tracks` meets its contract: the tracks below `track` are written.
-- Rests on: the laws in Packing/Runs and laws::Overlay; the contract of write_track.
-- Assumes nothing.
use Rattle.std.proofs.Common.{◌≡◌, ◌+◌, ◌*◌, ◌∙◌, ap, arith, length}
use Rattle.laws.specs.Laws.Overlay.{overlay_none, overlay_length}
use Rattle.sector_rules.specs.Hfe.{unit_bytes}
use Rattle.sector_rules.specs.Geometry.{tracks}
use Rattle.sector_rules.specs.Packed.{track_units, first_unit}
use Rattle.sectors.specs.Laws.Packing.Runs.{unit_place, runs_next, track_bytes_is}
use Rattle.sectors.proofs.packing.write_tracks.Goals as goal

pub loop-track-init : goal.loop-track-init
loop-track-init c = (c.requires, overlay_none _ _ _)

pub loop-track-preserved : goal.loop-track-preserved
loop-track-preserved c = (
  ap length c.write_track.ensures ∙ overlay_length _ _ _ _ ∙ c.loop-track.invariant.0,
  let z : unit_place c.loop-track.track 0 ≡ first_unit * unit_bytes + unit_bytes * track_units * c.loop-track.track = omega arith in
      c.write_track.ensures ∙ rw z (runs_next _ _ _ _ _ _ _ c.loop-track.invariant.1 (λ k l. track_bytes_is _ _ k)),
)

pub returns : goal.returns
returns c = let e : unit_bytes * track_units * c.loop-track.track ≡ track_units * tracks * unit_bytes = omega arith in rw e at c.loop-track.invariant.1
