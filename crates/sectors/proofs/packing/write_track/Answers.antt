-- `write_track` meets its contract: the units below `u` are written.
-- Rests on: the laws in Packing/Runs and laws::Overlay; the contract of write_unit.
-- Assumes nothing.
use Rattle.std.proofs.Common.{◌≡◌, ◌+◌, ◌*◌, ◌∙◌, ap, arith, length}
use Rattle.laws.specs.Laws.Overlay.{overlay_none, overlay_length}
use Rattle.sector_rules.specs.Hfe.{unit_bytes}
use Rattle.sector_rules.specs.Packed.{track_units}
use Rattle.sectors.specs.Laws.Packing.Runs.{unit_place, runs_next, unit_is}
use Rattle.sectors.proofs.packing.write_track.Goals as goal

pub loop-u-init : goal.loop-u-init
loop-u-init c = (c.requires.1, overlay_none _ _ _)

pub loop-u-preserved : goal.loop-u-preserved
loop-u-preserved c = (
  ap length c.write_unit.ensures ∙ overlay_length _ _ _ _ ∙ c.loop-u.invariant.0,
  let z : unit_place c.args.track c.loop-u.u ≡ unit_place c.args.track 0 + unit_bytes * c.loop-u.u = omega arith in
      c.write_unit.ensures ∙ rw z (runs_next _ _ _ _ _ _ _ c.loop-u.invariant.1 (λ k l. unit_is _ _ _ k)),
)

pub returns : goal.returns
returns c = let e : unit_bytes * c.loop-u.u ≡ unit_bytes * track_units = omega arith in rw e at c.loop-u.invariant.1
