-- `write_unit` meets its contract: the halves below `head` are written.
-- Rests on: the laws in Packing/Runs and laws::Overlay; the contract of write_run.
-- Assumes nothing.
use Rattle.std.proofs.Common.{◌≡◌, ◌*◌, ◌∙◌, ap, arith, length}
use Rattle.laws.specs.Laws.Overlay.{overlay_none, overlay_length}
use Rattle.sector_rules.specs.Hfe.{unit_bytes}
use Rattle.sectors.specs.Laws.Packing.Runs.{run_bytes, runs_next, half_is}
use Rattle.sectors.proofs.packing.write_unit.Goals as goal

pub loop-head-init : goal.loop-head-init
loop-head-init c = (c.requires.2, overlay_none _ _ _)

pub loop-head-preserved : goal.loop-head-preserved
loop-head-preserved c = (
  ap length c.write_run.ensures ∙ overlay_length _ _ _ _ ∙ c.loop-head.invariant.0,
  c.write_run.ensures ∙ runs_next _ _ _ _ _ _ _ c.loop-head.invariant.1 (λ k l. half_is _ _ _ _ _ c.loop-head-test.true c.requires.1 l),
)

pub returns : goal.returns
returns c = let e : run_bytes * c.loop-head.head ≡ unit_bytes = omega arith in rw e at c.loop-head.invariant.1
