-- `write_side` meets its contract: the sectors below k are written.
-- Rests on: the laws in Unpacking/Sides and laws::Overlay; the contract of write_sector.
-- Assumes nothing.
use mathlib.Core.Path.{ap, ◌∙◌}
use Prim.Native.Nat.{◌+◌, ◌-◌}
use native.Mathlib.Omega.{arith}
use lib.ListN.{length, drop}
use Rattle.std.proofs.lemmas.List.{length-take, get_or-take, get_or-drop}
use Rattle.laws.specs.Laws.Overlay.{overlay_none, overlay_length}
use Rattle.sectors.specs.Laws.Unpacking.Sides.{side_more}
use Rattle.sectors.proofs.sides.write_side.Goals as goal

pub loop-k-init : goal.loop-k-init
loop-k-init c = (c.requires.1, overlay_none _ _ _)

pub loop-k-preserved : goal.loop-k-preserved
loop-k-preserved c =
    let n = c.args.at + 9 - c.args.at in
    let rest = drop c.args.at c.args.places.now in
    let place = get_or-take n rest c.loop-k.k 0 (omega (arith, length-take n rest)) ∙ get_or-drop c.args.at c.args.places.now c.loop-k.k 0 in (
      ap length c.write_sector.ensures ∙ overlay_length _ _ _ _ ∙ c.loop-k.invariant.0,
      rw place at c.write_sector.ensures ∙ side_more _ _ _ _ _ _ c.loop-k.invariant.1,
    )
