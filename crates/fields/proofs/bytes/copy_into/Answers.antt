-- `fields::copy_into` meets its contract: the first i bytes are written.
-- Rests on: the laws in laws::Overlay.
-- Assumes nothing.
use mathlib.Core.Path.{◌≡◌, ◌∙◌}
use Prim.Native.Nat.{◌-◌, ◌<◌, min}
use lib.ListN.{length}
use native.Mathlib.Omega.{arith}
use native.Mathlib.Nat.{zero-add}
use Rattle.std.proofs.lemmas.List.{get_or-take, length-take}
use Rattle.laws.specs.Lists.{element_at}
use Rattle.laws.specs.Changes.{put}
use Rattle.laws.specs.Laws.Overlay.{overlay_done, overlay_none, overlay_more}
use Rattle.fields.proofs.bytes.copy_into.Goals as goal

pub loop-i-init : goal.loop-i-init
loop-i-init c = overlay_none _ _ _

pub loop-i-preserved : goal.loop-i-preserved
unfolding element_at
loop-i-preserved c =
    let room : c.loop-i.i < c.min-n.result = omega (arith, length-take c.min-n.result c.args.src.now) in
    overlay_more _ _ _ _ _ _ (omega arith) c.loop-i.invariant
    (get_or-take c.min-n.result c.args.src.now c.loop-i.i 0 room ∙ rw zero-add)

pub returns : goal.returns
unfolding put
returns c =
    let all : c.loop-i.i ≡ c.min-n.result = omega (arith, length-take c.min-n.result c.args.src.now) in
    let few : c.min-n.result ≡ min (length c.args.dst.now - c.args.at) (length c.args.src.now) = omega arith in
    overlay_done _ _ _ _ _ _ _ all few c.loop-i.invariant
