-- `write_sides` meets its contract: the sides below n are written.
-- Rests on: the laws in Unpacking/Sides and laws::Overlay; the contract of write_version_side.
-- Assumes nothing.
use mathlib.Core.Path.{◌≡◌, refl, ap, ◌∙◌}
use Prim.Native.Nat.{ℕ, ◌+◌, ◌*◌}
use native.Mathlib.Omega.{arith}
use lib.ListN.{length}
use Rattle.laws.specs.Changes.{overlay}
use Rattle.laws.specs.Laws.Overlay.{overlay_none, overlay_next, overlay_all, overlay_length}
use Rattle.sector_rules.specs.Geometry.{sectors, sector_bytes, image_bytes}
use Rattle.sector_rules.specs.Unpacked.{unpacked_byte}
use Rattle.sectors.specs.Laws.Unpacking.Sides.{side_byte}
use Rattle.sectors.proofs.unpacking.write_sides.Goals as goal

pub loop-n-init : goal.loop-n-init
loop-n-init c = (omega arith, c.requires.0, overlay_none _ _ _)

pub loop-n-preserved : goal.loop-n-preserved
loop-n-preserved c = let q : sector_bytes * (sectors * c.loop-n.n) + sector_bytes * sectors ≡ sector_bytes * (sectors * (c.loop-n.n + 1)) = omega arith in (
  omega arith,
  ap length c.write_version_side.ensures ∙ overlay_length _ _ _ _ ∙ c.loop-n.invariant.1,
  c.write_version_side.ensures ∙ overlay_next
      _ (sector_bytes * (sectors * c.loop-n.n)) (sector_bytes * sectors) _ (unpacked_byte c.args.hfe.now.bytes.now) _ c.loop-n.invariant.2
      (side_byte c.args.hfe.now.bytes.now c.loop-n.n _ refl _ c.requires.1.each (omega arith)) ∙ ap (λ (j : ℕ). overlay c.args.image.now 0 j
      (unpacked_byte c.args.hfe.now.bytes.now)) q,
)

pub returns : goal.returns
returns c = let e : sector_bytes * (sectors * c.loop-n.n) ≡ image_bytes = omega arith in
    c.loop-n.invariant.2 ∙ rw e (overlay_all _ _ _ c.requires.0)
