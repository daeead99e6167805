-- `write_items` meets its contract: the items below i are written, and the bit before item i is known.
-- Rests on: the laws in Packing/Runs and laws::Overlay; the contracts of bit_before, side_item,
-- cells::item_bytes and cells::last_bit.
-- Assumes nothing.
use mathlib.Core.List.{List}
use mathlib.Core.Path.{◌≡◌, refl, ap, ◌∙◌}
use Prim.Native.Nat.{ℕ, ◌+◌}
use native.Mathlib.Omega.{arith}
use lib.ListN.{get_or, length-set}
use Rattle.laws.specs.Laws.Overlay.{overlay_none}
use Rattle.sectors.specs.Laws.Packing.Runs.{bit_next, items_more}
use Rattle.sectors.proofs.written.WrittenSide.write_items.Goals as goal

pub loop-i-init : goal.loop-i-init
loop-i-init c = let e : c.args.first + 0 ≡ c.args.first = omega arith in
    (omega arith, refl, rw e c.bit_before-before.ensures, overlay_none _ _ _)

pub bounds-hfe-at-in-loop-i : goal.bounds-hfe-at-in-loop-i
bounds-hfe-at-in-loop-i c = simp length-set (omega arith)

pub loop-i-preserved : goal.loop-i-preserved
loop-i-preserved c = (
  omega arith,
  simp length-set c.loop-i.invariant.1,
  c.last_bit-before.ensures ∙ bit_next _ _ _ _ c.loop-i.invariant.2 c.side_item-item.ensures
      _ (omega arith),
  items_more _ _ _ _ c.loop-i.invariant.2 c.side_item-item.ensures _ _ _ _ _ _ _ refl (omega arith) c.loop-i.invariant.3
      (ap (λ (xs : List ℕ). get_or xs 0 0) c.item_bytes.ensures) (ap (λ (xs : List ℕ). get_or xs 1 0) c.item_bytes.ensures),
)

pub returns : goal.returns
returns c = let e : c.loop-i.i ≡ c.args.n = omega arith in rw e at c.loop-i.invariant.3
