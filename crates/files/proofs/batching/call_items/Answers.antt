-- `call_items` meets its contract: the items before the list that is left are done and left the image; no item is wrong, and item n begins it.
-- Rests on: the laws in Calling/Items; the contracts of split_item and call_item.
-- Assumes nothing.
use mathlib.Core.Path.{refl, sym, ap, ◌∙◌}
use mathlib.Core.List.{List}
use Prim.Native.Nat.{ℕ, ◌+◌}
use lib.ListN.{length}
use native.Mathlib.Omega.{arith}
use Rattle.file_rules.specs.Items.{items_from}
use Rattle.files.specs.Laws.Calling.Items.{list_fault, in_turn, fault_start, fault_next, empty_here, next_shorter}
use Rattle.files.specs.Laws.Calling.Items.{turn_start, turn_end, turn_next, turn_refused}
use Rattle.files.specs.Refusals.{disk_refused, disk_refused_number}
use Rattle.files.proofs.batching.call_items.Goals as goal

pub loop-item-init : goal.loop-item-init
loop-item-init c = (omega arith, refl, sym (fault_start _) ∙ c.requires, turn_start _ _)

pub returns-in-Err : goal.returns-in-Err
returns-in-Err c = turn_refused _ c.loop-item.n _ c.loop-item.rest.now c.loop-item.invariant.3 c.loop-item.invariant.2 c.in-Some.ensures.0
    _ (disk_refused c.in-Err.refusal) (rw c.in-Some.ensures.1 at c.in-Err.ensures) _ (disk_refused_number _) refl

pub loop-item-smaller : goal.loop-item-smaller
loop-item-smaller c = omega (arith, ap length c.in-Some.ensures.2, next_shorter c.loop-item.n c.loop-item.rest.now c.in-Some.ensures.0)

pub loop-item-preserved : goal.loop-item-preserved
loop-item-preserved c = (
  omega (arith, c.loop-item.invariant.0, ap length c.in-Some.ensures.2, next_shorter c.loop-item.n c.loop-item.rest.now c.in-Some.ensures.0),
  c.call_item.auto.image ∙ c.loop-item.invariant.1,
  ap (λ (m : List ℕ). list_fault (items_from (c.loop-item.n + 1) 0 m)) c.in-Some.ensures.2
      ∙ sym (fault_next c.loop-item.n c.loop-item.rest.now c.in-Some.ensures.0) ∙ c.loop-item.invariant.2,
  turn_next _ c.loop-item.n _ c.loop-item.rest.now c.loop-item.invariant.3 c.loop-item.invariant.2 c.in-Some.ensures.0 _ _
      (rw c.in-Some.ensures.1 at c.in_default-call_item.ensures) refl
      ∙ ap (λ (m : List ℕ). in_turn c.call_item.new.image (c.loop-item.n + 1) (items_from (c.loop-item.n + 1) 0 m)) (sym c.in-Some.ensures.2),
)

pub returns : goal.returns
returns c = turn_end _ c.loop-item.n _ c.loop-item.rest.now c.loop-item.invariant.3 _
    (empty_here c.loop-item.n c.loop-item.rest.now c.loop-item.invariant.2 c.in_default.ensures) refl
