-- `list_slot` meets its contract.
-- Rests on: the laws in Calling/Delivered; the contracts of held_slot, slot_row and fields::copy_into.
-- Assumes nothing.
use mathlib.Core.Path.{sym, ap, ◌∙◌}
use Prim.Native.Nat.{ℕ, ◌+◌}
use native.Mathlib.Omega.{arith}
use Rattle.laws.specs.Changes.{put}
use Rattle.files.specs.Laws.Calling.Delivered.{put_none, part_vacant, part_held, part_row}
use Rattle.files.proofs.listing.list_slot.Goals as goal

pub returns-then-held_slot : goal.returns-then-held_slot
returns-then-held_slot c = (
  ap (λ (x : ℕ). c.args.c + x) (part_held _ _ (sym c.held_slot.ensures ∙ c.if-held_slot.true)),
  c.copy_into.ensures ∙ ap (put c.args.out.now c.args.c) (c.slot_row.ensures ∙ part_row _ _ (sym c.held_slot.ensures ∙ c.if-held_slot.true)),
)

pub returns : goal.returns
returns c = (
  rw (part_vacant _ _ (sym c.held_slot.ensures ∙ c.if-held_slot.false)) (omega arith),
  rw
      (part_vacant _ _ (sym c.held_slot.ensures ∙ c.if-held_slot.false)) (put_none _ _),
)
