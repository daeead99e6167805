-- `held_slot` meets its contract.
-- Rests on: the laws in Loading/Slots; the contracts of slot_place and vacant_at.
-- Assumes nothing.
use native.Mathlib.Omega.{arith}
use Rattle.files.specs.Laws.Loading.Slots.{held_row, held_zero}
use Rattle.files.proofs.directory.Directory.held_slot.Goals as goal

pub returns-then-k-ne0 : goal.returns-then-k-ne0
returns-then-k-ne0 c = rw (c.vacant_at.ensures, c.slot_place.ensures.0)
    (held_row _ _ _ c.args.self.now.whole c.requires c.args.self.now.located (omega arith))

pub returns-else-k-ne0 : goal.returns-else-k-ne0
returns-else-k-ne0 c = rw c.if-k-ne0.false (held_zero _)
