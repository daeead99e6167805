-- `remove_at` meets its contract.
-- Rests on: the laws in Calling/Changed; the contracts of free_blocks, zero_slot and update_counts.
-- Assumes nothing.
use Rattle.files.specs.Laws.Calling.Changed.{remove_written}
use Rattle.files.proofs.removing.remove_at.Goals as goal

pub returns-clause-written : goal.returns-clause-written
returns-clause-written c = remove_written _ _ _ _ _ c.free_blocks.ensures.written c.zero_slot.ensures.written
    c.update_counts.ensures.written
