-- `add_at` meets its contract: its steps in the order of the definition.
-- Rests on: the laws in Writing/InStep and Calling/Changed; the contracts of dir_end, entry_bytes, grow_dir,
-- blocks_for, give_blocks, write_entry, end_after and update_counts.
-- Assumes nothing.
use Rattle.files.specs.Laws.Writing.InStep.{step_after}
use Rattle.files.specs.Laws.Calling.Changed.{add_written}
use Rattle.files.proofs.adding.add_at.Goals as goal

pub end_after-requires : goal.end_after-requires
end_after-requires c = (c.write_entry.new.self.in_step.long, c.requires.0)

pub invariant_of-disk : goal.invariant_of-disk
invariant_of-disk c = record { in_step = step_after _ _ c.write_entry.new.self.in_step _ _ _ c.end_after.ensures }

pub returns-clause-written : goal.returns-clause-written
returns-clause-written c = add_written _ _ _ _ _ _ _ _ _ _ _ _ c.dir_end-end.ensures c.entry_bytes-head.ensures
    c.blocks_for.ensures.0 c.grow_dir.ensures.written
    c.give_blocks.ensures.written c.write_entry.ensures.written
    c.end_after.ensures c.update_counts.ensures.written
