-- `grow_dir` meets its contract.
-- Rests on: the laws in Calling/Changed; the contract of give_blocks.
-- Assumes nothing.
use Rattle.files.specs.Laws.Calling.Changed.{grow_inside, grow_within, grow_block}
use Rattle.files.proofs.adding.grow_dir.Goals as goal

pub returns-then-k-end-clause-written : goal.returns-then-k-end-clause-written
returns-then-k-end-clause-written c = grow_inside _ _ _ c.args.disk.now.in_step.long c.requires.1 c.if-k-end.true

pub returns-then-k-ne0-clause-written : goal.returns-then-k-ne0-clause-written
returns-then-k-ne0-clause-written c = grow_within _ _ _ c.args.disk.now.in_step.long c.requires.1 c.if-k-ne0.true

pub returns-clause-written : goal.returns-clause-written
returns-clause-written c = grow_block _ _ _ c.args.disk.now.in_step.long c.requires.1 _ c.if-k-end.false c.if-k-ne0.false
    c.give_blocks.ensures.written
