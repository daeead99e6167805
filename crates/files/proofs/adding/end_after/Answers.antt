-- `end_after` meets its contract.
-- Rests on: the laws in Calling/Changed; the contract of set_end.
-- Assumes nothing.
use Rattle.files.specs.Laws.Calling.Changed.{end_kept, end_grown}
use Rattle.files.proofs.adding.end_after.Goals as goal

pub returns-then-k-end : goal.returns-then-k-end
returns-then-k-end c = end_kept _ _ _ c.requires.0 c.if-k-end.true

pub returns : goal.returns
returns c = end_grown _ _ _ _ c.if-k-end.false c.set_end.ensures
