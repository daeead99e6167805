-- `step_update` meets its contract.
-- Rests on: the contracts of block_word4 and put_word.
-- Assumes nothing.
use Rattle.file_rules.specs.Written.{step_update}
use Rattle.files.proofs.steps.step_update.Goals as goal

pub returns : goal.returns
unfolding step_update
returns c = rw c.block_word4-updates.ensures at c.put_word.ensures
