-- `at_item` meets its contract.
-- Rests on: nothing else.
-- Assumes nothing.
use mathlib.Core.Path.{refl}
use Rattle.file_rules.specs.Batch.{at_item}
use Rattle.files.proofs.refusals.at_item.Goals as goal

pub returns : goal.returns
unfolding at_item
returns c = refl
