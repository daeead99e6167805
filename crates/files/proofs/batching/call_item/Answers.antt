-- `call_item` meets its contract: the call of the item that was read.
-- Rests on: the definitions of ItemSplit and file_rules::Batch; the contracts of remove and add.
-- Assumes nothing.
use mathlib.Core.Path.{refl}
use Rattle.file_rules.specs.Batch.{item_call}
use Rattle.files.specs.Laws.Calling.Items.{wrote_same}
use Rattle.files.specs.Laws.Calling.ItemSplit.{item_of}
use Rattle.files.proofs.batching.call_item.Goals as goal

pub returns-in-Remove : goal.returns-in-Remove
unfolding item_of item_call
returns-in-Remove c = rw c.in-Remove.is (wrote_same _ _ _ _ refl c.remove.ensures)

pub returns-in-Add : goal.returns-in-Add
unfolding item_of item_call
returns-in-Add c = rw c.in-Add.is (wrote_same _ _ _ _ refl c.add.ensures)
