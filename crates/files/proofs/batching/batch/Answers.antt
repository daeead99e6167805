-- `batch` meets its contract.
-- Rests on: the laws in Calling/Items and Calling/SoundDisk; the contracts of list_fault and call_items.
-- Assumes nothing.
use mathlib.Core.Path.{refl, sym, ◌∙◌}
use Rattle.file_rules.specs.Batch.{at_item}
use Rattle.files.specs.Laws.Calling.SoundDisk.{wrote_refused}
use Rattle.files.specs.Laws.Calling.Items.{batch_length, batch_wrong, batch_items}
use Rattle.files.proofs.batching.batch.Goals as goal

pub returns-then-image-ne-IMAGE_BYTES : goal.returns-then-image-ne-IMAGE_BYTES
returns-then-image-ne-IMAGE_BYTES c = wrote_refused _ _ _ _ (batch_length _ _ c.if-image-ne-IMAGE_BYTES.true) refl

pub call_items-requires : goal.call_items-requires
call_items-requires c = sym c.list_fault.ensures ∙ c.in_default.is

pub returns-in-Some : goal.returns-in-Some
unfolding at_item
returns-in-Some c = wrote_refused _ _ _ _ (batch_wrong _ _ c.if-image-ne-IMAGE_BYTES.false _ (sym c.in-Some.is ∙ c.list_fault.ensures)) refl

pub returns : goal.returns
returns c = batch_items _ _ c.if-image-ne-IMAGE_BYTES.false _ _ c.call_items.ensures
