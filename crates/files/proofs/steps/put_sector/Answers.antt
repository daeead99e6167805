-- `put_sector` meets its contract: a part of the data, or a row made for it.
-- Rests on: the laws in Writing/Stored and Writing/Rows; the contracts of put_run and sector.
-- Assumes nothing.
use Rattle.std.proofs.Common.{◌∙◌}
use Rattle.files.specs.Laws.Writing.Stored.{patched_row}
use Rattle.files.specs.Laws.Writing.Rows.{content_row}
use Rattle.files.proofs.steps.put_sector.Goals as goal

pub returns-then-end-file : goal.returns-then-end-file
returns-then-end-file c =
    c.put_run.ensures
    ∙ patched_row _ _ _ _ _ _ (content_row c.args.file.now.content.now c.args.i c.if-i-ge-SLOT_BYTES.true c.if-end-file.true c.args.file.now.head.now)

pub returns : goal.returns
returns c = c.put_run-2.ensures ∙ patched_row _ _ _ _ _ _ c.sector.ensures
