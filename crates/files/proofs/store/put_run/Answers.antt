-- `put_run` meets its contract.
-- Rests on: the laws in Writing/Steps and Writing/Rows; the contracts of run_place and fields::copy_into.
-- Assumes nothing.
use mathlib.Core.Path.{refl, ◌∙◌}
use Rattle.files.specs.Laws.Writing.Steps.{put_row}
use Rattle.files.specs.Laws.Writing.Rows.{row_written}
use Rattle.files.proofs.store.put_run.Goals as goal

pub returns : goal.returns
returns c = c.copy_into.ensures ∙ put_row _ _ _ _ refl ∙
    row_written _ _ _ _ c.requires.0 _ _ c.run_place.ensures c.requires.1 c.requires.2
