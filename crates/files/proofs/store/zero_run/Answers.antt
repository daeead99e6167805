-- `zero_run` meets its contract.
-- Rests on: the laws in Writing/Rows; the contracts of run_place and fields::fill.
-- Assumes nothing.
use mathlib.Core.Path.{◌∙◌}
use Rattle.files.specs.Laws.Writing.Rows.{row_written}
use Rattle.files.proofs.store.zero_run.Goals as goal

pub returns : goal.returns
returns c = c.fill.ensures ∙
    row_written _ _ _ _ c.requires.0 _ _ c.run_place.ensures c.requires.1 c.requires.2
