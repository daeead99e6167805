-- `write_run` meets its contract: items, and FF after the last one.
-- Rests on: the laws in Packing/Runs; the contracts of items_of_run, write_items and fields::fill.
-- Assumes nothing.
use mathlib.Core.Path.{◌∙◌}
use Rattle.sectors.specs.Laws.Packing.Runs.{run_written}
use Rattle.sectors.proofs.packing.write_run.Goals as goal

pub returns : goal.returns
returns c = c.fill.ensures ∙
    run_written _ _ _ _ _ _ _ _ c.requires.0 c.items_of_run-n.ensures
    c.write_items.ensures
