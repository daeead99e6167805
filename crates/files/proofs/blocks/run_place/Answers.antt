-- `run_place` meets its contract.
-- Rests on: the laws in Writing/Rows and laws::Tests; the contract of byte_place.
-- Assumes nothing.
use mathlib.Core.Path.{sym, ◌∙◌}
use Rattle.laws.specs.Laws.Tests.{lt_true, lt_false, cond_true, cond_false}
use Rattle.files.specs.Laws.Writing.Rows.{run_place}
use Rattle.files.proofs.blocks.run_place.Goals as goal

pub returns-then-b-lt-BLOCKS : goal.returns-then-b-lt-BLOCKS
unfolding run_place
returns-then-b-lt-BLOCKS c = c.byte_place.ensures.0 ∙ sym (cond_true _ _ (lt_true c.if-b-lt-BLOCKS.true))

pub returns : goal.returns
unfolding run_place
returns c = sym (cond_false _ _ (lt_false c.if-b-lt-BLOCKS.false))
