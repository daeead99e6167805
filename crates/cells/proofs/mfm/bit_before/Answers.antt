-- `cells::bit_before` meets its contract.
-- Rests on: the laws in Mfm; the contract of bit_of.
-- Assumes nothing.
use mathlib.Core.Path.{◌∙◌}
use Rattle.cells.specs.Mfm.{before}
use Rattle.cells.proofs.Laws.Mfm.{before_later}
use Rattle.cells.proofs.mfm.bit_before.Goals as goal

pub returns-then-k-eq0 : goal.returns-then-k-eq0
unfolding before
returns-then-k-eq0 c = rw c.if-k-eq0.true

pub returns-else-k-eq0 : goal.returns-else-k-eq0
returns-else-k-eq0 c = c.bit_of.ensures ∙ before_later _ _ _ c.if-k-eq0.false
