-- `bit_before` meets its contract.
-- Rests on: the laws in cells::Written; the contracts of side_item and cells::last_bit.
-- Assumes nothing.
use mathlib.Core.Path.{sym, ◌∙◌}
use native.Mathlib.Omega.{arith}
use Rattle.cells.proofs.Laws.Written.{before_first, item_before_later}
use Rattle.sectors.proofs.written.WrittenSide.bit_before.Goals as goal

pub returns-then-q-eq0 : goal.returns-then-q-eq0
returns-then-q-eq0 c = sym (before_first _ _ c.if-q-eq0.true)

pub returns : goal.returns
returns c = c.last_bit.ensures ∙ rw c.side_item.ensures (sym (item_before_later _ _ (omega arith)))
