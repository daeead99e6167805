-- `header_and_table_right` meets its contract.
-- Rests on: the laws in Rewriting/Exchanged; the contracts of version1_fault and table_fault.
-- Assumes nothing.
use mathlib.Core.Path.{sym, ◌∙◌}
use Rattle.sectors.specs.Laws.Rewriting.Exchanged.{header_wrong, table_decides}
use Rattle.sectors.proofs.comparing.header_and_table_right.Goals as goal

pub returns-then-is_none : goal.returns-then-is_none
returns-then-is_none c =
    table_decides _ (rw c.version1_fault.ensures at c.if-is_none.ensures) _ (rw c.table_fault.ensures at c.is_none-then-is_none.ensures)

pub returns-else-is_none : goal.returns-else-is_none
returns-else-is_none c = c.if-is_none.false ∙ sym (header_wrong _ (rw c.version1_fault.ensures at c.if-is_none.ensures))
