-- `cells::mfm_cell` meets its contract.
-- Rests on: the contracts of bit_of, bit_before and clock.
-- Assumes nothing.
use borrow.Author.Tests.{eq-eqb, ne_eqb}
use Rattle.cells.specs.Mfm.{mfm_cell}
use Rattle.cells.proofs.mfm.mfm_cell.Goals as goal

pub returns-then-j-eq0 : goal.returns-then-j-eq0
unfolding mfm_cell
returns-then-j-eq0 c = rw (eq-eqb _ _ c.if-j-eq0.true, ← c.bit_of-b.ensures, ← c.bit_before.ensures)
    c.clock.ensures

pub returns-else-j-eq0 : goal.returns-else-j-eq0
unfolding mfm_cell
returns-else-j-eq0 c = rw (ne_eqb _ _ c.if-j-eq0.false) c.bit_of-b.ensures
