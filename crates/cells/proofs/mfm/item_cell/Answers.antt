-- `cells::item_cell` meets its contract.
-- Rests on: the laws in Mfm; the contracts of left_out, byte_of and mfm_cell.
-- Assumes nothing.
use mathlib.Core.Path.{sym, ◌∙◌}
use Rattle.cells.specs.Written.{item_cell}
use Rattle.cells.proofs.Laws.Mfm.{left_out_named}
use Rattle.cells.proofs.mfm.item_cell.Goals as goal

pub returns-then-eq : goal.returns-then-eq
unfolding item_cell
returns-then-eq c =
    let e = sym (left_out_named _ _ _ c.left_out.ensures c.requires) ∙ sym c.eq.ensures ∙ c.if-eq.true in rw e

pub returns-else-eq : goal.returns-else-eq
unfolding item_cell
returns-else-eq c =
    let e = sym (left_out_named _ _ _ c.left_out.ensures c.requires) ∙ sym c.eq.ensures ∙ c.if-eq.false in
    rw (e, ← c.byte_of.ensures) c.mfm_cell.ensures
