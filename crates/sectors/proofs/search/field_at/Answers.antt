-- `field_at` meets its contract.
-- Rests on: the laws in Reading/Search; the contracts of cells::cells_from, cells::data_byte and crc_holds.
-- Assumes nothing.
use mathlib.Core.Path.{sym, ◌∙◌}
use borrow.Author.Tests.{eq-eqb, ne_eqb}
use Rattle.sectors.specs.Laws.Reading.Search.{field_past, field_fits}
use Rattle.sectors.proofs.search.field_at.Goals as goal

pub returns-then-cells_from-lt-FIELD_CELLS : goal.returns-then-cells_from-lt-FIELD_CELLS
returns-then-cells_from-lt-FIELD_CELLS c = sym (field_past _ _ (rw (← c.cells_from.ensures.0) c.if-cells_from-lt-FIELD_CELLS.true))

pub returns-then-crc_holds : goal.returns-then-crc_holds
returns-then-crc_holds c = sym (field_fits _ _ (rw (← c.cells_from.ensures.0) c.if-cells_from-lt-FIELD_CELLS.false) ∙ rw (
  eq-eqb _ _ (sym c.data_byte.ensures ∙ c.if-data_byte.true),
  sym c.crc_holds.ensures ∙
      c.if-crc_holds.true,
))

pub returns-then-data_byte : goal.returns-then-data_byte
returns-then-data_byte c = sym (field_fits _ _ (rw (← c.cells_from.ensures.0) c.if-cells_from-lt-FIELD_CELLS.false) ∙ rw (
  eq-eqb _ _ (sym c.data_byte.ensures ∙ c.if-data_byte.true),
  sym c.crc_holds.ensures ∙
      c.if-crc_holds.false,
))

pub returns : goal.returns
returns c = sym (field_fits _ _ (rw (← c.cells_from.ensures.0) c.if-cells_from-lt-FIELD_CELLS.false) ∙ rw
    (ne_eqb _ _ (λ e. c.if-data_byte.false (c.data_byte.ensures ∙ e))))
