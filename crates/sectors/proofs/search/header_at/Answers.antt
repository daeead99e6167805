-- `header_at` meets its contract.
-- Rests on: the laws in Reading/Search; the contracts of cells::cells_from, cells::three_sync, cells::data_byte
-- and crc_holds.
-- Assumes nothing.
use mathlib.Core.Path.{sym, ◌∙◌}
use borrow.Author.Tests.{eq-eqb, ne_eqb}
use Rattle.sector_rules.specs.Search.{id_of}
use Rattle.sectors.specs.Laws.Reading.Search.{header_past, header_fits}
use Rattle.sectors.proofs.search.header_at.Goals.{else-three_sync-via-then-three_sync+then-data_byte+else-crc_holds}
use Rattle.sectors.proofs.search.header_at.Goals.{else-three_sync-via-then-three_sync+else-data_byte, else-three_sync-via-else-three_sync}
use Rattle.sectors.proofs.search.header_at.Goals as goal

pub returns-then-cells_from-lt-HEADER_CELLS : goal.returns-then-cells_from-lt-HEADER_CELLS
returns-then-cells_from-lt-HEADER_CELLS c = sym (header_past _ (rw (← c.cells_from.ensures.0) c.if-cells_from-lt-HEADER_CELLS.true))

pub returns-then-crc_holds : goal.returns-then-crc_holds
unfolding id_of
returns-then-crc_holds c = rw (
  c.data_byte-then-crc_holds.ensures,
  c.data_byte-then-crc_holds-2.ensures,
  c.data_byte-then-crc_holds-3.ensures,
  c.data_byte-then-crc_holds-4.ensures,
)
    (sym (header_fits _ (rw (← c.cells_from.ensures.0) c.if-cells_from-lt-HEADER_CELLS.false) ∙ rw (
      sym c.three_sync.ensures ∙ c.if-three_sync.true,
      eq-eqb _ _
          (sym c.data_byte.ensures ∙ c.if-data_byte.true),
      sym c.crc_holds.ensures ∙
          c.if-crc_holds.true,
    )))

pub returns : goal.returns
returns c =
    let fits = header_fits _ (rw (← c.cells_from.ensures.0) c.if-cells_from-lt-HEADER_CELLS.false) in
    elim c.else-three_sync.branch [
      | else-three_sync-via-then-three_sync+then-data_byte+else-crc_holds w ↦ sym (fits ∙ rw (
        sym c.three_sync.ensures ∙ w.if-three_sync.true,
        eq-eqb _ _ (sym w.data_byte.ensures ∙ w.if-data_byte.true),
        sym w.crc_holds.ensures ∙ w.if-crc_holds.false,
      ))
      | else-three_sync-via-then-three_sync+else-data_byte w ↦ sym (fits ∙ rw (
        sym c.three_sync.ensures ∙ w.if-three_sync.true,
        ne_eqb _ _ (λ e. w.if-data_byte.false (w.data_byte.ensures ∙ e)),
      ))
      | else-three_sync-via-else-three_sync w ↦ sym (fits ∙ rw (sym c.three_sync.ensures ∙ w.if-three_sync.false))
    ]
