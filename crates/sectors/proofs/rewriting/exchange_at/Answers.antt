-- `exchange_at` meets its contract.
-- Rests on: the laws in Rewriting/Answered; the contracts of changed_bytes, take_bytes, stored_cells, field_row and bytes_after.
-- Assumes nothing.
use Rattle.sectors.specs.Laws.Rewriting.Answered.{window_place, window_new, renewed_side}
use Rattle.sectors.proofs.rewriting.exchange_at.Goals as goal

pub changed_bytes-bytes-requires : goal.changed_bytes-bytes-requires
changed_bytes-bytes-requires c = (c.requires.0, c.requires.2)

pub bytes_after-requires : goal.bytes_after-requires
bytes_after-requires c = (window_place _ _ _ _ _ c.changed_bytes-bytes.ensures.0, c.changed_bytes-bytes.result.few, c.changed_bytes-bytes.result.within)

pub returns : goal.returns
returns c = (
  record { fits = c.changed_bytes-bytes.ensures.1; taken = c.take_bytes.ensures; plain = c.requires.0 },
  window_new _ _ _ _ _ c.changed_bytes-bytes.ensures.0 _ _ _ c.requires.1
      (renewed_side _ _ _ _ c.stored_cells-cells.ensures _ _ c.field_row.ensures _ _ _ _
      c.bytes_after.ensures),
)
