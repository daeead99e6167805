-- `write_fresh` meets its contract.
-- Rests on: the laws in Calling/BadNoted and Calling/Fresh; the contracts of note_bad, count_noted,
-- header_bytes, fields::fill, put_bytes and write_map.
-- Assumes nothing.
use mathlib.Core.Path.{◌∙◌}
use native.Mathlib.Omega.{arith}
use Rattle.files.specs.Laws.Calling.BadNoted.{noted_count, noted_most}
use Rattle.files.specs.Laws.Calling.Fresh.{fresh_written}
use Rattle.files.proofs.formatting.write_fresh.Goals as goal

pub header_bytes-head-requires : goal.header_bytes-head-requires
header_bytes-head-requires c = (c.requires.1, omega (arith, c.count_noted.ensures.0, noted_most _ _ c.note_bad-noted.ensures c.requires.2))

pub returns : goal.returns
returns c = fresh_written _ _ c.note_bad-noted.ensures _ _ _ _ _ c.requires.0 c.fill.ensures
    (c.header_bytes-head.ensures _ (c.count_noted.ensures.0 ∙ noted_count _ _ c.note_bad-noted.ensures))
    c.put_bytes.ensures c.write_map.ensures
