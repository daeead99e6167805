-- `read_entry` meets its contract.
-- Rests on: the laws in Loading/Slots; the contracts of fields::bytes_at, fields::high4 and fields::high2.
-- Assumes nothing.
use Rattle.laws.specs.Lists.{window}
use Rattle.files.specs.Laws.Loading.Slots.{entry_read}
use Rattle.files.proofs.directory.read_entry.Goals as goal

pub returns : goal.returns
unfolding window
returns c = entry_read _ _ _ _ _ _ c.bytes_at.ensures c.high4.ensures
    c.high2.ensures c.high4-2.ensures
