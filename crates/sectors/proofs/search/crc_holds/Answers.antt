-- `crc_holds` meets its contract.
-- Rests on: the laws in sector_rules::Base/Search; the contracts of cells::data_byte and cells::crc_at.
-- Assumes nothing.
use Rattle.sector_rules.proofs.Laws.Base.Search.{crc_two}
use Rattle.sectors.proofs.search.crc_holds.Goals as goal

pub returns : goal.returns
returns c = rw crc_two cc
