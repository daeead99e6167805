-- `encoded_record` meets its contract.
-- Rests on: the laws in Loading/Records; the contract of number_of.
-- Assumes nothing.
use Rattle.files.specs.Laws.Loading.Records.{record_row}
use Rattle.files.proofs.records.encoded_record.Goals as goal

pub returns : goal.returns
returns c = rw c.to_be_bytes.ensures (record_row _ _ c.number_of.ensures)
