-- `BlockRow::none` meets its contract.
-- Rests on: the laws in Loading/BlockRows.
-- Assumes nothing.
use Rattle.files.specs.Laws.Loading.BlockRows.{row_empty}
use Rattle.files.proofs.block_row.BlockRow.none.Goals as goal

pub returns : goal.returns
returns g c = row_empty g.row.N
