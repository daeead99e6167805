-- `BlockRow::put` meets its contract.
-- Rests on: the laws in Loading/BlockRows.
-- Assumes nothing.
use Rattle.std.proofs.Common.{sym, ◌∙◌}
use Rattle.files.specs.Laws.Loading.BlockRows.{some_stored, row_put}
use Rattle.files.proofs.block_row.BlockRow.put.Goals.{in-Some, in-None}
use Rattle.files.proofs.block_row.BlockRow.put.Goals as goal

pub returns : goal.returns
returns g c = rw (← c.self.view_is) (elim c.match-block.branch [
  | in-Some w ↦ rw w.self-is (row_put _ _ _ _ (some_stored _ ∙ sym w.in-Some.is))
  | in-None w ↦ rw w.self-is (row_put _ _ _ _ (sym w.in-None.is))
])
