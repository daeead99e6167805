-- `append_byte` meets its contract.
-- Rests on: the laws in CodesAppended; the contract of joined.
-- Assumes nothing.
use lib.ListN.{length-set}
use Rattle.cells.proofs.Laws.CodesAppended.{byte_appended}
use Rattle.cells.proofs.codes.append_byte.Goals as goal

pub returns : goal.returns
returns c = (byte_appended _ _ _ _ c.requires c.joined-w.ensures.0, simp length-set)
