-- `is_code` meets its contract.
-- Rests on: the laws in CodesRead.
-- Assumes nothing.
use native.Mathlib.Omega.{arith}
use Rattle.cells.proofs.Laws.CodesRead.{code_low}
use Rattle.cells.proofs.codes.is_code.Goals as goal

pub returns : goal.returns
returns c = code_low _ (omega arith)
