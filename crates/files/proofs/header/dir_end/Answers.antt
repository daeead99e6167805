-- `dir_end` meets its contract.
-- Rests on: the contract of dir_bytes.
-- Assumes nothing.
use native.Mathlib.Omega.{arith}
use Rattle.file_rules.specs.Directory.{dir_end}
use Rattle.files.proofs.header.dir_end.Goals as goal

pub returns : goal.returns
unfolding dir_end
returns c = (rw c.dir_bytes.ensures.0, omega arith)
