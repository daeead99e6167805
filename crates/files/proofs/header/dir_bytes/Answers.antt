-- `dir_bytes` meets its contract.
-- Rests on: the contract of head_word.
-- Assumes nothing.
use native.Mathlib.Omega.{arith}
use Rattle.file_rules.specs.Directory.{dir_bytes}
use Rattle.files.proofs.header.dir_bytes.Goals as goal

pub returns : goal.returns
unfolding dir_bytes
returns c = (omega arith, omega arith)
