-- `block_word2` meets its contract.
-- Rests on: the laws in laws::Numbers; the contract of block_byte.
-- Assumes nothing.
use Rattle.std.proofs.Common.{arith}
use Rattle.laws.specs.Laws.Numbers.{at16_is}
use Rattle.files.proofs.blocks.block_word2.Goals as goal

pub returns : goal.returns
returns c = rw at16_is (omega arith)
