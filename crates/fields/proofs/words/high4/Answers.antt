-- `fields::high4` meets its contract.
-- Rests on: the contract of bytes_at.
-- Assumes nothing.
use Rattle.std.proofs.Common.{arith}
use Rattle.laws.specs.Lists.{element_at, tab, window}
use Rattle.laws.specs.Numbers.{big_endian, high_first}
use Rattle.fields.proofs.words.high4.Goals as goal

pub returns : goal.returns
unfolding high_first big_endian window tab element_at
returns c = let e = rw c.bytes_at.ensures at c.from_be_bytes.ensures in omega arith
