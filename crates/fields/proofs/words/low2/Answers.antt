-- `fields::low2` meets its contract.
-- Rests on: the contract of bytes_at.
-- Assumes nothing.
use Rattle.std.proofs.Common.{arith}
use Rattle.laws.specs.Lists.{element_at, tab, window}
use Rattle.laws.specs.Numbers.{low_first}
use Rattle.fields.proofs.words.low2.Goals as goal

pub returns : goal.returns
unfolding low_first window tab element_at
returns c = let e = rw c.bytes_at.ensures at c.from_le_bytes.ensures in omega arith
