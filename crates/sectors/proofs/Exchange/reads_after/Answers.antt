-- `Exchange::reads_after` meets its contract.
-- Rests on: the contracts of with_new and sector_reads.
-- Assumes nothing.
use Rattle.sectors.proofs.Exchange.reads_after.Goals as goal

pub returns : goal.returns
returns c = let told = c.with_new.ensures.0 in (rw told.2 at told.1, c.with_new.ensures.1)
