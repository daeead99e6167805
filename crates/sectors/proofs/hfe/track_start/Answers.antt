-- `track_start` meets its contract.
-- Rests on: the contracts of entry_place and fields::low2.
-- Assumes nothing.
use native.Mathlib.Omega.{arith}
use Rattle.sector_rules.specs.Hfe.{track_start}
use Rattle.sectors.proofs.hfe.track_start.Goals as goal

pub returns : goal.returns
unfolding track_start
returns c = (rw (← c.entry_place.ensures.0, ← c.low2.ensures, ← c.from.ensures), omega arith)
