-- `track_length` meets its contract.
-- Rests on: the contracts of entry_place and fields::low2.
-- Assumes nothing.
use Rattle.sector_rules.specs.Hfe.{track_length}
use Rattle.sectors.proofs.hfe.track_length.Goals as goal

pub returns : goal.returns
unfolding track_length
returns c = rw (← c.entry_place.ensures.0) c.low2.ensures
