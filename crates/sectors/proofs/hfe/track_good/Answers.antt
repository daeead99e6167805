-- `track_good` meets its contract.
-- Rests on: the contracts of track_start, track_unit_bytes, track_length and entry_place.
-- Assumes nothing.
use Rattle.sector_rules.specs.Hfe.{track_good}
use Rattle.sectors.proofs.hfe.track_good.Goals as goal

pub returns : goal.returns
unfolding track_good
returns c = cc
