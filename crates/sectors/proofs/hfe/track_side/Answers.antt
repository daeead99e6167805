-- `track_side` meets its contract.
-- Rests on: the contracts of track_length and cells::hfe_side.
-- Assumes nothing.
use mathlib.Core.Path.{◌∙◌}
use Rattle.sectors.proofs.hfe.track_side.Goals as goal

pub returns : goal.returns
returns c = c.hfe_side.ensures ∙ rw c.track_length.ensures
