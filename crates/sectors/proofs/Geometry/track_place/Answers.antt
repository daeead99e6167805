-- `Geometry::track_place` meets its contract.
-- Rests on no law.
-- Assumes nothing.
use mathlib.Core.Path.{refl}
use Rattle.sectors.proofs.Geometry.track_place.Goals as goal

pub returns : goal.returns
returns c = (refl, refl)
