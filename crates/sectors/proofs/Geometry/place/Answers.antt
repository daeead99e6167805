-- `Geometry::place` meets its contract.
-- Rests on: the laws in Reading/Placement; the contract of Geometry::track_place.
-- Assumes nothing.
use Rattle.sectors.specs.Laws.Reading.Placement.{image_by_rule}
use Rattle.sectors.proofs.Geometry.place.Goals as goal

pub returns : goal.returns
returns c = image_by_rule _ _ _ c.track_place-at.ensures.0 c.track_place-at.ensures.1
