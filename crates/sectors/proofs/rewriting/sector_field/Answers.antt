-- `sector_field` meets its contract.
-- Rests on: the laws in Rewriting/Answered; the contract of image_side.
-- Assumes nothing.
use mathlib.Core.Path.{refl}
use Rattle.sectors.specs.Laws.Rewriting.Answered.{side_field_is}
use Rattle.sectors.proofs.rewriting.sector_field.Goals as goal

pub returns : goal.returns
returns c = side_field_is _ _ _ _ _ c.args.at.track_known c.args.at.head_known c.args.at.numbered c.args.at.few refl _ c.image_side-fields.ensures
