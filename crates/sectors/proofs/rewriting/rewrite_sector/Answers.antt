-- `rewrite_sector` meets its contract.
-- Rests on: the laws in Rewriting/Answered; the contracts of sector_field, judge_field, image_sector and write_data.
-- Assumes nothing.
use mathlib.Core.Path.{refl, sym, ap, ◌∙◌}
use Rattle.sector_rules.proofs.Laws.Rewrite.Place.{data_within}
use Rattle.sector_rules.specs.Rewritten.{has_field}
use Rattle.sectors.specs.Laws.Rewriting.Answered.{answered_field, answered_written}
use Prim.Native.Nat.{ℕ}
use Rattle.std.specs.Prelude.{Err}
use Rattle.sector_rules.specs.Unpacked.{sector_reply}
use Rattle.sectors.proofs.rewriting.rewrite_sector.Goals as goal

pub returns-in-Err : goal.returns-in-Err
returns-in-Err c =
    answered_field _ _ _ _ _ c.args.at.track_known c.args.at.head_known c.args.at.numbered c.args.at.few _ c.sector_field-field.ensures.0
    c.in-Err.ensures.1 _ _
    (ap (λ (m : ℕ). sector_reply m (Err c.in-Err.fault)) c.image_sector.ensures.0 ∙ ap (sector_reply _) (sym c.in-Err.ensures.0)) refl

pub write_data-requires : goal.write_data-requires
write_data-requires c = (
  c.requires,
  c.sector_field-field.ensures.1,
  rw
      c.sector_field-field.ensures.1
      (data_within _ _ _ _ (ap has_field (sym c.sector_field-field.ensures.0) ∙ c.in_default.ensures)),
)

pub returns : goal.returns
returns c =
    answered_written _ _ _ _ _ c.args.at.track_known c.args.at.head_known c.args.at.numbered c.args.at.few _ c.sector_field-field.ensures.0
    c.in_default.ensures _ _ c.write_data.ensures
