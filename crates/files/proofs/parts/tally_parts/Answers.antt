-- `tally_parts` meets its contract: the records before the block that the walk is at are counted.
-- Rests on: the laws in Loading/Tally and Loading/Chains; the contracts of first_block, loaded_record, part_of and BlockRow::get.
-- Assumes nothing.
use Rattle.std.proofs.Common.{suc, refl, arith, sym, ◌∙◌, ap}
use Rattle.sector_rules.specs.Geometry.{blocks}
use Rattle.files.specs.Laws.Loading.Tally.{tally_none, tally_most}
use Rattle.files.specs.Laws.Loading.Parts.{part_of}
use Rattle.files.specs.Laws.Loading.Chains.{first_next, first_file, tally_to, tallied_at, tallied_all, tallied_next, tallied_part}
use Rattle.files.proofs.parts.tally_parts.Goals as goal
use Rattle.files.proofs.parts.tally_parts.Goals.{in-Some-part_of, in_default-part_of}

pub loop-at-init : goal.loop-at-init
loop-at-init c =
    rw c.first_block-at.ensures
    (tally_to _ _ _ 0 _ c.requires.0 (omega arith) (tally_none (suc blocks) _) _ (first_next _ _ _ c.args.f c.requires.1) (first_file _ _ _ _ c.requires.1))

pub overflow_add-tally : goal.overflow_add-tally
overflow_add-tally c =
    let m = tallied_at _ _ _ _ c.in-Some.b (rw c.in-Some.is at c.loop-at.invariant) in
    record { fits = omega (arith, m.0, tally_most _ _ _ _ m.1 c.min.result (omega arith)) }

pub loop-at-preserved : goal.loop-at-preserved
loop-at-preserved c =
    let m = rw c.in-Some.is at c.loop-at.invariant in
    let part = ap (part_of c.args.f) (sym c.loaded_record.ensures) ∙ sym c.part_of.ensures in
    elim c.match-part_of.branch [
      | in-Some-part_of w ↦
          rw (w.tally-is, c.get-at.ensures)
          (tallied_next _ _ _ _ _ _ _ c.requires.0 c.requires.1 m _ _ _ (part ∙ w.in-Some-part_of.is) w.min.ensures refl)
      | in_default-part_of w ↦ absurd (tallied_part _ _ _ _ _ _ _ c.requires.0 c.requires.1 m (part ∙ w.in_default-part_of.is))
    ]

pub returns : goal.returns
returns c = tallied_all _ _ _ _ (rw c.in_default.is at c.loop-at.invariant)
