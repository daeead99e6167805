-- `unpack_sectors` meets its contract.
-- Rests on: the laws in Unpacking/SectorsJudged; the contracts of judge_all and write_sides.
-- Assumes nothing.
use mathlib.Core.Path.{refl}
use Rattle.sectors.specs.Laws.Unpacking.SectorsJudged.{refused_after, written_after}
use Rattle.sectors.proofs.unpacking.unpack_sectors.Goals as goal
use Rattle.std.proofs.lemmas.Result.{err_from_is_err_and}
use Rattle.sectors.specs.Refusals.{hfe_refused_number}
use Rattle.std.specs.Prelude.{refl}

pub returns-in_err-judge_all : goal.returns-in_err-judge_all
returns-in_err-judge_all c = let p = err_from_is_err_and c.from_residual.result c.from_residual.ensures.1 in
    rw (p.1, p.2) (refused_after _ _ _ _ (c.in_err-judge_all.ensures).answer (hfe_refused_number _) refl)

pub write_sides-requires : goal.write_sides-requires
write_sides-requires c = (c.requires, c.in_ok-judge_all.ensures.good refl)

pub returns : goal.returns
returns c = written_after _ _ _ _ (c.in_ok-judge_all.ensures).answer refl c.write_sides.ensures
