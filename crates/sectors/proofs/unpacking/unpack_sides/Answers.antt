-- `unpack_sides` meets its contract.
-- Rests on: the laws in Unpacking/Codes and Unpacking/SectorsJudged; the contracts of judge_codes and unpack_sectors.
-- Assumes nothing.
use mathlib.Core.Path.{refl}
use Rattle.sectors.specs.Laws.Unpacking.Codes.{codes_right, codes_wrong}
use Rattle.sectors.specs.Laws.Unpacking.SectorsJudged.{codes_after, sectors_after}
use Rattle.sectors.proofs.unpacking.unpack_sides.Goals as goal
use Rattle.std.proofs.lemmas.Result.{err_from_is_err_and}
use Rattle.sectors.specs.Refusals.{hfe_refused_number}
use Rattle.std.specs.Prelude.{refl}

pub returns-in_err-judge_codes : goal.returns-in_err-judge_codes
returns-in_err-judge_codes c = let p = err_from_is_err_and c.from_residual.result c.from_residual.ensures.1 in
    rw (p.1, p.2) (codes_after _ _ _ _ (codes_wrong _ _ (c.in_err-judge_codes.ensures) (hfe_refused_number _)) (hfe_refused_number _) refl)

pub returns : goal.returns
returns c = sectors_after _ _ _ _ (codes_right _ _ (c.in_ok-judge_codes.ensures) refl) c.unpack_sectors.ensures
