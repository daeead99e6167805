-- `judge_all` meets its contract: the sectors of the sides below n are good.
-- Rests on: the laws in Unpacking/SectorsJudged; the contract of judge_side.
-- Assumes nothing.
use mathlib.Core.Path.{◌≡◌}
use Prim.Native.Nat.{◌*◌}
use native.Mathlib.Omega.{arith}
use borrow.Author.Rules.{rules}
use Rattle.sector_rules.specs.Geometry.{sectors, all_sectors}
use Rattle.sectors.specs.Laws.Unpacking.SectorsJudged.{noted_none, all_good}
use Rattle.sectors.proofs.unpacking.judge_all.Goals as goal
use Rattle.std.proofs.lemmas.Result.{err_from_is_err_and}
use Rattle.sectors.specs.Refusals.{hfe_refused_number}
use Rattle.std.specs.Prelude.{refl}

pub loop-n-init : goal.loop-n-init
loop-n-init c = (omega arith, search rules, noted_none _ _)

pub returns-in_err-judge_side : goal.returns-in_err-judge_side
returns-in_err-judge_side c = let p = err_from_is_err_and c.from_residual.result c.from_residual.ensures.1 in
    rw (p.1, p.2) (record { answer = (c.in_err-judge_side.ensures).bad (hfe_refused_number _); good = λ z. absurd (hfe_refused_number _ z) })

pub loop-n-preserved : goal.loop-n-preserved
loop-n-preserved c = (omega arith, search rules, (c.in_ok-judge_side.ensures).good refl)

pub returns : goal.returns
returns c = let e : sectors * c.loop-n.n ≡ all_sectors = omega arith in
    all_good _ _ (rw e at c.loop-n.invariant.2) _ refl
