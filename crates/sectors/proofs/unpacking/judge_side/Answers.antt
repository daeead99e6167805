-- `judge_side` meets its contract: the sectors below k are good, and the places of their bytes are noted.
-- Rests on: the laws in Unpacking/SectorsJudged; the contract of version_side.
-- Assumes nothing.
use mathlib.Core.Path.{◌≡◌, sym, ◌∙◌}
use Rattle.std.proofs.Common.{rules}
use native.Mathlib.Omega.{arith}
use Prim.Native.Nat.{◌+◌, ◌*◌}
use lib.ListN.{length-set}
use Rattle.sector_rules.specs.Geometry.{sectors}
use Rattle.sectors.specs.Laws.Unpacking.SectorsJudged.{fault_is_bad, noted_more, judged_stop, judged_good}
use Rattle.sectors.proofs.unpacking.judge_side.Goals as goal
use Rattle.std.specs.Prelude.{Ok, Err, refl}

pub loop-k-init : goal.loop-k-init
loop-k-init c = let e : sectors * c.args.n + 0 ≡ sectors * c.args.n = omega arith in (omega arith, search rules, rw e c.requires.1)

pub returns-in-Err : goal.returns-in-Err
returns-in-Err c = judged_stop _ _ _ c.loop-k.invariant.2 (Err c.in-Err.fault)
    (sym c.in-Err.is ∙ c.version_side-gives.ensures.each c.loop-k.k (omega arith)) (omega arith)
    (fault_is_bad _) _ _ refl

pub loop-k-preserved : goal.loop-k-preserved
loop-k-preserved c = (
  omega arith,
  simp length-set c.loop-k.invariant.1,
  noted_more _ _ (sectors * c.args.n + c.loop-k.k) c.loop-k.invariant.2 (Ok c.in-Ok.place)
      (sym c.in-Ok.is ∙ c.version_side-gives.ensures.each c.loop-k.k (omega arith)) (omega arith)
      refl (sectors * c.args.n + (c.loop-k.k + 1)) (omega arith),
)

pub returns : goal.returns
returns c = let e : sectors * c.args.n + c.loop-k.k ≡ sectors * (c.args.n + 1) = omega arith in judged_good _ _ _
    (rw e at c.loop-k.invariant.2) _ refl
