-- `Trial::sides_right` meets its contract: the sectors of the sides below n are as they must be.
-- Rests on: the laws in Rewriting/Exchanged; the contract of side_right.
-- Assumes nothing.
use mathlib.Core.Path.{◌≡◌, refl, sym, ◌∙◌}
use native.Mathlib.Omega.{arith}
use Prim.Native.Nat.{◌*◌}
use Rattle.laws.specs.Laws.All.{all_is}
use Rattle.sector_rules.specs.Geometry.{tracks, sides}
use Rattle.sectors.specs.Laws.Rewriting.Exchanged.{sides_more, sides_fail}
use Rattle.sectors.proofs.Trial.sides_right.Goals as goal

pub loop-n-init : goal.loop-n-init
loop-n-init c = (refl, all_is _ _ (λ i h. absurd (omega arith)))

pub side_right-requires : goal.side_right-requires
side_right-requires c = rw c.loop-n.invariant.0 (c.requires, omega arith)

pub returns-then-not-side_right : goal.returns-then-not-side_right
returns-then-not-side_right c = (
  sym (sides_fail _ c.loop-n.n (omega arith) (sym (rw c.loop-n.invariant.0 at c.side_right.ensures.0) ∙ c.if-not-side_right.true)),
  c.side_right.ensures.1 ∙ c.loop-n.invariant.0,
)

pub loop-n-preserved : goal.loop-n-preserved
loop-n-preserved c = (
  c.side_right.ensures.1 ∙ c.loop-n.invariant.0,
  sides_more _ c.loop-n.n c.loop-n.invariant.1 (sym (rw c.loop-n.invariant.0 at c.side_right.ensures.0) ∙ c.if-not-side_right.false),
)

pub returns : goal.returns
returns c = let e : c.loop-n.n ≡ tracks * sides = omega arith in (sym (rw e at c.loop-n.invariant.1), c.loop-n.invariant.0)
