-- `Trial::side_reads_right` meets its contract.
-- Rests on: the laws in laws::All and Rewriting/Compared; the contracts of image_side, with_new and sector_right.
-- Assumes nothing.
use mathlib.Core.Path.{◌≡◌, sym, ap, ◌∙◌}
use mathlib.Core.List.{List, ◌∷◌}
use native.Mathlib.Omega.{arith}
use Prim.Native.Nat.{ℕ, ◌+◌, ◌*◌, ◌<◌, ◌≤◌}
use lib.ListN.{length}
use Rattle.std.proofs.Common.{rules, ⊎_elim}
use Rattle.std.specs.Iterator.Adapters.{zip_first, zip_second}
use Rattle.std.specs.Slice.Iter.{iter_rest}
use Rattle.laws.specs.Laws.All.{all_is, all_false}
use Rattle.laws.specs.Laws.Cases.{by_equal}
use Rattle.sector_rules.specs.Geometry.{sectors}
use Rattle.sectors.specs.declared.SectorField.{SectorField}
use Rattle.sector_rules.specs.Unpacked.{sector_at}
use Rattle.sectors.specs.Laws.Rewriting.Compared.{give_from}
use Rattle.sectors.specs.Laws.Rewriting.Exchanged.{exchanged}
use Rattle.sectors.proofs.Trial.side_reads_right.Goals as goal

pub loop-k-init : goal.loop-k-init
loop-k-init c =
    let told = c.with_new-after.ensures.0 in
    let same = c.into_iter-k-iterator.ensures.into_iter_gives in
    let none = c.enumerate-k-items.ensures.count in
    let source = c.enumerate-k-items.ensures.source in
    let first = c.zip.ensures.first in
    let second = c.zip.ensures.second in
    let z : c.into_iter-k-iterator.result.count ≡ 0 = rw same none in
    let e : iter_rest (zip_first c.into_iter-k-iterator.result.iter) ≡ c.image_side-before.result = rw (same, source, first) c.iter.ensures.rest in
    let f : iter_rest (zip_second c.into_iter-k-iterator.result.iter) ≡ c.with_new-after.result = rw (same, source, second) c.iter-2.ensures.rest in (
      search rules,
      c.with_new-after.ensures.1,
      rw (e, z)
          (give_from (sector_at c.args.hfe.now) c.image_side-before.result (sectors * c.args.n + 0) (λ i l.
          let y : sectors * c.args.n + 0 + i ≡ sectors * c.args.n + i = omega arith in
          rw y (c.image_side-before.ensures.each i (omega (arith, l, c.image_side-before.ensures.long))))),
      rw (f, z)
          (give_from (sector_at (exchanged c.args.hfe.now c.args.self.now.exchange)) c.with_new-after.result (sectors * c.args.n + 0) (λ i l.
          let y : sectors * c.args.n + 0 + i ≡ sectors * c.args.n + i = omega arith in
          let each = rw told.2 at (told.1.each i (omega (arith, l, told.1.long))) in
          rw y each)),
      rw (e, z) (omega (arith, c.image_side-before.ensures.long)),
      rw (f, z) (omega (arith, told.1.long)),
      λ i h. absurd (omega (arith, z)),
    )

-- with one more that is left than after this one
more : (n : ℕ) (x : SectorField) (xs ys : List SectorField) → xs ≡ x ∷ ys → n + length xs ≡ sectors → (n < sectors) × (n + 1 + length ys ≡ sectors)
more n x xs ys e l = let z : length xs ≡ length ys + 1 = ap length e ∙ omega arith in (omega arith, omega arith)

pub sector_right-requires : goal.sector_right-requires
sector_right-requires c =
    let step = c.in-Some.ensures.steps in
    let old = rw step.0.0 at c.loop-k.invariant.2 in
    let new = rw step.0.1 at c.loop-k.invariant.3 in
    let m = more _ _ _ _ step.0.0 c.loop-k.invariant.4 in
    rw (c.loop-k.invariant.1, step.1) (c.requires.0, omega arith, old.0, new.0)

pub returns-then-not-sector_right : goal.returns-then-not-sector_right
returns-then-not-sector_right c =
    let step = c.in-Some.ensures.steps in
    let m = more _ _ _ _ step.0.0 c.loop-k.invariant.4 in (
      sym (all_false _ _ c.in-Some.k (omega arith) (sym (rw c.loop-k.invariant.1 at c.sector_right.ensures.0) ∙ c.if-not-sector_right.true)),
      c.sector_right.ensures.1 ∙ c.loop-k.invariant.1,
    )

pub loop-k-preserved : goal.loop-k-preserved
loop-k-preserved c =
    let step = c.in-Some.ensures.steps in
    let old = rw step.0.0 at c.loop-k.invariant.2 in
    let new = rw step.0.1 at c.loop-k.invariant.3 in
    let m = more _ _ _ _ step.0.0 c.loop-k.invariant.4 in
    let w = more _ _ _ _ step.0.1 c.loop-k.invariant.5 in
    let z : sectors * c.args.n + c.next.new.self.count ≡ sectors * c.args.n + c.loop-k.k-iterator.count + 1 = omega (arith, step.2) in (
      search rules,
      c.sector_right.ensures.1 ∙ c.loop-k.invariant.1,
      rw z old.1,
      rw z new.1,
      rw step.2 m.1,
      rw step.2 w.1,
      λ i h.
          by_equal i c.in-Some.k
          (λ e. rw e (sym (rw c.loop-k.invariant.1 at c.sector_right.ensures.0) ∙ c.if-not-sector_right.false))
          (λ e. c.loop-k.invariant.6 i (omega arith)),
    )

pub returns : goal.returns
returns c =
    let step = c.in-None.ensures.steps in
    let n : sectors ≤ c.loop-k.k-iterator.count =
    ⊎_elim (λ p. omega (arith, p.1.0, c.loop-k.invariant.4)) (λ p. omega (arith, p.1.0, c.loop-k.invariant.5)) step.0 in
    (sym (all_is _ _ (λ i h. c.loop-k.invariant.6 i (omega arith))), c.loop-k.invariant.1)
