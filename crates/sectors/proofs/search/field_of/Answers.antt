-- `field_of` meets its contract.
-- Rests on: the laws in Reading/Search; the contracts of field_place and field_at.
-- Assumes nothing.
use mathlib.Core.Path.{◌≡◌, sym, ap, ◌∙◌}
use Prim.Native.Nat.{ℕ, ◌+◌}
use native.Mathlib.Omega.{arith}
use Rattle.laws.specs.Laws.Tests.{eq_true, eq_false, cond_true, cond_false}
use Rattle.sector_rules.specs.Search.{field_at}
use Rattle.sector_rules.specs.Rewritten.{field_place}
use Rattle.sectors.specs.Laws.Reading.Search.{field_by_place}
use Rattle.sectors.proofs.search.field_of.Goals as goal

pub returns-in-Some : goal.returns-in-Some
returns-in-Some c =
    let e = rw c.in-Some.is at c.field_place.ensures.0 in
    let b = rw c.in-Some.is at c.field_place.ensures.1 in
    let n : field_place c.args.cells.now c.args.i ≡ 0 → ⊥ = λ z. omega (arith, e, z, b.0) in (
      c.field_at.ensures ∙ ap (field_at _) e ∙ sym (field_by_place _ _ ∙ cond_false _ _ (eq_false n)),
      ap (λ (x : ℕ). x + 64) e,
    )

pub returns-in-None : goal.returns-in-None
returns-in-None c =
    let e = rw c.in-None.is at c.field_place.ensures.0 in
    (sym (field_by_place _ _ ∙ cond_true _ _ (eq_true (sym e))), ap (λ (x : ℕ). x + 64) e)
