-- The lowest number below a bound that passes a test, where one does.
-- Rests on the laws of the lowest number and of tests.
use Rattle.std.specs.Prelude.{◌≡◌, Bool, true, false, Option, Some, None, ℕ, ◌<◌, ◌≤◌}
use Rattle.std.proofs.Common.{sym, ◌∙◌, arith}
use Rattle.std.proofs.Math.Path.{ap}
use Rattle.std.specs.Option.{MatchOption, unwrap_or}
use Rattle.laws.specs.Below.{lowest, first_below}
use Rattle.laws.specs.Laws.Cases.{by_order}
use Rattle.laws.specs.Laws.Tests.{lt_true, lt_false, cond_true, cond_false}
use Rattle.laws.specs.Laws.Lowest.{lowest_some, lowest_none, lowest_le, lowest_cong}

module _ (test : ℕ → Bool) (n : ℕ) where
  -- where the lowest is below n, it is the first
  pub first_below_is : lowest test n < n → first_below test n ≡ Some (lowest test n)
  unfolding first_below
  first_below_is h = cond_true (Some (lowest test n)) None (lt_true h)

  -- where the lowest is n, there is no first
  pub first_absent : n ≤ lowest test n → first_below test n ≡ None
  unfolding first_below
  first_absent h = cond_false (Some (lowest test n)) None (lt_false h)

  -- where no number below n passes, there is no first
  pub first_below_none : ((k : ℕ) → k < n → test k ≡ false) → first_below test n ≡ None
  first_below_none h = first_absent (omega (arith, lowest_none test n h))

  -- a number below n that passes, where none below it does, is the first
  pub first_here : (p : ℕ) → p < n → ((k : ℕ) → k < p → test k ≡ false) → test p ≡ true → first_below test n ≡ Some p
  first_here p l h t =
      let e : lowest test n ≡ p = lowest_some test n p l h t in
      first_below_is (omega arith) ∙ ap (λ (k : ℕ). Some k) e

  some_not_none : {P : Type 0} (k : ℕ) → ◌≡◌ {A = Option ℕ} (Some k) None → P
  some_not_none k e = let z : ◌≡◌ {A = ℕ} 0 1 = cc in absurd (omega arith)

  -- the first is below n, and it is the lowest
  pub first_lowest : (k : ℕ) → first_below test n ≡ Some k → (k < n) × (lowest test n ≡ k)
  first_lowest k e =
      by_order (lowest test n) n
      (λ h. let q : lowest test n ≡ k = let s : ◌≡◌ {A = Option ℕ} (Some (lowest test n)) (Some k) = sym (first_below_is h) ∙ e in cc in (omega arith, q))
      (λ h. some_not_none k (sym e ∙ first_absent h))

  -- where there is no first, the lowest is n
  pub none_lowest : first_below test n ≡ None → lowest test n ≡ n
  none_lowest e =
      by_order (lowest test n) n
      (λ h. some_not_none (lowest test n) (sym (first_below_is h) ∙ e))
      (λ h. omega (arith, lowest_le test n))

  -- the first, or n where there is none, is the lowest
  pub first_or : unwrap_or (first_below test n) n ≡ lowest test n
  first_or =
      by_order (lowest test n) n
      (λ h. ap (λ (r : Option ℕ). unwrap_or r n) (first_below_is h))
      (λ h. ap (λ (r : Option ℕ). unwrap_or r n) (first_absent h) ∙ omega (arith, lowest_le test n))

  -- what a search over the numbers below n tells is the first
  pub first_below_told : (r : Option ℕ)
      → MatchOption r ((k : ℕ) → 0 ≤ k → k < n → test k ≡ false) (λ i. (0 ≤ i) × (i < n) × (test i ≡ true) × ((k : ℕ) → 0 ≤ k → k < i → test k ≡ false))
      → r ≡ first_below test n
  first_below_told None h = sym (first_below_none (λ k l. h k (omega arith) l))
  first_below_told (Some i) h = sym (first_here i h.1 (λ k l. h.3 k (omega arith) l) h.2)

-- two tests that agree below n have the same first
pub first_below_cong : (p q : ℕ → Bool) (n : ℕ) → ((i : ℕ) → i < n → p i ≡ q i) → first_below p n ≡ first_below q n
unfolding first_below
first_below_cong p q n e = rw (lowest_cong p q n e)
