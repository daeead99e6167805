-- The lowest number below a bound that passes a test.
-- Rests on the laws of tests.
use Rattle.std.specs.Prelude.{◌≡◌, refl, Bool, true, false}
use Rattle.std.proofs.Common.{sym, ◌∙◌, ⊎_elim, le_of_suc-le-suc, not-suc-le-zero, eq-or-lt_of_le, le_refl, lt-ltb, le-ltb}
use Rattle.std.proofs.Math.Path.{ap}
use Prim.Native.Nat.{ℕ, zero, suc, ◌<◌, ◌≤◌}
use native.Mathlib.Omega.{arith}
use Rattle.laws.specs.Below.{lowest}
use Rattle.laws.specs.Laws.Cases.{by_test, by_order, by_equal}
use Rattle.laws.specs.Laws.Tests.{lt_true, lt_false, true≢false, cond_true, cond_false}

-- where no number below n passes, the lowest is n
pub lowest_none : (test : ℕ → Bool) (n : ℕ) → ((k : ℕ) → k < n → test k ≡ false) → lowest test n ≡ n
unfolding lowest
lowest_none test zero h = refl
lowest_none test (suc n) h =
    let e = lowest_none test n (λ k l. h k (omega arith)) in
    simp (e, le-ltb n n (le_refl n), h n (le_refl (suc n)))

-- a number below n that passes, where none below it does, is the lowest
pub lowest_some : (test : ℕ → Bool) (n p : ℕ) → p < n → ((k : ℕ) → k < p → test k ≡ false) → test p ≡ true → lowest test n ≡ p
unfolding lowest
lowest_some test zero p l h t = absurd (not-suc-le-zero l)
lowest_some test (suc n) p l h t =
    ⊎_elim
    (λ (e : p ≡ n). here e)
    (λ (b : p < n). simp (lowest_some test n p b h t, lt-ltb p n b))
    (eq-or-lt_of_le (le_of_suc-le-suc l))
  where
    here : p ≡ n → lowest test (suc n) ≡ p
    here e =
        let q : lowest test n ≡ n = lowest_none test n (λ k b. h k (omega arith)) in
        let u : test n ≡ true = rw (← e) t in
        simp (q, le-ltb n n (le_refl n), u) (sym e)

-- where a number below n passes, the lowest is below n
pub lowest_lt : (test : ℕ → Bool) (n k : ℕ) → k < n → test k ≡ true → lowest test n < n
unfolding lowest
lowest_lt test zero k l t = absurd (not-suc-le-zero l)
lowest_lt test (suc n) k l t =
    ⊎_elim
    (λ (e : k ≡ n). let u : test n ≡ true = rw (← e) t in here u)
    (λ (b : k < n). let m : lowest test n < n = lowest_lt test n k b t in rw (lt-ltb (lowest test n) n m) (omega arith))
    (eq-or-lt_of_le (le_of_suc-le-suc l))
  where
    here : test n ≡ true → lowest test (suc n) < suc n
    here u =
        by_order (lowest test n) n
        (λ (m : lowest test n < n). rw (lt-ltb (lowest test n) n m) (omega arith))
        (λ (m : n ≤ lowest test n). rw (le-ltb (lowest test n) n m, u) (omega arith))

-- where the lowest is n, no number below n passes
pub lowest_all : (test : ℕ → Bool) (n : ℕ) → n ≤ lowest test n → (k : ℕ) → k < n → test k ≡ false
lowest_all test n h k l =
    by_test (test k) (λ t. let m : lowest test n < n = lowest_lt test n k l t in absurd (omega arith)) (λ f. f)

module _ (p : ℕ → Bool) where
  -- the three ways in which one number more is looked at
  kept : (n : ℕ) → lowest p n < n → lowest p (suc n) ≡ lowest p n
  unfolding lowest
  kept n h = cond_true _ _ (lt_true h)

  here : (n : ℕ) → n ≤ lowest p n → p n ≡ true → lowest p (suc n) ≡ n
  unfolding lowest
  here n h t = cond_false _ _ (lt_false h) ∙ cond_true _ _ t

  none_yet : (n : ℕ) → n ≤ lowest p n → p n ≡ false → lowest p (suc n) ≡ suc n
  unfolding lowest
  none_yet n h t = cond_false _ _ (lt_false h) ∙ cond_false _ _ t

  -- the lowest is at most n
  pub lowest_le : (n : ℕ) → lowest p n ≤ n
  unfolding lowest
  lowest_le zero = omega arith
  lowest_le (suc n) =
      by_order (lowest p n) n (λ h. omega (arith, kept n h))
      (λ h. by_test (p n) (λ t. omega (arith, here n h t)) (λ t. omega (arith, none_yet n h t)))

  -- where the lowest is below n, it passes
  pub lowest_hit : (n : ℕ) → lowest p n < n → p (lowest p n) ≡ true
  lowest_hit zero h = absurd (not-suc-le-zero h)
  lowest_hit (suc n) h =
      by_order (lowest p n) n (λ q. ap p (kept n q) ∙ lowest_hit n q)
      (λ q. by_test (p n) (λ t. ap p (here n q t) ∙ t) (λ t. absurd (omega (arith, none_yet n q t))))

  -- no number below the lowest passes
  pub lowest_low : (n j : ℕ) → j < lowest p n → p j ≡ false
  unfolding lowest
  lowest_low zero j h = absurd (not-suc-le-zero h)
  lowest_low (suc n) j h =
      by_order (lowest p n) n (λ q. lowest_low n j (omega (arith, kept n q)))
      (λ q. by_test (p n) (λ t. lowest_low n j (omega (arith, here n q t, lowest_le n)))
      (λ t. by_equal j n (λ e. ap p e ∙ t) (λ e. lowest_low n j (omega (arith, none_yet n q t)))))

  -- the lowest is at most every number that passes
  pub lowest_here : (n i : ℕ) → p i ≡ true → lowest p n ≤ i
  lowest_here n i e = by_order i (lowest p n) (λ h. true≢false (p i) e (lowest_low n i h)) (λ h. h)

  -- where one number alone below n passes, it is the lowest
  pub lowest_only : (n i : ℕ) → i < n → p i ≡ true → ((j : ℕ) → j < n → p j ≡ true → j ≡ i) → lowest p n ≡ i
  lowest_only n i h e u = u (lowest p n) (omega (arith, lowest_here n i e)) (lowest_hit n (omega (arith, lowest_here n i e)))

-- two tests that agree below n have the same lowest
pub lowest_cong : (p q : ℕ → Bool) (n : ℕ) → ((i : ℕ) → i < n → p i ≡ q i) → lowest p n ≡ lowest q n
lowest_cong p q n e =
    by_order (lowest p n) (lowest q n)
    (λ h.
    true≢false (q (lowest p n))
    (sym (e (lowest p n) (omega (arith, lowest_le q n))) ∙ lowest_hit p n (omega (arith, lowest_le q n)))
    (lowest_low q n (lowest p n) h))
    (λ h. by_order (lowest q n) (lowest p n)
    (λ k.
    true≢false (p (lowest q n))
    (e (lowest q n) (omega (arith, lowest_le p n)) ∙ lowest_hit q n (omega (arith, lowest_le p n)))
    (lowest_low p n (lowest q n) k))
    (λ k. omega arith))
