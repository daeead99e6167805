-- The k lowest numbers below a bound that pass a test, upwards.
-- Rests on the laws of counts.
use Rattle.std.specs.Prelude.{◌≡◌, refl, ◌≢◌, Bool, length}
use Rattle.std.proofs.Common.{sym, ◌∙◌}
use Rattle.std.proofs.Math.Path.{ap, subst}
use Rattle.std.proofs.Math.Bool.{true, false}
use mathlib.Core.List.{List, [], ◌∷◌}
use Prim.Native.Nat.{ℕ, zero, suc, ◌+◌, ◌≤◌, ◌<◌}
use native.Mathlib.Omega.{arith}
use Rattle.laws.specs.Below.{count, firsts_from, firsts}
use Rattle.laws.specs.Laws.Cases.{by_test}
use Rattle.laws.specs.Laws.Tests.{true≢false}
use Rattle.laws.specs.Laws.Count.{count_cong, count_head_yes, count_head_no}

-- an increasing list of numbers from i up to below n that pass
abbrev pub Picks : ℕ → (ℕ → Bool) → ℕ → List ℕ → Type 0
Picks n p i [] = Unit {0}
Picks n p i (b ∷ bs) = (i ≤ b) × (b < n) × (p b ≡ true) × Picks n p (suc b) bs

-- an increasing list of numbers that pass p is one of numbers that pass q, where q passes as p does
pub picks_cong : (n : ℕ) (p q : ℕ → Bool) (i : ℕ) (bs : List ℕ) → ((j : ℕ) → i ≤ j → j < n → p j ≡ true → q j ≡ true) → Picks n p i bs → Picks n q i bs
picks_cong n p q i [] e t = tt
picks_cong n p q i (b ∷ bs) e t =
    (t.0, t.1, e b t.0 t.1 t.2, picks_cong n p q (suc b) bs (λ j h l a. e j (omega arith) l a) t.3)

picks_later : (n : ℕ) (p : ℕ → Bool) (i : ℕ) (bs : List ℕ) → Picks n p (suc i) bs → Picks n p i bs
picks_later n p i [] t = tt
picks_later n p i (b ∷ bs) t = (omega (arith, t.0), t.1, t.2, t.3)

module _ (p : ℕ → Bool) where
  -- a number that passes is the first of those from it on
  pub firsts_yes : (n i k : ℕ) → p i ≡ true → firsts_from (suc n) i (suc k) p ≡ i ∷ firsts_from n (suc i) k p
  unfolding firsts_from
  firsts_yes n i k e =
      ap (λ (b : Bool). elim b as (λ (x : Bool). List ℕ) [ true ↦ i ∷ firsts_from n (suc i) k p | false ↦ firsts_from n (suc i) (suc k) p ]) e

  -- a number that fails is not among those from it on
  pub firsts_no : (n i k : ℕ) → p i ≡ false → firsts_from (suc n) i (suc k) p ≡ firsts_from n (suc i) (suc k) p
  unfolding firsts_from
  firsts_no n i k e =
      ap (λ (b : Bool). elim b as (λ (x : Bool). List ℕ) [ true ↦ i ∷ firsts_from n (suc i) k p | false ↦ firsts_from n (suc i) (suc k) p ]) e

  from_picks : (n i k N : ℕ) → i + n ≡ N → Picks N p i (firsts_from n i k p)
  unfolding firsts_from
  from_picks zero i k N e = tt
  from_picks (suc n) i zero N e = tt
  from_picks (suc n) i (suc k) N e =
      by_test (p i)
      (λ t. subst (Picks N p i) (sym (firsts_yes n i k t)) (omega arith, omega arith, t, from_picks n (suc i) k N (omega arith)))
      (λ t. subst (Picks N p i) (sym (firsts_no n i k t)) (picks_later N p i (firsts_from n (suc i) (suc k) p) (from_picks n (suc i) (suc k) N (omega arith))))

-- the k lowest numbers that pass are an increasing list of numbers that pass
pub firsts_picks : (n k : ℕ) (p : ℕ → Bool) → Picks n p 0 (firsts n k p)
unfolding firsts
firsts_picks n k p = from_picks p n 0 k n (omega arith)

-- two tests that agree at the n numbers from i on have the same first ones from i on
pub from_cong : (p q : ℕ → Bool) (n i k : ℕ) → ((j : ℕ) → i ≤ j → j < i + n → p j ≡ q j) → firsts_from n i k p ≡ firsts_from n i k q
unfolding firsts_from
from_cong p q zero i k e = refl
from_cong p q (suc n) i zero e = refl
from_cong p q (suc n) i (suc k) e =
    let here : p i ≡ q i = e i (omega arith) (omega arith) in
    by_test (q i)
    (λ t.
    firsts_yes p n i k (here ∙ t)
    ∙ ap (λ (l : List ℕ). i ∷ l) (from_cong p q n (suc i) k (λ j h l. e j (omega arith) (omega arith)))
    ∙ sym (firsts_yes q n i k t))
    (λ t. firsts_no p n i k (here ∙ t) ∙ from_cong p q n (suc i) (suc k) (λ j h l. e j (omega arith) (omega arith)) ∙ sym (firsts_no q n i k t))

-- two tests that agree below n have the same first ones
pub firsts_cong : (n k : ℕ) (p q : ℕ → Bool) → ((j : ℕ) → j < n → p j ≡ q j) → firsts n k p ≡ firsts n k q
unfolding firsts
firsts_cong n k p q e = from_cong p q n 0 k (λ j h l. e j (omega arith))

from_length : (p : ℕ → Bool) (n i k : ℕ) → k ≤ count n (λ (j : ℕ). p (i + j)) → length (firsts_from n i k p) ≡ k
unfolding firsts_from count
from_length p zero i k h = omega arith
from_length p (suc n) i zero h = refl
from_length p (suc n) i (suc k) h =
    let here : p (i + 0) ≡ p i = ap p (omega arith) in
    let shift : count n (λ (j : ℕ). p (i + suc j)) ≡ count n (λ (j : ℕ). p (suc i + j)) =
    count_cong n (λ (j : ℕ). p (i + suc j)) (λ (j : ℕ). p (suc i + j)) (λ j l. ap p (omega arith)) in
    by_test (p i)
    (λ t. ap length (firsts_yes p n i k t) ∙ ap suc (from_length p n (suc i) k (omega (arith, count_head_yes n (λ (j : ℕ). p (i + j)) (here ∙ t)))))
    (λ t. ap length (firsts_no p n i k t) ∙ from_length p n (suc i) (suc k) (omega (arith, count_head_no n (λ (j : ℕ). p (i + j)) (here ∙ t))))

-- where at least k numbers pass, there are k first ones
pub firsts_length : (n k : ℕ) (p : ℕ → Bool) → k ≤ count n p → length (firsts n k p) ≡ k
unfolding firsts
firsts_length n k p h =
    from_length p n 0 k
    (subst (λ (c : ℕ). k ≤ c) (count_cong n p (λ (j : ℕ). p (0 + j)) (λ j l. ap p (omega arith))) h)

-- where none are asked for, there are none
pub firsts_zero : (n i : ℕ) (p : ℕ → Bool) → firsts_from n i 0 p ≡ []
unfolding firsts_from
firsts_zero zero i p = refl
firsts_zero (suc n) i p = refl

from_most : (p : ℕ → Bool) (n i k : ℕ) → length (firsts_from n i k p) ≤ k
unfolding firsts_from
from_most p zero i k = omega arith
from_most p (suc n) i zero = omega arith
from_most p (suc n) i (suc k) =
    by_test (p i)
    (λ t. omega (arith, ap length (firsts_yes p n i k t), from_most p n (suc i) k))
    (λ t. omega (arith, ap length (firsts_no p n i k t), from_most p n (suc i) (suc k)))

-- there are never more than asked for
pub firsts_most : (n k : ℕ) (p : ℕ → Bool) → length (firsts n k p) ≤ k
unfolding firsts
firsts_most n k p = from_most p n 0 k

-- ---- which numbers are not among them

-- number b does not stand in the list
abbrev pub Avoids : ℕ → List ℕ → Type 0
Avoids b [] = Unit {0}
Avoids b (x ∷ xs) = (b ≢ x) × Avoids b xs

module _ (p : ℕ → Bool) where
  from_fails : (b : ℕ) → p b ≡ false → (n i k : ℕ) → Avoids b (firsts_from n i k p)
  unfolding firsts_from
  from_fails b e zero i k = tt
  from_fails b e (suc n) i zero = tt
  from_fails b e (suc n) i (suc k) =
      by_test (p i)
      (λ t. subst (Avoids b) (sym (firsts_yes p n i k t)) (λ z. true≢false (p i) t (ap p (sym z) ∙ e), from_fails b e n (suc i) k))
      (λ t. subst (Avoids b) (sym (firsts_no p n i k t)) (from_fails b e n (suc i) (suc k)))

  -- a number below the first that is asked is not among them
  pub from_below : (b n i k : ℕ) → b < i → Avoids b (firsts_from n i k p)
  unfolding firsts_from
  from_below b zero i k h = tt
  from_below b (suc n) i zero h = tt
  from_below b (suc n) i (suc k) h =
      by_test (p i)
      (λ t. subst (Avoids b) (sym (firsts_yes p n i k t)) (λ z. omega arith, from_below b n (suc i) k (omega arith)))
      (λ t. subst (Avoids b) (sym (firsts_no p n i k t)) (from_below b n (suc i) (suc k) (omega arith)))

  -- a number that fails is not among them
  pub firsts_fails : (b : ℕ) → p b ≡ false → (n k : ℕ) → Avoids b (firsts n k p)
  unfolding firsts
  firsts_fails b e n k = from_fails b e n 0 k

  -- from i on, the number m further
  from_beyond : (n i k m : ℕ) → k ≤ count m (λ (j : ℕ). p (i + j)) → Avoids (i + m) (firsts_from n i k p)
  unfolding firsts_from count
  from_beyond zero i k m h = tt
  from_beyond (suc n) i zero m h = tt
  from_beyond (suc n) i (suc k) zero h = absurd (omega arith)
  from_beyond (suc n) i (suc k) (suc m) h =
      let here : p (i + 0) ≡ p i = ap p (omega arith) in
      let next : suc i + m ≡ i + suc m = omega arith in
      let shift : count m (λ (j : ℕ). p (i + suc j)) ≡ count m (λ (j : ℕ). p (suc i + j)) =
      count_cong m (λ (j : ℕ). p (i + suc j)) (λ (j : ℕ). p (suc i + j)) (λ j l. ap p (omega arith)) in
      by_test (p i)
      (λ t.
      let rest : Avoids (suc i + m) (firsts_from n (suc i) k p) =
      from_beyond n (suc i) k m (omega (arith, count_head_yes m (λ (j : ℕ). p (i + j)) (here ∙ t))) in
      subst (Avoids (i + suc m)) (sym (firsts_yes p n i k t)) (λ z. omega arith, subst (λ (b : ℕ). Avoids b (firsts_from n (suc i) k p)) next rest))
      (λ t.
      let rest : Avoids (suc i + m) (firsts_from n (suc i) (suc k) p) =
      from_beyond n (suc i) (suc k) m (omega (arith, count_head_no m (λ (j : ℕ). p (i + j)) (here ∙ t))) in
      subst (Avoids (i + suc m)) (sym (firsts_no p n i k t)) (subst (λ (b : ℕ). Avoids b (firsts_from n (suc i) (suc k) p)) next rest))

  -- a number below which k pass is not among the first k
  pub firsts_beyond : (b n k : ℕ) → k ≤ count b p → Avoids b (firsts n k p)
  unfolding firsts
  firsts_beyond b n k h =
      let same : count b p ≡ count b (λ (j : ℕ). p (0 + j)) = count_cong b p (λ (j : ℕ). p (0 + j)) (λ j l. ap p (omega arith)) in
      let zeroth : 0 + b ≡ b = omega arith in
      subst (λ (x : ℕ). Avoids x (firsts_from n 0 k p)) zeroth (from_beyond n 0 k b (omega arith))
