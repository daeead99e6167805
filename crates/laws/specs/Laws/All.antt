-- What holds of every number below a bound: as a test, by one computation, and pointwise.
-- Rests on the laws of tests.
use Rattle.std.specs.Prelude.{◌≡◌, refl, Bool, true, false, ◌&&◌, ℕ, zero, suc, ◌<◌, eqb, ltb}
use Rattle.std.proofs.Common.{sym, ap, ◌∙◌, subst, ⊎_elim, le_of_suc-le-suc, not-suc-le-zero, eq-or-lt_of_le, arith, eqb-true, ltb-true}
use Rattle.laws.specs.Below.{all}
use Rattle.laws.specs.Laws.Cases.{by_test}
use Rattle.laws.specs.Laws.Tests.{and_left, and_right, and_true, true≢false}

-- where the test passes at all numbers below n, it passes at each of them
pub all_at : (f : ℕ → Bool) (n : ℕ) → all f n ≡ true → (k : ℕ) → k < n → f k ≡ true
unfolding all
all_at f zero t k h = absurd (not-suc-le-zero h)
all_at f (suc n) t k h =
    ⊎_elim
    (λ (e : k ≡ n). subst (λ (m : ℕ). f m ≡ true) (sym e) (and_left (f n) (all f n) t))
    (λ (l : k < n). all_at f n (and_right (f n) (all f n) t) k l)
    (eq-or-lt_of_le (le_of_suc-le-suc h))

-- where the test passes at each number below n, it passes at all
pub all_is : (f : ℕ → Bool) (n : ℕ) → ((k : ℕ) → k < n → f k ≡ true) → all f n ≡ true
unfolding all
all_is f zero h = refl
all_is f (suc n) h = and_true {a = f n} {b = all f n} (h n (omega arith)) (all_is f n (λ k l. h k (omega arith)))

-- where the test says that f and g are equal at all numbers below n, they are equal at each
pub all_eq : (f g : ℕ → ℕ) (n : ℕ) → all (λ (k : ℕ). eqb (f k) (g k)) n ≡ true → (k : ℕ) → k < n → f k ≡ g k
all_eq f g n t k h = eqb-true (f k) (g k) (all_at (λ (i : ℕ). eqb (f i) (g i)) n t k h)

-- where the test says that f is below g at all numbers below n, it is below at each
pub all_lt : (f g : ℕ → ℕ) (n : ℕ) → all (λ (k : ℕ). ltb (f k) (g k)) n ≡ true → (k : ℕ) → k < n → f k < g k
all_lt f g n t k h = ltb-true (f k) (g k) (all_at (λ (i : ℕ). ltb (f i) (g i)) n t k h)

-- where one number below n fails, not all pass
pub all_false : (p : ℕ → Bool) (n i : ℕ) → i < n → p i ≡ false → all p n ≡ false
all_false p n i h e = by_test (all p n) (λ t. true≢false (p i) (all_at p n t i h) e) (λ t. t)

and_swap : (a b c : Bool) → (a && (b && c)) ≡ (b && (a && c))
and_swap true true c = refl
and_swap true false c = refl
and_swap false true c = refl
and_swap false false c = refl

-- of the numbers below n + 1, the first and those after it
pub all_front : (p : ℕ → Bool) (n : ℕ) → all p (suc n) ≡ (p 0 && all (λ (k : ℕ). p (suc k)) n)
unfolding all
all_front p zero = refl
all_front p (suc n) = ap (λ (t : Bool). p (suc n) && t) (all_front p n) ∙ and_swap (p (suc n)) (p 0) (all (λ (k : ℕ). p (suc k)) n)
