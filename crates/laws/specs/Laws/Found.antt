-- What searches and counts of the library give, in the words of Below and Found.
-- Rests on the laws of the lowest number, of counts and of what all numbers pass.
use Rattle.std.specs.Prelude.{◌≡◌, refl, Bool, true, false, cond, Option, Some, None, List, [], ◌∷◌, ℕ, zero, suc, ◌+◌, ◌≤◌, ◌<◌, ◌&&◌, length, get_or, take}
use Rattle.std.specs.List.{position, count_by, list_all}
use Rattle.std.proofs.Common.{sym, ap, ◌∙◌, arith}
use Rattle.std.proofs.lemmas.List.Recursion.{is_position_or_len, is_count_by}
use Rattle.laws.specs.Below.{all, lowest, count, first_below}
use Rattle.laws.specs.Found.{below, IsLowestFrom}
use Rattle.laws.specs.Laws.Cases.{by_test, by_order, by_equal}
use Rattle.laws.specs.Laws.Tests.{lt_true, lt_false, cond_true, cond_false}
use Rattle.laws.specs.Laws.All.{all_front}
use Rattle.laws.specs.Laws.Lowest.{lowest_some, lowest_none, lowest_le, lowest_hit, lowest_low}
use Rattle.laws.specs.Laws.FirstBelow.{first_below_told}
use Rattle.laws.specs.Laws.Count.{count_head_yes, count_head_no}

-- ---- a number that may be absent

-- a number below the bound is there
pub below_there : (n m : ℕ) → m < n → below n m ≡ Some m
unfolding below
below_there n m h = cond_true (Some m) None (lt_true h)

-- a number from the bound on is not
pub below_absent : (n m : ℕ) → n ≤ m → below n m ≡ None
unfolding below
below_absent n m h = cond_false (Some m) None (lt_false h)

-- the one that is there is the number, and below the bound
pub below_told : (n m i : ℕ) → below n m ≡ Some i → (m ≡ i) × (i < n)
below_told n m i e =
    by_order m n
    (λ h. let f : Some m ≡ Some i = sym (below_there n m h) ∙ e in let g : m ≡ i = cc in (g, omega arith))
    (λ h. let f : ◌≡◌ {A = Option ℕ} None (Some i) = sym (below_absent n m h) ∙ e in absurd (cc))

-- where none is there, the number is not below the bound
pub below_untold : (n m : ℕ) → below n m ≡ None → n ≤ m
below_untold n m e =
    by_order m n
    (λ h. let f : ◌≡◌ {A = Option ℕ} (Some m) None = sym (below_there n m h) ∙ e in absurd (cc))
    (λ h. h)

-- ---- searches

-- the lowest that passes is one that may be absent
pub first_is_below : (p : ℕ → Bool) (n : ℕ) → first_below p n ≡ below n (lowest p n)
unfolding first_below below
first_is_below p n = refl

module _ (p : ℕ → Bool) (n : ℕ) where
  -- from n on there is none
  pub lowest_from_end : (k : ℕ) → n ≤ k → IsLowestFrom p k n None
  lowest_from_end k h = record { told = λ j l m. absurd (omega arith) }

  -- a number that passes is the lowest from itself on
  pub lowest_from_here : (k : ℕ) → k < n → p k ≡ true → IsLowestFrom p k n (Some k)
  lowest_from_here k h t = record { told = (omega arith, h, t, λ j l m. absurd (omega arith)) }

  -- before a number that does not pass the lowest is the same
  pub lowest_from_past : (k : ℕ) (r : Option ℕ) → p k ≡ false → IsLowestFrom p (k + 1) n r → IsLowestFrom p k n r
  lowest_from_past k None t h = record { told = λ j l m. by_equal j k (λ e. ap p e ∙ t) (λ e. h.told j (omega arith) m) }
  lowest_from_past k (Some i) t h =
      record {
        told = (
          omega (arith, h.told.0),
          h.told.1,
          h.told.2,
          λ j l m. by_equal j k (λ e. ap p e ∙ t) (λ e. h.told.3 j (omega arith) m),
        );
      }

  -- from 0 on it is the lowest of all
  pub lowest_from_all : (r : Option ℕ) → IsLowestFrom p 0 n r → r ≡ first_below p n
  lowest_from_all r h = first_below_told p n r h.told

lowest_front : (p : ℕ → Bool) (n : ℕ) → lowest p (suc n) ≡ cond (p 0) 0 (1 + lowest (λ (k : ℕ). p (suc k)) n)
lowest_front p n =
    let m : ℕ = lowest (λ (k : ℕ). p (suc k)) n in
    by_test (p 0)
    (λ t. lowest_some p (suc n) 0 (omega arith) (λ k l. absurd (omega arith)) t ∙ sym (cond_true 0 (1 + m) t))
    (λ t.
    by_order m n
    (λ h. lowest_some p (suc n) (suc m) (omega arith) (low t) (lowest_hit (λ (k : ℕ). p (suc k)) n h))
    (λ h. lowest_none p (suc n) (λ k l. low t k (omega arith)) ∙ omega (arith, lowest_le (λ (k : ℕ). p (suc k)) n))
    ∙ omega arith
    ∙ sym (cond_false 0 (1 + m) t))
  where
    low : p 0 ≡ false → (k : ℕ) → k < suc (lowest (λ (i : ℕ). p (suc i)) n) → p k ≡ false
    low t zero l = t
    low t (suc k) l = lowest_low (λ (i : ℕ). p (suc i)) n k (omega arith)

-- the place of the first element that passes is the lowest that does
pub position_is : {X : Type 0} (p : X → Bool) (xs : List X) (d : X) → position p xs ≡ first_below (λ (i : ℕ). p (get_or xs i d)) (length xs)
unfolding first_below lowest
position_is {X} p xs d =
    let e = is_position_or_len (λ (ys : List X). lowest (λ (i : ℕ). p (get_or ys i d)) (length ys)) p refl
    (λ y ys. lowest_front (λ (i : ℕ). p (get_or (y ∷ ys) i d)) (length ys)) xs in
    rw e

-- ---- counts and tests of all

count_front : (p : ℕ → Bool) (n : ℕ) → count (suc n) p ≡ cond (p 0) (1 + count n (λ (i : ℕ). p (suc i))) (count n (λ (i : ℕ). p (suc i)))
count_front p n =
    let c : ℕ = count n (λ (i : ℕ). p (suc i)) in
    by_test (p 0)
    (λ t. let e : count (suc n) p ≡ 1 + c = omega (arith, count_head_yes n p t) in e ∙ sym (cond_true (1 + c) c t))
    (λ t. count_head_no n p t ∙ sym (cond_false (1 + c) c t))

-- how many elements pass is how many numbers below the length do
pub count_by_is : {X : Type 0} (p : X → Bool) (xs : List X) (d : X) → count_by p xs ≡ count (length xs) (λ (i : ℕ). p (get_or xs i d))
unfolding count
count_by_is {X} p xs d =
    sym (is_count_by (λ (ys : List X). count (length ys) (λ (i : ℕ). p (get_or ys i d))) p refl
    (λ y ys. count_front (λ (i : ℕ). p (get_or (y ∷ ys) i d)) (length ys)) xs)

-- whether the first n elements all pass is whether all numbers below n do
pub all_first : {X : Type 0} (p : X → Bool) (n : ℕ) (xs : List X) (d : X) → n ≤ length xs → list_all p (take n xs) ≡ all (λ (i : ℕ). p (get_or xs i d)) n
unfolding all
all_first p zero xs d h = refl
all_first p (suc n) [] d h = absurd (omega arith)
all_first p (suc n) (x ∷ xs) d h =
    ap (λ (t : Bool). p x && t) (all_first p n xs d (omega arith)) ∙ sym (all_front (λ (i : ℕ). p (get_or (x ∷ xs) i d)) n)
