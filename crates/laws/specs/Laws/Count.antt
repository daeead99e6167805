-- How many numbers below a bound pass a test, and sums over the numbers below a bound.
-- Rests on the laws of tests and of a function that is changed at one number.
use Rattle.std.specs.Prelude.{◌≡◌, refl, ◌≢◌, Bool, true, false, not, cond, ◌&&◌, ◌||◌, ℕ, zero, suc, ◌+◌, ◌*◌, ◌≤◌, ◌<◌}
use Rattle.std.proofs.Common.{sym, ap, ap₂, ◌∙◌, add-zero, add-suc, not-suc-le-zero, arith, lit≤}
use Rattle.laws.specs.Below.{count, sum}
use Rattle.laws.specs.Changes.{upd}
use Rattle.laws.specs.Laws.Cases.{by_test, by_order, by_equal}
use Rattle.laws.specs.Laws.Tests.{cond_true, cond_false, and_not, or_left, or_right, or_none}
use Rattle.laws.specs.Laws.Changes.{upd_same, upd_other}

-- two tests that agree below n have the same count
pub count_cong : (n : ℕ) (p q : ℕ → Bool) → ((i : ℕ) → i < n → p i ≡ q i) → count n p ≡ count n q
unfolding count
count_cong zero p q e = refl
count_cong (suc n) p q e =
    ap₂ (λ (b : Bool) (c : ℕ). cond b (suc c) c) (e n (omega arith)) (count_cong n p q (λ i h. e i (omega arith)))

-- a number that passes counts one more
pub count_yes : (n : ℕ) (p : ℕ → Bool) → p n ≡ true → count (suc n) p ≡ suc (count n p)
unfolding count
count_yes n p e = cond_true (suc (count n p)) (count n p) e

-- a number that fails counts nothing
pub count_no : (n : ℕ) (p : ℕ → Bool) → p n ≡ false → count (suc n) p ≡ count n p
unfolding count
count_no n p e = cond_false (suc (count n p)) (count n p) e

-- where no number below n passes, the count is 0
pub count_none : (n : ℕ) (p : ℕ → Bool) → ((i : ℕ) → i < n → p i ≡ false) → count n p ≡ 0
unfolding count
count_none zero p e = refl
count_none (suc n) p e = count_no n p (e n (omega arith)) ∙ count_none n p (λ i h. e i (omega arith))

-- where q passes as p does, but fails at a number where p passes, p counts one more than q
pub count_drop : (n i : ℕ) (p q : ℕ → Bool) → i < n → p i ≡ true → q i ≡ false → ((j : ℕ) → j < n → j ≢ i → p j ≡ q j) → count n p ≡ suc (count n q)
count_drop zero i p q h a b e = absurd (not-suc-le-zero h)
count_drop (suc n) i p q h a b e =
    by_equal n i
    (λ r. count_yes n p (ap p r ∙ a) ∙ ap suc (count_cong n p q (λ j l. e j (omega arith) (omega arith)) ∙ sym (count_no n q (ap q r ∙ b))))
    (λ r.
    let ih : count n p ≡ suc (count n q) = count_drop n i p q (omega arith) a b (λ j l. e j (omega arith)) in
    let same-n : p n ≡ q n = e n (omega arith) r in
    by_test (q n)
    (λ t. count_yes n p (same-n ∙ t) ∙ ap suc (ih ∙ sym (count_yes n q t)))
    (λ t. count_no n p (same-n ∙ t) ∙ ih ∙ ap suc (sym (count_no n q t))))

-- where q passes as p does but for one number, p counts at most one more than q
pub count_but_one : (n i : ℕ) (p q : ℕ → Bool) → ((j : ℕ) → j < n → j ≢ i → p j ≡ q j) → count n p ≤ count n q + 1
unfolding count
count_but_one zero i p q e = omega arith
count_but_one (suc n) i p q e =
    by_equal n i
    (λ r.
    let below : count n p ≡ count n q = count_cong n p q (λ j l. e j (omega arith) (omega arith)) in
    by_test (p n)
    (λ t. by_test (q n) (λ u. omega (arith, count_yes n p t, count_yes n q u)) (λ u. omega (arith, count_yes n p t, count_no n q u)))
    (λ t. by_test (q n) (λ u. omega (arith, count_no n p t, count_yes n q u)) (λ u. omega (arith, count_no n p t, count_no n q u))))
    (λ r.
    let ih : count n p ≤ count n q + 1 = count_but_one n i p q (λ j l. e j (omega arith)) in
    let same-n : p n ≡ q n = e n (omega arith) r in
    by_test (q n)
    (λ t. omega (arith, count_yes n p (same-n ∙ t), count_yes n q t))
    (λ t. omega (arith, count_no n p (same-n ∙ t), count_no n q t)))

-- where the count is 0, every number fails
pub count_zero : (n : ℕ) (p : ℕ → Bool) → count n p ≡ 0 → (i : ℕ) → i < n → p i ≡ false
count_zero zero p e i h = absurd (not-suc-le-zero h)
count_zero (suc n) p e i h =
    by_test (p n)
    (λ t. absurd (omega (arith, count_yes n p t)))
    (λ t. by_equal i n (λ q. ap p q ∙ t) (λ q. count_zero n p (omega (arith, count_no n p t)) i (omega arith)))

-- where it is not 0, there is a lowest number that passes
pub count_first : (n : ℕ) (p : ℕ → Bool) → 1 ≤ count n p → (x : ℕ) × (x < n) × (p x ≡ true) × (count x p ≡ 0)
unfolding count
count_first zero p h = absurd (omega arith)
count_first (suc n) p h =
    by_order 0 (count n p)
    (λ q. let w = count_first n p q in (w.0, omega (arith, w.1), w.2, w.3))
    (λ q. by_test (p n) (λ t. (n, omega arith, t, omega arith)) (λ t. absurd (omega (arith, count_no n p t))))

-- the count grows with the bound
pub count_more : (n i : ℕ) (p : ℕ → Bool) → i ≤ n → count i p ≤ count n p
count_more zero i p h = let z : i ≡ 0 = omega arith in omega (arith, ap (λ (x : ℕ). count x p) z)
count_more (suc n) i p h =
    by_equal i (suc n)
    (λ z. omega (arith, ap (λ (x : ℕ). count x p) z))
    (λ z. by_test (p n)
    (λ t. omega (arith, count_yes n p t, count_more n i p (omega arith)))
    (λ t. omega (arith, count_no n p t, count_more n i p (omega arith))))

-- numbers that pass and numbers that fail are all numbers below n
pub count_not : (n : ℕ) (p : ℕ → Bool) → count n (λ (i : ℕ). not (p i)) + count n p ≡ n
unfolding count
count_not zero p = refl
count_not (suc n) p =
    by_test (p n)
    (λ t. omega (arith, count_no n (λ (i : ℕ). not (p i)) (ap not t), count_yes n p t, count_not n p))
    (λ t. omega (arith, count_yes n (λ (i : ℕ). not (p i)) (ap not t), count_no n p t, count_not n p))

-- where one number alone below n passes, the count is 1
pub count_one : (n i : ℕ) (p : ℕ → Bool) → i < n → p i ≡ true → ((j : ℕ) → j < n → p j ≡ true → j ≡ i) → count n p ≡ 1
count_one n i p h a u =
    count_drop n i p (λ (j : ℕ). false) h a refl (λ j l r. by_test (p j) (λ t. absurd (r (u j l t))) (λ t. t))
    ∙ ap suc (count_none n (λ (j : ℕ). false) (λ j l. refl))

-- the count of a disjunction of two tests that never both pass is the sum of their counts
pub count_or : (n : ℕ) (p q : ℕ → Bool) → ((i : ℕ) → i < n → (p i && q i) ≡ false) → count n (λ (i : ℕ). (p i || q i)) ≡ count n p + count n q
unfolding count
count_or zero p q e = refl
count_or (suc n) p q e =
    let ih : count n (λ (i : ℕ). (p i || q i)) ≡ count n p + count n q = count_or n p q (λ i h. e i (omega arith)) in
    by_test (p n)
    (λ a.
    let b : q n ≡ false = and_not (p n) (q n) a (e n (omega arith)) in
    let y : (p n || q n) ≡ true = or_left (p n) (q n) a in
    omega (arith, count_yes n (λ (i : ℕ). (p i || q i)) y, count_yes n p a, count_no n q b))
    (λ a. by_test (q n)
    (λ b. omega (arith, count_yes n (λ (i : ℕ). (p i || q i)) (or_right (p n) (q n) b), count_no n p a, count_yes n q b))
    (λ b. omega (arith, count_no n (λ (i : ℕ). (p i || q i)) (or_none (p n) (q n) a b), count_no n p a, count_no n q b)))

-- the count is at most n
pub count_le : (n : ℕ) (p : ℕ → Bool) → count n p ≤ n
unfolding count
count_le zero p = omega arith
count_le (suc n) p = by_test (p n) (λ e. omega (arith, count_yes n p e, count_le n p)) (λ e. omega (arith, count_no n p e, count_le n p))

-- where 0 fails and 1 to n pass, the count below n + 1 is n
pub count_but_zero : (n : ℕ) (p : ℕ → Bool) → p 0 ≡ false → ((j : ℕ) → 0 < j → j ≤ n → p j ≡ true) → count (suc n) p ≡ n
unfolding count
count_but_zero zero p z e = count_no 0 p z
count_but_zero (suc n) p z e = count_yes (suc n) p (e (suc n) (omega arith) (omega arith)) ∙ ap suc (count_but_zero n p z (λ j h l. e j h (omega arith)))

-- where two numbers below n fail, the count is at most n - 2
pub count_two_out : (n i j : ℕ) (p : ℕ → Bool) → i < n → j < n → i ≢ j → p i ≡ false → p j ≡ false → count n p + 2 ≤ n
count_two_out n i j p hi hj q ei ej =
    let p₁ : ℕ → Bool = upd p i true in
    let p₂ : ℕ → Bool = upd p₁ j true in
    let c₁ : count n p₁ ≡ suc (count n p) =
    count_drop n i p₁ p hi (upd_same p i true i refl) ei (λ l h r. upd_other p i true l r) in
    let c₂ : count n p₂ ≡ suc (count n p₁) =
    count_drop n j p₂ p₁ hj (upd_same p₁ j true j refl) (upd_other p i true j (omega arith) ∙ ej) (λ l h r. upd_other p₁ j true l r) in
    omega (arith, count_le n p₂)

-- where 0 passes, the count is one more than that of the numbers above 0
pub count_head_yes : (n : ℕ) (p : ℕ → Bool) → p 0 ≡ true → count (suc n) p ≡ suc (count n (λ (j : ℕ). p (suc j)))
unfolding count
count_head_yes zero p e = count_yes 0 p e
count_head_yes (suc n) p e =
    by_test (p (suc n))
    (λ t. count_yes (suc n) p t ∙ ap suc (count_head_yes n p e ∙ sym (count_yes n (λ (j : ℕ). p (suc j)) t)))
    (λ t. count_no (suc n) p t ∙ count_head_yes n p e ∙ ap suc (sym (count_no n (λ (j : ℕ). p (suc j)) t)))

-- where 0 fails, the count is that of the numbers above 0
pub count_head_no : (n : ℕ) (p : ℕ → Bool) → p 0 ≡ false → count (suc n) p ≡ count n (λ (j : ℕ). p (suc j))
unfolding count
count_head_no zero p e = count_no 0 p e
count_head_no (suc n) p e =
    by_test (p (suc n))
    (λ t. count_yes (suc n) p t ∙ ap suc (count_head_no n p e) ∙ sym (count_yes n (λ (j : ℕ). p (suc j)) t))
    (λ t. count_no (suc n) p t ∙ count_head_no n p e ∙ sym (count_no n (λ (j : ℕ). p (suc j)) t))

-- from a on, none of the next b numbers passes, or at most one
module _ (p : ℕ → Bool) (a : ℕ) where
  -- where none of the next b numbers passes, the count stays
  pub count_still : (b : ℕ) → ((x : ℕ) → a ≤ x → x < a + b → p x ≡ false) → count (a + b) p ≡ count a p
  count_still zero h = ap (λ (n : ℕ). count n p) (add-zero a)
  count_still (suc b) h =
      ap (λ (n : ℕ). count n p) (add-suc a b) ∙ count_no (a + b) p (h (a + b) (omega arith) (omega arith))
      ∙ count_still b (λ x l m. h x l (omega arith))

  -- where at most one of the next b numbers passes, the count grows by at most 1
  pub count_once : (b : ℕ) → ((x y : ℕ) → a ≤ x → x < a + b → a ≤ y → y < a + b → p x ≡ true → p y ≡ true → x ≡ y) → count (a + b) p ≤ count a p + 1
  count_once zero h = omega (arith, ap (λ (n : ℕ). count n p) (add-zero a))
  count_once (suc b) h =
      by_test (p (a + b))
      (λ t.
      let z : count (a + b) p ≡ count a p =
      count_still b
      (λ x l m. by_test (p x)
      (λ u. let q : x ≡ a + b = h x (a + b) l (omega arith) (omega arith) (omega arith) u t in absurd (omega arith)) (λ u. u)) in
      omega (arith, ap (λ (n : ℕ). count n p) (add-suc a b), count_yes (a + b) p t))
      (λ t.
      omega (
        arith,
        ap (λ (n : ℕ). count n p) (add-suc a b),
        count_no (a + b) p t,
        count_once b (λ x y l m l' m' u v. h x y l (omega arith) l' (omega arith) u v),
      ))

-- where at most one number of each of m rows of b numbers passes, the count is at most m
pub count_blocks : (p : ℕ → Bool) (b m : ℕ) → ((k x y : ℕ) → k < m → k * b ≤ x → x < k * b + b → k * b ≤ y → y < k * b + b → p x ≡ true → p y ≡ true → x ≡ y)
    → count (m * b) p ≤ m
unfolding count
count_blocks p b zero h = let e : 0 * b ≡ 0 = omega arith in rw e (lit≤ tt)
count_blocks p b (suc m) h =
    let e : suc m * b ≡ m * b + b = omega arith in
    omega (arith, ap (λ (n : ℕ). count n p) e, count_once p (m * b) b (λ x y. h m x y (omega arith)), count_blocks p b m (λ k x y l. h k x y (omega arith)))

-- ---- sums

-- two functions that agree below n have the same sum
pub sum_cong : (n : ℕ) (f g : ℕ → ℕ) → ((i : ℕ) → i < n → f i ≡ g i) → sum n f ≡ sum n g
unfolding sum
sum_cong zero f g e = refl
sum_cong (suc n) f g e = ap₂ (λ (x y : ℕ). x + y) (sum_cong n f g (λ i h. e i (omega arith))) (e n (omega arith))

-- each value is at most the sum
pub sum_at : (n k : ℕ) (f : ℕ → ℕ) → k < n → f k ≤ sum n f
unfolding sum
sum_at zero k f h = absurd (not-suc-le-zero h)
sum_at (suc n) k f h = by_equal k n (λ r. omega (arith, ap f r)) (λ r. omega (arith, sum_at n k f (omega arith)))

-- where f and g differ at k alone, their sums differ as their values there do
pub sum_change : (n k : ℕ) (f g : ℕ → ℕ) → k < n → ((j : ℕ) → j < n → j ≢ k → f j ≡ g j) → sum n f + g k ≡ sum n g + f k
unfolding sum
sum_change zero k f g h e = absurd (not-suc-le-zero h)
sum_change (suc n) k f g h e =
    by_equal n k
    (λ r.
    let low : sum n f ≡ sum n g = sum_cong n f g (λ j l. e j (omega arith) (omega arith)) in
    omega (arith, ap f r, ap g r))
    (λ r.
    let ih : sum n f + g k ≡ sum n g + f k = sum_change n k f g (omega arith) (λ j l. e j (omega arith)) in
    omega (arith, e n (omega arith) r))

-- the sum of zeros is 0
pub sum_none : (n : ℕ) (f : ℕ → ℕ) → ((i : ℕ) → i < n → f i ≡ 0) → sum n f ≡ 0
unfolding sum
sum_none zero f e = refl
sum_none (suc n) f e = omega (arith, sum_none n f (λ i h. e i (omega arith)), e n (omega arith))
