-- Functions on numbers that are changed at one number, or at some numbers in a row; lists that are filled one element after the other.
-- Rests on the laws of tests.
use Rattle.std.specs.Prelude.{List, ◌≡◌, ◌≢◌, cond, ◌&&◌, ℕ, ◌+◌, ◌-◌, ◌≤◌, ◌<◌, leb, ltb, length, get_or, set}
use Rattle.std.proofs.Common.{sym, ap, ◌∙◌, arith, get_or-set_same, get_or-set_other}
use Rattle.std.proofs.Math.Path.{fun_ext}
use Rattle.laws.specs.Changes.{upd, patch}
use Rattle.laws.specs.Laws.Cases.{by_order, by_equal}
use Rattle.laws.specs.Laws.Tests.{lt_true, lt_false, le_true, le_false, eq_true, eq_false, cond_true, cond_false}
use Rattle.laws.specs.Laws.Tests.{and_true, and_false_left, and_false_right}

module _ {A : Type 0} (f : ℕ → A) (k : ℕ) (v : A) where
  -- at the number of the change stands the new value
  pub upd_same : (i : ℕ) → i ≡ k → upd f k v i ≡ v
  unfolding upd
  upd_same i e = cond_true v (f i) (eq_true e)

  -- at every other number stands the old value
  pub upd_other : (i : ℕ) → i ≢ k → upd f k v i ≡ f i
  unfolding upd
  upd_other i e = cond_false v (f i) (eq_false e)

-- of two changes at the same number the second remains
pub upd_twice : {A : Type 0} (f : ℕ → A) (k : ℕ) (v w : A) → upd (upd f k v) k w ≡ upd f k w
upd_twice f k v w =
    fun_ext (λ (i : ℕ).
    by_equal i k (λ q. upd_same (upd f k v) k w i q ∙ sym (upd_same f k w i q))
    (λ q. upd_other (upd f k v) k w i q ∙ upd_other f k v i q ∙ sym (upd_other f k w i q)))

module _ (d : ℕ → ℕ → ℕ) (k : ℕ) (g : ℕ → ℕ) (b o : ℕ) where
  -- on a disk, whose values are functions: in the changed block stands the new byte
  pub upd₂_same : b ≡ k → upd d k g b o ≡ g o
  upd₂_same e = ap (λ (f : ℕ → ℕ). f o) (upd_same d k g b e)

  -- on a disk, in every other block stands the old byte
  pub upd₂_other : b ≢ k → upd d k g b o ≡ d b o
  upd₂_other e = ap (λ (f : ℕ → ℕ). f o) (upd_other d k g b e)

module _ (f : ℕ → ℕ) (o n : ℕ) (g : ℕ → ℕ) (i : ℕ) where
  -- at a number that is written stands the new value
  pub patch_in : o ≤ i → i < o + n → patch f o n g i ≡ g (i - o)
  unfolding patch
  patch_in h k = cond_true (g (i - o)) (f i) (and_true (le_true h) (lt_true k))

  -- below the first number that is written stands the old value
  pub patch_below : i < o → patch f o n g i ≡ f i
  unfolding patch
  patch_below h = cond_false (g (i - o)) (f i) (and_false_left (ltb i (o + n)) (le_false h))

  -- above the last number that is written stands the old value
  pub patch_above : o + n ≤ i → patch f o n g i ≡ f i
  unfolding patch
  patch_above h = cond_false (g (i - o)) (f i) (and_false_right (leb o i) (lt_false h))

  -- a case split on where a number is: among those written, below or above them
  pub by_place : {X : Type 0} → (o ≤ i → i < o + n → X) → (i < o → X) → (o + n ≤ i → X) → X
  by_place inside below above = by_order i o below (λ h. by_order i (o + n) (inside h) above)

-- where two functions agree, they agree after the same values are written
pub patch_cong : (f f' : ℕ → ℕ) (o n : ℕ) (g : ℕ → ℕ) (i : ℕ) → f i ≡ f' i → patch f o n g i ≡ patch f' o n g i
unfolding patch
patch_cong f f' o n g i e = ap (λ (x : ℕ). cond (((leb o i) && (ltb i (o + n)))) (g (i - o)) x) e

-- of two rows written at the same numbers the second remains
pub patch_twice : (f : ℕ → ℕ) (o n : ℕ) (g g' : ℕ → ℕ) (i : ℕ) → patch (patch f o n g) o n g' i ≡ patch f o n g' i
patch_twice f o n g g' i =
    by_place f o n g i
    (λ a b. patch_in (patch f o n g) o n g' i a b ∙ sym (patch_in f o n g' i a b))
    (λ a. patch_below (patch f o n g) o n g' i a ∙ patch_below f o n g i a ∙ sym (patch_below f o n g' i a))
    (λ a. patch_above (patch f o n g) o n g' i a ∙ patch_above f o n g i a ∙ sym (patch_above f o n g' i a))

-- two rows of which the first is above the second may be written in either order
pub patch_swap : (f : ℕ → ℕ) (o n : ℕ) (g : ℕ → ℕ) (o' n' : ℕ) (g' : ℕ → ℕ) (i : ℕ) → o' + n' ≤ o
    → patch (patch f o n g) o' n' g' i ≡ patch (patch f o' n' g') o n g i
patch_swap f o n g o' n' g' i q =
    by_place f o' n' g' i
    (λ a b. patch_in (patch f o n g) o' n' g' i a b ∙ sym (patch_in f o' n' g' i a b) ∙ sym (patch_below (patch f o' n' g') o n g i (omega arith)))
    (λ a. patch_below (patch f o n g) o' n' g' i a ∙ patch_cong f (patch f o' n' g') o n g i (sym (patch_below f o' n' g' i a)))
    (λ a. patch_above (patch f o n g) o' n' g' i a ∙ patch_cong f (patch f o' n' g') o n g i (sym (patch_above f o' n' g' i a)))

-- a row and then its continuation after it are one longer row
pub patch_next : (f : ℕ → ℕ) (o n k : ℕ) (g h : ℕ → ℕ) → ((i : ℕ) → i < k → h i ≡ g (n + i)) → patch (patch f o n g) (o + n) k h ≡ patch f o (n + k) g
patch_next f o n k g h e =
    fun_ext (λ (i : ℕ).
    by_place (patch f o n g) (o + n) k h i
    (λ a b.
    let j : n + (i - (o + n)) ≡ i - o = omega arith in
    patch_in (patch f o n g) (o + n) k h i a b ∙ e (i - (o + n)) (omega arith) ∙ ap g j ∙ sym (patch_in f o (n + k) g i (omega arith) (omega arith)))
    (λ a. patch_below (patch f o n g) (o + n) k h i a
    ∙ by_place f o n g i
    (λ c b. patch_in f o n g i c b ∙ sym (patch_in f o (n + k) g i c (omega arith)))
    (λ c. patch_below f o n g i c ∙ sym (patch_below f o (n + k) g i c))
    (λ c. absurd (omega arith)))
    (λ a. patch_above (patch f o n g) (o + n) k h i a ∙ patch_above f o n g i (omega arith) ∙ sym (patch_above f o (n + k) g i (omega arith))))

-- one element more of a list by a rule: after those below k the one at k
pub element_more : {A : Type 0} (xs : List A) (none : A) (f : ℕ → A) (k : ℕ) (v : A) → k < length xs
    → ((i : ℕ) → i < k → get_or xs i none ≡ f i) → v ≡ f k → (i : ℕ) → i < k + 1 → get_or (set xs k v) i none ≡ f i
element_more xs none f k v l old e i h =
    by_equal i k (λ q. rw q (get_or-set_same xs k v none l ∙ e)) (λ q. get_or-set_other xs k i v none q ∙ old i (omega arith))
