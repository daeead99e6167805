-- Case splits: on a test, on the order of two numbers, on whether they are equal.
-- Rests on no other law.
use Rattle.std.specs.Prelude.{◌≡◌, refl, ◌≢◌, Bool, true, false, cond, ℕ, ◌<◌, ◌≤◌}
use Rattle.std.proofs.Common.{sym, arith}
use Rattle.std.proofs.lemmas.Bool.{false≢true}
use Rattle.std.proofs.Math.Decide.{dec_lt}

-- a case split on a test: it passed or it failed
pub by_test : {P : Type 0} (t : Bool) → (t ≡ true → P) → (t ≡ false → P) → P
by_test true f g = f refl
by_test false f g = g refl

-- what holds of each of two values, where the test passed and where it failed, holds of the one that the test decides for
pub by_cond : {A : Type 0} (P : A → Type 0) (t : Bool) (x y : A) → (t ≡ true → P x) → (t ≡ false → P y) → P (cond t x y)
by_cond P true x y f g = f refl
by_cond P false x y f g = g refl

-- the same of two tests that agree: what relates both pairs of values relates those that the tests decide for
pub by_both : {A B : Type 0} (R : A → B → Type 0) (t u : Bool) (x y : A) (v w : B) → t ≡ u
    → (t ≡ true → R x v) → (t ≡ false → R y w) → R (cond t x y) (cond u v w)
by_both R true true x y v w e f g = f refl
by_both R false false x y v w e f g = g refl
by_both R true false x y v w e f g = absurd (false≢true (sym e))
by_both R false true x y v w e f g = absurd (false≢true e)

-- a case split on the order of two numbers: i is below n or it is not
pub by_order : {P : Type 0} (i n : ℕ) → (i < n → P) → (n ≤ i → P) → P
by_order i n f g = elim (dec_lt i n) [ yes p ↦ f p | no q ↦ g (omega arith) ]

-- a case split on whether two numbers are equal
pub by_equal : {P : Type 0} (a b : ℕ) → (a ≡ b → P) → (a ≢ b → P) → P
by_equal a b f g =
    by_order a b (λ (l : a < b). g (λ (e : a ≡ b). omega arith))
    (λ (h : b ≤ a). by_order b a (λ (l : b < a). g (λ (e : a ≡ b). omega arith)) (λ (k : a ≤ b). f (omega arith)))
