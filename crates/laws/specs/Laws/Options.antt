-- The first value that is there of several that may be absent.
-- Rests on the case splits.
use Rattle.std.proofs.Math.Option.{Option, none, some}
use Rattle.std.proofs.Math.Path.{◌≡◌, refl, ap, sym}
use Rattle.std.proofs.Common.{◌∙◌}
use Prim.Native.Nat.{ℕ, zero, suc, ◌+◌, ◌<◌}
use Rattle.std.proofs.Math.Numerals.{add-one}
use native.Mathlib.Omega.{arith}
use Rattle.laws.specs.Options.{or_else, first_some}
use Rattle.laws.specs.Laws.Cases.{by_equal}

-- where the first is absent it is the second
pub or_absent : {A : Type 0} (x y : Option A) → x ≡ none → or_else x y ≡ y
unfolding or_else
or_absent x y e = rw e

-- where the first is there it is the first
pub or_there : {A : Type 0} (x y : Option A) (a : A) → x ≡ some a → or_else x y ≡ some a
unfolding or_else
or_there x y a e = rw e

or_left_absent : {A : Type 0} (x y : Option A) → or_else x y ≡ none → x ≡ none
unfolding or_else
or_left_absent none y e = refl
or_left_absent (some a) y e = e

either : {A : Type 0} {P : Type 0} (x y : Option A) (a : A) → or_else x y ≡ some a → (x ≡ some a → P) → (y ≡ some a → P) → P
unfolding or_else
either none y a e f g = g e
either (some b) y a e f g = f e

module _ {A : Type 0} (f : ℕ → Option A) where
  -- where none of the n first is there and the next is not, none of n + 1 is
  pub first_some_next : (n : ℕ) → first_some f n ≡ none → f n ≡ none → first_some f (n + 1) ≡ none
  unfolding first_some
  first_some_next n e g = rw add-one (or_absent (first_some f n) (f n) e ∙ g)

  -- where none of the k first is there and the next is, it is the first of all
  pub first_some_found : (n k : ℕ) (a : A) → k < n → first_some f k ≡ none → f k ≡ some a → first_some f n ≡ some a
  unfolding first_some
  first_some_found zero k a l e g = absurd (omega arith)
  first_some_found (suc n) k a l e g =
      by_equal k n
      (λ q. or_absent (first_some f n) (f n) (ap (first_some f) (sym q) ∙ e) ∙ ap f (sym q) ∙ g)
      (λ q. or_there (first_some f n) (f n) a (first_some_found n k a (omega arith) e g))

  -- where each is absent, there is no first
  pub first_some_none : (n : ℕ) → ((k : ℕ) → k < n → f k ≡ none) → first_some f n ≡ none
  unfolding first_some
  first_some_none zero h = refl
  first_some_none (suc n) h = or_absent (first_some f n) (f n) (first_some_none n (λ k l. h k (omega arith))) ∙ h n (omega arith)

  -- the first that is there is one of them
  pub first_some_told : (n : ℕ) (a : A) → first_some f n ≡ some a → (k : ℕ) × (k < n) × (f k ≡ some a)
  unfolding first_some
  first_some_told zero a e = let z : ◌≡◌ {A = ℕ} 0 1 = cc in absurd (omega arith)
  first_some_told (suc n) a e =
      either (first_some f n) (f n) a e
      (λ q. let w = first_some_told n a q in (w.0, omega (arith, w.1), w.2))
      (λ q. (n, omega arith, q))

  -- where there is no first, each is absent
  pub first_some_each : (n : ℕ) → first_some f n ≡ none → (k : ℕ) → k < n → f k ≡ none
  unfolding first_some
  first_some_each zero e k l = absurd (omega arith)
  first_some_each (suc n) e k l =
      by_equal k n
      (λ q. ap f q ∙ sym (or_absent (first_some f n) (f n) (or_left_absent (first_some f n) (f n) e)) ∙ e)
      (λ q. first_some_each n (or_left_absent (first_some f n) (f n) e) k (omega arith))
