-- Tests as equations: what a test that passed or failed says, and what a conditional is then.
-- Rests on the case splits.
use Rattle.std.specs.Prelude.{◌≡◌, refl, ◌≢◌, Bool, true, false, not, cond, ◌&&◌, ◌||◌, ℕ, ◌≤◌, ◌<◌, T, leb, ltb, eqb}
use Rattle.std.proofs.Common.{sym, ap, ◌∙◌, subst}
use Rattle.std.proofs.lemmas.Bool.{false≢true}
use Rattle.std.proofs.Math.Facts.{yes_ltb, no_ltb, yes_leb, no_leb, yes_eqb, no_eqb, ltb_yes, ltb_no, leb_yes, eqb_yes, eqb_no}
use Rattle.laws.specs.Laws.Cases.{by_test}

yes_true : (b : Bool) → T b → b ≡ true
yes_true true t = refl
yes_true false t = absurd t

no_false : (b : Bool) → T (not b) → b ≡ false
no_false true t = absurd t
no_false false t = refl

true_yes : (b : Bool) → b ≡ true → T b
true_yes b e = subst T (sym e) tt

false_no : (b : Bool) → b ≡ false → T (not b)
false_no b e = subst (λ (x : Bool). T (not x)) (sym e) tt

module _ {a b : ℕ} where
  -- where a is below b, the test whether it is passes
  pub lt_true : a < b → ltb a b ≡ true
  lt_true h = yes_true (ltb a b) (yes_ltb h)

  -- where a is not below b, the test whether it is fails
  pub lt_false : b ≤ a → ltb a b ≡ false
  lt_false h = no_false (ltb a b) (no_ltb h)

  -- where a is at most b, the test whether it is passes
  pub le_true : a ≤ b → leb a b ≡ true
  le_true h = yes_true (leb a b) (yes_leb h)

  -- where a is above b, the test whether it is at most b fails
  pub le_false : b < a → leb a b ≡ false
  le_false h = no_false (leb a b) (no_leb h)

  -- the test of equal numbers passes
  pub eq_true : a ≡ b → eqb a b ≡ true
  eq_true h = yes_true (eqb a b) (yes_eqb h)

  -- the test of different numbers fails
  pub eq_false : a ≢ b → eqb a b ≡ false
  eq_false h = no_false (eqb a b) (no_eqb h)

  -- where the test passed, a is below b
  pub true_lt : ltb a b ≡ true → a < b
  true_lt e = ltb_yes (true_yes (ltb a b) e)

  -- where the test failed, a is not below b
  pub false_lt : ltb a b ≡ false → b ≤ a
  false_lt e = ltb_no (false_no (ltb a b) e)

  -- where the test passed, a is at most b
  pub true_le : leb a b ≡ true → a ≤ b
  true_le e = leb_yes (true_yes (leb a b) e)

  -- where the test passed, the numbers are equal
  pub true_eq : eqb a b ≡ true → a ≡ b
  true_eq e = eqb_yes (true_yes (eqb a b) e)

  -- where the test failed, the numbers are different
  pub false_eq : eqb a b ≡ false → a ≢ b
  false_eq e = eqb_no (false_no (eqb a b) e)

-- no test both passes and fails
pub true≢false {ℓ} : {X : Type ℓ} (b : Bool) → b ≡ true → b ≡ false → X
true≢false b p q = absurd (subst T (sym p ∙ q) tt)

-- where the negation of a test passes, the test fails
pub not_was : (b : Bool) → not b ≡ true → b ≡ false
not_was true e = sym e
not_was false e = refl

-- a conditional whose test passes is its first value
pub cond_true {ℓ} : {X : Type ℓ} {b : Bool} (x y : X) → b ≡ true → cond b x y ≡ x
cond_true {X = X} x y e = ap (λ (c : Bool). cond {A = X} c x y) e

-- a conditional whose test fails is its second value
pub cond_false {ℓ} : {X : Type ℓ} {b : Bool} (x y : X) → b ≡ false → cond b x y ≡ y
cond_false {X = X} x y e = ap (λ (c : Bool). cond {A = X} c x y) e

-- a conjunction of two tests that pass passes
pub and_true : {a b : Bool} → a ≡ true → b ≡ true → (a && b) ≡ true
and_true {b = b} p q = ap (λ (c : Bool). c && b) p ∙ q

-- a conjunction whose first test fails fails
pub and_false_left : {a : Bool} (b : Bool) → a ≡ false → (a && b) ≡ false
and_false_left b p = ap (λ (c : Bool). c && b) p

-- a conjunction whose second test fails fails
pub and_false_right : (a : Bool) {b : Bool} → b ≡ false → (a && b) ≡ false
and_false_right true p = p
and_false_right false p = refl

-- where a conjunction fails and its first test passes, its second test fails
pub and_not : (a b : Bool) → a ≡ true → (a && b) ≡ false → b ≡ false
and_not true b e f = f
and_not false b e f = true≢false false e refl

-- a disjunction whose first test passes passes
pub or_left : (a b : Bool) → a ≡ true → (a || b) ≡ true
or_left a b e = ap (λ (c : Bool). c || b) e

-- a disjunction whose second test passes passes
pub or_right : (a b : Bool) → b ≡ true → (a || b) ≡ true
or_right true b e = refl
or_right false b e = e

-- a disjunction of two tests that fail fails
pub or_none : (a b : Bool) → a ≡ false → b ≡ false → (a || b) ≡ false
or_none a b e f = ap (λ (c : Bool). c || b) e ∙ f

-- where a disjunction passes and its first test fails, its second test passes
pub or_other : (a b : Bool) → (a || b) ≡ true → a ≡ false → b ≡ true
or_other true b e f = true≢false true refl f
or_other false b e f = e

-- where a conjunction passes, its first test passes
pub and_left : (a b : Bool) → (a && b) ≡ true → a ≡ true
and_left true b e = refl
and_left false b e = e

-- where a conjunction passes, its second test passes
pub and_right : (a b : Bool) → (a && b) ≡ true → b ≡ true
and_right true b e = e
and_right false b e = absurd (false≢true e)

-- two comparisons of which each holds where the other does are the same test
pub leb_iff : (a b c e : ℕ) → (a ≤ b → c ≤ e) → (c ≤ e → a ≤ b) → leb a b ≡ leb c e
leb_iff a b c e f g =
    by_test (leb c e) (λ t. le_true (g (true_le t)) ∙ sym t)
    (λ t. by_test (leb a b) (λ u. true≢false (leb c e) (le_true (f (true_le u))) t) (λ u. u ∙ sym t))
