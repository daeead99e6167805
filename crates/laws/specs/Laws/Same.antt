-- Whether two lists are the same, and whether a list stands at a place, as tests.
-- Rests on the laws of tests and of parts of a list.
use Rattle.std.specs.Prelude.{◌≡◌, true, false, ℕ, ◌+◌, ◌<◌, ◌≤◌, eqb, leb}
use Rattle.std.proofs.Math.Path.{refl, ap, sym}
use Rattle.std.proofs.Common.{◌∙◌, subst}
use mathlib.Core.List.{List, [], ◌∷◌}
use Rattle.std.proofs.Math.ListN.{length, get_or}
use borrow.Author.Tests.{eq-eqb, eqb-true, le-leb, lt-leb, leb-true}
use Rattle.laws.specs.Lists.{element_at, window, same, bytes_are, stands_at}
use Rattle.laws.specs.Laws.Cases.{by_test}
use Rattle.laws.specs.Laws.Tests.{and_left, and_right, and_true}
use Rattle.laws.specs.Laws.Tab.{window_in, eq_window}

self : (xs : List ℕ) → same xs xs ≡ true
unfolding same
self [] = refl
self (x ∷ xs) = and_true {a = eqb x x} {b = same xs xs} (eq-eqb x x refl) (self xs)

-- lists that are the same by the test are equal
pub same_eq : (xs ys : List ℕ) → same xs ys ≡ true → xs ≡ ys
unfolding same
same_eq [] [] t = refl
same_eq [] (y ∷ ys) t = let z : false ≡ true = t in cc
same_eq (x ∷ xs) [] t = let z : false ≡ true = t in cc
same_eq (x ∷ xs) (y ∷ ys) t =
    ap (λ (n : ℕ). n ∷ xs) (eqb-true x y (and_left (eqb x y) (same xs ys) t))
    ∙ ap (λ (l : List ℕ). y ∷ l) (same_eq xs ys (and_right (eqb x y) (same xs ys) t))

-- equal lists are the same by the test
pub eq_same : (xs ys : List ℕ) → xs ≡ ys → same xs ys ≡ true
eq_same xs ys e = subst (λ (l : List ℕ). same xs l ≡ true) e (self xs)

-- different lists are not the same by the test
pub ne_same : (xs ys : List ℕ) → (xs ≡ ys → ⊥) → same xs ys ≡ false
ne_same xs ys h = by_test (same xs ys) (λ t. absurd (h (same_eq xs ys t))) (λ f. f)

module _ (s : List ℕ) (at : ℕ) (t : List ℕ) where
  -- a list that would end past the end of s does not stand there
  pub stands_past : length s < at + length t → stands_at s at t ≡ false
  unfolding stands_at
  stands_past h = rw (lt-leb (at + length t) (length s) h)

  -- a list that ends within s and whose elements are those of s from at on stands there
  pub stands_all : at + length t ≤ length s → ((k : ℕ) → k < length t → get_or s (at + k) 0 ≡ get_or t k 0) → stands_at s at t ≡ true
  unfolding stands_at bytes_are window element_at
  stands_all h e =
      rw (le-leb (at + length t) (length s) h)
      (eq_same (window s at (length t)) t (sym (eq_window t s at (length t) refl (λ k b. sym (e k b)))))

  -- a list of which one element is not that of s does not stand there
  pub stands_not : at + length t ≤ length s → (k : ℕ) → k < length t → (get_or s (at + k) 0 ≡ get_or t k 0 → ⊥) → stands_at s at t ≡ false
  unfolding stands_at bytes_are window element_at
  stands_not h k b n =
      rw (le-leb (at + length t) (length s) h)
      (ne_same (window s at (length t)) t
      (λ e. n (sym (window_in s at (length t) k b) ∙ ap (λ (m : List ℕ). get_or m k 0) e)))

  -- a list that stands there ends within s
  pub stands_within : stands_at s at t ≡ true → at + length t ≤ length s
  unfolding stands_at
  stands_within e = leb-true _ _ (and_left (leb (at + length t) (length s)) _ e)

  -- the elements of a list that stands there are those of s from at on
  pub stands_each : stands_at s at t ≡ true → (k : ℕ) → k < length t → get_or s (at + k) 0 ≡ get_or t k 0
  unfolding stands_at bytes_are window element_at
  stands_each e k b =
      sym (window_in s at (length t) k b)
      ∙ ap (λ (m : List ℕ). get_or m k 0) (same_eq (window s at (length t)) t (and_right (leb (at + length t) (length s)) _ e))
