-- A part of a list: written over, it is a write into the list; and whether it begins with other bytes.
-- Rests on the laws in laws::Overlay and laws::Same.
use Rattle.std.specs.Prelude.{◌≡◌, List, ℕ, ◌+◌, ◌-◌, ◌<◌, ◌≤◌, min, length, get_or, take, eqb, true}
use Rattle.std.specs.List.{between, starts_with}
use Rattle.std.specs.Cmp.Lexicographic.{pointwise, bytes_decides}
use Rattle.std.proofs.Common.{arith, rules, ap, sym, ◌∙◌, length-take, length-drop, ext_get_or}
use Rattle.std.proofs.lemmas.List.{places}
use borrow.Rule.Slice.PartMut.{put_mid}
use Rattle.laws.specs.Lists.{stands_at}
use Rattle.laws.specs.Changes.{overlay}
use Rattle.laws.specs.Laws.Cases.{by_order, by_test}
use Rattle.laws.specs.Laws.Same.{stands_all, stands_within, stands_each}
use Rattle.laws.specs.Laws.Overlay.{overlay_is}

module _ (d : List ℕ) (at n start end : ℕ) (g : ℕ → ℕ) (ys : List ℕ) (s : start ≡ min at (length d)) (e : end ≡ min (at + n) (length d))
    (l : length ys ≡ end - start) (h : (k : ℕ) → k < end - start → get_or ys k 0 ≡ g k) where
  inside : start ≤ length d
  inside = omega arith

  new : (k : ℕ) → at ≤ k → k < at + n → k < length d → get_or (put_mid start (end - start) d ys) k 0 ≡ g (k - at)
  new k a b c =
      let z : k - start ≡ k - at = omega arith in
      let y : get_or (put_mid start (end - start) d ys) k 0 ≡ get_or ys (k - start) 0 = search (rules, places) in
      y ∙ h (k - start) (omega arith) ∙ ap g z

  high : (k : ℕ) → end ≤ k → get_or (put_mid start (end - start) d ys) k 0 ≡ get_or d k 0
  high k a = search (rules, places)

  low : (k : ℕ) → k < at → get_or (put_mid start (end - start) d ys) k 0 ≡ get_or d k 0
  low k a = by_order k start (λ b. search (rules, places)) (λ b. high k (omega arith))

  -- the places from at on, n of them as far as d goes, written over with the values of g
  pub part_over : put_mid start (end - start) d ys ≡ overlay d at n g
  part_over = overlay_is d at n g (put_mid start (end - start) d ys) (search (rules, places)) new low (λ k a. high k (omega arith))

module _ (s : List ℕ) (at : ℕ) (t : List ℕ) (h : at ≤ length s) where
  there : (k : ℕ) → at + length t ≤ length s → k < length t → get_or s (at + k) 0 ≡ get_or (take (length t) (between at (length s) s)) k 0
  there k l b = search (rules, places)

  begins : pointwise eqb t (take (length t) (between at (length s) s)) ≡ true → stands_at s at t ≡ true
  begins p =
      let e : t ≡ take (length t) (between at (length s) s) = (bytes_decides t _).0 p in
      let l : at + length t ≤ length s = omega (arith, simp (length-take, length-drop) at (ap length e)) in
      stands_all s at t l (λ k b. there k l b ∙ ap (λ (m : List ℕ). get_or m k 0) (sym e))

  stands : stands_at s at t ≡ true → pointwise eqb t (take (length t) (between at (length s) s)) ≡ true
  stands p =
      let l : at + length t ≤ length s = stands_within s at t p in
      (bytes_decides t _).1 (ext_get_or 0 t _ (search (rules, places)) (λ k b. sym (stands_each s at t p k b) ∙ there k l b))

  -- the list from at on begins with t where t stands in it at at
  pub starts_there : starts_with eqb (between at (length s) s) t ≡ stands_at s at t
  starts_there =
      by_test (pointwise eqb t (take (length t) (between at (length s) s))) (λ p. p ∙ sym (begins p))
      (λ f. f ∙ sym (by_test (stands_at s at t) (λ p. let q = stands p in cc) (λ n. n)))
