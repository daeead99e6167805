-- What `array::from_fn` makes, element by element.
-- Rests on the laws of lists that are given by a rule.
use Rattle.std.specs.Prelude.{◌≡◌, List, ℕ, zero, suc, ◌+◌, ◌<◌, get_or}
use Rattle.std.specs.Array.{IsFromFnResultFrom, IsFromFnResult}
use Rattle.std.proofs.Common.{arith, subst, refl, ◌∙◌}
use denote.Param.Members.{Mut, Called}
use Rattle.laws.specs.Lists.{tab}
use Rattle.laws.specs.Laws.Tab.{eq_tab}

module _ {F : Type 0} (g : Mut F (ℕ × Unit {0}) ℕ) (f : F) (h : ℕ → ℕ)
    (step : (k y : ℕ) (q : F) → Called g f (k, tt) y q → (q ≡ f) × (y ≡ h k)) (ys : List ℕ) where
  made_from : (n i : ℕ) (p : F) → p ≡ f → IsFromFnResultFrom g p ys i n → (k : ℕ) → k < n → get_or ys (i + k) 0 ≡ h (i + k)
  made_from zero i p e m k l = absurd (omega arith)
  made_from (suc n) i p e m zero l =
      let s = step i m.1 m.0 (subst (λ (x : F). Called g x (i, tt) m.1 m.0) e m.3) in
      let z : i + 0 ≡ i = omega arith in
      rw z (m.2.1 0 ∙ s.1)
  made_from (suc n) i p e m (suc k) l =
      let s = step i m.1 m.0 (subst (λ (x : F). Called g x (i, tt) m.1 m.0) e m.3) in
      let z : i + suc k ≡ i + 1 + k = omega arith in
      rw z (made_from n (i + 1) m.0 s.0 m.4 k (omega arith))

  -- an array made by a closure that stays as it is and gives h k at k has h k at k
  pub made_each : (n : ℕ) → IsFromFnResult g f ys n → (k : ℕ) → k < n → get_or ys k 0 ≡ h k
  made_each n m k l = let z : 0 + k ≡ k = omega arith in let s = made_from n 0 f refl m.each k l in rw z at s

  -- such an array is the list that h gives
  pub made_tab : (n : ℕ) → IsFromFnResult g f ys n → ys ≡ tab h n
  made_tab n m = eq_tab ys h n m.long (made_each n m)
