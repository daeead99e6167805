-- Bits that bring the CRC's register from 0 to 0 and lie among 16 neighbouring ones are none: a burst is found.
-- Rests on the laws of the register.
use Rattle.std.specs.Prelude.{◌≡◌, refl}
use Rattle.std.proofs.Common.{sym, ap₂, ◌∙◌, add-zero, add-suc, arith, lit<, pow_pos}
use Rattle.std.proofs.Math.Path.{ap}
use Prim.Native.Nat.{ℕ, zero, suc, ◌+◌, ◌-◌, ◌*◌, ◌^◌, ◌≤◌, ◌<◌}
use Rattle.laws.specs.Laws.Cases.{by_order, by_equal}
use Rattle.cells.specs.Crc.{crc_bit}
use Rattle.cells.specs.Damage.{bits_from, register, burst_bits}
use Rattle.cells.proofs.Laws.Register.{register_lt, register_before_zero, step_zero, step_only}

-- before the first bit that is 1 the register stays 0
pub zeros_before : (e : ℕ → ℕ) (a : ℕ) → ((i : ℕ) → i < a → e i ≡ 0) → register 0 e a ≡ 0
unfolding register
zeros_before e zero z = refl
zeros_before e (suc a) z = ap₂ crc_bit (zeros_before e a (λ i h. z i (omega arith))) (z a (omega arith)) ∙ step_zero

-- no bit after
zeros_after : (e : ℕ → ℕ) (m r : ℕ) → ((i : ℕ) → m ≤ i → i < m + r → e i ≡ 0) → register 0 e (m + r) ≡ 0 → register 0 e m ≡ 0
unfolding register
zeros_after e m zero z h = ap (register 0 e) (sym (add-zero m)) ∙ h
zeros_after e m (suc r) z h =
    let last : crc_bit (register 0 e (m + r)) (e (m + r)) ≡ 0 = ap (register 0 e) (sym (add-suc m r)) ∙ h in
    zeros_after e m r (λ i l k. z i l (omega arith))
    (step_only (register 0 e (m + r)) (register_lt 0 e (m + r) (lit< tt))
    (ap (crc_bit (register 0 e (m + r))) (sym (z (m + r) (omega arith) (omega arith))) ∙ last))

-- bits that make 0 are 0
none_high : (b p v : ℕ) → b < 2 → 0 < p → b * p + v ≡ 0 → b ≡ 0
none_high zero p v hb hp e = refl
none_high (suc zero) p v hb hp e = absurd (omega arith)
none_high (suc (suc b)) p v hb hp e = absurd (omega arith)

-- a term of a sum that is 0 is 0
pub none_low : (x v : ℕ) → x + v ≡ 0 → v ≡ 0
none_low x v e = omega arith

-- the register has room for a burst
fits : burst_bits ≤ 16
fits = omega arith

module _ (e : ℕ → ℕ) (bit : (i : ℕ) → e i < 2) where
  bits_none : (k m : ℕ) → bits_from e m k ≡ 0 → (i : ℕ) → m ≤ i → i < m + k → e i ≡ 0
  unfolding bits_from
  bits_none zero m z i l h = absurd (omega arith)
  bits_none (suc k) m z i l h =
      by_equal i m
      (λ r. ap e r ∙ none_high (e m) (2 ^ k) (bits_from e (suc m) k) (bit m) (pow_pos k) z)
      (λ r. bits_none k (suc m) (none_low (e m * 2 ^ k) (bits_from e (suc m) k) z) i (omega arith) (omega arith))

  -- the bits lie in a window of w, 16 at most
  window : (a w r : ℕ) → w ≤ 16 → ((i : ℕ) → i < a → e i ≡ 0) → ((i : ℕ) → a + w ≤ i → i < a + w + r → e i ≡ 0) → register 0 e (a + w + r) ≡ 0
      → (i : ℕ) → i < a + w + r → e i ≡ 0
  window a w r hw before after z i h =
      let z₁ : register 0 e (a + w) ≡ 0 = zeros_after e (a + w) r after z in
      let z₂ : bits_from e a w * 2 ^ (16 - w) ≡ 0 = sym (register_before_zero 0 (lit< tt) e bit w a hw z₁) ∙ zeros_before e a before in
      by_order i a (λ l. before i l)
      (λ l. by_order i (a + w)
      (λ m. bits_none w a (none_times (bits_from e a w) (2 ^ (16 - w)) (pow_pos (16 - w)) z₂) i l m)
      (λ m. after i m h))
    where
      none_times : (v p : ℕ) → 0 < p → v * p ≡ 0 → v ≡ 0
      none_times zero p hp q = refl
      none_times (suc v) p hp q = absurd (omega arith)

  -- bits that lie among 16 neighbouring ones, and bring the register from 0 to 0, are none
  pub burst_none : (a n : ℕ) → ((i : ℕ) → i < n → i < a → e i ≡ 0) → ((i : ℕ) → i < n → a + burst_bits ≤ i → e i ≡ 0) → register 0 e n ≡ 0
      → (i : ℕ) → i < n → e i ≡ 0
  burst_none a n before after z i h =
      by_order n a (λ l. before i h (omega arith))
      (λ l. by_order n (a + burst_bits)
      (λ m.
      let c : a + (n - a) + 0 ≡ n = omega arith in
      window a (n - a) 0 (omega (arith, fits)) (λ j k. before j (omega arith) k) (λ j k m'. absurd (omega arith))
      (ap (register 0 e) c ∙ z) i (omega arith))
      (λ m.
      let c : a + burst_bits + (n - (a + burst_bits)) ≡ n = omega arith in
      window a burst_bits (n - (a + burst_bits)) fits (λ j k. before j (omega arith) k) (λ j k m'. after j (omega arith) k)
      (ap (register 0 e) c ∙ z) i (omega arith)))
