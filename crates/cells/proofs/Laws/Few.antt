-- Bits that bring the CRC's register from 0 to 0 and are at most three, in a row as long as a field, are none.
-- Rests on the laws of the register, of bursts and of odd numbers of bits; and on one computed test over the longest row.
use Rattle.std.specs.Prelude.{◌≡◌, refl, ◌≢◌, Bool, true, false, cond, eqb}
use Rattle.std.proofs.Common.{sym, ◌∙◌, lit<}
use Rattle.std.proofs.Math.Path.{ap, ap₂}
use Prim.Native.Nat.{ℕ, zero, suc, ◌≤◌, ◌<◌}
use native.Mathlib.Omega.{arith}
use Rattle.laws.specs.Below.{sum}
use Rattle.laws.specs.Laws.Cases.{by_equal, by_test}
use Rattle.laws.specs.Laws.Tests.{false_eq, true≢false, cond_true, cond_false}
use Rattle.cells.specs.Crc.{crc_bit, polynomial}
use Rattle.cells.specs.Damage.{register, few_bits, longest_row}
use Rattle.cells.proofs.Laws.Register.{register_lt, step_only, step_back}
use Rattle.cells.proofs.Laws.Burst.{zeros_before, none_low}
use Rattle.cells.proofs.Laws.Odd.{even_number}

-- the register after k steps without a bit
after : ℕ → ℕ → ℕ
after t k = register t (λ (i : ℕ). 0) k

after_first : (t k : ℕ) → after (crc_bit t 0) k ≡ after t (suc k)
unfolding after register
after_first t zero = refl
after_first t (suc k) = ap (λ (x : ℕ). crc_bit x 0) (after_first t k)

-- none of the n registers from t on has its highest bit alone: one computed test
clear : ℕ → ℕ → Bool
clear zero t = true
clear (suc n) t =
    let r : Bool = clear n (crc_bit t 0) in
    cond (eqb t 0x8000) false r

clear_split : (n t : ℕ) → clear (suc n) t ≡ true → (eqb t 0x8000 ≡ false) × (clear n (crc_bit t 0) ≡ true)
unfolding clear
clear_split n t c =
    by_test (eqb t 0x8000) (λ q. true≢false (clear (suc n) t) c (cond_true false (clear n (crc_bit t 0)) q))
    (λ q. (q, sym (cond_false false (clear n (crc_bit t 0)) q) ∙ c))

clear_at : (n t : ℕ) → clear n t ≡ true → (k : ℕ) → k < n → after t k ≢ 0x8000
unfolding after register
clear_at zero t c k h = absurd (omega arith)
clear_at (suc n) t c zero h = false_eq (clear_split n t c).0
clear_at (suc n) t c (suc k) h = λ q. clear_at n (crc_bit t 0) (clear_split n t c).1 k (omega arith) (after_first t k ∙ q)

-- the first step with a bit, and the steps after it
after_bit : crc_bit 0 1 ≡ polynomial
unfolding crc_bit
after_bit = refl

module _ (e : ℕ → ℕ) (bit : (i : ℕ) → e i < 2) where
  -- no bit came
  no_bit : (n : ℕ) → sum n e ≡ 0 → (i : ℕ) → i < n → e i ≡ 0
  unfolding sum
  no_bit zero z i h = absurd (omega arith)
  no_bit (suc n) z i h = by_equal i n (λ r. ap e r ∙ none_low (sum n e) (e n) z) (λ r. no_bit n (omega arith) i (omega arith))

  -- one bit came, k steps ago
  one_bit : (n : ℕ) → sum n e ≡ 1 → (k : ℕ) × (k < n) × (register 0 e n ≡ after polynomial k)
  unfolding sum register after
  one_bit zero z = absurd (omega arith)
  one_bit (suc n) z =
      by_equal (e n) 0
      (λ r.
      let s : sum n e ≡ 1 = omega arith in
      let p : (k : ℕ) × (k < n) × (register 0 e n ≡ after polynomial k) = one_bit n s in
      (suc p.0, omega (arith, p.1), ap₂ crc_bit p.2 r))
      (λ r.
      let s : sum n e ≡ 0 = omega (arith, bit n) in
      let o : e n ≡ 1 = omega (arith, bit n) in
      (0, omega arith, ap₂ crc_bit (zeros_before e n (no_bit n s)) o ∙ after_bit))

  -- two bits came
  two_bits : (l n : ℕ) → clear l polynomial ≡ true → n ≤ suc l → sum n e ≡ 2 → register 0 e n ≢ 0
  unfolding sum register
  two_bits l zero c h s z = omega arith
  two_bits l (suc n) c h s z =
      by_equal (e n) 0
      (λ r.
      two_bits l n c (omega arith) (omega arith)
      (step_only (register 0 e n) (register_lt 0 e n (lit< tt)) (ap (crc_bit (register 0 e n)) (sym r) ∙ z)))
      (λ r.
      let o : e n ≡ 1 = omega (arith, bit n) in
      let s₁ : sum n e ≡ 1 = omega arith in
      let p : (k : ℕ) × (k < n) × (register 0 e n ≡ after polynomial k) = one_bit n s₁ in
      let b : register 0 e n ≡ 0x8000 = top (register 0 e n) (register_lt 0 e n (lit< tt)) (ap (crc_bit (register 0 e n)) (sym o) ∙ z) in
      clear_at l polynomial c p.0 (omega (arith, p.1)) (sym p.2 ∙ b))
    where
      top : (t : ℕ) → t < 0x10000 → crc_bit t 1 ≡ 0 → t ≡ 0x8000
      top t ht q = omega (arith, step_back t 1 ht (lit< tt) (omega (arith, q)))

-- the longest row: one computed test over the registers that a single bit leads to
longest_clear : clear longest_row polynomial ≡ true
unfolding clear crc_bit
longest_clear = refl

-- at most three bits in a row of at most 4,144 that bring the register from 0 to 0 are none
pub few_bits_lem : (e : ℕ → ℕ) → ((i : ℕ) → e i < 2) → (n : ℕ) → n ≤ longest_row → sum n e ≤ few_bits → register 0 e n ≡ 0 → (i : ℕ) → i < n → e i ≡ 0
few_bits_lem e bit n h s z =
    by_equal (sum n e) 2 (λ r. absurd (two_bits e bit longest_row n longest_clear (omega arith) r z))
    (λ r. no_bit e bit n (omega (arith, even_number e n z)))
