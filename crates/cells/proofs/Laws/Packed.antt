-- Cells that are packed into bytes are the cells of those bytes.
-- Rests on no other law.
use Rattle.std.proofs.Math.Logic.{⊎_elim}
use Rattle.std.specs.Prelude.{◌≡◌, refl}
use Rattle.std.proofs.Common.{sym, ◌∙◌, eq-or-lt_of_le, le_of_suc-le-suc, not-suc-le-zero, lt_of_lt_of_le, mul_assoc, mod-eq_of_lt, add-one, pow_pos}
use Rattle.std.proofs.Common.{pow-add, pow_mono}
use Rattle.std.proofs.Math.Path.{ap}
use Prim.Native.Nat.{ℕ, zero, suc, ◌+◌, ◌-◌, ◌*◌, ◌/◌, ◌%◌, ◌^◌, ◌≤◌, ◌<◌}
use Rattle.std.proofs.Math.Nat.{zero-lt-suc, mul-le-mul_right, pow-suc, mul-add-div_right, mul-add-mod_self_right}
use native.Mathlib.Omega.{arith}
use Rattle.std.proofs.Math.Pow.{high}
use Rattle.std.proofs.Common.{bit_or}
use Rattle.std.proofs.lemmas.Nat.{or_shifted}
use Rattle.std.specs.List.{fold, range_with_len}
use Rattle.cells.specs.Stream.{packed_bits, packed}

shifted : (a n k : ℕ) → k < n → a * 2 ^ n ≡ a * 2 ^ (n - (k + 1)) * 2 * 2 ^ k
shifted a n k l =
    let z : n ≡ suc (n - (k + 1)) + k = omega arith in
    ap (λ (v : ℕ). a * 2 ^ v) z ∙ ap (λ (v : ℕ). a * v) (pow-add 2 (suc (n - (k + 1))) k ∙ ap (λ (v : ℕ). v * 2 ^ k) (pow-suc 2 (n - (k + 1))))
    ∙ sym (mul_assoc a (2 ^ (n - (k + 1)) * 2) (2 ^ k)) ∙ ap (λ (v : ℕ). v * 2 ^ k) (sym (mul_assoc a (2 ^ (n - (k + 1))) 2))

-- one more cell is packed above the others
pub packed_bits_more : (f : ℕ → ℕ) (i k : ℕ) → packed_bits f i (k + 1) ≡ f (i + k) * 2 ^ k + packed_bits f i k
unfolding packed_bits
packed_bits_more f i k = rw add-one

module _ (f : ℕ → ℕ) (bit : (i : ℕ) → f i < 2) where
  -- k cells make a number below 2 ^ k
  pub packed_bits_lt : (i k : ℕ) → packed_bits f i k < 2 ^ k
  unfolding packed_bits
  packed_bits_lt i zero = zero-lt-suc 0
  packed_bits_lt i (suc k) =
      let e : f (i + k) * 2 ^ k ≤ 1 * 2 ^ k = mul-le-mul_right (2 ^ k) (le_of_suc-le-suc (bit (i + k))) in
      omega (arith, packed_bits_lt i k, pow-suc 2 k)

  packed_bits_bit : (i n k : ℕ) → k < n → packed_bits f i n / 2 ^ k % 2 ≡ f (i + k)
  unfolding packed_bits
  packed_bits_bit i zero k h = absurd (not-suc-le-zero h)
  packed_bits_bit i (suc n) k h =
      ⊎_elim
      (λ (e : k ≡ n). rw (e, high (f (i + n)) n (packed_bits_lt i n)) (mod-eq_of_lt (bit (i + n))))
      (λ (l : k < n).
      rw (
        shifted (f (i + n)) n k l,
        mul-add-div_right (pow_pos k) (f (i + n) * 2 ^ (n - (k + 1)) * 2) (packed_bits f i n),
        mul-add-mod_self_right (f (i + n) * 2 ^ (n - (k + 1))) 2 (packed_bits f i n / 2 ^ k),
      )
      (packed_bits_bit i n k l))
      (eq-or-lt_of_le (le_of_suc-le-suc h))

  -- bit i % 8, lowest first, of byte i / 8 is cell i
  pub packed_bit : (i : ℕ) → packed f (i / 8) / 2 ^ (i % 8) % 2 ≡ f i
  unfolding packed
  packed_bit i =
      let e : 8 * (i / 8) + i % 8 ≡ i = omega arith in
      packed_bits_bit (8 * (i / 8)) 8 (i % 8) (omega arith) ∙ ap f e

-- one more cell r above the j that v has, as code shifts it in: v has it too, and is still small
module _ (f : ℕ → ℕ) (i j r v : ℕ) (h : j < 8) (bit : r < 2) (l : v < 2 ^ j) where
  shifted_in : r * 2 ^ j % 256 ≡ r * 2 ^ j
  shifted_in =
      let t : r * 2 ^ j ≤ 1 * 2 ^ j = mul-le-mul_right (2 ^ j) (le_of_suc-le-suc bit) in
      let m : 2 ^ j ≤ 2 ^ 7 = pow_mono {i = j} {j = 7} (omega arith) in
      mod-eq_of_lt (omega arith)

  -- the number below 2 ^ j is then one below 2 ^ (j + 1)
  pub packed_less : r * 2 ^ j % 256 + v < 2 ^ (j + 1)
  packed_less =
      let t : r * 2 ^ j ≤ 1 * 2 ^ j = mul-le-mul_right (2 ^ j) (le_of_suc-le-suc bit) in
      rw (shifted_in, add-one) (omega (arith, pow-suc 2 j))

  -- so it fits a byte
  pub packed_fits : r * 2 ^ j % 256 + v < 256
  packed_fits = lt_of_lt_of_le packed_less (pow_mono {i = j + 1} {j = 8} (omega arith))

  -- it is the number of the cells before and of this one
  pub packed_step : r ≡ f (i + j) → v ≡ packed_bits f i j → r * 2 ^ j % 256 + v ≡ packed_bits f i (j + 1)
  packed_step er ev = rw (shifted_in, packed_bits_more, er, ev)

-- cells taken one after another, each above those before it, as code shifts it in
module _ (f : ℕ → ℕ) (bit : (i : ℕ) → f i < 2) (i : ℕ) where
  one_above : (n : ℕ) → n < 8 → bit_or (f (i + n) * 2 ^ n % 256) (packed_bits f i n) ≡ packed_bits f i (n + 1)
  one_above n h =
      rw (
        shifted_in f i n (f (i + n)) (packed_bits f i n) h (bit (i + n)) (packed_bits_lt f bit i n),
        or_shifted (f (i + n)) n (packed_bits f i n) (packed_bits_lt f bit i n),
      )
      (sym (packed_bits_more f i n))

  each_above : (m n : ℕ) → n + m ≡ 8
      → fold (λ (v j : ℕ). bit_or (f (i + j) * 2 ^ j % 256) v) (packed_bits f i n) (range_with_len n m) ≡ packed_bits f i 8
  each_above zero n e = let z : n ≡ 8 = omega arith in rw z
  each_above (suc m) n e = rw (fold, one_above n (omega arith)) (each_above m (n + 1) (omega arith))

  -- eight of them are packed
  pub packed_in_turn : fold (λ (v j : ℕ). bit_or (f (i + j) * 2 ^ j % 256) v) 0 (range_with_len 0 8) ≡ packed_bits f i 8
  unfolding packed_bits
  packed_in_turn = each_above 8 0 refl

-- cells that agree are packed into equal bytes
pub packed_bits_same : (f g : ℕ → ℕ) (i j n : ℕ) → ((k : ℕ) → k < n → f (i + k) ≡ g (j + k)) → packed_bits f i n ≡ packed_bits g j n
unfolding packed_bits
packed_bits_same f g i j zero e = refl
packed_bits_same f g i j (suc n) e = rw (packed_bits_same f g i j n (λ k l. e k (omega arith)), e n (omega arith))
