-- The CRC's register, bit by bit: it is linear, and it comes to 0 after 16 bits exactly where it held these bits.
-- Rests on the laws of the bitwise sum and of the CRC.
use Rattle.std.specs.Prelude.{◌≡◌, refl}
use Rattle.std.proofs.Math.Path.{sym, ap}
use Rattle.std.proofs.Common.{ap₂, ◌∙◌, add-zero, add-suc, suc-add, pow-suc, mul-le-mul_right, arith, pow-add, pow_pos, lit<}
use Prim.Native.Nat.{ℕ, zero, suc, ◌+◌, ◌-◌, ◌*◌, ◌/◌, ◌%◌, ◌^◌, ◌≤◌, ◌<◌}
use Rattle.std.proofs.Math.Nat.{mul_assoc}
use Rattle.std.specs.Int.Bits.{bit_xor, xor_self}
use Rattle.std.proofs.lemmas.Nat.{xor_shr}
use Rattle.cells.specs.Crc.{crc_bit, polynomial}
use Rattle.cells.specs.Damage.{bits_from, register}
use Rattle.cells.proofs.Laws.Crc.{crc_bit_lt}
use Rattle.cells.proofs.Laws.Xor.{xor_digit, xor_swap, xor_shifted}

-- ---- one step

times_bit : (u v : ℕ) → u < 2 → v < 2 → polynomial * ((u + v) % 2) ≡ bit_xor (polynomial * u) (polynomial * v)
times_bit zero zero hu hv = refl
times_bit zero (suc zero) hu hv = refl
times_bit (suc zero) zero hu hv = refl
times_bit (suc zero) (suc zero) hu hv = refl
times_bit zero (suc (suc v)) hu hv = absurd (omega arith)
times_bit (suc zero) (suc (suc v)) hu hv = absurd (omega arith)
times_bit (suc (suc u)) v hu hv = absurd (omega arith)

top_sum : (x m n b c : ℕ) → x % 2 ≡ (m + n) % 2 → (x + (b + c) % 2) % 2 ≡ ((m + b) % 2 + (n + c) % 2) % 2
top_sum x m n b c h =
    let l : (x + (b + c) % 2) % 2 ≡ (m + n + (b + c)) % 2 = omega arith in
    let r : ((m + b) % 2 + (n + c) % 2) % 2 ≡ (m + n + (b + c)) % 2 = sums m n b c in
    l ∙ sym r
  where
    sums : (m n b c : ℕ) → ((m + b) % 2 + (n + c) % 2) % 2 ≡ (m + n + (b + c)) % 2
    sums m n b c = omega arith

-- the step of a sum is the sum of the steps
pub step_sum : (s t b c : ℕ) → crc_bit (bit_xor s t) ((b + c) % 2) ≡ bit_xor (crc_bit s b) (crc_bit t c)
unfolding crc_bit
step_sum s t b c =
    let p : ℕ = (s / 0x8000 + b) % 2 in
    let q : ℕ = (t / 0x8000 + c) % 2 in
    let top : (bit_xor s t / 0x8000 + (b + c) % 2) % 2 ≡ (p + q) % 2 =
    top_sum (bit_xor s t / 0x8000) (s / 0x8000) (t / 0x8000) b c
    (ap (λ (x : ℕ). x % 2) (xor_shr s t 15) ∙ xor_digit (s / 0x8000) (t / 0x8000)) in
    ap₂ bit_xor
    (ap (λ (x : ℕ). polynomial * x) top ∙ times_bit p q (omega arith) (omega arith))
    (xor_shifted s t 16)
    ∙ xor_swap (polynomial * p) (polynomial * q) (s * 2 % 0x10000) (t * 2 % 0x10000)

-- the low bit of the new register says whether the polynomial was added
pub step_low : (s b : ℕ) → crc_bit s b % 2 ≡ (s / 0x8000 + b) % 2
unfolding crc_bit
step_low s b = omega (arith, xor_digit (polynomial * ((s / 0x8000 + b) % 2)) (s * 2 % 0x10000))

-- the polynomial is not added where the bit that came is the bit shifted out
step_plain : (s b : ℕ) → (s / 0x8000 + b) % 2 ≡ 0 → crc_bit s b ≡ s * 2 % 0x10000
unfolding crc_bit
step_plain s b e = ap (λ (x : ℕ). bit_xor (polynomial * x) (s * 2 % 0x10000)) e

-- an even register came from its half, with the bit that came on top
pub step_back : (s b : ℕ) → s < 0x10000 → b < 2 → crc_bit s b % 2 ≡ 0 → s ≡ crc_bit s b / 2 + 0x8000 * b
step_back s b hs hb e =
    let z : (s / 0x8000 + b) % 2 ≡ 0 = omega (arith, step_low s b) in
    back_of s b (crc_bit s b) hs hb z (step_plain s b z)
  where
    top_is : (s b : ℕ) → s < 0x10000 → b < 2 → (s / 0x8000 + b) % 2 ≡ 0 → s / 0x8000 ≡ b
    top_is s b hs hb z = omega arith

    back_of : (s b u : ℕ) → s < 0x10000 → b < 2 → (s / 0x8000 + b) % 2 ≡ 0 → u ≡ s * 2 % 0x10000 → s ≡ u / 2 + 0x8000 * b
    back_of s b u hs hb z e = let t : s / 0x8000 ≡ b = top_is s b hs hb z in omega arith

-- a register that holds the bit that comes on top comes to its double without that bit
pub step_forth : (u b : ℕ) → u < 0x8000 → b < 2 → crc_bit (u + 0x8000 * b) b ≡ u * 2
step_forth u b hu hb =
    let z : ((u + 0x8000 * b) / 0x8000 + b) % 2 ≡ 0 = omega arith in
    omega (arith, step_plain (u + 0x8000 * b) b z)

-- a step with a bit 0 keeps the register 0
pub step_zero : crc_bit 0 0 ≡ 0
unfolding crc_bit
step_zero = refl

-- only the register 0 comes to 0 in a step with a bit 0
pub step_only : (s : ℕ) → s < 0x10000 → crc_bit s 0 ≡ 0 → s ≡ 0
step_only s h e = omega (arith, step_back s 0 h (lit< tt) (omega (arith, e)))

-- ---- the register after a row of bits

-- 1 where two rows differ, else 0
unfoldable pub difference : (ℕ → ℕ) → (ℕ → ℕ) → ℕ → ℕ
difference f g i = (f i + g i) % 2

-- the register has 16 bits
pub register_lt : (s : ℕ) (f : ℕ → ℕ) (n : ℕ) → s < 0x10000 → register s f n < 0x10000
unfolding register
register_lt s f zero h = h
register_lt s f (suc n) h = crc_bit_lt (register s f n) (f n)

-- the sum of the registers of two rows is the register of where they differ
pub register_sum : (s : ℕ) (f g : ℕ → ℕ) (n : ℕ) → bit_xor (register s f n) (register s g n) ≡ register 0 (difference f g) n
unfolding register difference
register_sum s f g zero = xor_self s
register_sum s f g (suc n) =
    sym (step_sum (register s f n) (register s g n) (f n) (g n))
    ∙ ap (λ (x : ℕ). crc_bit x ((f n + g n) % 2)) (register_sum s f g n)

-- k bits make a number below 2 ^ k
pub bits_lt : (f : ℕ → ℕ) → ((i : ℕ) → f i < 2) → (m k : ℕ) → bits_from f m k < 2 ^ k
unfolding bits_from
bits_lt f bit m zero = lit< tt
bits_lt f bit m (suc k) = two (f m) (2 ^ k) (bits_from f (suc m) k) (2 ^ suc k) (bit m) (bits_lt f bit (suc m) k) (pow-suc 2 k)
  where
    two : (b p v q : ℕ) → b < 2 → v < p → q ≡ p * 2 → b * p + v < q
    two zero p v q hb hv e = omega arith
    two (suc zero) p v q hb hv e = omega arith
    two (suc (suc b)) p v q hb hv e = absurd (omega arith)

-- 16 bits, k of them on top
module _ (k : ℕ) (h : suc k ≤ 16) where
  power_half : 2 ^ (16 - k) ≡ 2 ^ (16 - suc k) * 2
  power_half = let x : 16 - k ≡ suc (16 - suc k) = omega arith in ap (λ (n : ℕ). 2 ^ n) x ∙ pow-suc 2 (16 - suc k)

  power_top : 2 ^ k * 2 ^ (16 - suc k) ≡ 0x8000
  power_top = let y : k + (16 - suc k) ≡ 15 = omega arith in sym (pow-add 2 k (16 - suc k)) ∙ ap (λ (n : ℕ). 2 ^ n) y

even_of : (u v q : ℕ) → u ≡ v * (q * 2) → u % 2 ≡ 0
even_of u v q e = omega arith

placed : (t u b v p q : ℕ) → b < 2 → p * q ≡ 0x8000 → u ≡ v * (q * 2) → t ≡ u / 2 + 0x8000 * b → t ≡ (b * p + v) * q
placed t u zero v p q hb w e r = omega arith
placed t u (suc zero) v p q hb w e r = omega arith
placed t u (suc (suc b)) v p q hb w e r = absurd (omega arith)

unplaced : (b v p q : ℕ) → b < 2 → p * q ≡ 0x8000 → (b * p + v) * q ≡ v * q + 0x8000 * b
unplaced zero v p q hb w = omega arith
unplaced (suc zero) v p q hb w = omega arith
unplaced (suc (suc b)) v p q hb w = absurd (omega arith)

below_top : (v p q : ℕ) → v < p → 0 < q → p * q ≡ 0x8000 → v * q < 0x8000
below_top v p q h hq w = omega (arith, mul-le-mul_right q h)

module _ (s : ℕ) (hs : s < 0x10000) (f : ℕ → ℕ) (bit : (i : ℕ) → f i < 2) where
  -- a register that comes to 0 in k bits, 16 at most, held these bits on top
  pub register_before_zero : (k m : ℕ) → k ≤ 16 → register s f (m + k) ≡ 0 → register s f m ≡ bits_from f m k * 2 ^ (16 - k)
  unfolding register bits_from
  register_before_zero zero m h e = ap (register s f) (sym (add-zero m)) ∙ e
  register_before_zero (suc k) m h e =
      let r : crc_bit (register s f m) (f m) ≡ bits_from f (suc m) k * (2 ^ (16 - suc k) * 2) =
      register_before_zero k (suc m) (omega arith) (ap (register s f) (suc-add m k ∙ sym (add-suc m k)) ∙ e)
      ∙ ap (λ (x : ℕ). bits_from f (suc m) k * x) (power_half k h) in
      placed (register s f m) (crc_bit (register s f m) (f m)) (f m) (bits_from f (suc m) k) (2 ^ k) (2 ^ (16 - suc k)) (bit m) (power_top k h) r
      (step_back (register s f m) (f m) (register_lt s f m hs) (bit m)
      (even_of (crc_bit (register s f m) (f m)) (bits_from f (suc m) k) (2 ^ (16 - suc k)) r))

  -- a register that holds the next k bits on top, 16 at most, comes to 0 in k bits
  pub passes : (k m : ℕ) → k ≤ 16 → register s f m ≡ bits_from f m k * 2 ^ (16 - k) → register s f (m + k) ≡ 0
  unfolding register bits_from
  passes zero m h e = ap (register s f) (add-zero m) ∙ e
  passes (suc k) m h e =
      let v : ℕ = bits_from f (suc m) k in
      let q : ℕ = 2 ^ (16 - suc k) in
      let r : register s f m ≡ v * q + 0x8000 * f m = e ∙ unplaced (f m) v (2 ^ k) q (bit m) (power_top k h) in
      let z : crc_bit (register s f m) (f m) ≡ v * (q * 2) =
      ap (λ (x : ℕ). crc_bit x (f m)) r
      ∙ step_forth (v * q) (f m) (below_top v (2 ^ k) q (bits_lt f bit (suc m) k) (pow_pos (16 - suc k)) (power_top k h)) (bit m)
      ∙ mul_assoc v q 2 in
      ap (register s f) (add-suc m k ∙ sym (suc-add m k))
      ∙ passes k (suc m) (omega arith) (z ∙ ap (λ (x : ℕ). v * x) (sym (power_half k h)))
