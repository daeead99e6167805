-- Bits that bring the CRC's register from 0 to 0 are even in number: an odd number is found.
-- Rests on the laws of the bitwise sum.
use Rattle.std.specs.Prelude.{◌≡◌, refl, ℕ, zero, suc, ◌+◌, ◌*◌, ◌/◌, ◌%◌, ◌^◌, ◌<◌}
use Rattle.std.proofs.Common.{sym, ap, ap₂, ◌∙◌, arith, shr-shr}
use Rattle.std.specs.Int.Bits.{bit_xor}
use Rattle.std.proofs.Math.Pow.{field, mod-mod-pow}
use Rattle.laws.specs.Below.{sum}
use Rattle.cells.specs.Crc.{crc_bit, polynomial}
use Rattle.cells.specs.Damage.{register}
use Rattle.cells.proofs.Laws.Xor.{xor_digit, xor_half}

-- how many of the low k bits of t are 1
ones : ℕ → ℕ → ℕ
ones zero t = 0
ones (suc k) t = t % 2 + ones k (t / 2)

parity_add : (x y z : ℕ) → x % 2 ≡ y % 2 → (x + z) % 2 ≡ (y + z) % 2
parity_add x y z e = omega arith

parity_sum : (x y a b p q : ℕ) → x % 2 ≡ (a + b) % 2 → y % 2 ≡ (p + q) % 2 → (x % 2 + y) % 2 ≡ (a % 2 + p + (b % 2 + q)) % 2
parity_sum x y a b p q h k = first x y ∙ parity_add x (a + b) y h ∙ swap (a + b) y ∙ parity_add y (p + q) (a + b) k ∙ last a b p q
  where
    first : (x y : ℕ) → (x % 2 + y) % 2 ≡ (x + y) % 2
    first x y = omega arith

    swap : (x y : ℕ) → (x + y) % 2 ≡ (y + x) % 2
    swap x y = let e : x + y ≡ y + x = omega arith in ap (λ (n : ℕ). n % 2) e

    last : (a b p q : ℕ) → (p + q + (a + b)) % 2 ≡ (a % 2 + p + (b % 2 + q)) % 2
    last a b p q = omega arith

ones_xor : (k a b : ℕ) → ones k (bit_xor a b) % 2 ≡ (ones k a + ones k b) % 2
unfolding ones
ones_xor zero a b = refl
ones_xor (suc k) a b =
    parity_sum (bit_xor a b) (ones k (bit_xor a b / 2)) a b (ones k (a / 2)) (ones k (b / 2)) (xor_digit a b)
    (ap (λ (x : ℕ). ones k x % 2) (xor_half a b) ∙ ones_xor k (a / 2) (b / 2))

ones_cut : (k t : ℕ) → ones k (t % 2 ^ k) ≡ ones k t
unfolding ones
ones_cut zero t = refl
ones_cut (suc k) t =
    let s : suc k ≡ k + 1 = omega arith in
    ap (λ (n : ℕ). t % 2 ^ n % 2 + ones k (t % 2 ^ n / 2)) s
    ∙ ap₂ (λ (x y : ℕ). x + ones k y) (mod-mod-pow t k 1) (field t k 1)
    ∙ ap (λ (x : ℕ). t % 2 + x) (ones_cut k (t / 2))

ones_top : (k t : ℕ) → ones (suc k) t ≡ ones k t + t / 2 ^ k % 2
unfolding ones
ones_top zero t = omega arith
ones_top (suc k) t =
    let s : 1 + k ≡ suc k = omega arith in
    let d : t / 2 / 2 ^ k ≡ t / 2 ^ suc k = shr-shr t 1 k ∙ ap (λ (n : ℕ). t / 2 ^ n) s in
    let r : ones (suc k) (t / 2) ≡ ones k (t / 2) + t / 2 / 2 ^ k % 2 = ones_top k (t / 2) in
    omega (arith, ap (λ (x : ℕ). x % 2) d)

ones_poly : (q : ℕ) → q < 2 → ones 16 (polynomial * q) % 2 ≡ q
unfolding ones
ones_poly zero h = refl
ones_poly (suc zero) h = refl
ones_poly (suc (suc q)) h = absurd (omega arith)

ones_double : (t : ℕ) → ones 16 (t * 2 % 0x10000) ≡ ones 15 t
unfolding ones
ones_double t =
    let z : t * 2 % 2 ≡ 0 = omega arith in
    let d : t * 2 / 2 ≡ t = omega arith in
    ones_cut 16 (t * 2) ∙ ap₂ (λ (x y : ℕ). x + ones 15 y) z d ∙ add_left (ones 15 t)
  where
    add_left : (x : ℕ) → 0 + x ≡ x
    add_left x = omega arith

ones_step : (t b : ℕ) → ones 16 (crc_bit t b) % 2 ≡ (ones 16 t + b) % 2
unfolding crc_bit
ones_step t b =
    let q : ℕ = (t / 0x8000 + b) % 2 in
    sums (ones 16 (crc_bit t b)) (ones 16 (polynomial * q)) (ones 16 (t * 2 % 0x10000)) (t / 0x8000) b (ones 15 t) (ones 16 t)
    (ones_xor 16 (polynomial * q) (t * 2 % 0x10000)) (ones_poly q (omega arith)) (ones_double t) (ones_top 15 t)
  where
    last : (h b l : ℕ) → (h + b + l) % 2 ≡ (l + h % 2 + b) % 2
    last h b l = omega arith

    sums : (r p d h b l w : ℕ) → r % 2 ≡ (p + d) % 2 → p % 2 ≡ (h + b) % 2 → d ≡ l → w ≡ l + h % 2 → r % 2 ≡ (w + b) % 2
    sums r p d h b l w u v x y =
        u ∙ parity_add p (h + b) d v ∙ ap (λ (n : ℕ). (h + b + n) % 2) x
        ∙ last h b l ∙ ap (λ (n : ℕ). (n + b) % 2) (sym y)

-- the ones of the register and the bits that came are even in number
register_ones : (s : ℕ) (f : ℕ → ℕ) (n : ℕ) → ones 16 (register s f n) % 2 ≡ (ones 16 s + sum n f) % 2
unfolding register sum
register_ones s f zero = omega arith
register_ones s f (suc n) =
    sums (ones 16 (crc_bit (register s f n) (f n))) (ones 16 (register s f n)) (ones 16 s) (sum n f) (f n)
    (ones_step (register s f n) (f n)) (register_ones s f n)
  where
    sums : (r p w x y : ℕ) → r % 2 ≡ (p + y) % 2 → p % 2 ≡ (w + x) % 2 → r % 2 ≡ (w + (x + y)) % 2
    sums r p w x y u v = omega arith

-- bits that bring the register from 0 to 0 are even in number
pub even_number : (e : ℕ → ℕ) (n : ℕ) → register 0 e n ≡ 0 → sum n e % 2 ≡ 0
unfolding ones
even_number e n z =
    let h : ones 16 0 % 2 ≡ (ones 16 0 + sum n e) % 2 = ap (λ (x : ℕ). ones 16 x % 2) (sym z) ∙ register_ones 0 e n in
    omega arith
