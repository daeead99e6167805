-- Rows of bits: the bytes that they spell, and the CRC of those bytes as a register.
-- Rests on the laws of the CRC, of the register and of digits.
use Rattle.std.specs.Prelude.{List, [], ◌∷◌, true, ◌≡◌, refl, get_or}
use Rattle.std.proofs.Common.{⊎_elim, sym, ◌∙◌, add-zero, add-suc, suc-add, pow-suc, eq-or-lt_of_le, le_of_suc-le-suc, shr-shr, lit<, lit≤}
use Rattle.std.proofs.Math.Path.{ap, ap₂}
use Prim.Native.Nat.{ℕ, zero, suc, ◌+◌, ◌-◌, ◌*◌, ◌/◌, ◌%◌, ◌^◌, ◌≤◌, ◌<◌}
use Rattle.std.proofs.Math.Nat.{div-eq_of_lt}
use native.Mathlib.Omega.{arith}
use Rattle.laws.specs.Lists.{tab}
use Rattle.laws.specs.Laws.Tab.{tab_more}
use Rattle.cells.specs.Stream.{number, data_byte}
use Rattle.cells.specs.Mfm.{bit_of}
use Rattle.cells.specs.Crc.{crc_start, crc_bit, crc_bits, crc_from, crc, crc_follows}
use Rattle.cells.specs.Damage.{row_bit, data_bit, bits_from, bits_byte, register}
use Rattle.cells.proofs.Laws.Number.{digits_more}
use Rattle.cells.proofs.Laws.Crc.{crc_from_append, follows_crc, crc_follows_lem}
use Rattle.cells.proofs.Laws.Register.{register_before_zero, passes}

-- one more bit of a number, at its end
more_of : (b p r v w : ℕ) → r ≡ p * 2 → b * r + (v * 2 + w) ≡ (b * p + v) * 2 + w
more_of b p r v w e = rw e (omega arith)

-- one more bit of a number, at its end
pub bits_more : (f : ℕ → ℕ) (k m : ℕ) → bits_from f m (suc k) ≡ bits_from f m k * 2 + f (m + k)
unfolding bits_from
bits_more f zero m = rw (add-zero m) (omega arith)
bits_more f (suc k) m =
    ap (λ (x : ℕ). f m * 2 ^ suc k + x) (bits_more f k (suc m))
    ∙ more_of (f m) (2 ^ k) (2 ^ suc k) (bits_from f (suc m) k) (f (suc m + k)) (pow-suc 2 k)
    ∙ ap (λ (x : ℕ). bits_from f m (suc k) * 2 + f x) (suc-add m k ∙ sym (add-suc m k))

-- the number in two rows of bits, one after the other
pub bits_join : (f : ℕ → ℕ) (m j k : ℕ) → bits_from f m (j + k) ≡ bits_from f m j * 2 ^ k + bits_from f (m + j) k
unfolding bits_from
bits_join f m j zero = rw (add-zero j) (omega arith)
bits_join f m j (suc k) =
    ap (bits_from f m) (add-suc j k) ∙ bits_more f (j + k) m
    ∙ ap (λ (x : ℕ). x * 2 + f (m + (j + k))) (bits_join f m j k)
    ∙ last (bits_from f m j) (2 ^ k) (2 ^ suc k) (bits_from f (m + j) k) (f (m + (j + k))) (pow-suc 2 k)
    ∙ let e : m + (j + k) ≡ m + j + k = omega arith in
    ap (λ (x : ℕ). bits_from f m j * 2 ^ suc k + (bits_from f (m + j) k * 2 + f x)) e
    ∙ ap (λ (x : ℕ). bits_from f m j * 2 ^ suc k + x) (sym (bits_more f k (m + j)))
  where
    last : (a p r v w : ℕ) → r ≡ p * 2 → (a * p + v) * 2 + w ≡ a * r + (v * 2 + w)
    last a p r v w e = rw e (omega arith)

-- the digits of a number that bits spell are the bits
pub bits_digit : (f : ℕ → ℕ) → ((i : ℕ) → f i < 2) → (m n j : ℕ) → j < n → bits_from f m n / 2 ^ (n - (j + 1)) % 2 ≡ f (m + j)
bits_digit f bit m zero j h = absurd (omega arith)
bits_digit f bit m (suc n) j h =
    ⊎_elim
    (λ (e : j ≡ n).
    let z : suc n - (j + 1) ≡ 0 = omega arith in
    rw (z, e, bits_more f n m) (omega (arith, bit (m + n))))
    (λ (l : j < n).
    let z : suc n - (j + 1) ≡ 1 + (n - (j + 1)) = omega arith in
    let half : bits_from f m (suc n) / 2 ≡ bits_from f m n = omega (arith, bits_more f n m, bit (m + n)) in
    rw (z, ← shr-shr (bits_from f m (suc n)) 1 (n - (j + 1)), half) (bits_digit f bit m n j l))
    (eq-or-lt_of_le (le_of_suc-le-suc h))

-- bits that are the digits of a number spell its first digits
pub digits_bits : (f : ℕ → ℕ) (m x w : ℕ) → x < 2 ^ w → ((j : ℕ) → j < w → f (m + j) ≡ x / 2 ^ (w - (j + 1)) % 2)
    → (k : ℕ) → k ≤ w → bits_from f m k ≡ x / 2 ^ (w - k)
unfolding bits_from
digits_bits f m x w hx e zero h = let z : w - 0 ≡ w = omega arith in rw z (sym (div-eq_of_lt hx))
digits_bits f m x w hx e (suc k) h =
    let b : w - suc k ≡ w - (k + 1) = omega arith in
    bits_more f k m ∙ rw (digits_bits f m x w hx e k (omega arith), e k h, b) (digits_more x w k h)

-- ---- bytes

-- the register after a byte is that after its bits, one after the other
byte_bits : (s : ℕ) (f : ℕ → ℕ) → ((i : ℕ) → f i < 2) → (m k : ℕ) → k ≤ 8 → crc_bits (register s f m) (bits_from f m 8) k ≡ register s f (m + k)
unfolding crc_bits register bit_of
byte_bits s f bit m zero h = ap (register s f) (sym (add-zero m))
byte_bits s f bit m (suc k) h =
    let e : 7 - k ≡ 8 - (k + 1) = omega arith in
    ap₂ crc_bit (byte_bits s f bit m k (omega arith)) (ap (λ (n : ℕ). bits_from f m 8 / 2 ^ n % 2) e ∙ bits_digit f bit m 8 k (omega arith))
    ∙ ap (register s f) (sym (add-suc m k))

-- one more byte of a row that is given by a rule
crc_next : (s : ℕ) (g : ℕ → ℕ) (n : ℕ) → crc_from s (tab g (n + 1)) ≡ crc_bits (crc_from s (tab g n)) (g n) 8
unfolding crc_from
crc_next s g n = ap (crc_from s) (tab_more g n) ∙ crc_from_append s (tab g n) (g n ∷ [])

crc_no_byte : (s : ℕ) (g : ℕ → ℕ) (f : ℕ → ℕ) → crc_from s (tab g 0) ≡ register s f (8 * 0)
unfolding crc_from tab register
crc_no_byte s g f = refl

module _ (f g : ℕ → ℕ) (bit : (i : ℕ) → f i < 2) where
  -- the CRC of bytes that bits spell is the register after these bits
  pub crc_bits_lem : (s n : ℕ) → ((q : ℕ) → q < n → g q ≡ bits_byte f q) → crc_from s (tab g n) ≡ register s f (8 * n)
  unfolding bits_byte
  crc_bits_lem s zero e = crc_no_byte s g f
  crc_bits_lem s (suc n) e =
      let a : suc n ≡ n + 1 = omega arith in
      let b : 8 * n + 8 ≡ 8 * suc n = omega arith in
      ap (λ (m : ℕ). crc_from s (tab g m)) a ∙ crc_next s g n
      ∙ ap₂ (λ (x y : ℕ). crc_bits x y 8) (crc_bits_lem s n (λ q h. e q (omega arith))) (e n (omega arith))
      ∙ byte_bits s f bit (8 * n) 8 (lit≤ tt) ∙ ap (register s f) b

  -- bytes are followed by their CRC exactly if the register is 0 after their bits and the CRC's
  module _ (n : ℕ) (e : (q : ℕ) → q < n + 2 → g q ≡ bits_byte f q) where
    crc_number : g n * 256 + g (n + 1) ≡ bits_from f (8 * n) 16 * 2 ^ (16 - 16)
    unfolding bits_byte
    crc_number =
        let b : 8 * (n + 1) ≡ 8 * n + 8 = omega arith in
        let j : bits_from f (8 * n) 16 ≡ bits_from f (8 * n) 8 * 256 + bits_from f (8 * n + 8) 8 = bits_join f (8 * n) 8 8 in
        let x : g (n + 1) ≡ bits_from f (8 * n + 8) 8 = e (n + 1) (omega arith) ∙ ap (λ (m : ℕ). bits_from f m 8) b in
        omega (arith, e n (omega arith))

    crc_register : crc (tab g n) ≡ register crc_start f (8 * n)
    unfolding crc
    crc_register = crc_bits_lem crc_start n (λ q h. e q (omega arith))

    -- where bytes are followed by their CRC, the register is 0 after their bits and the CRC's
    pub follows_zero : crc_follows g n ≡ true → register crc_start f (8 * n + 16) ≡ 0
    follows_zero h = passes crc_start (lit< tt) f bit 16 (8 * n) (lit≤ tt) (sym crc_register ∙ follows_crc g n h ∙ crc_number)

    -- where the register is 0 after their bits and the CRC's, bytes are followed by their CRC
    pub zero_follows : register crc_start f (8 * n + 16) ≡ 0 → crc_follows g n ≡ true
    zero_follows z = crc_follows_lem g n (crc_register ∙ register_before_zero crc_start (lit< tt) f bit 16 (8 * n) (lit≤ tt) z ∙ sym crc_number)

-- ---- the bits of a row of bytes, and of cells

-- a bit of a list of bytes is 0 or 1
pub row_bit_lem : (xs : List ℕ) (i : ℕ) → row_bit xs i < 2
unfolding row_bit bit_of
row_bit_lem xs i = omega arith

-- a byte of a list is what its bits spell
pub row_spelled : (xs : List ℕ) (q : ℕ) → get_or xs q 0 < 256 → get_or xs q 0 ≡ bits_byte (row_bit xs) q
unfolding row_bit bit_of bits_byte
row_spelled xs q h =
    sym (digits_bits (row_bit xs) (8 * q) (get_or xs q 0) 8 h
    (λ j l.
    let a : (8 * q + j) / 8 ≡ q = omega arith in
    let b : (8 * q + j) % 8 ≡ j = omega arith in
    let c : 7 - j ≡ 8 - (j + 1) = omega arith in
    rw (a, b, c))
    8 (lit≤ tt) ∙ one)
  where
    one : get_or xs q 0 / 1 ≡ get_or xs q 0
    one = omega arith

number_bits : (c : List ℕ) (f : ℕ → ℕ) (k m n : ℕ) → ((j : ℕ) → j < n → get_or c (k + 2 * j) 0 ≡ f (m + j)) → number c 2 k n ≡ bits_from f m n
unfolding number bits_from
number_bits c f k m zero e = refl
number_bits c f k m (suc n) e =
    ap₂ (λ (x y : ℕ). x * 2 + y) (number_bits c f k m n (λ j h. e j (omega arith))) (e n (omega arith)) ∙ sym (bits_more f n m)

-- a byte of cells is what its data cells spell
pub cells_spelled : (c : List ℕ) (q : ℕ) → data_byte c (16 * q) ≡ bits_byte (data_bit c) q
unfolding data_byte data_bit bits_byte
cells_spelled c q =
    number_bits c (data_bit c) (16 * q + 1) (8 * q) 8
    (λ j h. let a : 16 * q + 1 + 2 * j ≡ 2 * (8 * q + j) + 1 = omega arith in ap (λ (m : ℕ). get_or c m 0) a)

-- a data cell is a digit of its byte
pub byte_cell : (c : List ℕ) → ((i : ℕ) → get_or c i 0 < 2) → (q j : ℕ) → j < 8 → get_or c (16 * q + (2 * j + 1)) 0 ≡ data_byte c (16 * q) / 2 ^ (8 -
    (j + 1)) % 2
unfolding data_bit bits_byte
byte_cell c bit q j h =
    let m : 16 * q + (2 * j + 1) ≡ 2 * (8 * q + j) + 1 = omega arith in
    ap (λ (n : ℕ). get_or c n 0) m
    ∙ sym (ap (λ (x : ℕ). x / 2 ^ (8 - (j + 1)) % 2) (cells_spelled c q) ∙ bits_digit (data_bit c) (λ i. bit (2 * i + 1)) (8 * q) 8 j h)
