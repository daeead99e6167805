-- The numbers that cells spell.
-- Rests on the laws of the cells from a place on.
use Rattle.std.specs.Prelude.{List, ◌≡◌, refl, length}
use Rattle.std.proofs.Math.Logic.{⊎_elim}
use Rattle.std.proofs.Common.{sym, ap, ◌∙◌, eq-or-lt_of_le, le_of_suc-le-suc, not-suc-le-zero, one-mul, zero-lt-suc, pow-suc, lt_of_lt_of_le, add-one, pow_mono}
use Prim.Native.Nat.{ℕ, zero, suc, ◌+◌, ◌-◌, ◌*◌, ◌/◌, ◌%◌, ◌^◌, ◌≤◌, ◌<◌}
use Rattle.std.proofs.Math.Nat.{div-eq_of_lt}
use native.Mathlib.Omega.{arith}
use Rattle.std.proofs.Common.{bit_or, mod-eq_of_lt}
use Rattle.std.proofs.lemmas.Nat.{or_shifted}
use Rattle.std.specs.List.{fold, range_with_len}
use Rattle.std.proofs.Math.ListN.{get_or}
use Rattle.std.proofs.Math.Pow.{shr-shr}
use Rattle.laws.specs.Laws.Tab.{eq_tab}
use Rattle.cells.specs.Stream.{number, word, data_byte, data_bytes, from}
use Rattle.cells.proofs.Laws.Stream.{from_at}

-- one more cell doubles a number and adds the cell
pub number_more : (c : List ℕ) (step k n : ℕ) → number c step k (n + 1) ≡ number c step k n * 2 + get_or c (k + step * n) 0
unfolding number
number_more c step k n = rw add-one

-- n cells spell a number below 2 ^ n
pub number_lt : (c : List ℕ) → ((i : ℕ) → get_or c i 0 < 2) → (step k n : ℕ) → number c step k n < 2 ^ n
unfolding number
number_lt c bit step k zero = zero-lt-suc 0
number_lt c bit step k (suc n) = omega (arith, number_lt c bit step k n, bit (k + step * n), pow-suc 2 n)

-- at most j cells spell a number below 2 ^ j
pub number_below : (c : List ℕ) → ((i : ℕ) → get_or c i 0 < 2) → (step k j n : ℕ) → n ≤ j → number c step k n < 2 ^ j
number_below c bit step k j n h = lt_of_lt_of_le (number_lt c bit step k n) (pow_mono h)

-- cells taken one after another, each below those before it, as code shifts them up in a number below w
module _ (c : List ℕ) (step k t w : ℕ) (f : ℕ → ℕ) (bit : (j : ℕ) → f j < 2)
    (is : (j : ℕ) → j < t → f j ≡ get_or c (k + step * j) 0) (fits : 2 ^ t ≤ w) where
  each_below : (m n v : ℕ) → n + m ≡ t → v < 2 ^ n → v ≡ number c step k n
      → fold (λ (v j : ℕ). bit_or (v * 2 % w) (f j)) v (range_with_len n m) ≡ number c step k t
  each_below zero n v e l q = let z : n ≡ t = omega arith in rw z at q
  each_below (suc m) n v e l q =
      let p : 2 ^ (n + 1) ≤ 2 ^ t = pow_mono {i = n + 1} {j = t} (omega arith) in
      let d : 2 ^ (n + 1) ≡ 2 ^ n * 2 = rw add-one (pow-suc 2 n) in
      let s : v * 2 % w ≡ v * 2 = mod-eq_of_lt (omega arith) in
      rw (fold, s, or_shifted v 1 (f n) (bit n))
      (each_below m (n + 1) (v * 2 + f n) (omega arith) (omega (arith, bit n)) (rw (number_more, q, is n (omega arith))))

  -- t of them spell their number
  pub number_in_turn : fold (λ (v j : ℕ). bit_or (v * 2 % w) (f j)) 0 (range_with_len 0 t) ≡ number c step k t
  unfolding number
  number_in_turn = each_below t 0 0 (omega arith) (zero-lt-suc 0) refl

-- equal cells spell equal numbers
pub number_same : (c d : List ℕ) (step i j n : ℕ) → ((k : ℕ) → k < n → get_or c (i + step * k) 0 ≡ get_or d (j + step * k) 0)
    → number c step i n ≡ number d step j n
unfolding number
number_same c d step i j zero e = refl
number_same c d step i j (suc n) e =
    rw (number_same c d step i j n (λ k l. e k (omega arith)), e n (omega arith))

-- cells that are all 0 make 0
pub number_zero : (c : List ℕ) (step k n : ℕ) → ((j : ℕ) → k ≤ j → get_or c j 0 ≡ 0) → number c step k n ≡ 0
unfolding number
number_zero c step k zero e = refl
number_zero c step k (suc n) e = rw (number_zero c step k n e, e (k + step * n) (omega arith))

-- where all cells from k on are 0, the byte at k is 0
pub byte_past : (c : List ℕ) (k : ℕ) → ((j : ℕ) → k ≤ j → get_or c j 0 ≡ 0) → data_byte c k ≡ 0
unfolding data_byte
byte_past c k e = number_zero c 2 (k + 1) 8 (λ j h. e j (omega arith))

-- the cells from a place on spell what the cells at that place spell
pub number_from : (c : List ℕ) (i step k n : ℕ) → number (from c i) step k n ≡ number c step (i + k) n
number_from c i step k n =
    number_same (from c i) c step k (i + k) n
    (λ j h. let e : i + (k + step * j) ≡ i + k + step * j = omega arith in from_at c i (k + step * j) ∙ ap (λ (m : ℕ). get_or c m 0) e)

-- the 16 cells at k of those from place i on are the 16 cells at i + k
pub word_from : (c : List ℕ) (i k : ℕ) → word (from c i) k ≡ word c (i + k)
unfolding word
word_from c i k = number_from c i 1 k 16

-- the byte at k of the cells from place i on is the byte at i + k
pub byte_from : (c : List ℕ) (i k : ℕ) → data_byte (from c i) k ≡ data_byte c (i + k)
unfolding data_byte
byte_from c i k =
    let e : i + (k + 1) ≡ i + k + 1 = omega arith in
    number_from c i 2 (k + 1) 8 ∙ ap (λ (m : ℕ). number c 2 m 8) e

module _ (c : List ℕ) (bit : (i : ℕ) → get_or c i 0 < 2) (i : ℕ) where
  -- a cell is a digit of the number that a row of cells spells
  pub number_cell : (n k : ℕ) → k < n → get_or c (i + k) 0 ≡ number c 1 i n / 2 ^ (n - (k + 1)) % 2
  unfolding number
  number_cell zero k h = absurd (not-suc-le-zero h)
  number_cell (suc n) k h =
      ⊎_elim
      (λ (e : k ≡ n).
      let z : suc n - (k + 1) ≡ 0 = omega arith in
      rw (z, e, one-mul) (omega (arith, bit (i + n))))
      (λ (l : k < n).
      let z : suc n - (k + 1) ≡ 1 + (n - (k + 1)) = omega arith in
      let half : (number c 1 i n * 2 + get_or c (i + 1 * n) 0) / 2 ≡ number c 1 i n = omega (arith, bit (i + 1 * n)) in
      rw (z, ← shr-shr (number c 1 i n * 2 + get_or c (i + 1 * n) 0) 1 (n - (k + 1)), half) (number_cell n k l))
      (eq-or-lt_of_le (le_of_suc-le-suc h))

-- the first n digits of a number of m bits, and one more of them
pub digits_more : (w m n : ℕ) → n < m → w / 2 ^ (m - n) * 2 + w / 2 ^ (m - (n + 1)) % 2 ≡ w / 2 ^ (m - (n + 1))
digits_more w m n h =
    let a : m - n ≡ (m - (n + 1)) + 1 = omega arith in
    let s : w / 2 ^ (m - n) ≡ w / 2 ^ (m - (n + 1)) / 2 = rw a (sym (shr-shr w (m - (n + 1)) 1)) in
    rw s (omega arith)

-- cells that are the digits of a number of m bits spell its first digits
pub number_digits : (c : List ℕ) (step i w m : ℕ) → w < 2 ^ m → ((k : ℕ) → k < m → get_or c (i + step * k) 0 ≡ w / 2 ^ (m - (k + 1)) % 2)
    → (n : ℕ) → n ≤ m → number c step i n ≡ w / 2 ^ (m - n)
unfolding number
number_digits c step i w m hw e zero h = let z : m - 0 ≡ m = omega arith in rw z (sym (div-eq_of_lt hw))
number_digits c step i w m hw e (suc n) h =
    let b : m - suc n ≡ m - (n + 1) = omega arith in
    rw (number_digits c step i w m hw e n (omega arith), e n h, b) (digits_more w m n h)

-- ---- rows of bytes

-- bytes that are those of a list, one by one, are the list
pub bytes_list : (c : List ℕ) (k : ℕ) (xs : List ℕ) → ((j : ℕ) → j < length xs → data_byte c (k + 16 * j) ≡ get_or xs j 0)
    → data_bytes c k (length xs) ≡ xs
unfolding data_bytes
bytes_list c k xs e = sym (eq_tab xs (λ (j : ℕ). data_byte c (k + 16 * j)) (length xs) refl (λ j h. sym (e j h)))
