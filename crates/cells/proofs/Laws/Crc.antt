-- The CRC's register bit by bit and byte by byte, and bytes that are followed by their CRC.
-- Rests on the laws of rows of bytes.
use Rattle.std.specs.Prelude.{List, [], ◌∷◌, ◌++◌, true, ◌≡◌, refl, ℕ, zero, suc, ◌+◌, ◌-◌, ◌*◌, ◌/◌, ◌%◌, ◌^◌, ◌<◌, eqb}
use Rattle.std.proofs.Common.{sym, ap, ◌∙◌, add-one, arith, lit<}
use Rattle.std.proofs.lemmas.Nat.{xor_lt}
use Rattle.std.specs.List.{fold, range_with_len}
use Rattle.laws.specs.Lists.{tab, tab_from}
use Rattle.laws.specs.Laws.Tests.{true_eq, eq_true}
use Rattle.laws.specs.Laws.Tab.{tab_ext}
use Rattle.laws.specs.Laws.Numbers.{at16_is}
use Rattle.cells.specs.Stream.{data_byte, data_bytes}
use Rattle.cells.specs.Mfm.{bit_of}
use Rattle.cells.specs.Crc.{crc_start, crc_bit, crc_bits, crc_from, crc, crc_follows, polynomial}

-- the register after the bits of a byte one after another, highest first, is that after the byte
pub bits_in_turn : (s x : ℕ) → fold (λ (v k : ℕ). crc_bit v (x / 2 ^ (7 - k) % 2)) s (range_with_len 0 8) ≡ crc_bits s x 8
unfolding crc_bits bit_of
bits_in_turn s x = refl

-- the register after bytes one after another is that after their list
pub bytes_in_turn : (s : ℕ) (xs : List ℕ) → fold (λ (v x : ℕ). crc_bits v x 8) s xs ≡ crc_from s xs
unfolding crc_from
bytes_in_turn s [] = refl
bytes_in_turn s (x ∷ xs) = bytes_in_turn (crc_bits s x 8) xs

rule_in_turn : (f : ℕ → ℕ) (n a s : ℕ) → fold (λ (v j : ℕ). crc_bits v (f j) 8) s (range_with_len a n) ≡ crc_from s (tab_from f a n)
unfolding crc_from
rule_in_turn f zero a s = refl
rule_in_turn f (suc n) a s = rule_in_turn f n (a + 1) (crc_bits s (f a) 8) ∙ ap (λ (i : ℕ). crc_from (crc_bits s (f a) 8) (tab_from f i n)) (add-one a)

-- the CRC of a row of cells, byte after byte
pub cells_in_turn : (c : List ℕ) (k n : ℕ)
    → fold (λ (v j : ℕ). crc_bits v (data_byte c (k + 16 * j)) 8) crc_start (range_with_len 0 n) ≡ crc (data_bytes c k n)
unfolding crc data_bytes tab
cells_in_turn c k n = rule_in_turn (λ (j : ℕ). data_byte c (k + 16 * j)) n 0 crc_start

-- ---- the register has 16 bits

-- the register has 16 bits after each bit
pub crc_bit_lt : (s b : ℕ) → crc_bit s b < 2 ^ 16
unfolding crc_bit
crc_bit_lt s b = xor_lt 16 (polynomial * ((s / 0x8000 + b) % 2)) (s * 2 % 0x10000) (omega arith) (omega arith)

crc_bits_lt : (s x k : ℕ) → s < 2 ^ 16 → crc_bits s x k < 2 ^ 16
unfolding crc_bits
crc_bits_lt s x zero h = h
crc_bits_lt s x (suc k) h = crc_bit_lt _ _

crc_from_lt : (xs : List ℕ) (s : ℕ) → s < 2 ^ 16 → crc_from s xs < 2 ^ 16
unfolding crc_from
crc_from_lt [] s h = h
crc_from_lt (x ∷ xs) s h = crc_from_lt xs (crc_bits s x 8) (crc_bits_lt s x 8 h)

-- a CRC has 16 bits
pub crc_lt : (xs : List ℕ) → crc xs < 2 ^ 16
unfolding crc
crc_lt xs = crc_from_lt xs crc_start (lit< tt)

-- the register after two lists, one after the other
pub crc_from_append : (s : ℕ) (xs ys : List ℕ) → crc_from s (xs ++ ys) ≡ crc_from (crc_from s xs) ys
unfolding crc_from
crc_from_append s [] ys = refl
crc_from_append s (x ∷ xs) ys = crc_from_append (crc_bits s x 8) xs ys

-- ---- bytes that are followed by their CRC

-- bytes are followed by their CRC if the CRC is the number in the next two bytes
pub follows_two : (x : ℕ → ℕ) (n : ℕ) → crc_follows x n ≡ eqb (crc (tab x n)) (x n * 256 + x (n + 1))
unfolding crc_follows
follows_two x n = ap (eqb (crc (tab x n))) (at16_is x n)

-- where bytes are followed by their CRC, the CRC is the number in the next two bytes
pub follows_crc : (x : ℕ → ℕ) (n : ℕ) → crc_follows x n ≡ true → crc (tab x n) ≡ x n * 256 + x (n + 1)
follows_crc x n e = true_eq (sym (follows_two x n) ∙ e)

-- where the CRC is the number in the next two bytes, the bytes are followed by their CRC
pub crc_follows_lem : (x : ℕ → ℕ) (n : ℕ) → crc (tab x n) ≡ x n * 256 + x (n + 1) → crc_follows x n ≡ true
crc_follows_lem x n e = follows_two x n ∙ eq_true e

-- of rows that agree so far, both or none are followed by their CRC
pub follows_cong : (x y : ℕ → ℕ) (n : ℕ) → ((q : ℕ) → q < n + 2 → x q ≡ y q) → crc_follows x n ≡ crc_follows y n
follows_cong x y n e =
    follows_two x n
    ∙ rw (tab_ext x y n (λ q h. e q (omega arith)), e n (omega arith), e (n + 1) (omega arith)) (sym (follows_two y n))
