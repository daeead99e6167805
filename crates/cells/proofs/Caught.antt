-- What is promised of wrong bits: a CRC detects every detectable damage (Damage.antt) of the bits that it covers and of its own 16; how often it detects one
-- longer stretch; and that 16 neighbouring bits and three wrong bits are the limits.
-- Rests on the laws of rows of bits, of detectable damage and of fillings.
use Rattle.std.specs.Prelude.{true, List, [], ◌∷◌, ◌↔◌, ◌≡◌, refl, ℕ, zero, suc, ◌+◌, ◌*◌, ◌%◌, ◌^◌, ◌≤◌, ◌<◌, get_or}
use Rattle.std.proofs.Common.{sym, ap, ◌∙◌, arith, lit<, ext_get_or}
use Rattle.laws.specs.Lists.{tab}
use Rattle.laws.specs.Below.{count}
use Rattle.laws.specs.Numbers.{at16, big_endian}
use Rattle.cells.specs.Crc.{crc_start, crc_bit, crc_bits, crc_from, crc, crc_follows}
use Rattle.cells.specs.Mfm.{bit_of}
use Rattle.cells.specs.Damage.{row_bit, bits_byte, register, EndsWithCrc, wrong_bits, burst_bits, few_bits, longest_row, Detectable, burst, few, odd, filled}
use Rattle.cells.proofs.Laws.Bits.{follows_zero, zero_follows, row_bit_lem, row_spelled}
use Rattle.cells.proofs.Laws.Chance.{fillings}
use Rattle.cells.proofs.Laws.Caught.{bytes_caught, wrong_none}

-- detectable_caught: two lists of bytes that each end with their CRC and whose bits differ detectably are the same list
pub detectable_caught : (xs ys : List ℕ) (n : ℕ) → EndsWithCrc xs n → EndsWithCrc ys n → Detectable (row_bit xs) (row_bit ys) (8 * (n + 2)) → xs ≡ ys
detectable_caught xs ys n s t d =
    ext_get_or 0 xs ys (s.long ∙ sym t.long)
    (λ q h.
    bytes_caught (row_bit xs) (row_bit ys) (λ (j : ℕ). get_or xs j 0) (λ (j : ℕ). get_or ys j 0) (row_bit_lem xs) (row_bit_lem ys) n
    (λ j l. row_spelled xs j (s.bytes j)) (λ j l. row_spelled ys j (t.bytes j)) s.follows t.follows d q
    (omega (arith, s.long)))

-- its three cases
module _ (xs ys : List ℕ) (n : ℕ) (s : EndsWithCrc xs n) (t : EndsWithCrc ys n) where
  -- burst_caught: their bits differ among 16 neighbouring ones alone
  pub burst_caught : (a : ℕ) → ((i : ℕ) → i < 8 * (n + 2) → i < a → row_bit xs i ≡ row_bit ys i)
      → ((i : ℕ) → i < 8 * (n + 2) → a + burst_bits ≤ i → row_bit xs i ≡ row_bit ys i) → xs ≡ ys
  burst_caught a before after = detectable_caught xs ys n s t (burst a before after)

  -- three_caught: their bits, 4,144 at most, differ at three places at most
  pub three_caught : 8 * (n + 2) ≤ longest_row → wrong_bits (row_bit xs) (row_bit ys) (8 * (n + 2)) ≤ few_bits → xs ≡ ys
  three_caught l d = detectable_caught xs ys n s t (few l d)

  -- odd_caught: their bits never differ at an odd number of places
  pub odd_caught : wrong_bits (row_bit xs) (row_bit ys) (8 * (n + 2)) % 2 ≡ 1 → ⊥
  odd_caught d =
      let e : xs ≡ ys = detectable_caught xs ys n s t (odd d) in
      let z : wrong_bits (row_bit xs) (row_bit ys) (8 * (n + 2)) ≡ 0 =
      wrong_none (row_bit xs) (row_bit ys) (8 * (n + 2)) (λ i h. ap (λ (l : List ℕ). row_bit l i) e) in
      omega arith

-- crc_zero: bytes are followed by their CRC exactly if the register is 0 after all bits, the CRC's 16 among them
pub crc_zero : (xs : List ℕ) (n : ℕ) → ((q : ℕ) → get_or xs q 0 < 256)
    → crc_follows (λ (q : ℕ). get_or xs q 0) n ≡ true ↔ register crc_start (row_bit xs) (8 * n + 16) ≡ 0
crc_zero xs n b = (
  follows_zero (row_bit xs) (λ (q : ℕ). get_or xs q 0) (row_bit_lem xs) n (λ q h. row_spelled xs q (b q)),
  zero_follows (row_bit xs) (λ (q : ℕ). get_or xs q 0) (row_bit_lem xs) n (λ q h. row_spelled xs q (b q)),
)

-- one_in_65536: 16 neighbouring bits and some more are replaced in each of the 2 ^ more * 65,536 ways that there are, and no other bit. Of all these rows at
-- most 2 ^ more are followed by their CRC
pub one_in_65536 : (g : ℕ → ℕ) → ((i : ℕ) → g i < 2) → (n a more : ℕ) → a + (more + 16) ≤ 8 * (n + 2)
    → count (2 ^ more * 65536) (λ (x : ℕ). crc_follows (bits_byte (filled g a (more + 16) x)) n) ≤ 2 ^ more
one_in_65536 g bit n a more h = fillings g bit n a more h

-- seventeen_pass: 16 neighbouring bits and three wrong bits are the limits. These two lists end with their CRC, and one bit more than three, all among one
-- more than 16, is wrong: from bit 7 on, at the places of the polynomial's four terms
pub seventeen_pass : EndsWithCrc (0x00 ∷ 0xE1 ∷ 0xF0 ∷ []) 1 × EndsWithCrc (0x01 ∷ 0xF1 ∷ 0xD1 ∷ []) 1
    × (wrong_bits (row_bit (0x00 ∷ 0xE1 ∷ 0xF0 ∷ [])) (row_bit (0x01 ∷ 0xF1 ∷ 0xD1 ∷ [])) 7 ≡ 0)
    × (wrong_bits (row_bit (0x00 ∷ 0xE1 ∷ 0xF0 ∷ [])) (row_bit (0x01 ∷ 0xF1 ∷ 0xD1 ∷ [])) (7 + (burst_bits + 1)) ≡ few_bits + 1)
unfolding crc_follows crc crc_from crc_bits crc_bit bit_of row_bit wrong_bits count at16 big_endian tab
seventeen_pass = (
  record { long = refl; bytes = three 0x00 0xE1 0xF0 (lit< tt) (lit< tt) (lit< tt); follows = refl },
  record { long = refl; bytes = three 0x01 0xF1 0xD1 (lit< tt) (lit< tt) (lit< tt); follows = refl },
  refl,
  refl,
)
  where
    three : (x y z : ℕ) → x < 256 → y < 256 → z < 256 → (q : ℕ) → get_or (x ∷ y ∷ z ∷ []) q 0 < 256
    three x y z hx hy hz zero = hx
    three x y z hx hy hz (suc zero) = hy
    three x y z hx hy hz (suc (suc zero)) = hz
    three x y z hx hy hz (suc (suc (suc q))) = lit< tt
