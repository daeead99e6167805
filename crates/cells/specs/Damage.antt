-- Wrong bits, and which of them a CRC always detects (docs/RULES.md, section 10): what the promises on damage (Caught.antt) are stated with.
-- A row of bits is a rule that gives bit i. Of two rows the first is what was recorded and the second what is read.
-- Assumes nothing: these are definitions.
use Rattle.std.specs.Prelude.{◌≡◌, true, not, cond, ◌&&◌, List, ℕ, zero, suc, ◌+◌, ◌-◌, ◌*◌, ◌/◌, ◌%◌, ◌^◌, ◌≤◌, ◌<◌, leb, ltb, eqb, length, get_or}
use Rattle.laws.specs.Below.{count}
use Rattle.cells.specs.Mfm.{bit_of}
use Rattle.cells.specs.Crc.{crc_bit, crc_follows}

-- ---- rows of bits

-- bit i of a list of bytes, highest bit of each byte first (§10.1)
unfoldable pub row_bit : List ℕ → ℕ → ℕ
row_bit xs i = bit_of (get_or xs (i / 8) 0) (i % 8)

-- bit i of a list of cells: the second cell of its pair (§10.1)
unfoldable pub data_bit : List ℕ → ℕ → ℕ
data_bit c i = get_or c (2 * i + 1) 0

-- the number in the k bits from m on, highest first (§10.1)
unfoldable pub bits_from : (ℕ → ℕ) → ℕ → ℕ → ℕ
bits_from f m zero = 0
bits_from f m (suc k) = f m * 2 ^ k + bits_from f (suc m) k

-- byte q of a row of bits (§10.1)
unfoldable pub bits_byte : (ℕ → ℕ) → ℕ → ℕ
bits_byte f q = bits_from f (8 * q) 8

-- the CRC's register, s at first, after the first n bits (§10.1)
unfoldable pub register : ℕ → (ℕ → ℕ) → ℕ → ℕ
register s f zero = s
register s f (suc n) = crc_bit (register s f n) (f n)

-- n bytes, and after them the two of their CRC (§10.1)
pub record EndsWithCrc (xs : List ℕ) (n : ℕ) : Type 0 where
  pub long : length xs ≡ n + 2
  pub bytes : (q : ℕ) → get_or xs q 0 < 256
  pub follows : crc_follows (λ (q : ℕ). get_or xs q 0) n ≡ true

-- ---- wrong bits

-- how many of the first n bits are wrong: they are read otherwise than they were recorded (§10.1)
unfoldable pub wrong_bits : (ℕ → ℕ) → (ℕ → ℕ) → ℕ → ℕ
wrong_bits f g n = count n (λ (i : ℕ). not (eqb (f i) (g i)))

-- a CRC detects wrong bits that lie among so many neighbouring ones (§10.2)
abbrev pub burst_bits : ℕ
burst_bits = 16

-- it detects so many wrong bits, and fewer, wherever they lie in a row that is no longer than the next number (§10.2)
abbrev pub few_bits : ℕ
few_bits = 3

-- the bits of a data field from its first sync byte to the end of its CRC. For a CRC of 16 bits this is far from the longest row (§10.2)
abbrev pub longest_row : ℕ
longest_row = 4144

-- the one notion of damage, with which each promise on tracks and images is stated: of the first n bits none is wrong, or the wrong ones lie among 16
-- neighbouring ones, or there are at most three of them in a row of at most 4,144, or their number is odd (§10.2)
pub data Detectable (f g : ℕ → ℕ) (n : ℕ) : Type 0 where
  burst : (a : ℕ) → ((i : ℕ) → i < n → i < a → f i ≡ g i) → ((i : ℕ) → i < n → a + burst_bits ≤ i → f i ≡ g i) → Detectable f g n
  few : n ≤ longest_row → wrong_bits f g n ≤ few_bits → Detectable f g n
  odd : wrong_bits f g n % 2 ≡ 1 → Detectable f g n

-- ---- one longer stretch

-- the row g with the w bits from place a on replaced by the digits of x, highest first (§10.2)
unfoldable pub filled : (ℕ → ℕ) → ℕ → ℕ → ℕ → ℕ → ℕ
filled g a w x i = cond (leb a i && ltb i (a + w)) (x / 2 ^ (w - ((i - a) + 1)) % 2) (g i)
