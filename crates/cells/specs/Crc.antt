-- The CRC (docs/RULES.md, section 3).
-- Assumes nothing: these are definitions.
use Rattle.std.specs.Prelude.{Bool, List, [], ◌∷◌, ℕ, zero, suc, ◌+◌, ◌*◌, ◌/◌, ◌%◌, eqb}
use Rattle.std.specs.Int.Bits.{bit_xor}
use Rattle.laws.specs.Lists.{tab}
use Rattle.laws.specs.Numbers.{at16}
use Rattle.cells.specs.Mfm.{bit_of}

-- the register before the first bit: FFFF (§3.8)
abbrev pub crc_start : ℕ
crc_start = 0xFFFF

-- the polynomial without its highest term: x^12 + x^5 + 1 (§3.8)
abbrev pub polynomial : ℕ
polynomial = 0x1021

-- the register s after one bit more: shifted left by one, and the polynomial added where the bit that leaves differs from the bit taken (§3.8)
unfoldable pub crc_bit : ℕ → ℕ → ℕ
crc_bit s b = bit_xor (polynomial * ((s / 0x8000 + b) % 2)) (s * 2 % 0x10000)

-- the register after the first k bits of the byte x, highest bit first (§3.8)
unfoldable pub crc_bits : ℕ → ℕ → ℕ → ℕ
crc_bits s x zero = s
crc_bits s x (suc k) = crc_bit (crc_bits s x k) (bit_of x k)

-- the register, s at first, after all bytes of a list (§3.8)
unfoldable pub crc_from : ℕ → List ℕ → ℕ
crc_from s [] = s
crc_from s (x ∷ xs) = crc_from (crc_bits s x 8) xs

-- the CRC of a list of bytes (§3.8)
unfoldable pub crc : List ℕ → ℕ
crc xs = crc_from crc_start xs

-- the n bytes x 0, x 1 .. are followed by their CRC, high byte first (§3.9)
unfoldable pub crc_follows : (ℕ → ℕ) → ℕ → Bool
crc_follows x n = eqb (crc (tab x n)) (at16 x n)
