-- Numbers in bytes, highest or lowest byte first, at any width; and division rounded up.
use Rattle.std.specs.Prelude.{List, ℕ, zero, suc, ◌+◌, ◌-◌, ◌*◌, ◌/◌, ◌%◌, ◌^◌, get_or}
use Rattle.laws.specs.Lists.{element_at}

-- the number in the n bytes f 0, f 1 .., highest byte first
unfoldable pub big_endian : (ℕ → ℕ) → ℕ → ℕ
big_endian f zero = 0
big_endian f (suc n) = big_endian f n * 256 + f n

-- the number in the n bytes of s from at on, highest byte first
unfoldable pub high_first : List ℕ → ℕ → ℕ → ℕ
high_first s at n = big_endian (element_at s at) n

-- the number in the n bytes of s from at on, lowest byte first
unfoldable pub low_first : List ℕ → ℕ → ℕ → ℕ
low_first s at zero = 0
low_first s at (suc n) = low_first s at n + get_or s (at + n) 0 * 2 ^ (8 * n)

-- byte k of the n bytes of v, highest first
unfoldable pub high_byte : ℕ → ℕ → ℕ → ℕ
high_byte n v k = v / 2 ^ (8 * (n - (k + 1))) % 256

-- byte k of v, lowest first
unfoldable pub low_byte : ℕ → ℕ → ℕ
low_byte v k = v / 2 ^ (8 * k) % 256

-- the number in the two bytes of f from o on, highest byte first
unfoldable pub at16 : (ℕ → ℕ) → ℕ → ℕ
at16 f o = big_endian (λ (i : ℕ). f (o + i)) 2

-- the number in the four bytes of f from o on, highest byte first
unfoldable pub at32 : (ℕ → ℕ) → ℕ → ℕ
at32 f o = big_endian (λ (i : ℕ). f (o + i)) 4

-- n / d rounded up
unfoldable pub quotient_up : ℕ → ℕ → ℕ
quotient_up n d = (n + (d - 1)) / d
