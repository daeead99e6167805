-- MFM: the cells of a byte (docs/RULES.md, section 3).
-- Assumes nothing: these are definitions.
use Rattle.std.specs.Prelude.{cond, ◌&&◌, ℕ, zero, suc, ◌-◌, ◌/◌, ◌%◌, ◌^◌, eqb}

-- bit k of a byte, highest bit first (§3.3)
unfoldable pub bit_of : ℕ → ℕ → ℕ
bit_of x k = x / 2 ^ (7 - k) % 2

-- the clock cell of the bit b that follows the bit a: 1 exactly if both are 0 (§3.4)
unfoldable pub clock : ℕ → ℕ → ℕ
clock a b = cond (eqb b 0 && eqb a 0) 1 0

-- the bit before bit k of the byte x that follows the bit p (§3.4)
unfoldable pub before : ℕ → ℕ → ℕ → ℕ
before p x zero = p
before p x (suc k) = bit_of x k

-- cell j of the byte x that follows the bit p: for each bit its clock cell and after it the bit (§3.3 §3.4)
unfoldable pub mfm_cell : ℕ → ℕ → ℕ → ℕ
mfm_cell p x j = cond (eqb (j % 2) 0) (clock (before p x (j / 2)) (bit_of x (j / 2))) (bit_of x (j / 2))
