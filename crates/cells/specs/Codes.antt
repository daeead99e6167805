-- Codes among the bytes of a side, as a version 3 image has them (docs/RULES.md, section 2): which cells the bytes give, or which code is wrong.
-- Assumes nothing: these are definitions.
use Rattle.std.specs.Prelude.{Bool, cond, Option, Some, None, List, [], ◌∷◌, ◌++◌, ℕ, suc, ◌/◌, ◌%◌, ◌^◌, leb, eqb, get_or, drop}
use Rattle.laws.specs.Lists.{tab}
use Rattle.cells.specs.declared.Side.{Side}
use Rattle.cells.specs.declared.Expected.{Expected}
use Rattle.cells.specs.declared.Expected.TheVariants.{Any, Rate, Count, Partial, Wrong}
use Rattle.cells.specs.Stream.{byte_place, number}

-- the bytes of a side in their order, one for every eight cells that they store (§2.6)
unfoldable pub stored_bytes : List ℕ → Side → List ℕ
stored_bytes part s = tab (λ (b : ℕ). get_or part (byte_place s b) 0) (s.cells / 8)

-- the eight cells of a byte: its bits, lowest first (§3.1)
unfoldable pub byte_cells : ℕ → List ℕ
byte_cells b = tab (λ (i : ℕ). b / 2 ^ i % 2) 8

-- a byte as codes and counts are read: its first cell is the highest bit (§2.7)
unfoldable pub reversed_bits : ℕ → ℕ
reversed_bits b = number (byte_cells b) 1 0 8

-- a byte reads as a code if it reads as F0 or more; where no earlier code claims it, it is one (§2.7)
unfoldable pub is_code : ℕ → Bool
is_code b = leb 0xF0 (reversed_bits b)

-- what follows a byte at place k that reads as v and may be a code: after data, F0 and F1 any byte; after F2 a bit rate, after F3 a count; all others are
-- wrong codes (§2.7 §2.9)
unfoldable pub after_code : ℕ → ℕ → Expected
after_code k v = cond (leb v 0xF1) Any (cond (eqb v 0xF2) (Rate k) (cond (eqb v 0xF3) (Count k) (Wrong k)))

-- what follows byte b at place k where x was expected; a count is 0 to 7, and after it stands the byte of which so many cells are dropped (§2.7 §2.9)
unfoldable pub expected_after : Expected → ℕ → ℕ → Expected
expected_after Any k b = after_code k (reversed_bits b)
expected_after (Rate p) k b = Any
expected_after (Count p) k b = cond (leb (reversed_bits b) 7) (Partial p (reversed_bits b)) (Wrong p)
expected_after (Partial p n) k b = Any
expected_after (Wrong p) k b = Wrong p

-- the cells that byte b gives where x was expected: none where it is a code, a bit rate or a count; after a count its cells without the first ones; else all
-- eight (§2.8)
unfoldable pub cells_given : Expected → ℕ → List ℕ
cells_given Any b = cond (is_code b) [] (byte_cells b)
cells_given (Rate p) b = []
cells_given (Count p) b = []
cells_given (Partial p n) b = drop n (byte_cells b)
cells_given (Wrong p) b = []

-- what the bytes of a side give: its cells, or the place of the first wrong code (§2.8 §2.9)
pub data Decoded : Type 0 where
  Cells : List ℕ → Decoded
  WrongCode : ℕ → Decoded

-- the same with cells before those that are given (§2.8)
unfoldable pub cells_before : List ℕ → Decoded → Decoded
cells_before c (Cells d) = Cells (c ++ d)
cells_before c (WrongCode p) = WrongCode p

-- what the end gives where x was expected: a code that lacks a byte is wrong (§2.9)
unfoldable pub at_end : Expected → Decoded
at_end Any = Cells []
at_end (Rate p) = WrongCode p
at_end (Count p) = WrongCode p
at_end (Partial p n) = WrongCode p
at_end (Wrong p) = WrongCode p

-- what bytes give of which the first is at place k, where x was expected (§2.8 §2.9)
unfoldable pub coded_from : Expected → ℕ → List ℕ → Decoded
coded_from x k [] = at_end x
coded_from x k (b ∷ bs) = cells_before (cells_given x b) (coded_from (expected_after x k b) (suc k) bs)

-- what the bytes of a side give: its cells, or the place of the first wrong code (§2.8 §2.9)
unfoldable pub coded : List ℕ → Decoded
coded bytes = coded_from Any 0 bytes

-- the cells, where no code is wrong (§2.8)
unfoldable pub cells_of : Decoded → List ℕ
cells_of (Cells c) = c
cells_of (WrongCode p) = []

-- the place of the wrong code, where there is one (§2.9)
unfoldable pub wrong_of : Decoded → Option ℕ
wrong_of (Cells c) = None
wrong_of (WrongCode p) = Some p
