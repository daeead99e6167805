-- The cells of a side, and the bytes and words that are read from them (docs/RULES.md, sections 2 and 3).
-- Assumes nothing: these are definitions.
use Rattle.std.specs.Prelude.{List, ℕ, zero, suc, ◌+◌, ◌*◌, ◌/◌, ◌%◌, ◌^◌, get_or, drop}
use Rattle.laws.specs.Lists.{tab}
use Rattle.cells.specs.declared.Side.{Side}

-- where byte b of a side is in the track's part: runs of 256 bytes, the first at `first`, each `stride` bytes after the beginning of the one before (§2.6)
unfoldable pub byte_place : Side → ℕ → ℕ
byte_place s b = s.first + s.stride * (b / 256) + b % 256

-- the cell at place i of those that a side's bytes store: lowest bit of each byte first; 0 where the part has no such byte (§3.1)
unfoldable pub cell_at : List ℕ → Side → ℕ → ℕ
cell_at part s i = get_or part (byte_place s (i / 8)) 0 / 2 ^ (i % 8) % 2

-- the cells that a side's bytes store, as a line: it begins with the first cell and ends with the last (§3.2)
unfoldable pub stream : List ℕ → Side → List ℕ
stream part s = tab (cell_at part s) s.cells

-- where side h lies in an HFE track of so many bytes: each unit is 256 bytes of side 0 and then 256 of side 1, and a side has half the length;
-- its bytes store eight cells each (§2.6 §3.1)
abbrev pub hfe_side : ℕ → ℕ → Side
hfe_side h bytes = record { first = 256 * h; stride = 512; cells = 8 * (bytes / 2) }

-- the cells from place i on: the rules on sync bytes, headers and fields are stated over this list (§3.2)
unfoldable pub from : List ℕ → ℕ → List ℕ
from c i = drop i c

-- the number whose bits, highest first, are the n cells at k, k + step, k + 2 step ..; a cell past the end is 0 (§3.2 §3.6)
unfoldable pub number : List ℕ → ℕ → ℕ → ℕ → ℕ
number c step k zero = 0
number c step k (suc n) = number c step k n * 2 + get_or c (k + step * n) 0

-- the 16 cells at k as a number, first cell highest (§3.5)
unfoldable pub word : List ℕ → ℕ → ℕ
word c k = number c 1 k 16

-- the byte whose 16 cells begin at k: its data cells, the second, fourth and so on, are read, and no clock cell (§3.6)
unfoldable pub data_byte : List ℕ → ℕ → ℕ
data_byte c k = number c 2 (k + 1) 8

-- the n bytes whose cells begin at k (§3.6)
unfoldable pub data_bytes : List ℕ → ℕ → ℕ → List ℕ
data_bytes c k n = tab (λ (j : ℕ). data_byte c (k + 16 * j)) n

-- the number whose bits, lowest first, are f i, f (i + 1) .., n of them (§3.1)
unfoldable pub packed_bits : (ℕ → ℕ) → ℕ → ℕ → ℕ
packed_bits f i zero = 0
packed_bits f i (suc n) = f (i + n) * 2 ^ n + packed_bits f i n

-- byte b of a side whose cells are f 0, f 1 ..: cells go lowest bit first (§3.1)
unfoldable pub packed : (ℕ → ℕ) → ℕ → ℕ
packed f b = packed_bits f (8 * b) 8

-- where n cells lie in a buffer into which those of a side with codes are written: byte b of this side is byte b of the buffer (§2.6 §2.8)
abbrev pub buffer_side : ℕ → Side
buffer_side n = record { first = 0; stride = 256; cells = n }
