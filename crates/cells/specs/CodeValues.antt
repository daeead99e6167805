-- code_values: codes and counts as they are stored, the cells that bytes with codes give, and wrong codes, by value (§2.7, §2.8, §2.9).
-- code_steps: the same code by code, whatever the bytes are. Together they leave no other reading of a side's bytes: how codes and counts are read is computed
-- for all 256 bytes, and the cells of a byte are those that a version 1 side has of it.
-- Assumes nothing: these are definitions. The proofs are `code_values` in Laws/CodeValues.antt and `code_steps` in Laws/CodeSteps.antt.
use Rattle.std.specs.Prelude.{false, List, [], ◌∷◌, ◌++◌, map, ◌≡◌, ℕ, ◌+◌, ◌*◌, ◌/◌, ◌%◌, ◌≤◌, ◌<◌, eqb, drop}
use Rattle.laws.specs.Lists.{tab}
use Rattle.cells.specs.declared.Expected.TheVariants.{Any}
use Rattle.cells.specs.Stream.{stream, hfe_side}
use Rattle.cells.specs.Codes.{byte_cells, reversed_bits, is_code, Decoded, Cells, WrongCode, cells_before, coded_from, coded}

-- all bytes (§2.7)
abbrev pub all_bytes : List ℕ
all_bytes = tab (λ (b : ℕ). b) 256

-- a byte of data that is no code: 9B (§2.8)
abbrev pub data_sample : ℕ
data_sample = 0x9B

-- its cells, first cell first (§2.8)
unfoldable pub sample_cells : List ℕ
sample_cells = 1 ∷ 1 ∷ 0 ∷ 1 ∷ 1 ∷ 0 ∷ 0 ∷ 1 ∷ []

-- a stored count after F3 and then the byte of data (§2.8)
unfoldable pub after_count : ℕ → Decoded
after_count n = coded (0xCF ∷ n ∷ data_sample ∷ [])

-- a byte of data and then these (§2.9)
unfoldable pub after_data : List ℕ → Decoded
after_data bytes = coded (data_sample ∷ bytes)

-- by value: codes and counts as stored, the cells that are given, and wrong codes (§2.7 §2.8 §2.9)
pub record CodeValues : Type 0 where
  -- F0 to F4 as they are stored
  pub codes_stored : map reversed_bits (0x0F ∷ 0x8F ∷ 0x4F ∷ 0xCF ∷ 0x2F ∷ []) ≡ 0xF0 ∷ 0xF1 ∷ 0xF2 ∷ 0xF3 ∷ 0xF4 ∷ []
  -- the counts 0 to 8 as they are stored
  pub counts_stored : map reversed_bits (0x00 ∷ 0x80 ∷ 0x40 ∷ 0xC0 ∷ 0x20 ∷ 0xA0 ∷ 0x60 ∷ 0xE0 ∷ 0x10 ∷ []) ≡ 0 ∷ 1 ∷ 2 ∷ 3 ∷ 4 ∷ 5 ∷ 6 ∷ 7 ∷ 8 ∷ []
  -- every byte, bit by bit: its lowest bit, as stored, is the highest that is read
  pub bits_reversed : map reversed_bits all_bytes
      ≡ map (λ (b : ℕ). b % 2 * 128 + b / 2 % 2 * 64 + b / 4 % 2 * 32 + b / 8 % 2 * 16 + b / 16 % 2 * 8 + b / 32 % 2 * 4 + b / 64 % 2 * 2 + b / 128 % 2)
      all_bytes
  -- of all bytes those are codes whose lowest four bits, as stored, are all 1
  pub low_bits : map is_code all_bytes ≡ map (λ (b : ℕ). eqb (b % 16) 15) all_bytes
  -- no byte, a byte of data; F0 and F1 give nothing, before it and after it
  pub no_code : map coded ([] ∷ (data_sample ∷ []) ∷ (0x0F ∷ data_sample ∷ 0x8F ∷ []) ∷ (0x8F ∷ 0x0F ∷ []) ∷ [])
      ≡ Cells [] ∷ Cells sample_cells ∷ Cells sample_cells ∷ Cells [] ∷ []
  -- the byte after F2 is a bit rate even if it looks like F3 or a reserved code, and gives nothing; what follows is data
  pub any_rate : map (λ (v : ℕ). coded (0x4F ∷ v ∷ data_sample ∷ [])) (0x00 ∷ 0x9B ∷ 0xCF ∷ 0xFF ∷ 0x4F ∷ [])
      ≡ Cells sample_cells ∷ Cells sample_cells ∷ Cells sample_cells ∷ Cells sample_cells ∷ Cells sample_cells ∷ []
  -- the counts 0 to 7: so many first cells are dropped
  pub cells_dropped : map after_count (0x00 ∷ 0x80 ∷ 0x40 ∷ 0xC0 ∷ 0x20 ∷ 0xA0 ∷ 0x60 ∷ 0xE0 ∷ [])
      ≡ Cells sample_cells
      ∷ Cells (1 ∷ 0 ∷ 1 ∷ 1 ∷ 0 ∷ 0 ∷ 1 ∷ []) ∷ Cells (0 ∷ 1 ∷ 1 ∷ 0 ∷ 0 ∷ 1 ∷ []) ∷ Cells (1 ∷ 1 ∷ 0 ∷ 0 ∷ 1 ∷ []) ∷ Cells (1 ∷ 0 ∷ 0 ∷ 1 ∷ [])
      ∷ Cells (0 ∷ 0 ∷ 1 ∷ []) ∷ Cells (0 ∷ 1 ∷ []) ∷ Cells (1 ∷ []) ∷ []
  -- what follows a count is data, also a byte that is stored as a code is: here 3 cells of CF are dropped; then codes are codes again
  pub data_always : coded (0xCF ∷ 0xC0 ∷ 0xCF ∷ 0x8F ∷ data_sample ∷ []) ≡ Cells (1 ∷ 0 ∷ 0 ∷ 1 ∷ 1 ∷ sample_cells)
  -- after a byte of data, F4 and the reserved codes F5 to FF are wrong, at place 1
  pub wrong_codes :
      map (λ (v : ℕ). after_data (v ∷ data_sample ∷ data_sample ∷ []))
      (0x2F ∷ 0xAF ∷ 0x6F ∷ 0xEF ∷ 0x1F ∷ 0x9F ∷ 0x5F ∷ 0xDF ∷ 0x3F ∷ 0xBF ∷ 0x7F ∷ 0xFF ∷ [])
      ≡ map (λ (v : ℕ). WrongCode 1) (tab (λ (j : ℕ). j) 12)
  -- F2 without its byte, F3 without its count, and F3 with the counts 0, 3 and 7 without its data, cut by the end
  pub codes_cut : map after_data ((0x4F ∷ []) ∷ (0xCF ∷ []) ∷ (0xCF ∷ 0x00 ∷ []) ∷ (0xCF ∷ 0xC0 ∷ []) ∷ (0xCF ∷ 0xE0 ∷ []) ∷ [])
      ≡ WrongCode 1 ∷ WrongCode 1 ∷ WrongCode 1 ∷ WrongCode 1 ∷ WrongCode 1 ∷ []
  -- the counts 8, 128 and 255 with data, and 8 and 128 cut by the end: the place is that of F3
  pub wrong_counts :
      map after_data
      ((0xCF ∷ 0x10 ∷ data_sample ∷ []) ∷ (0xCF ∷ 0x01 ∷ data_sample ∷ []) ∷ (0xCF ∷ 0xFF ∷ data_sample ∷ []) ∷ (0xCF ∷ 0x10 ∷ []) ∷ (0xCF ∷ 0x01 ∷ []) ∷ [])
      ≡ WrongCode 1 ∷ WrongCode 1 ∷ WrongCode 1 ∷ WrongCode 1 ∷ WrongCode 1 ∷ []
  -- the place counts every byte before the code, those of codes too, and the first wrong code is named
  pub first_named : map coded ((0x8F ∷ 0x4F ∷ 0xFF ∷ 0xCF ∷ 0x80 ∷ 0x2F ∷ 0x2F ∷ 0x2F ∷ []) ∷ (0x2F ∷ 0x4F ∷ []) ∷ (0xCF ∷ 0x10 ∷ 0x2F ∷ 0x9B ∷ []) ∷ [])
      ≡ WrongCode 6 ∷ WrongCode 0 ∷ WrongCode 0 ∷ []

-- code by code, where the next byte may be a code: bytes of which the first is at place k, whatever they are (§2.7 §2.8 §2.9)
pub record CodeSteps : Type 0 where
  -- no byte is left
  pub ended : (k : ℕ) → coded_from Any k [] ≡ Cells []
  -- data give their eight cells
  pub plain : (k b : ℕ) (bs : List ℕ) → is_code b ≡ false → coded_from Any k (b ∷ bs) ≡ cells_before (byte_cells b) (coded_from Any (k + 1) bs)
  -- F0 and F1 give nothing
  pub nothing : (k : ℕ) (bs : List ℕ) → coded_from Any k (0x0F ∷ bs) ≡ coded_from Any (k + 1) bs
  pub index : (k : ℕ) (bs : List ℕ) → coded_from Any k (0x8F ∷ bs) ≡ coded_from Any (k + 1) bs
  -- F2 with a bit rate gives nothing; without one it is wrong
  pub rate : (k v : ℕ) (bs : List ℕ) → coded_from Any k (0x4F ∷ v ∷ bs) ≡ coded_from Any (k + 2) bs
  pub rate_cut : (k : ℕ) → coded_from Any k (0x4F ∷ []) ≡ WrongCode k
  -- F3 with a count up to 7 gives the last cells of the byte after it, whatever byte that is; without count or byte it is wrong
  pub dropped : (k n b : ℕ) (bs : List ℕ) → reversed_bits n ≤ 7
      → coded_from Any k (0xCF ∷ n ∷ b ∷ bs) ≡ cells_before (drop (reversed_bits n) (byte_cells b)) (coded_from Any (k + 3) bs)
  pub count_cut : (k : ℕ) → coded_from Any k (0xCF ∷ []) ≡ WrongCode k
  pub dropped_cut : (k n : ℕ) → coded_from Any k (0xCF ∷ n ∷ []) ≡ WrongCode k
  -- F3 with a count over 7 is wrong, and so are F4 to FF, whatever follows
  pub count_over : (k n : ℕ) (bs : List ℕ) → 7 < reversed_bits n → coded_from Any k (0xCF ∷ n ∷ bs) ≡ WrongCode k
  pub wrong : (k b : ℕ) (bs : List ℕ) → 0xF4 ≤ reversed_bits b → coded_from Any k (b ∷ bs) ≡ WrongCode k
  -- a side begins at place 0, where any byte may stand
  pub begins : (bs : List ℕ) → coded bs ≡ coded_from Any 0 bs
  -- the cells of a byte are those of a version 1 side with this byte alone
  pub byte_cells_lem : (b : ℕ) → byte_cells b ≡ stream (b ∷ []) (hfe_side 0 2)
  -- cells before others come first, and before a wrong code they are not given
  pub before_cells : (c d : List ℕ) → cells_before c (Cells d) ≡ Cells (c ++ d)
  pub before_wrong : (c : List ℕ) (p : ℕ) → cells_before c (WrongCode p) ≡ WrongCode p
