-- A written row of bytes and marks, and its cells (docs/RULES.md, section 3).
-- Assumes nothing: these are definitions.
use Rattle.std.specs.Prelude.{List, ◌≡◌, cond, ℕ, zero, suc, ◌+◌, ◌*◌, ◌/◌, ◌%◌, eqb}
use Rattle.laws.specs.Lists.{tab}
use Rattle.cells.specs.Stream.{word}
use Rattle.cells.specs.Mfm.{bit_of, mfm_cell}
use Rattle.cells.specs.declared.Item.{Item}
use Rattle.cells.specs.declared.Item.TheVariants.{Plain, Sync, Index}

-- the byte of an item: that of the sync mark is A1, that of the index mark C2 (§3.5)
abbrev pub item_byte : Item → ℕ
item_byte (Plain x) = x
item_byte Sync = 0xA1
item_byte Index = 0xC2

-- which of the 16 cells of an item is a clock cell that is left out, so that the marks have the cells 4489 and 5224 (sync_cells, index_cells in
-- Theorems); 16, so none, for a plain byte (§3.5)
abbrev pub left_out : Item → ℕ
left_out (Plain x) = 16
left_out Sync = 10
left_out Index = 8

-- cell j of an item that follows the bit p: 0 where the clock cell is left out, and else as MFM has it (§3.5)
unfoldable pub item_cell : ℕ → Item → ℕ → ℕ
item_cell p a j = cond (eqb j (left_out a)) 0 (mfm_cell p (item_byte a) j)

-- the 16 cells of an item as a number, first cell highest (§3.5)
unfoldable pub item_word : ℕ → Item → ℕ
item_word p a = word (tab (item_cell p a) 16) 0

-- the bit before item q of a row: the lowest of the item before, and 0 before the first item (§3.4)
unfoldable pub bit_before : (ℕ → Item) → ℕ → ℕ
bit_before items zero = 0
bit_before items (suc q) = bit_of (item_byte (items q)) 7

-- cell m of a row of items, 16 cells each (§3.3 §3.4)
unfoldable pub written_cell : (ℕ → Item) → ℕ → ℕ
written_cell items m = item_cell (bit_before items (m / 16)) (items (m / 16)) (m % 16)

-- the cells of a row of n items (§3.3)
unfoldable pub written : (ℕ → Item) → ℕ → List ℕ
written items n = tab (written_cell items) (16 * n)

-- a run: three sync marks with nothing between them, from item q on (§3.7)
pub record Triple (items : ℕ → Item) (q : ℕ) : Type 0 where
  pub first : items q ≡ Sync
  pub second : items (q + 1) ≡ Sync
  pub third : items (q + 2) ≡ Sync
