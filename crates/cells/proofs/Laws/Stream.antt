-- A side's stream and the cells from a place on: how many there are, and each of them.
-- Rests on the laws of lists that are given by a rule.
use Rattle.std.specs.Prelude.{List, ◌≡◌, refl, ℕ, ◌+◌, ◌-◌, ◌≤◌, ◌<◌, length, get_or}
use Rattle.std.proofs.Common.{zero-lt-suc}
use Rattle.std.proofs.Math.Nat.{mod-lt}
use Rattle.std.proofs.Math.ListN.{length-drop}
use Rattle.std.proofs.Math.Seq.{get_or-drop}
use Rattle.laws.specs.Laws.Tab.{tab_length, tab_in, tab_below, get_d_past}
use Rattle.cells.specs.declared.Side.{Side}
use Rattle.cells.specs.Stream.{cell_at, stream, from}

module _ (part : List ℕ) (s : Side) where
  -- the stream of a side has as many cells as the side
  pub stream_length : length (stream part s) ≡ s.cells
  unfolding stream
  stream_length = tab_length (cell_at part s) s.cells

  -- cell i of the stream is the cell at place i of the side
  pub stream_in : (i : ℕ) → i < s.cells → get_or (stream part s) i 0 ≡ cell_at part s i
  unfolding stream
  stream_in i h = tab_in (cell_at part s) s.cells i h

  cell_at_bit : (i : ℕ) → cell_at part s i < 2
  unfolding cell_at
  cell_at_bit i = mod-lt _ (zero-lt-suc 1)

  -- every cell of a stream is 0 or 1
  pub stream_bit : (i : ℕ) → get_or (stream part s) i 0 < 2
  unfolding stream
  stream_bit i = tab_below (cell_at part s) 1 cell_at_bit s.cells i

module _ (c : List ℕ) (i : ℕ) where
  -- how many cells there are from place i on
  pub from_length : length (from c i) ≡ length c - i
  unfolding from
  from_length = length-drop i c

  -- cell k of those from place i on is cell i + k
  pub from_at : (k : ℕ) → get_or (from c i) k 0 ≡ get_or c (i + k) 0
  unfolding from
  from_at k = get_or-drop i c k 0

  -- past the end of the cells from place i on a cell counts as 0
  pub from_past : (k : ℕ) → length (from c i) ≤ k → get_or (from c i) k 0 ≡ 0
  from_past k h = get_d_past (from c i) k h

  -- where all cells are 0 or 1, those from place i on are
  pub from_bit : ((j : ℕ) → get_or c j 0 < 2) → (k : ℕ) → get_or (from c i) k 0 < 2
  from_bit bit k = rw (from_at k) (bit (i + k))

-- the cells from place 0 on are all cells
pub from_zero : (c : List ℕ) → from c 0 ≡ c
unfolding from
from_zero c = refl
