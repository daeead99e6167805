-- A written row: its cells, the sync bytes that stand in it, and what is read of it.
-- Rests on the laws of an item's cells, of packed cells, of numbers that cells spell and of the sync test.
use Rattle.std.specs.Prelude.{◌≡◌, refl, Bool, true, false, ℕ, zero, suc, ◌+◌, ◌-◌, ◌*◌, ◌/◌, ◌%◌, ◌^◌, ◌<◌, eqb, length}
use Rattle.std.proofs.Common.{sym, ◌∙◌, one-mul, zero-add, lit≤, eq-eqb, ne_eqb, eqb-true}
use Rattle.std.proofs.Math.Nat.{div-one}
use native.Mathlib.Omega.{arith}
use Rattle.std.proofs.Math.ListN.{get_or}
use Rattle.std.proofs.lemmas.Bool.{eqb-false}
use Rattle.laws.specs.Lists.{tab}
use Rattle.laws.specs.Laws.Tab.{tab_length, tab_in, tab_below}
use Rattle.cells.proofs.Laws.Packed.{packed_bits_same}
use Rattle.cells.specs.Stream.{packed, number, data_byte}
use Rattle.cells.specs.Mfm.{bit_of, clock, before, mfm_cell}
use Rattle.cells.specs.Sync.{sync_word, sync_at}
use Rattle.cells.specs.Written.{item_byte, left_out, item_cell, bit_before, written_cell, written}
use Rattle.cells.specs.declared.Item.{Item}
use Rattle.cells.specs.declared.Item.TheVariants.{Plain, Sync, Index}
use Rattle.cells.proofs.Laws.Number.{number_same, number_digits}
use Rattle.cells.proofs.Laws.Mfm.{item_cell_bit}
use Rattle.cells.proofs.Laws.Sync.{sync_all}

-- ---- the cells of an item
module _ (items : ℕ → Item) (q : ℕ) where
  cell_at_lem : (j : ℕ) → j < 16 → written_cell items (16 * q + j) ≡ item_cell (bit_before items q) (items q) j
  unfolding written_cell
  cell_at_lem j h =
      let a : (16 * q + j) / 16 ≡ q = omega arith in
      let b : (16 * q + j) % 16 ≡ j = omega arith in
      rw (a, b)

  -- the clock that is left out stands at an even cell
  left_even : (a : Item) (k : ℕ) → 2 * k + 1 ≡ left_out a → ⊥
  left_even (Plain x) k e = omega arith
  left_even Sync k e = omega arith
  left_even Index k e = omega arith

  -- every second cell of an item is a bit of its byte
  pub data_cell : (k : ℕ) → k < 8 → written_cell items (16 * q + (2 * k + 1)) ≡ bit_of (item_byte (items q)) k
  unfolding item_cell mfm_cell
  data_cell k h =
      let a : (2 * k + 1) % 2 ≡ 1 = omega arith in
      let b : (2 * k + 1) / 2 ≡ k = omega arith in
      cell_at_lem (2 * k + 1) (omega arith) ∙ rw (ne_eqb _ _ (left_even (items q) k), a, b)

  -- a cell between them that is not left out is the clock of the two bits around it
  pub clock_cell : (k : ℕ) → k < 8 → (2 * k ≡ left_out (items q) → ⊥)
      → written_cell items (16 * q + 2 * k) ≡ clock (before (bit_before items q) (item_byte (items q)) k) (bit_of (item_byte (items q)) k)
  unfolding item_cell mfm_cell
  clock_cell k h n =
      let a : (2 * k) % 2 ≡ 0 = omega arith in
      let b : (2 * k) / 2 ≡ k = omega arith in
      cell_at_lem (2 * k) (omega arith) ∙ rw (ne_eqb _ _ n, a, b)

-- the clock that an item leaves out is 0
pub left_cell : (items : ℕ → Item) (q j : ℕ) → j < 16 → j ≡ left_out (items q) → written_cell items (16 * q + j) ≡ 0
unfolding item_cell
left_cell items q j h e = cell_at_lem items q j h ∙ rw (eq-eqb j (left_out (items q)) e)

-- the data cell before a clock cell is the bit before the one that the clock precedes
pub before_cell : (items : ℕ → Item) (q k l : ℕ) → k < 8 → l + 1 ≡ 16 * q + 2 * k
    → written_cell items l ≡ before (bit_before items q) (item_byte (items q)) k
unfolding before bit_before
before_cell items zero zero l h e = absurd (omega arith)
before_cell items (suc q) zero l h e = let a : l ≡ 16 * q + (2 * 7 + 1) = omega arith in rw a (data_cell items q 7 (omega arith))
before_cell items q (suc k) l h e = let a : l ≡ 16 * q + (2 * k + 1) = omega arith in rw a (data_cell items q k (omega arith))

clock_zero : (a b : ℕ) → a ≡ 0 → b ≡ 0 → clock a b ≡ 0 → ⊥
unfolding clock
clock_zero a b ea eb e = let z : ◌≡◌ {A = ℕ} 1 0 = rw (ea, eb) at e in omega arith

-- three cells 0 with a clock in the middle: that clock is left out
pub left_out_lem : (items : ℕ → Item) (l : ℕ) → l % 2 ≡ 1
    → written_cell items l ≡ 0 → written_cell items (l + 1) ≡ 0 → written_cell items (l + 2) ≡ 0
    → (l + 1) % 16 ≡ left_out (items ((l + 1) / 16))
left_out_lem items l odd e₀ e₁ e₂ = go (eqb ((l + 1) % 16) (left_out (items ((l + 1) / 16)))) refl
  where
    q : ℕ
    q = (l + 1) / 16

    k : ℕ
    k = (l + 1) % 16 / 2

    go : (t : Bool) → eqb ((l + 1) % 16) (left_out (items ((l + 1) / 16))) ≡ t → (l + 1) % 16 ≡ left_out (items ((l + 1) / 16))
    go true e = eqb-true _ _ e
    go false e =
        let m : l + 1 ≡ 16 * q + 2 * k = omega arith in
        let n : l + 2 ≡ 16 * q + (2 * k + 1) = omega arith in
        let r : 2 * k ≡ (l + 1) % 16 = omega arith in
        absurd
        (clock_zero _ _ (sym (before_cell items q k l (omega arith) m) ∙ e₀)
        (sym (data_cell items q k (omega arith)) ∙ rw n at e₂)
        (sym (clock_cell items q k (omega arith) (λ s. eqb-false _ _ e (sym r ∙ s))) ∙ rw m at e₁))

-- every cell that is written is 0 or 1
pub written_cell_bit : (items : ℕ → Item) (m : ℕ) → written_cell items m < 2
unfolding written_cell
written_cell_bit items m = item_cell_bit _ _ _

-- every cell of a written row, and past its end, is 0 or 1
pub written_bit : (items : ℕ → Item) (n i : ℕ) → get_or (written items n) i 0 < 2
unfolding written
written_bit items n i = tab_below (written_cell items) 1 (written_cell_bit items) (16 * n) i

-- a row of n items has 16 n cells
pub written_length_lem : (items : ℕ → Item) (n : ℕ) → length (written items n) ≡ 16 * n
unfolding written
written_length_lem items n = tab_length (written_cell items) (16 * n)

-- ---- what was written is read

-- a sync item has the cells of a sync byte, whatever bit it follows
sync_cells : (p : ℕ) → number (tab (item_cell p Sync) 16) 1 0 16 ≡ sync_word
unfolding number tab item_cell mfm_cell before clock bit_of
sync_cells p = refl

module _ (items : ℕ → Item) (n q : ℕ) (h : q < n) where
  written_at : (j : ℕ) → j < 16 → get_or (written items n) (16 * q + j) 0 ≡ item_cell (bit_before items q) (items q) j
  unfolding written
  written_at j l = tab_in (written_cell items) (16 * n) (16 * q + j) (omega arith) ∙ cell_at_lem items q j l

  -- the byte that was written at item q is read there
  pub byte_at_lem : item_byte (items q) < 256 → data_byte (written items n) (16 * q) ≡ item_byte (items q)
  unfolding data_byte bit_of written
  byte_at_lem hx = number_digits (written items n) 2 (16 * q + 1) (item_byte (items q)) 8 hx digit 8 (lit≤ tt) ∙ div-one _
    where
      digit : (k : ℕ) → k < 8 → get_or (written items n) (16 * q + 1 + 2 * k) 0 ≡ item_byte (items q) / 2 ^ (8 - (k + 1)) % 2
      digit k l =
          let a : 16 * q + 1 + 2 * k ≡ 16 * q + (2 * k + 1) = omega arith in
          let b : 8 - (k + 1) ≡ 7 - k = omega arith in
          rw (a, b) (tab_in (written_cell items) (16 * n) (16 * q + (2 * k + 1)) (omega arith) ∙ data_cell items q k l)

  -- a sync mark that was written at item q is found there
  pub sync_here : items q ≡ Sync → sync_at (written items n) (16 * q) ≡ true
  sync_here e =
      sync_all (written items n) (16 * q) (rw (written_length_lem items n) (omega arith))
      (number_same (written items n) (tab (item_cell (bit_before items q) Sync) 16) 1 (16 * q) 0 16 each ∙ sync_cells (bit_before items q))
    where
      each : (k : ℕ) → k < 16 → get_or (written items n) (16 * q + 1 * k) 0 ≡ get_or (tab (item_cell (bit_before items q) Sync) 16) (0 + 1 * k) 0
      each k l = rw (one-mul, zero-add, tab_in (item_cell (bit_before items q) Sync) 16 k l, ← e) (written_at k l)

-- byte b of a row, as it is stored, is a half of its item
pub packed_item : (items : ℕ → Item) (b : ℕ) → packed (written_cell items) b ≡ packed (item_cell (bit_before items (b / 2)) (items (b / 2))) (b % 2)
unfolding packed written_cell
packed_item items b =
    packed_bits_same (written_cell items) (item_cell (bit_before items (b / 2)) (items (b / 2))) (8 * b) (8 * (b % 2)) 8
    (λ k h.
    let q : (8 * b + k) / 16 ≡ b / 2 = omega arith in
    let r : (8 * b + k) % 16 ≡ 8 * (b % 2) + k = omega arith in
    rw (q, r))

-- the bit before the first item is 0
pub before_first : (items : ℕ → Item) (q : ℕ) → q ≡ 0 → bit_before items q ≡ 0
unfolding bit_before
before_first items q e = rw e

-- the bit before a later item is the last bit of the item before it
pub item_before_later : (items : ℕ → Item) (q : ℕ) → 0 < q → bit_before items q ≡ bit_of (item_byte (items (q - 1))) 7
unfolding bit_before
item_before_later items zero h = absurd (omega arith)
item_before_later items (suc q) h = let e : suc q - 1 ≡ q = omega arith in rw e
