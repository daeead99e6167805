-- The cells of a written side once one sector's data are written again: those of the side that is written with these data.
-- Rests on the written side place by place (Base.Packed, Trip.SideTrip) and on the cell layer's laws of written rows.
use Rattle.std.specs.Prelude.{cond, ◌⊎◌, ◌≢◌, ◌≡◌, refl, leb, eqb, get_or}
use mathlib.Core.List.{List, ◌∷◌}
use Rattle.std.proofs.Math.Logic.{inl, inr}
use Rattle.std.proofs.Common.{⊎_elim, ◌∙◌, lit<, lit≤}
use Rattle.std.proofs.Math.Path.{sym, ap, ap₂}
use Prim.Native.Nat.{ℕ, zero, suc, ◌+◌, ◌-◌, ◌*◌, ◌/◌, ◌%◌, ◌≤◌, ◌<◌}
use native.Mathlib.Omega.{arith}
use Rattle.std.proofs.Math.ListN.{length}
use Rattle.laws.specs.Laws.Cases.{by_order, by_equal, by_test}
use Rattle.laws.specs.Laws.Tests.{cond_true, cond_false, lt_true, lt_false, le_true, le_false, eq_true, eq_false}
use Rattle.laws.specs.Laws.Tests.{true_eq, and_true, and_false_left, and_false_right}
use Rattle.cells.specs.Mfm.{bit_of, clock, before, mfm_cell}
use Rattle.cells.specs.Written.{item_byte, left_out, item_cell, bit_before, written_cell}
use Rattle.cells.specs.declared.Item.{Item}
use Rattle.cells.specs.declared.Item.TheVariants.{Plain}
use Rattle.cells.proofs.Laws.Mfm.{before_later}
use Rattle.cells.proofs.Laws.Written.{data_cell, clock_cell, before_first, item_before_later}
use Rattle.sector_rules.specs.Search.{data_mark}
use Rattle.sector_rules.specs.Packed.{span, with_crc, gap_byte, sector_item, field_items, side_item, plain_items}
use Rattle.sector_rules.specs.Rewritten.{data_cells, field_row, cell_after}
use Rattle.sector_rules.proofs.Laws.Base.Packed.{span_left, span_right, sector_field}
use Rattle.sector_rules.proofs.Laws.Trip.SideTrip.{written_side, item_at}
use Rattle.sector_rules.proofs.Laws.Burst.SideCells.{cell_is, side_long}

-- ---- cells of rows that agree

-- but for its first cell an item does not depend on the bit before it
item_later : (p r : ℕ) (a : Item) (j : ℕ) → 0 < j → item_cell p a j ≡ item_cell r a j
unfolding item_cell mfm_cell
item_later p r a j h =
    ap (cond (eqb j (left_out a)) 0)
    (by_test (eqb (j % 2) 0)
    (λ e.
    let z : j % 2 ≡ 0 = true_eq e in
    cond_true _ _ e ∙ ap (λ (b : ℕ). clock b (bit_of (item_byte a) (j / 2))) (same (j / 2) (λ q. omega arith)) ∙ sym (cond_true _ _ e))
    (λ e. cond_false _ _ e ∙ sym (cond_false _ _ e)))
  where
    same : (k : ℕ) → (k ≡ 0 → ⊥) → before p (item_byte a) k ≡ before r (item_byte a) k
    same k n = sym (before_later p (item_byte a) k n) ∙ before_later r (item_byte a) k n

module _ (f g : ℕ → Item) where
  -- equal items make equal bits before those that follow them
  before_agree : (q r : ℕ) → 0 < q → 0 < r → f (q - 1) ≡ g (r - 1) → bit_before f q ≡ bit_before g r
  before_agree q r a b e = item_before_later f q a ∙ ap (λ (x : Item). bit_of (item_byte x) 7) e ∙ sym (item_before_later g r b)

  -- cells of rows that have the same item there and the same bit before it are equal
  cell_agree : (m n : ℕ) → m % 16 ≡ n % 16 → f (m / 16) ≡ g (n / 16) → bit_before f (m / 16) ≡ bit_before g (n / 16) → written_cell f m ≡ written_cell g n
  unfolding written_cell
  cell_agree m n e a b = rw (e, a, b)

  -- the cells of one place in two rows are equal where their items there and before it are
  pub cell_same : (m : ℕ) → f (m / 16) ≡ g (m / 16) → (0 < m / 16 → f (m / 16 - 1) ≡ g (m / 16 - 1)) → written_cell f m ≡ written_cell g m
  cell_same m a b =
      cell_agree m m refl a
      (by_equal (m / 16) 0 (λ z. before_first f (m / 16) z ∙ sym (before_first g (m / 16) z))
      (λ n. before_agree (m / 16) (m / 16) (omega arith) (omega arith) (b (omega arith))))

  -- so are those after an item's first cell, whatever the bit before it
  cell_later : (m : ℕ) → 0 < m % 16 → f (m / 16) ≡ g (m / 16) → written_cell f m ≡ written_cell g m
  unfolding written_cell
  cell_later m h a = rw a (item_later (bit_before f (m / 16)) (bit_before g (m / 16)) (g (m / 16)) (m % 16) h)

-- ---- items of sides with other data

-- rows of two parts each agree where their parts do
span_agree : (n : ℕ) (f g h : ℕ → Item) (q : ℕ) → (n ≤ q → g (q - n) ≡ h (q - n)) → span n f g q ≡ span n f h q
span_agree n f g h q e =
    by_order q n (λ l. span_left n f g q l ∙ sym (span_left n f h q l)) (λ l. span_right n f g q l ∙ e l ∙ sym (span_right n f h q l))

-- a data field begins with its mark, whatever the data
mark_first : (d e : List ℕ) (q : ℕ) → q < 1 → plain_items (with_crc (data_mark ∷ d)) q ≡ plain_items (with_crc (data_mark ∷ e)) q
unfolding with_crc
mark_first d e zero h = refl
mark_first d e (suc q) h = absurd (omega arith)

-- a sector's items beside its data and their CRC are the same whatever its data
sector_agree : (t s r : ℕ) (d e : List ℕ) (o : ℕ) → (o < 60) ⊎ (574 ≤ o) → sector_item t s r d o ≡ sector_item t s r e o
unfolding sector_item
sector_agree t s r d e o out =
    span_agree 12 _ _ _ o (λ a. span_agree 3 _ _ _ _ (λ b. span_agree 7 _ _ _ _ (λ c.
    span_agree 22 _ _ _ _ (λ x. span_agree 12 _ _ _ _ (λ y. span_agree 3 _ _ _ _ (λ z. field))))))
  where
    field : span 515 (plain_items (with_crc (data_mark ∷ d))) (λ (q : ℕ). Plain gap_byte) (o - 12 - 3 - 7 - 22 - 12 - 3)
        ≡ span 515 (plain_items (with_crc (data_mark ∷ e))) (λ (q : ℕ). Plain gap_byte) (o - 12 - 3 - 7 - 22 - 12 - 3)
    field =
        ⊎_elim
        (λ l. span_left 515 _ _ _ (omega arith) ∙ mark_first d e _ (omega arith) ∙ sym (span_left 515 _ _ _ (omega arith)))
        (λ l. span_right 515 _ _ _ (omega arith) ∙ sym (span_right 515 _ _ _ (omega arith)))
        out

module _ (t s : ℕ) (d e : ℕ → List ℕ) where
  -- item o of the nine sectors is the same on both sides
  Agree : ℕ → Type 0
  Agree o = sector_item t s (o / 658 + 1) (d (o / 658 + 1)) (o % 658) ≡ sector_item t s (o / 658 + 1) (e (o / 658 + 1)) (o % 658)

  -- the items of two sides agree where those of their sectors do
  side_agree : (q : ℕ) → (146 ≤ q → q - 146 < 5922 → Agree (q - 146)) → side_item t s d q ≡ side_item t s e q
  unfolding Agree side_item
  side_agree q same =
      span_agree 80 _ _ _ q (λ a. span_agree 12 _ _ _ _ (λ b. span_agree 3 _ _ _ _ (λ c. span_agree 1 _ _ _ _ (λ x.
      span_agree 50 _ _ _ _ (λ y. let z : q - 80 - 12 - 3 - 1 - 50 ≡ q - 146 = omega arith in rw z (rest (omega arith)))))))
    where
      rest : 146 ≤ q
          → span 5922 (λ (o : ℕ). sector_item t s (o / 658 + 1) (d (o / 658 + 1)) (o % 658)) (λ (o : ℕ). Plain gap_byte) (q - 146)
          ≡ span 5922 (λ (o : ℕ). sector_item t s (o / 658 + 1) (e (o / 658 + 1)) (o % 658)) (λ (o : ℕ). Plain gap_byte) (q - 146)
      rest l =
          by_order (q - 146) 5922 (λ h. span_left 5922 _ _ _ h ∙ same l h ∙ sym (span_left 5922 _ _ _ h))
          (λ h. span_right 5922 _ _ _ h ∙ sym (span_right 5922 _ _ _ h))

  -- sides whose nine sectors have the same data have the same items
  pub items_same : ((j : ℕ) → j < 9 → d (j + 1) ≡ e (j + 1)) → (q : ℕ) → side_item t s d q ≡ side_item t s e q
  unfolding Agree
  items_same same q =
      side_agree q (λ l h. ap (λ (x : List ℕ). sector_item t s ((q - 146) / 658 + 1) x ((q - 146) % 658)) (same ((q - 146) / 658) (omega arith)))

  module _ (k : ℕ) (same : (j : ℕ) → j < 9 → j ≢ k → d (j + 1) ≡ e (j + 1)) where
    -- sides that differ in the data of sector k + 1 alone have the same items beside those data and their CRC
    side_beside : (q : ℕ) → (q < 146 + 658 * k + 60) ⊎ (146 + 658 * k + 574 ≤ q) → side_item t s d q ≡ side_item t s e q
    unfolding Agree
    side_beside q out =
        side_agree q
        (λ l h.
        by_equal ((q - 146) / 658) k
        (λ z. sector_agree t s _ _ _ ((q - 146) % 658) (⊎_elim (λ a. inl (omega arith)) (λ a. inr (omega arith)) out))
        (λ n. ap (λ (x : List ℕ). sector_item t s ((q - 146) / 658 + 1) x ((q - 146) % 658)) (same ((q - 146) / 658) (omega arith) n)))

    -- their cells before the data are the same
    pub cell_ahead : (i : ℕ) → i < 16 * (146 + 658 * k + 60) → written_cell (side_item t s d) i ≡ written_cell (side_item t s e) i
    cell_ahead i h =
        cell_same (side_item t s d) (side_item t s e) i (side_beside (i / 16) (inl (omega arith))) (λ l. side_beside (i / 16 - 1) (inl (omega arith)))

    -- and so are those after the clock cell that follows the CRC
    pub cell_behind : (i : ℕ) → 16 * (146 + 658 * k + 574) < i → written_cell (side_item t s d) i ≡ written_cell (side_item t s e) i
    cell_behind i h =
        by_equal (i % 16) 0
        (λ z.
        cell_same (side_item t s d) (side_item t s e) i (side_beside (i / 16) (inr (omega arith))) (λ l. side_beside (i / 16 - 1) (inr (omega arith))))
        (λ n. cell_later (side_item t s d) (side_item t s e) i (omega arith) (side_beside (i / 16) (inr (omega arith))))

-- ---- the data field of a side

module _ (t s : ℕ) (e : ℕ → List ℕ) (k : ℕ) (hk : k < 9) where
  -- the field of a sector stands on its side, from the mark on
  row_item : (q : ℕ) → q < 515 → plain_items (field_row (e (k + 1))) q ≡ side_item t s e (146 + 658 * k + (59 + q))
  row_item q h =
      let z : 59 + q - 59 ≡ q = omega arith in
      sym (item_at t s e k (59 + q) hk (omega arith) ∙ sector_field t s (k + 1) (e (k + 1)) (59 + q) (omega arith) (omega arith) ∙ rw z)

  -- the cells of the data and of their CRC are those of the field
  field_cell : (i : ℕ) → 16 * (146 + 658 * k + 60) ≤ i → i < 16 * (146 + 658 * k + 60) + data_cells
      → written_cell (plain_items (field_row (e (k + 1)))) (16 + (i - 16 * (146 + 658 * k + 60))) ≡ written_cell (side_item t s e) i
  field_cell i l h =
      let m : ℕ = 16 + (i - 16 * (146 + 658 * k + 60)) in
      let a : 146 + 658 * k + (59 + m / 16) ≡ i / 16 = omega arith in
      let b : 146 + 658 * k + (59 + (m / 16 - 1)) ≡ i / 16 - 1 = omega arith in
      cell_agree (plain_items (field_row (e (k + 1)))) (side_item t s e) m i (omega arith)
      (row_item (m / 16) (omega arith) ∙ ap (side_item t s e) a)
      (before_agree (plain_items (field_row (e (k + 1)))) (side_item t s e) (m / 16) (i / 16) (omega arith) (omega arith)
      (row_item (m / 16 - 1) (omega arith) ∙ ap (side_item t s e) b))

  -- after the CRC stands a gap byte
  gap_item : side_item t s e (146 + 658 * k + 574) ≡ Plain gap_byte
  unfolding sector_item
  gap_item =
      item_at t s e k 574 hk (lit< tt)
      ∙ span_right 12 _ _ _ (lit≤ tt) ∙ span_right 3 _ _ _ (lit≤ tt) ∙ span_right 7 _ _ _ (lit≤ tt)
      ∙ span_right 22 _ _ _ (lit≤ tt) ∙ span_right 12 _ _ _ (lit≤ tt) ∙ span_right 3 _ _ _ (lit≤ tt) ∙ span_right 515 _ _ _ (lit≤ tt)

  -- its first cell is the clock between the CRC's last bit and its own first
  gap_clock : written_cell (side_item t s e) (16 * (146 + 658 * k + 574)) ≡ clock (bit_before (plain_items (field_row (e (k + 1)))) field_items)
      (bit_of gap_byte 0)
  unfolding before
  gap_clock =
      let q : ℕ = 146 + 658 * k + 574 in
      let a : 16 * q ≡ 16 * q + 2 * 0 = omega arith in
      let c : 146 + 658 * k + (59 + 514) ≡ q - 1 = omega arith in
      let b : bit_before (side_item t s e) q ≡ bit_before (plain_items (field_row (e (k + 1)))) field_items =
      before_agree (side_item t s e) (plain_items (field_row (e (k + 1)))) q field_items (omega arith) (lit< tt)
      (sym (row_item 514 (lit< tt) ∙ ap (side_item t s e) c)) in
      ap (written_cell (side_item t s e)) a
      ∙ clock_cell (side_item t s e) q 0 (lit< tt) (rw gap_item (λ z. omega arith))
      ∙ ap₂ (λ (x : ℕ) (y : Item). clock x (bit_of (item_byte y) 0)) b gap_item

  -- and its second cell is that first bit
  gap_data : written_cell (side_item t s e) (16 * (146 + 658 * k + 574) + 1) ≡ bit_of gap_byte 0
  gap_data = data_cell (side_item t s e) (146 + 658 * k + 574) 0 (lit< tt) ∙ ap (λ (y : Item). bit_of (item_byte y) 0) gap_item

-- ---- the data written again

module _ (t s : ℕ) (d e : ℕ → List ℕ) (k : ℕ) (hk : k < 9) (same : (j : ℕ) → j < 9 → j ≢ k → d (j + 1) ≡ e (j + 1)) where
  -- the data cell after the clock cell that follows the CRC
  next_cell : (i : ℕ) → i ≡ 16 * (146 + 658 * k + 574) → get_or (written_side t s d) (i + 1) 0 ≡ bit_of gap_byte 0
  next_cell i a =
      cell_is t s d (i + 1) (omega arith) ∙ ap (λ (m : ℕ). written_cell (side_item t s d) (m + 1)) a ∙ gap_data t s d k hk

  -- a written side with the data of sector k + 1 written again is, cell by cell, the side that is written with them
  pub cell_after_lem : (i : ℕ) → i < 100000 → cell_after (written_side t s d) (16 * (146 + 658 * k + 60)) (field_row (e (k + 1))) i ≡ written_cell
      (side_item t s e) i
  unfolding cell_after
  cell_after_lem i h =
      by_order i (16 * (146 + 658 * k + 60))
      (λ l.
      let n : i ≢ 16 * (146 + 658 * k + 60) + data_cells = λ z. omega arith in
      cond_false _ _ (and_false_left _ (le_false l)) ∙ cond_false _ _ (and_false_left _ (eq_false n))
      ∙ cell_is t s d i h ∙ cell_ahead t s d e k same i l)
      (λ l. by_order i (16 * (146 + 658 * k + 60) + data_cells)
      (λ m. cond_true _ _ (and_true (le_true l) (lt_true m)) ∙ field_cell t s e k hk i l m)
      (λ m.
      cond_false _ _ (and_false_right (leb (16 * (146 + 658 * k + 60)) i) (lt_false m))
      ∙ by_equal i (16 * (146 + 658 * k + 60) + data_cells)
      (λ z.
      let fits : i + 2 ≤ length (written_side t s d) = rw (side_long t s d) (omega arith) in
      let a : i ≡ 16 * (146 + 658 * k + 574) = omega arith in
      cond_true _ _ (and_true (eq_true z) (le_true fits))
      ∙ ap (clock (bit_before (plain_items (field_row (e (k + 1)))) field_items)) (next_cell i a)
      ∙ sym (ap (written_cell (side_item t s e)) a ∙ gap_clock t s e k hk))
      (λ n. cond_false _ _ (and_false_left _ (eq_false n)) ∙ cell_is t s d i h ∙ cell_behind t s d e k same i (omega arith))))
