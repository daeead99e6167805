-- The cells of a written sector, from its twelve 00 to its data mark, that are known whatever track, side, R and data are.
-- Rests on the written side place by place (Base.Packed, Trip.SideTrip) and on the cell layer's laws of clock cells.
use Rattle.std.specs.Prelude.{true, cond, ◌≡◌, ltb}
use Rattle.std.proofs.Math.Bool.{false}
use mathlib.Core.List.{List, []}
use Rattle.std.proofs.Math.Path.{refl, sym, ap, ap₂}
use Rattle.std.proofs.Common.{◌∙◌, lt_of_lt_of_le, pow_mono}
use Prim.Native.Nat.{ℕ, ◌+◌, ◌-◌, ◌*◌, ◌/◌, ◌%◌, ◌^◌, ◌≤◌, ◌<◌}
use Rattle.std.proofs.Math.Nat.{zero-div, div-eq_of_lt}
use native.Mathlib.Omega.{arith}
use Rattle.std.proofs.Math.Dec.{eqb}
use Rattle.laws.specs.Below.{all}
use Rattle.laws.specs.Laws.Cases.{by_order, by_equal, by_test}
use Rattle.laws.specs.Laws.Tests.{true_eq, false_eq, eq_true, eq_false, true_lt, cond_true, cond_false}
use Rattle.laws.specs.Laws.All.{all_at}
use Rattle.cells.specs.Mfm.{bit_of, clock}
use Rattle.cells.specs.Written.{item_byte, left_out, written_cell}
use Rattle.cells.specs.declared.Item.{Item}
use Rattle.cells.proofs.Laws.Clocks.{clock_between, clock_missing, clock_after, clock_before}
use Rattle.cells.proofs.Laws.Written.{data_cell}
use Rattle.sector_rules.specs.Packed.{span, with_crc, sector_item, side_item}
use Rattle.sector_rules.proofs.Laws.Base.Packed.{sector_lead, sector_sync, sector_header, sector_gap, sector_zeros, sector_mark, sector_field}
use Rattle.sector_rules.proofs.Laws.Trip.SideTrip.{item_at}

-- the first cell of sector R = x + 1 on a written side, from which its cells are counted: its header begins at cell 192, its field at 896, its data at 960
abbrev pub sector_start : ℕ → ℕ
sector_start x = 16 * (146 + 658 * x)

-- which bits of byte o are known: of the header's C the first, of H the first seven, of R the first four, of its CRC none
unfoldable pub known_mask : ℕ → ℕ
known_mask o = cond (eqb o 16) 0x80 (cond (eqb o 17) 0xFE (cond (eqb o 18) 0xF0 (cond (eqb o 20) 0 (cond (eqb o 21) 0 0xFF))))

-- data bit n of the sector: 0, 1, or 2 where it is not known
unfoldable pub known_bit : ℕ → ℕ
known_bit n = cond (eqb (bit_of (known_mask (n / 8)) (n % 8)) 1) (bit_of (item_byte (sector_item 0 0 0 [] (n / 8))) (n % 8)) 2

-- the clock cell between two data bits
unfoldable pub known_clock : ℕ → ℕ → ℕ
known_clock a b = cond (eqb a 1) 0 (cond (eqb b 1) 0 (cond (eqb (a + b) 0) 1 2))

-- cell k, the first one left aside
unfoldable pub known_cell : ℕ → ℕ
known_cell k =
    cond (eqb (k % 2) 1) (known_bit (k / 2))
    (cond (eqb (k % 16) (left_out (sector_item 0 0 0 [] (k / 16)))) 0 (known_clock (known_bit (k / 2 - 1)) (known_bit (k / 2))))

-- ---- the bytes

-- a bit of a number below 2 ^ m, and which bits a mask has
low_bit : (x m j : ℕ) → x < 2 ^ m → m ≤ 7 - j → bit_of x j ≡ 0
unfolding bit_of
low_bit x m j h l = ap (λ (y : ℕ). y % 2) (div-eq_of_lt (lt_of_lt_of_le h (pow_mono l)))

mask_below : (w m : ℕ) → all (λ (j : ℕ). cond (eqb (bit_of w j) 1) (ltb j m) true) 8 ≡ true → (j : ℕ) → j < 8 → bit_of w j ≡ 1 → j < m
mask_below w m t j h e =
    true_lt (sym (cond_true (ltb j m) true (eq_true e)) ∙ all_at (λ (i : ℕ). cond (eqb (bit_of w i) 1) (ltb i m) true) 8 t j h)

first_alone : (j : ℕ) → j < 8 → bit_of 0x80 j ≡ 1 → j < 1
unfolding all bit_of
first_alone = mask_below 0x80 1 refl

first_seven : (j : ℕ) → j < 8 → bit_of 0xFE j ≡ 1 → j < 7
unfolding all bit_of
first_seven = mask_below 0xFE 7 refl

first_four : (j : ℕ) → j < 8 → bit_of 0xF0 j ≡ 1 → j < 4
unfolding all bit_of
first_four = mask_below 0xF0 4 refl

no_bit : (j : ℕ) → bit_of 0 j ≡ 1 → ⊥
unfolding bit_of
no_bit j e = let z : 0 / 2 ^ (7 - j) % 2 ≡ 0 = rw zero-div refl in omega arith

module _ (t s r : ℕ) (d : List ℕ) where
  header_byte : t < 128 → s < 2 → r < 16 → (o j : ℕ) → 15 ≤ o → o < 22 → j < 8 → bit_of (known_mask o) j ≡ 1
      → bit_of (item_byte (sector_item t s r d o)) j ≡ bit_of (item_byte (sector_item 0 0 0 [] o)) j
  unfolding known_mask sector_item span with_crc
  header_byte ht hs hr o j l h hj =
      by_equal o 15 (λ e. rw e (λ m. refl))
      (λ n₁. by_equal o 16 (λ e. rw e (λ m. let k = first_alone j hj m in low_bit t 7 j ht (omega arith) ∙ sym (low_bit 0 7 j (omega arith) (omega arith))))
      (λ n₂. by_equal o 17 (λ e. rw e (λ m. let k = first_seven j hj m in low_bit s 1 j hs (omega arith) ∙ sym (low_bit 0 1 j (omega arith) (omega arith))))
      (λ n₃. by_equal o 18 (λ e. rw e (λ m. let k = first_four j hj m in low_bit r 4 j hr (omega arith) ∙ sym (low_bit 0 4 j (omega arith) (omega arith))))
      (λ n₄. by_equal o 19 (λ e. rw e (λ m. refl))
      (λ n₅. by_equal o 20 (λ e. rw e (λ m. absurd (no_bit j m)))
      (λ n₆. let e : o ≡ 21 = omega arith in rw e (λ m. absurd (no_bit j m))))))))

  known_byte : t < 128 → s < 2 → r < 16 → (o j : ℕ) → o < 60 → j < 8 → bit_of (known_mask o) j ≡ 1
      → bit_of (item_byte (sector_item t s r d o)) j ≡ bit_of (item_byte (sector_item 0 0 0 [] o)) j
  unfolding sector_item span with_crc
  known_byte ht hs hr o j h hj m =
      by_order o 12 (λ l. ap bit (sector_lead t s r d o l ∙ sym (sector_lead 0 0 0 [] o l)))
      (λ l₁. by_order o 15 (λ l. ap bit (sector_sync t s r d o l₁ l ∙ sym (sector_sync 0 0 0 [] o l₁ l)))
      (λ l₂. by_order o 22 (λ l. header_byte ht hs hr o j l₂ l hj m)
      (λ l₃. by_order o 44 (λ l. ap bit (sector_gap t s r d o l₃ l ∙ sym (sector_gap 0 0 0 [] o l₃ l)))
      (λ l₄. by_order o 56 (λ l. ap bit (sector_zeros t s r d o l₄ l ∙ sym (sector_zeros 0 0 0 [] o l₄ l)))
      (λ l₅. by_order o 59 (λ l. ap bit (sector_mark t s r d o l₅ l ∙ sym (sector_mark 0 0 0 [] o l₅ l)))
      (λ l₆. let e : o ≡ 59 = omega arith in rw e refl))))))
    where
      bit : Item → ℕ
      bit a = bit_of (item_byte a) j

  known_left : (o : ℕ) → o < 60 → left_out (sector_item t s r d o) ≡ left_out (sector_item 0 0 0 [] o)
  known_left o h =
      by_order o 12 (λ l. ap left_out (sector_lead t s r d o l ∙ sym (sector_lead 0 0 0 [] o l)))
      (λ l₁. by_order o 15 (λ l. ap left_out (sector_sync t s r d o l₁ l ∙ sym (sector_sync 0 0 0 [] o l₁ l)))
      (λ l₂. by_order o 22 (λ l. ap left_out (sector_header t s r d o l₂ l) ∙ sym (ap left_out (sector_header 0 0 0 [] o l₂ l)))
      (λ l₃. by_order o 44 (λ l. ap left_out (sector_gap t s r d o l₃ l ∙ sym (sector_gap 0 0 0 [] o l₃ l)))
      (λ l₄. by_order o 56 (λ l. ap left_out (sector_zeros t s r d o l₄ l ∙ sym (sector_zeros 0 0 0 [] o l₄ l)))
      (λ l₅. by_order o 59 (λ l. ap left_out (sector_mark t s r d o l₅ l ∙ sym (sector_mark 0 0 0 [] o l₅ l)))
      (λ l₆. ap left_out (sector_field t s r d o l₆ (omega arith)) ∙ sym (ap left_out (sector_field 0 0 0 [] o l₆ (omega arith)))))))))

-- ---- the cells

module _ (t s : ℕ) (ht : t < 128) (hs : s < 2) (d : ℕ → List ℕ) (x : ℕ) (hx : x < 9) where
  known_data : (n : ℕ) → n < 480 → (v : ℕ) → known_bit n ≡ v → v < 2 → written_cell (side_item t s d) (sector_start x + (2 * n + 1)) ≡ v
  unfolding known_bit
  known_data n h v e hv =
      let q : ℕ = 146 + 658 * x + n / 8 in
      let m : sector_start x + (2 * n + 1) ≡ 16 * q + (2 * (n % 8) + 1) = omega arith in
      by_test (eqb (bit_of (known_mask (n / 8)) (n % 8)) 1)
      (λ u.
      ap (written_cell (side_item t s d)) m ∙ data_cell (side_item t s d) q (n % 8) (omega arith)
      ∙ ap (λ (a : Item). bit_of (item_byte a) (n % 8)) (item_at t s d x (n / 8) hx (omega arith))
      ∙ known_byte t s (x + 1) (d (x + 1)) ht hs (omega arith) (n / 8) (n % 8) (omega arith) (omega arith) (true_eq u)
      ∙ sym (cond_true (bit_of (item_byte (sector_item 0 0 0 [] (n / 8))) (n % 8)) 2 u) ∙ e)
      (λ u. let z : 2 ≡ v = sym (cond_false (bit_of (item_byte (sector_item 0 0 0 [] (n / 8))) (n % 8)) 2 u) ∙ e in absurd (omega arith))

  -- a clock cell is left out where the known one is
  left_same : (k : ℕ) → k < 960 → left_out (side_item t s d ((sector_start x + k) / 16)) ≡ left_out (sector_item 0 0 0 [] (k / 16))
  left_same k h =
      let q : (sector_start x + k) / 16 ≡ 146 + 658 * x + k / 16 = omega arith in
      ap (λ (n : ℕ). left_out (side_item t s d n)) q ∙ ap left_out (item_at t s d x (k / 16) hx (omega arith))
      ∙ known_left t s (x + 1) (d (x + 1)) (k / 16) (omega arith)

  module _ (l k : ℕ) (m : l + 1 ≡ sector_start x + k) (ev : k % 2 ≡ 0) (lo : 2 ≤ k) (h : k < 960) where
    odd_before : l % 2 ≡ 1
    odd_before = omega arith

    known_before : (v : ℕ) → known_bit (k / 2 - 1) ≡ v → v < 2 → written_cell (side_item t s d) l ≡ v
    known_before v e hv =
        let w : l ≡ sector_start x + (2 * (k / 2 - 1) + 1) = omega arith in
        ap (written_cell (side_item t s d)) w ∙ known_data (k / 2 - 1) (omega arith) v e hv

    known_after : (v : ℕ) → known_bit (k / 2) ≡ v → v < 2 → written_cell (side_item t s d) (l + 2) ≡ v
    known_after v e hv =
        let w : l + 2 ≡ sector_start x + (2 * (k / 2) + 1) = omega arith in
        ap (written_cell (side_item t s d)) w ∙ known_data (k / 2) (omega arith) v e hv

    not_left : (k % 16 ≡ left_out (sector_item 0 0 0 [] (k / 16)) → ⊥) → (l + 1) % 16 ≡ left_out (side_item t s d ((l + 1) / 16)) → ⊥
    not_left n e =
        let w : (l + 1) % 16 ≡ k % 16 = omega arith in
        n (sym w ∙ e ∙ ap (λ (y : ℕ). left_out (side_item t s d (y / 16))) m ∙ left_same k h)

    known_clock_lem : (a b v : ℕ) → known_bit (k / 2 - 1) ≡ a → known_bit (k / 2) ≡ b → (k % 16 ≡ left_out (sector_item 0 0 0 [] (k / 16)) → ⊥)
        → known_clock a b ≡ v → v < 2 → written_cell (side_item t s d) (l + 1) ≡ v
    unfolding known_clock clock
    known_clock_lem a b v ea eb n e hv =
        by_test (eqb a 1)
        (λ u.
        clock_after (side_item t s d) l odd_before (known_before 1 (ea ∙ true_eq u) (omega arith))
        ∙ sym (cond_true 0 (cond (eqb b 1) 0 (cond (eqb (a + b) 0) 1 2)) u) ∙ e)
        (λ u. let e₁ = sym (cond_false 0 (cond (eqb b 1) 0 (cond (eqb (a + b) 0) 1 2)) u) ∙ e in
        by_test (eqb b 1)
        (λ w. clock_before (side_item t s d) l odd_before (known_after 1 (eb ∙ true_eq w) (omega arith)) ∙ sym (cond_true 0 (cond (eqb (a + b) 0) 1 2) w) ∙ e₁)
        (λ w. let e₂ = sym (cond_false 0 (cond (eqb (a + b) 0) 1 2) w) ∙ e₁ in
        by_test (eqb (a + b) 0)
        (λ z.
        let s₀ : a + b ≡ 0 = true_eq z in
        let a₀ : a ≡ 0 = omega arith in
        let b₀ : b ≡ 0 = omega arith in
        clock_between (side_item t s d) l odd_before (not_left n)
        ∙ ap₂ clock (known_before 0 (ea ∙ a₀) (omega arith)) (known_after 0 (eb ∙ b₀) (omega arith)) ∙ sym (cond_true 1 2 z) ∙ e₂)
        (λ z. let two : 2 ≡ v = sym (cond_false 1 2 z) ∙ e₂ in absurd (omega arith))))

    known_even : (v : ℕ) → known_cell k ≡ v → v < 2 → written_cell (side_item t s d) (l + 1) ≡ v
    unfolding known_cell
    known_even v e hv =
        let rest : ℕ = known_clock (known_bit (k / 2 - 1)) (known_bit (k / 2)) in
        let two : eqb (k % 2) 1 ≡ false = eq_false (λ (w : k % 2 ≡ 1). omega arith) in
        let e₁ = sym (cond_false (known_bit (k / 2)) (cond (eqb (k % 16) (left_out (sector_item 0 0 0 [] (k / 16)))) 0 rest) two) ∙ e in
        by_test (eqb (k % 16) (left_out (sector_item 0 0 0 [] (k / 16))))
        (λ u. missing (true_eq u) ∙ sym (cond_true 0 rest u) ∙ e₁)
        (λ u. known_clock_lem (known_bit (k / 2 - 1)) (known_bit (k / 2)) v refl refl (false_eq u) (sym (cond_false 0 rest u) ∙ e₁) hv)
      where
        missing : k % 16 ≡ left_out (sector_item 0 0 0 [] (k / 16)) → written_cell (side_item t s d) (l + 1) ≡ 0
        missing u =
            let w : (l + 1) % 16 ≡ k % 16 = omega arith in
            clock_missing (side_item t s d) l odd_before (w ∙ u ∙ sym (ap (λ (y : ℕ). left_out (side_item t s d (y / 16))) m ∙ left_same k h))

  -- a known cell of the sector is as written
  pub known_cell_lem : (k : ℕ) → 2 ≤ k → k < 960 → (v : ℕ) → known_cell k ≡ v → v < 2 → written_cell (side_item t s d) (sector_start x + k) ≡ v
  unfolding known_cell
  known_cell_lem k lo h v e hv =
      by_equal (k % 2) 1
      (λ u.
      let m : sector_start x + k ≡ sector_start x + (2 * (k / 2) + 1) = omega arith in
      ap (written_cell (side_item t s d)) m
      ∙ known_data (k / 2) (omega arith) v
      (sym
      (cond_true (known_bit (k / 2))
      (cond (eqb (k % 16) (left_out (sector_item 0 0 0 [] (k / 16)))) 0 (known_clock (known_bit (k / 2 - 1)) (known_bit (k / 2)))) (eq_true u))
      ∙ e)
      hv)
      (λ u.
      let m : (sector_start x + k - 1) + 1 ≡ sector_start x + k = omega arith in
      ap (written_cell (side_item t s d)) (sym m) ∙ known_even (sector_start x + k - 1) k m (omega arith) lo h v e hv)
