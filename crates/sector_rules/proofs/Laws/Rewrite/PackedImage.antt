-- A packed image with one sector's data written again: the packed image of the block image with that sector replaced.
-- Rests on the cells of a side with data written again (PackedCells) and on round-trip's facts of a packed image (Trip.RoundTrip).
use Rattle.std.specs.Prelude.{Bool, true, false, cond, ◌&&◌, ◌≢◌, ◌≡◌, leb, ltb, eqb}
use mathlib.Core.List.{List}
use Rattle.std.proofs.Math.Path.{sym, ap, ap₂}
use Rattle.std.proofs.Common.{◌∙◌, lit<}
use Prim.Native.Nat.{ℕ, ◌+◌, ◌-◌, ◌*◌, ◌/◌, ◌%◌, ◌≤◌, ◌<◌}
use native.Mathlib.Omega.{arith}
use Rattle.std.proofs.Math.ListN.{length, get_or}
use Rattle.laws.specs.Lists.{tab, window, element_at}
use Rattle.laws.specs.Changes.{put}
use Rattle.laws.specs.Laws.Cases.{by_order, by_equal, by_test}
use Rattle.laws.specs.Laws.Tests.{cond_true, cond_false, lt_true, le_true, eq_true, and_true, and_left, and_right}
use Rattle.laws.specs.Laws.Tests.{true_lt, true_le, true_eq, true≢false}
use Rattle.laws.specs.Laws.Tab.{eq_tab, get_d_past, eq_window, window_in, window_length}
use Rattle.laws.specs.Laws.Overlay.{overlay_length, overlay_in, overlay_before, overlay_after}
use Rattle.cells.specs.Stream.{packed}
use Rattle.cells.specs.Written.{written_cell}
use Rattle.cells.proofs.Laws.Packed.{packed_bits_same}
use Rattle.sector_rules.specs.Unpacked.{track_of, side_of}
use Rattle.sector_rules.specs.Packed.{image_sector_of, sector_data, image_side, side_item, fill_byte, hfe_track_byte, hfe_byte}
use Rattle.sector_rules.specs.Hfe.{track_start, track_length, side_stream}
use Rattle.sector_rules.specs.Rewritten.{field_place, data_place_of, data_place, field_row, cell_after, changed_bytes, side_byte_of, is_side_byte}
use Rattle.sector_rules.specs.Rewritten.{with_side_bytes, rewritten}
use Rattle.sector_rules.proofs.Laws.Base.Packed.{track_in, hfe_header_lem, hfe_table, hfe_track}
use Rattle.sector_rules.proofs.Laws.Trip.SideTrip.{written_side}
use Rattle.sector_rules.proofs.Laws.Trip.FieldTrip.{found, first_run}
use Rattle.sector_rules.proofs.Laws.Trip.RoundTrip.{packed_image, size, byte, start, track_long, stream_back, data_long, data_small}
use Rattle.sector_rules.proofs.Laws.Rewrite.PackedCells.{cell_same, items_same, cell_ahead, cell_behind, cell_after_lem}

-- ---- the block image with one sector replaced

module _ (image d : List ℕ) (m : ℕ) (long : length d ≡ 512) where
  -- the sector that was replaced has the new bytes
  pub put_here : 512 * m + 512 ≤ length image → window (put image (512 * m) d) (512 * m) 512 ≡ d
  unfolding put element_at
  put_here fits = sym (eq_window d (put image (512 * m) d) (512 * m) 512 long (λ j h. sym (there j h)))
    where
      there : (j : ℕ) → j < 512 → get_or (put image (512 * m) d) (512 * m + j) 0 ≡ get_or d j 0
      there j h =
          let z : 0 + (512 * m + j - 512 * m) ≡ j = omega arith in
          overlay_in image (512 * m) (length d) (element_at d 0) (512 * m + j) (omega arith) (omega arith) (omega arith) ∙ ap (λ (i : ℕ). get_or d i 0) z

  -- every other sector has the bytes that it had
  pub put_other : (q : ℕ) → q ≢ m → window (put image (512 * m) d) (512 * q) 512 ≡ window image (512 * q) 512
  unfolding put
  put_other q n =
      eq_window (window (put image (512 * m) d) (512 * q) 512) image (512 * q) 512 (window_length (put image (512 * m) d) (512 * q) 512)
      (λ j h.
      window_in (put image (512 * m) d) (512 * q) 512 j h
      ∙ by_order q m
      (λ l. overlay_before image (512 * m) (length d) (element_at d 0) (512 * q + j) (omega arith))
      (λ l. overlay_after image (512 * m) (length d) (element_at d 0) (512 * q + j) (omega arith)))

  -- where both have bytes alone, so has the image with the sector replaced
  pub put_small : ((j : ℕ) → get_or image j 0 < 256) → ((j : ℕ) → get_or d j 0 < 256) → (j : ℕ) → get_or (put image (512 * m) d) j 0 < 256
  unfolding put element_at
  put_small hi hd j =
      by_order j (512 * m) (λ l. rw (overlay_before image (512 * m) (length d) (element_at d 0) j l) (hi j))
      (λ l. by_order j (512 * m + length d)
      (λ h. by_order j (length image)
      (λ b. rw (overlay_in image (512 * m) (length d) (element_at d 0) j l h b) (hd _))
      (λ b.
      let a : length (put image (512 * m) d) ≤ j = rw (overlay_length image (512 * m) (length d) (element_at d 0)) b in
      rw (get_d_past (put image (512 * m) d) j a) (lit< tt)))
      (λ h. rw (overlay_after image (512 * m) (length d) (element_at d 0) j h) (hi j)))

  -- the image with the sector replaced is as long as it was
  pub put_long : length (put image (512 * m) d) ≡ length image
  unfolding put
  put_long = overlay_length image (512 * m) (length d) (element_at d 0)

-- ---- the place of a sector in the block image

-- track, side and sector of an image sector are those that it was made of
module _ (u v j : ℕ) (hv : v < 2) (hj : j < 9) where
  place_track : track_of (image_sector_of u v (j + 1)) ≡ u
  place_track = omega arith

  place_side : side_of (image_sector_of u v (j + 1)) ≡ v
  place_side = omega arith

  place_sector : image_sector_of u v (j + 1) % 9 ≡ j
  place_sector = omega arith

-- ---- bytes of a side in an image

five_true : (a b c d e : Bool) → (a && b && c && d && e) ≡ true → (a ≡ true) × (b ≡ true) × (c ≡ true) × (d ≡ true) × (e ≡ true)
five_true a b c d e h =
    let x : (a && b && c && d) ≡ true = and_left (a && b && c && d) e h in
    let y : (a && b && c) ≡ true = and_left (a && b && c) d x in
    let z : (a && b) ≡ true = and_left (a && b) c y in
    (and_left a b z, and_right a b z, and_right (a && b) c y, and_right (a && b && c) d x, and_right (a && b && c && d) e h)

module _ (start size s b n k : ℕ) where
  -- what is known of a byte of a side that is to be written
  in_told : is_side_byte start size s b n k ≡ true
      → (start ≤ k) × ((k - start) % 512 / 256 ≡ s) × (b ≤ side_byte_of (k - start)) × (side_byte_of (k - start) < b + n) × (side_byte_of (k - start) < size)
  unfolding is_side_byte
  in_told e =
      let h = five_true (leb start k) (eqb ((k - start) % 512 / 256) s) (leb b (side_byte_of (k - start))) (ltb (side_byte_of (k - start)) (b + n))
      (ltb (side_byte_of (k - start)) size) e in
      (true_le h.0, true_eq h.1, true_le h.2, true_lt h.3, true_lt h.4)

  -- a byte of which this is known is to be written
  in_yes : start ≤ k → (k - start) % 512 / 256 ≡ s → b ≤ side_byte_of (k - start) → side_byte_of (k - start) < b + n → side_byte_of (k - start) < size
      → is_side_byte start size s b n k ≡ true
  unfolding is_side_byte
  in_yes h₀ h₁ h₂ h₃ h₄ = and_true (and_true (and_true (and_true (le_true h₀) (eq_true h₁)) (le_true h₂)) (lt_true h₃)) (lt_true h₄)

-- a byte of a track is the same for two block images where its eight cells are
track_agree : (image next : List ℕ) (t o : ℕ)
    → ((i : ℕ) → 8 * side_byte_of o ≤ i → i < 8 * side_byte_of o + 8
    → written_cell (image_side image t (o % 512 / 256)) i ≡ written_cell (image_side next t (o % 512 / 256)) i)
    → hfe_track_byte image t o ≡ hfe_track_byte next t o
unfolding hfe_track_byte packed
track_agree image next t o same =
    ap (λ (x : ℕ). cond (ltb (side_byte_of o) 12500) x fill_byte)
    (packed_bits_same (written_cell (image_side image t (o % 512 / 256))) (written_cell (image_side next t (o % 512 / 256))) (8 * side_byte_of o)
    (8 * side_byte_of o) 8
    (λ j h. same (8 * side_byte_of o + j) (omega arith) (omega arith)))

-- ---- the place, and what is written

-- the data of a sector of a written side stand 48 items after its header begins
place_is : (t s : ℕ) → t < 256 → s < 256 → (dd : ℕ → List ℕ) (k : ℕ) → k < 9 → length (dd (k + 1)) ≡ 512 → ((j : ℕ) → get_or (dd (k + 1)) j 0 < 256)
    → data_place (written_side t s dd) t s (k + 1) ≡ 16 * (146 + 658 * k + 60)
unfolding data_place data_place_of field_place
place_is t s ht hs dd k hk len small =
    ap (data_place_of (written_side t s dd)) (found t s ht hs dd k hk) ∙ rw (first_run t s dd k hk len small (λ (j : ℕ). j) 0) (omega arith)

-- what is written, by the facts of the image that it needs
rewritten_by : (h : List ℕ) (t s r : ℕ) (d c : List ℕ) (p a n m : ℕ)
    → side_stream h t s ≡ c → data_place c t s r ≡ p → track_start h t ≡ a → track_length h t / 2 ≡ n → length h ≡ m
    → rewritten h t s r d ≡ tab (λ (j : ℕ). cond (is_side_byte a n s (p / 8) changed_bytes j) (packed (cell_after c p (field_row d)) (side_byte_of (j - a)))
    (get_or h j 0)) m
unfolding rewritten with_side_bytes
rewritten_by h t s r d c p a n m e₀ e₁ e₂ e₃ e₄ = rw (e₀, e₁, e₂, e₃, e₄)

-- ---- the image

module _ (image d : List ℕ) (t s k : ℕ) (ht : t < 80) (hs : s < 2) (hk : k < 9) (li : length image ≡ 737280) (ld : length d ≡ 512) where
  -- the block image with the sector replaced
  next : List ℕ
  next = put image (512 * image_sector_of t s (k + 1)) d

  -- its data of this sector are the new ones
  data_here : sector_data next t s (k + 1) ≡ d
  unfolding sector_data next
  data_here = put_here image d (image_sector_of t s (k + 1)) ld (omega arith)

  -- and those of every other sector the old ones
  data_other : (u v j : ℕ) → v < 2 → j < 9 → (u ≡ t → v ≡ s → j ≡ k → ⊥) → sector_data image u v (j + 1) ≡ sector_data next u v (j + 1)
  unfolding sector_data next
  data_other u v j hv hj n =
      sym (put_other image d (image_sector_of t s (k + 1)) ld (image_sector_of u v (j + 1))
      (λ z.
      n (sym (place_track u v j hv hj) ∙ ap track_of z ∙ place_track t s k hs hk)
      (sym (place_side u v j hv hj) ∙ ap side_of z ∙ place_side t s k hs hk)
      (sym (place_sector u v j hv hj) ∙ ap (λ (m : ℕ). m % 9) z ∙ place_sector t s k hs hk)))

  -- a cell is the same for both block images unless it is on this side and among those of the bytes that are to be written
  cell_out : (u v i : ℕ) → v < 2 → (u ≡ t → v ≡ s → 16 * (146 + 658 * k + 60) ≤ i → i < 16 * (146 + 658 * k + 60) + 8 * changed_bytes → ⊥)
      → written_cell (image_side image u v) i ≡ written_cell (image_side next u v) i
  unfolding image_side
  cell_out u v i hv n = by_equal u t (λ a. by_equal v s (λ b. here a b) (λ b. other (λ x y. b y))) (λ a. other (λ x y. a x))
    where
      other : (u ≡ t → v ≡ s → ⊥)
          → written_cell (side_item u v (sector_data image u v)) i ≡ written_cell (side_item u v (sector_data next u v)) i
      other far =
          let same = items_same u v (sector_data image u v) (sector_data next u v) (λ j h. data_other u v j hv h (λ x y z. far x y)) in
          cell_same (side_item u v (sector_data image u v)) (side_item u v (sector_data next u v)) i (same (i / 16)) (λ l. same (i / 16 - 1))

      here : u ≡ t → v ≡ s → written_cell (side_item u v (sector_data image u v)) i ≡ written_cell (side_item u v (sector_data next u v)) i
      here a b =
          let same : (j : ℕ) → j < 9 → j ≢ k → sector_data image u v (j + 1) ≡ sector_data next u v (j + 1) =
          λ j h q. data_other u v j hv h (λ x y z. q z) in
          by_order i (16 * (146 + 658 * k + 60)) (cell_ahead u v (sector_data image u v) (sector_data next u v) k same i)
          (λ l. by_order i (16 * (146 + 658 * k + 60) + 8 * changed_bytes) (λ h. absurd (n a b l h))
          (λ h. cell_behind u v (sector_data image u v) (sector_data next u v) k same i (omega arith)))

  -- the cells of this side, once the data are written, are those of the block image with the sector replaced
  cell_in : (i : ℕ) → i < 100000
      → cell_after (written_side t s (sector_data image t s)) (16 * (146 + 658 * k + 60)) (field_row d) i ≡ written_cell (image_side next t s) i
  unfolding image_side
  cell_in i h =
      ap (λ (x : List ℕ). cell_after (written_side t s (sector_data image t s)) (16 * (146 + 658 * k + 60)) (field_row x) i) (sym data_here)
      ∙ cell_after_lem t s (sector_data image t s) (sector_data next t s) k hk (λ j l q. data_other t s j hs l (λ x y z. q z)) i h

  -- a byte that is to be written is that of the packed image
  byte_in : (j : ℕ) → is_side_byte (512 * (2 + 49 * t)) 12500 s (16 * (146 + 658 * k + 60) / 8) changed_bytes j ≡ true
      → packed (cell_after (written_side t s (sector_data image t s)) (16 * (146 + 658 * k + 60)) (field_row d)) (side_byte_of (j - 512 * (2 + 49 * t))) ≡
      hfe_byte next j
  unfolding packed
  byte_in j e =
      let h = in_told (512 * (2 + 49 * t)) 12500 s (16 * (146 + 658 * k + 60) / 8) changed_bytes j e in
      let o : ℕ = j - 512 * (2 + 49 * t) in
      let l₀ : 512 * (2 + 49 * t) ≤ j = h.0 in
      let l₄ : 256 * (o / 512) + o % 256 < 12500 = h.4 in
      let a : (j - 1024) / 25088 ≡ t = omega arith in
      let r : (j - 1024) % 25088 ≡ o = omega arith in
      packed_bits_same (cell_after (written_side t s (sector_data image t s)) (16 * (146 + 658 * k + 60)) (field_row d)) (written_cell (image_side next t s))
      (8 * side_byte_of o) (8 * side_byte_of o) 8 (λ i b. cell_in (8 * side_byte_of o + i) (omega arith))
      ∙ sym (hfe_track next j (omega arith) (omega arith) ∙ ap₂ (hfe_track_byte next) a r ∙ track_in next t o l₄
      ∙ ap (λ (v : ℕ). packed (written_cell (image_side next t v)) (side_byte_of o)) h.1)

  -- a byte that is not is as it was
  byte_out : (j : ℕ) → j < 2008064 → is_side_byte (512 * (2 + 49 * t)) 12500 s (16 * (146 + 658 * k + 60) / 8) changed_bytes j ≡ false
      → hfe_byte image j ≡ hfe_byte next j
  byte_out j l e =
      by_order j 512 (λ h. hfe_header_lem image j h ∙ sym (hfe_header_lem next j h))
      (λ h. by_order j 1024 (λ b. hfe_table image j h b ∙ sym (hfe_table next j h b))
      (λ b. hfe_track image j h b ∙ track_agree image next u o (λ i x y. cell_out u (o % 512 / 256) i (omega arith) (never b i x y))
      ∙ sym (hfe_track next j h b)))
    where
      u : ℕ
      u = (j - 1024) / 25088

      o : ℕ
      o = (j - 1024) % 25088

      never : 1024 ≤ j → (i : ℕ) → 8 * side_byte_of o ≤ i → i < 8 * side_byte_of o + 8 → u ≡ t → o % 512 / 256 ≡ s
          → 16 * (146 + 658 * k + 60) ≤ i → i < 16 * (146 + 658 * k + 60) + 8 * changed_bytes → ⊥
      never b i x y et es lo hi =
          let z : j - 512 * (2 + 49 * t) ≡ o = omega arith in
          true≢false (is_side_byte (512 * (2 + 49 * t)) 12500 s (16 * (146 + 658 * k + 60) / 8) changed_bytes j)
          (in_yes (512 * (2 + 49 * t)) 12500 s (16 * (146 + 658 * k + 60) / 8) changed_bytes j (omega arith) (rw z es) (rw z (omega arith)) (rw z
          (omega arith))
          (rw z (omega arith))) e

  -- what is written to a packed image is the packed image of the block image with the sector replaced
  pub rewritten_is : ((j : ℕ) → get_or image j 0 < 256)
      → rewritten (packed_image image) t s (k + 1) d ≡ packed_image (put image (512 * image_sector_of t s (k + 1)) d)
  unfolding next
  rewritten_is small =
      rewritten_by (packed_image image) t s (k + 1) d (written_side t s (sector_data image t s)) (16 * (146 + 658 * k + 60)) (512 * (2 + 49 * t)) 12500 2008064
      (stream_back image t s ht hs)
      (place_is t s (omega arith) (omega arith) (sector_data image t s) k hk (data_long image small t s (k + 1)) (data_small image small t s (k + 1)))
      (start image t ht)
      (rw (track_long image t ht))
      (size image)
      ∙ sym (eq_tab (packed_image next) _ 2008064 (size next) (λ j h.
      byte next j h
      ∙ by_test (is_side_byte (512 * (2 + 49 * t)) 12500 s (16 * (146 + 658 * k + 60) / 8) changed_bytes j)
      (λ e. sym (cond_true _ _ e ∙ byte_in j e))
      (λ e. sym (cond_false _ _ e ∙ byte image j h ∙ byte_out j h e))))
