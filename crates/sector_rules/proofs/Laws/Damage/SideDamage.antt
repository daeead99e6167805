-- Damage anywhere on a side: what is delivered is what was delivered before; and a written side is one of which this can be said.
-- Rests on damage of data fields (FieldDamage), on what an answer says (Base.Told) and on round_trip (Trip).
use Rattle.std.specs.Prelude.{Ok, true, false, ◌≡◌, ℕ, ◌+◌, ◌*◌, ◌/◌, ◌≤◌, ◌<◌, length}
use mathlib.Core.List.{List}
use Rattle.std.proofs.Common.{⊎_elim, sym, ◌∙◌, arith}
use Rattle.std.proofs.Math.Path.{ap}
use Rattle.laws.specs.Laws.Cases.{by_order, by_test, by_equal}
use Rattle.laws.specs.Laws.Tests.{true≢false}
use Rattle.cells.specs.Stream.{from}
use Rattle.cells.specs.Sync.{three_sync}
use Rattle.cells.proofs.Theorems.{triple_only}
use Rattle.sector_rules.specs.Geometry.{all_sectors, image_bytes}
use Rattle.sector_rules.specs.Search.{header_mark, data_mark, header_cells, gap_cells, is_header, header_at, field_at, field_of, sector_of}
use Rattle.sector_rules.specs.Hfe.{side_stream}
use Rattle.sector_rules.specs.Unpacked.{sector_at, sector_bytes_at}
use Rattle.sector_rules.specs.Packed.{hfe_bytes, pack_hfe, sector_data, side_item}
use Rattle.sector_rules.specs.Replies.{done}
use Rattle.sector_rules.specs.Damage.{Binary, SameField, SideDamage, ImageSideDamage, RunsApart}
use Rattle.sector_rules.proofs.Laws.Base.Packed.{pack_done, hfe_after}
use Rattle.sector_rules.proofs.Laws.Trip.SideTrip.{written_side, side_triple, place, there}
use Rattle.sector_rules.proofs.Laws.Trip.RoundTrip.{packed_image, stream_back}
use Rattle.sector_rules.proofs.Laws.Base.Told.{field_place_lem, field_mark, header_split, header_join, header_syncs}
use Rattle.sector_rules.proofs.Laws.Base.Told.{header_mark_lem, sector_told, header_told, gap_told}
use Rattle.sector_rules.proofs.Laws.Damage.FieldDamage.{fields_same, header_same, side_binary, bytes_each}

-- a field that is delivered begins no header
field_no_header : (c : List ℕ) (j p : ℕ) → field_at c j ≡ Ok p → is_header (from c j) ≡ false
field_no_header c j p e =
    by_test (is_header (from c j))
    (λ u. let z : data_mark ≡ header_mark = sym (field_mark c j p e) ∙ header_mark_lem (from c j) u in absurd (omega arith))
    (λ u. u)

-- ---- two sides

module _ (c d : List ℕ) (bc : Binary c) (bd : Binary d) (g : SideDamage c d) (away : RunsApart c) where
  -- the field of d after a header that both have
  same_field : (i j q : ℕ) → field_of c i ≡ Ok (j + 64) → field_of d i ≡ Ok q → (q ≡ j + 64) × SameField c d j
  same_field i j q ec ed =
      let x = gap_told c i (j + 64) ec in
      let y = gap_told d i q ed in
      let z : i + header_cells + x.0 + 64 ≡ j + 64 = field_place_lem c (i + header_cells + x.0) (j + 64) x.4 in
      let u : i + header_cells + x.0 ≡ j = omega arith in
      let fc : field_at c j ≡ Ok (j + 64) = ap (field_at c) (sym u) ∙ x.4 in
      let run : three_sync (from c j) ≡ true = ap (λ (k : ℕ). three_sync (from c k)) (sym u) ∙ x.3 in
      let on : three_sync (from c (i + header_cells + y.0)) ≡ true = g.no_new_run (i + header_cells + y.0) y.3 in
      by_order y.0 x.0
      (λ l. true≢false (three_sync (from c (i + header_cells + y.0))) on (x.2 y.0 l))
      (λ l. by_equal y.0 x.0
      (λ e.
      fields_same c d bc bd j (g.fields j (j + 64) run fc) (j + 64) q fc
      (ap (field_at d) (sym u) ∙ ap (λ (k : ℕ). field_at d (i + header_cells + k)) (sym e) ∙ y.4))
      (λ n.
      true≢false (three_sync (from c (i + header_cells + y.0))) on
      (away j (i + header_cells + y.0) run (field_no_header c j (j + 64) fc) (omega arith) (omega (arith, y.1)))))

  -- what is delivered of a sector of a damaged side is what was recorded
  pub side_same : (t s r j q : ℕ) → sector_of c t s r ≡ Ok (j + 64) → sector_of d t s r ≡ Ok q → (q ≡ j + 64) × SameField c d j
  side_same t s r j q ec ed =
      let x = sector_told c t s r (j + 64) ec in
      let y = sector_told d t s r q ed in
      let h = header_told d t s r y.0 y.1 in
      let k = header_split d t s r y.0 h.0 in
      by_test (is_header (from c y.0))
      (λ u.
      let same = (header_same c d bc bd y.0 (g.headers y.0 u) u k.0).1 in
      let hc : header_at c t s r y.0 ≡ true = header_join c t s r y.0 u (rw same k.1) in
      let i : y.0 ≡ x.0 = (header_told c t s r x.0 x.1).1 y.0 (omega (arith, h.2, g.long)) hc in
      same_field x.0 j q x.2 (ap (field_of d) (sym i) ∙ y.2))
      (λ u.
      let w = gap_told d y.0 q y.2 in
      true≢false (three_sync (from c (y.0 + header_cells + w.0))) (g.no_new_run (y.0 + header_cells + w.0) w.3)
      (away y.0 (y.0 + header_cells + w.0) (g.no_new_run y.0 (header_syncs (from d y.0) k.0)) u (omega arith) (omega (arith, w.1))))

-- ---- a written side

too_near : (x y o k j : ℕ) → o ≤ 56 → k ≡ 16 * (146 + 658 * x + 56) → j ≡ 16 * (146 + 658 * y + o) → k < j → j ≤ k + header_cells + gap_cells → ⊥
too_near x y o k j ho ek ej l h = by_order x y (λ m. omega arith) (λ m. omega arith)

written_apart : (t s : ℕ) → t < 256 → s < 256 → (d : ℕ → List ℕ) → RunsApart (written_side t s d)
unfolding written_side place
written_apart t s ht hs d k j on off l h =
    by_test (three_sync (from (written_side t s d) j))
    (λ u.
    let a = triple_only (side_item t s d) 6250 k on in
    let b = triple_only (side_item t s d) 6250 j u in
    let x = side_triple t s d (k / 16) a.1 in
    let y = side_triple t s d (j / 16) b.1 in
    ⊎_elim
    (λ m.
    let e : 16 * (146 + 658 * x.0 + 12) ≡ k = omega arith in
    true≢false (is_header (from (written_side t s d) k))
    (header_split (written_side t s d) t s (x.0 + 1) k (ap (header_at (written_side t s d) t s (x.0 + 1)) (sym e) ∙ there t s ht hs d x.0 x.1)).0
    off)
    (λ m.
    ⊎_elim (λ n. absurd (too_near x.0 y.0 12 k j (omega arith) (omega arith) (omega arith) l h))
    (λ n. absurd (too_near x.0 y.0 56 k j (omega arith) (omega arith) (omega arith) l h)) y.2)
    x.2)
    (λ u. u)

-- ---- a packed image

module _ (image hfe : List ℕ) (li : length image ≡ image_bytes) (lh : length hfe ≡ hfe_bytes) where
  -- the side of a packed image is the written side
  pub packed_side : (t s : ℕ) → t < 80 → s < 2 → side_stream (pack_hfe image hfe) t s ≡ written_side t s (sector_data image t s)
  unfolding packed_image
  packed_side t s ht hs =
      ap (λ (h : List ℕ). side_stream h t s) (hfe_after image hfe done (pack_done (length image) (length hfe) lh li)) ∙ stream_back image t s ht hs

  packed_apart : (t s : ℕ) → t < 80 → s < 2 → RunsApart (side_stream (pack_hfe image hfe) t s)
  packed_apart t s ht hs = rw (packed_side t s ht hs) (written_apart t s (omega arith) (omega arith) (sector_data image t s))

-- images whose sides are damaged have the same bytes where both deliver them
pub sides_bytes : (image hfe g : List ℕ) → length image ≡ image_bytes → length hfe ≡ hfe_bytes → ImageSideDamage (pack_hfe image hfe) g
    → (m j q : ℕ) → m < all_sectors → sector_at (pack_hfe image hfe) m ≡ Ok (j + 64) → sector_at g m ≡ Ok q
    → sector_bytes_at (pack_hfe image hfe) m ≡ sector_bytes_at g m
sides_bytes image hfe g li lh d =
    bytes_each (pack_hfe image hfe) g
    (λ t s x j q ht hs hx ec ed.
    side_same (side_stream (pack_hfe image hfe) t s) (side_stream g t s) (side_binary (pack_hfe image hfe) t s) (side_binary g t s) (d.each t s ht hs)
    (packed_apart image hfe li lh t s ht hs) t s (x + 1) j q ec ed)
