-- A written side is read back, first part: a header of each sector stands at its place and nowhere else.
-- Rests on the written side place by place (Base.Packed) and on the cell layer's laws of written rows.
use Rattle.std.specs.Prelude.{List, ◌∷◌, ◌⊎◌, ◌≡◌, Bool, ◌&&◌, eqb}
use Rattle.std.proofs.Math.Logic.{inl, inr, ⊎_elim}
use Rattle.std.proofs.Math.Path.{refl, sym, ap}
use Rattle.std.proofs.Common.{◌∙◌, lit<}
use Rattle.std.proofs.Math.Bool.{true, false}
use Prim.Native.Nat.{ℕ, zero, suc, ◌+◌, ◌-◌, ◌*◌, ◌/◌, ◌%◌, ◌≤◌, ◌<◌}
use native.Mathlib.Omega.{arith}
use Rattle.std.proofs.Math.Dec.{ltb}
use Rattle.std.proofs.Math.ListN.{length, get_or}
use borrow.Author.Tests.{ltb-true, ltb-false, le-leb, eq-eqb, eqb-true}
use Rattle.laws.specs.Lists.{tab}
use Rattle.laws.specs.Numbers.{high_byte}
use Rattle.laws.specs.Laws.Tests.{and_right}
use Rattle.cells.specs.Stream.{from, data_byte, data_bytes}
use Rattle.cells.specs.Sync.{sync_at, three_sync}
use Rattle.cells.specs.Written.{item_byte, written, Triple}
use Rattle.cells.specs.declared.Item.{Item}
use Rattle.cells.specs.declared.Item.TheVariants.{Plain, Sync, Index}
use Rattle.cells.proofs.Theorems.{triple_only}
use Rattle.cells.proofs.Laws.Stream.{from_length}
use Rattle.cells.proofs.Laws.Number.{byte_from, bytes_list}
use Rattle.cells.proofs.Laws.Sync.{sync_from}
use Rattle.cells.proofs.Laws.Written.{byte_at_lem, sync_here, written_length_lem}
use Rattle.sector_rules.specs.Search.{crc_holds, header_mark, data_mark, size_code, is_header, id_of, header_of, header_at}
use Rattle.sector_rules.specs.Packed.{span, field_crc, with_crc, header_row, sector_item, side_item, side_items}
use Rattle.sector_rules.proofs.Laws.Base.Search.{crc_two}
use Rattle.sector_rules.proofs.Laws.Base.Packed.{sector_sync, side_sector, field_crc_lt}
use Rattle.sector_rules.proofs.Laws.Base.Told.{header_split, header_syncs, header_mark_lem}

-- the cells of a written side
unfoldable pub written_side : ℕ → ℕ → (ℕ → List ℕ) → List ℕ
written_side t s d = written (side_item t s d) side_items

-- ---- where sync items stand

module _ (n : ℕ) (f g : ℕ → Item) (q : ℕ) where
  span_sync : span n f g q ≡ Sync → ((q < n) × (f q ≡ Sync)) ⊎ ((n ≤ q) × (g (q - n) ≡ Sync))
  unfolding span
  span_sync e = go (ltb q n) refl
    where
      go : (t : Bool) → ltb q n ≡ t → ((q < n) × (f q ≡ Sync)) ⊎ ((n ≤ q) × (g (q - n) ≡ Sync))
      go true h = inl (ltb-true _ _ h, rw h at e)
      go false h = inr (ltb-false _ _ h, rw h at e)

  span_past : (f q ≡ Sync → ⊥) → span n f g q ≡ Sync → (n ≤ q) × (g (q - n) ≡ Sync)
  span_past none e = ⊎_elim (λ l. absurd (none l.1)) (λ r. r) (span_sync e)

plain_not : (x : ℕ) → Plain x ≡ Sync → ⊥
plain_not x e = let z : ◌≡◌ {A = ℕ} 0 1 = cc in omega arith

index_not : Index ≡ Sync → ⊥
index_not e = let z : ◌≡◌ {A = ℕ} 0 1 = cc in omega arith

sector_runs : (t s r : ℕ) (d : List ℕ) (o : ℕ) → sector_item t s r d o ≡ Sync → ((12 ≤ o) × (o < 15)) ⊎ ((56 ≤ o) × (o < 59))
unfolding sector_item
sector_runs t s r d o e =
    let a = span_past _ _ _ _ (plain_not _) e in
    ⊎_elim (λ l. inl (omega arith))
    (λ b.
    let c₁ = span_past _ _ _ _ (plain_not _) b.1 in
    let c₂ = span_past _ _ _ _ (plain_not _) c₁.1 in
    let c₃ = span_past _ _ _ _ (plain_not _) c₂.1 in
    ⊎_elim (λ l. inr (omega arith))
    (λ u. absurd (plain_not _ (span_past _ _ _ _ (plain_not _) u.1).1))
    (span_sync _ _ _ _ c₃.1))
    (span_sync _ _ _ _ a.1)

module _ (t s : ℕ) (d : ℕ → List ℕ) where
  side_runs : (q : ℕ) → side_item t s d q ≡ Sync
      → (146 ≤ q) × (q < 6068) × (((12 ≤ (q - 146) % 658) × ((q - 146) % 658 < 15)) ⊎ ((56 ≤ (q - 146) % 658) × ((q - 146) % 658 < 59)))
  unfolding side_item
  side_runs q e =
      let a₁ = span_past 80 _ _ _ (plain_not _) e in
      let a₂ = span_past 12 _ _ _ (plain_not _) a₁.1 in
      let a₃ = span_past 3 _ _ _ index_not a₂.1 in
      let a₄ = span_past 1 _ _ _ (plain_not _) a₃.1 in
      let a₅ = span_past 50 _ _ _ (plain_not _) a₄.1 in
      let z : q - 80 - 12 - 3 - 1 - 50 ≡ q - 146 = omega arith in
      ⊎_elim
      (λ l. (omega arith, omega arith, sector_runs t s _ _ _ (rw z at l.1)))
      (λ r. absurd (plain_not _ r.1))
      (span_sync 5922 _ _ _ a₅.1)

  -- three sync marks in a row stand at a header or at a data field alone
  pub side_triple : (q : ℕ) → Triple (side_item t s d) q
      → (k : ℕ) × (k < 9) × ((q ≡ 146 + 658 * k + 12) ⊎ (q ≡ 146 + 658 * k + 56))
  side_triple q tr =
      let a = side_runs q tr.first in
      let b = side_runs (q + 2) tr.third in (
        (q - 146) / 658,
        omega arith,
        ⊎_elim
            (λ l. ⊎_elim (λ m. inl (omega arith)) (λ m. absurd (omega arith)) b.2)
            (λ r. ⊎_elim (λ m. absurd (omega arith)) (λ m. inr (omega arith)) b.2)
            a.2,
      )

  -- item o of sector R = k + 1 stands at item 146 + 658 k + o of the side
  pub item_at : (k o : ℕ) → k < 9 → o < 658 → side_item t s d (146 + 658 * k + o) ≡ sector_item t s (k + 1) (d (k + 1)) o
  item_at k o hk ho =
      let a : (146 + 658 * k + o - 146) / 658 ≡ k = omega arith in
      let b : (146 + 658 * k + o - 146) % 658 ≡ o = omega arith in
      side_sector t s d (146 + 658 * k + o) (omega arith) (omega arith) ∙ rw (a, b)

  -- the byte of item o of a sector is read at its cells
  pub byte_at_item : (k o : ℕ) → k < 9 → o < 658 → item_byte (sector_item t s (k + 1) (d (k + 1)) o) < 256
      → (p j : ℕ) → p + j ≡ 16 * (146 + 658 * k + o) → data_byte (from (written_side t s d) p) j ≡ item_byte (sector_item t s (k + 1) (d (k + 1)) o)
  unfolding written_side
  byte_at_item k o hk ho hb p j e =
      let x : side_item t s d (146 + 658 * k + o) ≡ sector_item t s (k + 1) (d (k + 1)) o = item_at k o hk ho in
      byte_from (written (side_item t s d) 6250) p j ∙ ap (data_byte (written (side_item t s d) 6250)) e
      ∙ byte_at_lem (side_item t s d) 6250 (146 + 658 * k + o) (omega arith) (rw x hb) ∙ ap item_byte x

  -- a sync mark that is item o of a sector is found at its cells
  pub sync_at_item : (k o : ℕ) → k < 9 → o < 658 → sector_item t s (k + 1) (d (k + 1)) o ≡ Sync
      → (p j : ℕ) → p + j ≡ 16 * (146 + 658 * k + o) → sync_at (from (written_side t s d) p) j ≡ true
  unfolding written_side
  sync_at_item k o hk ho x p j e =
      sync_from (written (side_item t s d) 6250) p j ∙ ap (sync_at (written (side_item t s d) 6250)) e
      ∙ sync_here (side_item t s d) 6250 (146 + 658 * k + o) (omega arith) (item_at k o hk ho ∙ x)

  -- how many cells of a written side there are from place p on
  pub room : (p : ℕ) → length (from (written_side t s d) p) ≡ 100000 - p
  unfolding written_side
  room p = from_length (written (side_item t s d) 6250) p ∙ rw (written_length_lem (side_item t s d) 6250)

-- ---- a header stands only at its own place

header_true : (c : List ℕ) (t s r i : ℕ) → header_at c t s r i ≡ true
    → (three_sync (from c i) ≡ true) × (data_byte (from c i) 48 ≡ header_mark) × (data_byte (from c i) 96 ≡ r)
unfolding id_of
header_true c t s r i e =
    let h = header_split c t s r i e in (
      header_syncs (from c i) h.0,
      header_mark_lem (from c i) h.0,
      eqb-true _ _ (and_right (eqb (data_byte (from c i) 64) t && eqb (data_byte (from c i) 80) s && eqb (data_byte (from c i) 112) size_code) _ h.1),
    )

module _ (t s : ℕ) (d : ℕ → List ℕ) where
  -- a header of a sector stands at no other place
  pub only : (r i : ℕ) → header_at (written_side t s d) t s r i ≡ true → i ≡ 16 * (146 + 658 * (r - 1) + 12)
  unfolding written_side sector_item span with_crc
  only r i e =
      let x = header_true (written_side t s d) t s r i e in
      let y = triple_only (side_item t s d) 6250 i x.0 in
      let z = side_triple t s d (i / 16) y.1 in
      ⊎_elim
      (λ l.
      let w : z.0 + 1 ≡ r = sym (byte_at_item t s d z.0 18 z.1 (lit< tt) (omega arith) i 96 (omega arith)) ∙ x.2 in
      omega arith)
      (λ l.
      let w : data_mark ≡ header_mark = sym (byte_at_item t s d z.0 59 z.1 (lit< tt) (lit< tt) i 48 (omega arith)) ∙ x.1 in
      absurd (omega arith))
      z.2

-- ---- the header at its place

module _ (t s : ℕ) (ht : t < 256) (hs : s < 256) (d : ℕ → List ℕ) (k : ℕ) (hk : k < 9) where
  -- the cell place of the header of sector k + 1
  unfoldable pub place : ℕ
  place = 16 * (146 + 658 * k + 12)

  f : List ℕ
  f = from (written_side t s d) place

  item : ℕ → Item
  item = sector_item t s (k + 1) (d (k + 1))

  at : (j : ℕ) → j < 646 → item_byte (item (12 + j)) < 256 → data_byte f (16 * j) ≡ item_byte (item (12 + j))
  unfolding f place item
  at j hj hb = byte_at_item t s d k (12 + j) hk (omega arith) hb (16 * (146 + 658 * k + 12)) (16 * j) (omega arith)

  synced : (j : ℕ) → j < 3 → sync_at f (16 * j) ≡ true
  unfolding f place
  synced j hj = sync_at_item t s d k (12 + j) hk (omega arith) (is_sync j hj) (16 * (146 + 658 * k + 12)) (16 * j) (omega arith)
    where
      is_sync : (i : ℕ) → i < 3 → sector_item t s (k + 1) (d (k + 1)) (12 + i) ≡ Sync
      is_sync i h = sector_sync t s (k + 1) (d (k + 1)) (12 + i) (omega arith) (omega arith)

  header_list : data_bytes f 0 8 ≡ 0xA1 ∷ (0xA1 ∷ (0xA1 ∷ header_row t s (k + 1)))
  unfolding item sector_item span with_crc
  header_list = bytes_list f 0 (0xA1 ∷ (0xA1 ∷ (0xA1 ∷ header_row t s (k + 1)))) byte
    where
      byte : (j : ℕ) → j < 8 → data_byte f (0 + 16 * j) ≡ get_or (0xA1 ∷ (0xA1 ∷ (0xA1 ∷ header_row t s (k + 1)))) j 0
      byte zero h = at 0 (lit< tt) (lit< tt)
      byte (suc zero) h = at 1 (lit< tt) (lit< tt)
      byte (suc (suc zero)) h = at 2 (lit< tt) (lit< tt)
      byte (suc (suc (suc zero))) h = at 3 (lit< tt) (lit< tt)
      byte (suc (suc (suc (suc zero)))) h = at 4 (lit< tt) ht
      byte (suc (suc (suc (suc (suc zero))))) h = at 5 (lit< tt) hs
      byte (suc (suc (suc (suc (suc (suc zero)))))) h = at 6 (lit< tt) (omega arith)
      byte (suc (suc (suc (suc (suc (suc (suc zero))))))) h = at 7 (lit< tt) (lit< tt)
      byte (suc (suc (suc (suc (suc (suc (suc (suc j)))))))) h = absurd (omega arith)

  header_holds : crc_holds f 8 ≡ true
  unfolding item sector_item span with_crc tab high_byte field_crc
  header_holds =
      let sum : ℕ = field_crc (header_row t s (k + 1)) in
      let small : sum < 65536 = field_crc_lt (header_row t s (k + 1)) in
      let x : data_byte f 128 ≡ sum / 256 % 256 = at 8 (lit< tt) (omega arith) in
      let y : data_byte f 144 ≡ sum / 1 % 256 = at 9 (lit< tt) (omega arith) in
      rw (crc_two f 8, x, y, header_list) (eq-eqb sum (sum / 256 % 256 * 256 + sum / 1 % 256) (omega arith))

  header_three : three_sync f ≡ true
  unfolding three_sync
  header_three = rw (synced 0 (lit< tt), synced 1 (lit< tt), synced 2 (lit< tt))

  -- the header of sector k + 1 stands at its place
  pub there : header_at (written_side t s d) t s (k + 1) place ≡ true
  unfolding header_at header_of is_header id_of item sector_item span with_crc f place
  there =
      let l : 160 ≤ length f = rw (room t s d place) (omega arith) in
      let m : data_byte f 48 ≡ header_mark = at 3 (lit< tt) (lit< tt) in
      let b₄ : data_byte f 64 ≡ t = at 4 (lit< tt) ht in
      let b₅ : data_byte f 80 ≡ s = at 5 (lit< tt) hs in
      let b₆ : data_byte f 96 ≡ k + 1 = at 6 (lit< tt) (omega arith) in
      let b₇ : data_byte f 112 ≡ 2 = at 7 (lit< tt) (lit< tt) in
      rw (le-leb _ _ l, header_three, eq-eqb _ _ m, header_holds, eq-eqb _ _ b₄, eq-eqb _ _ b₅, eq-eqb _ _ b₇, eq-eqb _ _ b₆)
