-- Where sync bytes can stand in a written row. A single 4489 can stand at an odd place too, so three in a row are looked at.
-- Rests on the laws of a written row.
use Rattle.std.specs.Prelude.{◌⊎◌, true, ℕ, zero, suc, ◌+◌, ◌-◌, ◌*◌, ◌/◌, ◌%◌, ◌^◌, ◌≤◌, ◌<◌}
use Rattle.std.proofs.Common.{inl, inr, ◌∙◌, lit<}
use Rattle.std.proofs.Math.Path.{◌≡◌, refl, sym}
use native.Mathlib.Omega.{arith}
use Rattle.std.proofs.Math.ListN.{length}
use Rattle.laws.specs.Laws.Tab.{tab_in}
use Rattle.cells.specs.Stream.{number, word}
use Rattle.cells.specs.Mfm.{bit_of}
use Rattle.cells.specs.Sync.{sync_word, sync_at}
use Rattle.cells.specs.Written.{left_out, written_cell, written, Triple}
use Rattle.cells.specs.declared.Item.{Item}
use Rattle.cells.specs.declared.Item.TheVariants.{Plain, Sync, Index}
use Rattle.cells.proofs.Laws.Number.{number_cell}
use Rattle.cells.proofs.Laws.Sync.{sync_within, sync_word_lem}
use Rattle.cells.proofs.Laws.Written.{data_cell, left_out_lem, written_bit, written_length_lem}

-- ---- a sync byte in the stream
module _ (items : ℕ → Item) (n i : ℕ) (s : sync_at (written items n) i ≡ true) where
  sync_cell : (k : ℕ) → k < 16 → written_cell items (i + k) ≡ sync_word / 2 ^ (16 - (k + 1)) % 2
  unfolding written word
  sync_cell k h =
      let f : i + 16 ≤ length (written items n) = sync_within (written items n) i s in
      let e : number (written items n) 1 i 16 ≡ sync_word = sync_word_lem (written items n) i s in
      sym (tab_in (written_cell items) (16 * n) (i + k) (omega (arith, written_length_lem items n)))
      ∙ number_cell (written items n) (written_bit items n) i 16 k h ∙ rw e

  -- at an even place
  even_place : i % 2 ≡ 0 → (i + 10) % 16 ≡ left_out (items ((i + 10) / 16))
  even_place ev =
      let a : i + 9 + 1 ≡ i + 10 = omega arith in
      let b : i + 9 + 2 ≡ i + 11 = omega arith in
      rw a at (left_out_lem items (i + 9) (omega arith) (sync_cell 9 (lit< tt)) (rw a (sync_cell 10 (lit< tt))) (rw b (sync_cell 11 (lit< tt))))

  odd_place : i % 2 ≡ 1 → (i + 3) % 16 ≡ left_out (items ((i + 3) / 16))
  odd_place od =
      let a : i + 2 + 1 ≡ i + 3 = omega arith in
      let b : i + 2 + 2 ≡ i + 4 = omega arith in
      rw a at (left_out_lem items (i + 2) (omega arith) (sync_cell 2 (lit< tt)) (rw a (sync_cell 3 (lit< tt))) (rw b (sync_cell 4 (lit< tt))))

  sync_even : i % 2 ≡ 0 → (i % 16 ≡ 0) × (items (i / 16) ≡ Sync)
  unfolding bit_of
  sync_even ev = go (items ((i + 10) / 16)) refl
    where
      go : (a : Item) → items ((i + 10) / 16) ≡ a → (i % 16 ≡ 0) × (items (i / 16) ≡ Sync)
      go (Plain x) e = let p : (i + 10) % 16 ≡ 16 = rw e at (even_place ev) in absurd (omega arith)
      go Sync e =
          let p : (i + 10) % 16 ≡ 10 = rw e at (even_place ev) in
          let r : i / 16 ≡ (i + 10) / 16 = omega arith in
          (omega arith, rw r e)
      go Index e =
          let p : (i + 10) % 16 ≡ 8 = rw e at (even_place ev) in
          let r : i + 3 ≡ 16 * ((i + 10) / 16) + (2 * 0 + 1) = omega arith in
          let z : ◌≡◌ {A = ℕ} 0 1 = sym (sync_cell 3 (lit< tt)) ∙ rw r (data_cell items ((i + 10) / 16) 0 (lit< tt) ∙ rw e) in
          absurd (omega arith)

  -- at an odd place, which needs that the next item is no such byte
  sync_odd : i % 2 ≡ 1 → ((i % 16 ≡ 7) × (items (i / 16) ≡ Sync)) ⊎ ((i % 16 ≡ 5) × (items (i / 16) ≡ Index))
  sync_odd od = go (items ((i + 3) / 16)) refl
    where
      go : (a : Item) → items ((i + 3) / 16) ≡ a
          → ((i % 16 ≡ 7) × (items (i / 16) ≡ Sync)) ⊎ ((i % 16 ≡ 5) × (items (i / 16) ≡ Index))
      go (Plain x) e = let p : (i + 3) % 16 ≡ 16 = rw e at (odd_place od) in absurd (omega arith)
      go Sync e =
          let p : (i + 3) % 16 ≡ 10 = rw e at (odd_place od) in
          let r : i / 16 ≡ (i + 3) / 16 = omega arith in
          inl (omega arith, rw r e)
      go Index e =
          let p : (i + 3) % 16 ≡ 8 = rw e at (odd_place od) in
          let r : i / 16 ≡ (i + 3) / 16 = omega arith in
          inr (omega arith, rw r e)

-- two sync bytes in a row stand at no odd place
no_odd_pair : (items : ℕ → Item) (n i : ℕ) → sync_at (written items n) i ≡ true → sync_at (written items n) (i + 16) ≡ true → i % 2 ≡ 1 → ⊥
unfolding bit_of
no_odd_pair items n i s t od = go (sync_odd items n i s od) (sync_odd items n (i + 16) t (omega arith))
  where
    next : ℕ
    next = (i + 16) / 16

    go : ((i % 16 ≡ 7) × (items (i / 16) ≡ Sync)) ⊎ ((i % 16 ≡ 5) × (items (i / 16) ≡ Index))
        → (((i + 16) % 16 ≡ 7) × (items next ≡ Sync)) ⊎ (((i + 16) % 16 ≡ 5) × (items next ≡ Index))
        → ⊥
    go (inl a) (inl b) =
        let r : i + 10 ≡ 16 * next + (2 * 0 + 1) = omega arith in
        let z : ◌≡◌ {A = ℕ} 0 1 = sym (sync_cell items n i s 10 (lit< tt)) ∙ rw r (data_cell items next 0 (lit< tt) ∙ rw b.1) in
        omega arith
    go (inl a) (inr b) = omega arith
    go (inr a) (inl b) = omega arith
    go (inr a) (inr b) =
        let r : i + 14 ≡ 16 * next + (2 * 1 + 1) = omega arith in
        let z : ◌≡◌ {A = ℕ} 0 1 = sym (sync_cell items n i s 14 (lit< tt)) ∙ rw r (data_cell items next 1 (lit< tt) ∙ rw b.1) in
        omega arith

-- three sync bytes in a row stand only where they were written
pub triple_at : (items : ℕ → Item) (n i : ℕ)
    → sync_at (written items n) i ≡ true → sync_at (written items n) (i + 16) ≡ true → sync_at (written items n) (i + 32) ≡ true
    → (i ≡ 16 * (i / 16)) × Triple items (i / 16)
triple_at items n i s₁ s₂ s₃ = go (i % 2) refl
  where
    go : (r : ℕ) → i % 2 ≡ r → (i ≡ 16 * (i / 16)) × Triple items (i / 16)
    go zero ev =
        let a : (i % 16 ≡ 0) × (items (i / 16) ≡ Sync) = sync_even items n i s₁ ev in
        let b : ((i + 16) % 16 ≡ 0) × (items ((i + 16) / 16) ≡ Sync) = sync_even items n (i + 16) s₂ (omega arith) in
        let d : ((i + 32) % 16 ≡ 0) × (items ((i + 32) / 16) ≡ Sync) = sync_even items n (i + 32) s₃ (omega arith) in
        let eb : (i + 16) / 16 ≡ i / 16 + 1 = omega arith in
        let ed : (i + 32) / 16 ≡ i / 16 + 2 = omega arith in
        (omega arith, record { first = a.1; second = rw eb at b.1; third = rw ed at d.1 })
    go (suc r) od = absurd (no_odd_pair items n i s₁ s₂ (omega arith))
