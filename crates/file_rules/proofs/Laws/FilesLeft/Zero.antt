-- A byte of the inner model's disk that belongs to nothing present is zero (§9.8).
-- Rests on filled slots (Present) and on what is read of the disk (InnerModel.Reads).
use Rattle.std.specs.Prelude.{◌≡◌, refl, List, ℕ, zero, suc, ◌+◌, ◌*◌, ◌/◌, ◌%◌, ◌≤◌, ◌<◌, length}
use Rattle.std.proofs.Common.{sym, ◌∙◌, subst, arith}
use Rattle.std.proofs.Math.Path.{ap}
use Rattle.std.proofs.Math.Option.{none, some}
use Rattle.std.proofs.Math.ListN.{get_or-eq_default}
use Rattle.laws.specs.Options.{is_some}
use Rattle.laws.specs.Laws.Cases.{by_order, by_equal}
use Rattle.laws.specs.Laws.Tests.{lt_true, lt_false, true≢false, cond_true, cond_false}
use Rattle.sector_rules.specs.Geometry.{blocks}
use Rattle.file_rules.specs.declared.Record.{Record}
use Rattle.file_rules.specs.declared.Record.TheVariants.{Free, Bad, System, File, Other}
use Rattle.file_rules.specs.Directory.{dir_end}
use Rattle.file_rules.specs.Disk.{Disk}
use Rattle.file_rules.specs.History.{HasEntry, Belongs, in_head, in_slot, in_file}
use Rattle.file_rules.proofs.Laws.InnerModel.Fields.{parts_none}
use Rattle.file_rules.proofs.Laws.InnerModel.Reads.{dir_end_is, rec, entry_is}
use Rattle.file_rules.proofs.Laws.InnerModel.Inner.{Inner, header, render}
use Rattle.file_rules.proofs.Laws.InnerModel.Invariant.{Inv}
use Rattle.file_rules.proofs.Laws.FilesLeft.Present.{Fills, fills_present}
use Rattle.file_rules.proofs.Laws.Base.Records.{Valid}
use Rattle.file_rules.proofs.Laws.Base.Whole.{with_is}
use Rattle.file_rules.specs.Model.{NamedFile, HeldFile, slot_of, held_bytes, dir_byte, content}
use Rattle.file_rules.specs.Sizes.{block_bytes, slot_bytes, block_slots}
use Rattle.file_rules.specs.Written.{stored_byte, part}

module _ (m : Inner) (b o : ℕ) (pos : 0 < b) (hb : b < blocks) (ho : o < block_bytes) where
  byte_at : (r : Record) → m.owner b ≡ r → render m b o ≡ content m.slots m.slots r o
  unfolding render
  byte_at r e =
      (with_is (header m) m.owner (content m.slots m.slots)).block b o pos hb ho ∙ ap (λ (x : Record). content m.slots m.slots x o) e

  -- a free block
  free_zero : m.owner b ≡ Free → render m b o ≡ 0
  unfolding content
  free_zero e = byte_at Free e

  -- a bad block
  bad_zero : m.owner b ≡ Bad → render m b o ≡ 0
  unfolding content
  bad_zero e = byte_at Bad e

  -- a vacant slot
  vacant_zero : (s : ℕ) → m.owner b ≡ File 0 s → m.slots (s * block_slots + o / slot_bytes) ≡ none → render m b o ≡ 0
  unfolding content dir_byte slot_of
  vacant_zero s e z = byte_at (File 0 s) e ∙ ap (λ (l : HeldFile). slot_of l (o % slot_bytes)) z

  -- after a file's end
  tail_zero : (f s : ℕ) (x : NamedFile) → m.owner b ≡ File (suc f) s → m.slots (suc f) ≡ some x
      → slot_bytes + length x.content ≤ s * block_bytes + o → render m b o ≡ 0
  unfolding content part held_bytes stored_byte
  tail_zero f s x e z h =
      byte_at (File (suc f) s) e
      ∙ cond_true _ _ (lt_true ho)
      ∙ ap (λ (l : HeldFile). held_bytes l (s * block_bytes + o)) z
      ∙ cond_false _ _ (lt_false {a = s * block_bytes + o} {b = slot_bytes} (omega arith))
      ∙ get_or-eq_default x.content 0 (omega arith)

-- a slot is empty or has a file
pub by_slot : {X : Type 0} (l : HeldFile) → (l ≡ none → X) → ((x : NamedFile) → l ≡ some x → X) → X
by_slot none f g = f refl
by_slot (some x) f g = g x refl

module _ (m : Inner) (v : Inv m) (fs : List NamedFile) (r : Fills m.slots fs) where
  abbrev d : Disk
  d = render m

  -- a slot with a file is between 1 and the peak
  pub filled_below : (k : ℕ) (x : NamedFile) → m.slots k ≡ some x → (0 < k) × (k ≤ m.peak)
  unfolding is_some
  filled_below k x e = (
    by_equal k 0 (λ z. true≢false (is_some (m.slots k)) (ap is_some e) (ap (λ (j : ℕ). is_some (m.slots j)) z ∙ ap is_some v.slot_zero)) (λ z. omega arith),
    by_order m.peak k (λ h. true≢false (is_some (m.slots k)) (ap is_some e) (ap is_some (v.slot_past k h))) (λ h. h),
  )

  below_end : (k : ℕ) (x : NamedFile) → m.slots k ≡ some x → k < dir_end d
  below_end k x e = omega (arith, (filled_below k x e).1, dir_end_is m v)

  -- the slot of a file has its entry
  pub slot_entry_lem : (k : ℕ) (x : NamedFile) → m.slots k ≡ some x → HasEntry d k x
  slot_entry_lem k x e i l = entry_is m v k (filled_below k x e).1 x e i l

  inside : (b o : ℕ) → 0 < b → b < blocks → o < block_bytes → (Belongs d fs b o → ⊥) → (a : Record) → m.owner b ≡ a → render m b o ≡ 0
  inside b o pos hb ho not_in Free e = free_zero m b o pos hb ho e
  inside b o pos hb ho not_in Bad e = bad_zero m b o pos hb ho e
  inside b o pos hb ho not_in System e = absurd (omega (arith, v.own.own_system b hb e))
  inside b o pos hb ho not_in Other e = absurd (subst Valid e (v.own.own_valid b hb))
  inside b o pos hb ho not_in (File zero s) e =
      let k : ℕ = s * block_slots + o / slot_bytes in
      let whole : s ≡ k / block_slots = omega arith in
      by_slot (m.slots k) (λ z. vacant_zero m b o pos hb ho s e z)
      (λ x z. absurd (not_in
      (in_slot b o k x (fills_present fs m.slots k x z r) (filled_below k x z).0
      (below_end k x z) (slot_entry_lem k x z) (rec m v b hb ∙ e ∙ ap (File 0) whole) (omega arith))))
  inside b o pos hb ho not_in (File (suc f) s) e =
      by_slot (m.slots (suc f))
      (λ z. absurd (omega (arith, v.own.own_below b (suc f) s hb e, parts_none m (suc f) z (omega arith))))
      (λ x z. by_order (s * block_bytes + o) (slot_bytes + length x.content)
      (λ h. absurd (not_in (in_file b o (suc f) s x (fills_present fs m.slots (suc f) x z r)
      (omega arith) (below_end (suc f) x z) (slot_entry_lem (suc f) x z) (rec m v b hb ∙ e) ho h)))
      (λ h. tail_zero m b o pos hb ho f s x e z h))

  -- a byte that belongs to nothing present is zero
  pub zero_outside : (b o : ℕ) → (Belongs d fs b o → ⊥) → render m b o ≡ 0
  unfolding render
  zero_outside b o not_in =
      let P = with_is (header m) m.owner (content m.slots m.slots) in
      by_order b blocks
      (λ hb. by_order o block_bytes
      (λ ho. by_equal b 0
      (λ z. absurd (not_in (subst (λ (x : ℕ). Belongs d fs x o) (sym z) (in_head o))))
      (λ z. inside b o (omega arith) hb ho not_in (m.owner b) refl))
      (λ k. P.out b o k))
      (λ k. P.far b o k)
