-- Remove on the inner model's disk gives the disk of the inner model after it, and the invariant still holds.
-- Rests on blocks freed (InnerModel.Owners), on the last steps (InnerModel.Last) and on how a whole disk changes (Base.Whole).
use Rattle.std.specs.Prelude.{◌≡◌, ◌≢◌}
use Rattle.std.proofs.Math.Path.{refl, ap}
use Rattle.std.proofs.Common.{sym, ◌∙◌, subst}
use Rattle.std.proofs.Math.Option.{none, some}
use Prim.Native.Nat.{ℕ, zero, suc, ◌+◌, ◌/◌, ◌≤◌, ◌<◌}
use native.Mathlib.Omega.{arith}
use Rattle.laws.specs.Changes.{upd}
use Rattle.laws.specs.Below.{count, sum}
use Rattle.laws.specs.Options.{is_some}
use Rattle.laws.specs.Laws.Cases.{by_equal}
use Rattle.laws.specs.Laws.Tests.{true≢false}
use Rattle.laws.specs.Laws.Changes.{upd_same, upd_other}
use Rattle.laws.specs.Laws.Count.{count_drop, sum_change}
use Rattle.sector_rules.specs.Geometry.{blocks}
use Rattle.file_rules.specs.declared.Record.{Record}
use Rattle.file_rules.specs.declared.Record.TheVariants.{Free, Bad, System, File, Other}
use Rattle.file_rules.specs.Calls.{remove_at}
use Rattle.file_rules.specs.Disk.{Disk}
use Rattle.file_rules.proofs.Laws.InnerModel.Inner.{Inner, present_count, file_blocks, inner_bad, header, render, free_of, inner_remove_at}
use Rattle.file_rules.proofs.Laws.InnerModel.Invariant.{parts_of, Owned, Inv}
use Rattle.file_rules.proofs.Laws.InnerModel.Last.{finish, slot_step}
use Rattle.file_rules.proofs.Laws.InnerModel.Owners.{unowned_file, unowned_bad, freed_count, freed_owned}
use Rattle.file_rules.proofs.Laws.Base.Whole.{With, with_is, with_only, with_same, unowned, free_all}
use Rattle.file_rules.specs.Model.{NamedFile, HeldFile, held_blocks, dir_blocks, free_word, slot_of, held_bytes, content, wrap}
use Rattle.file_rules.specs.Sizes.{block_slots, free_sectors}
use Rattle.file_rules.specs.Written.{disk_header_byte, part, zeros, set_slot, free_blocks}

-- writing slot k leaves the others as they were
pub kept_slot : (L : ℕ → HeldFile) (k : ℕ) (x y : HeldFile) (j : ℕ) → upd L k y j ≡ x → (j ≢ k) → L j ≡ x
kept_slot L k x y j e q = sym (upd_other L k y j q) ∙ e

module _ (m : Inner) (v : Inv m) (k : ℕ) (pos : 0 < k) (low : k ≤ m.peak) where
  abbrev m' : Inner
  m' = inner_remove_at m k

  abbrev L' : ℕ → HeldFile
  L' = upd m.slots k none

  abbrev own' : ℕ → Record
  own' b = unowned k (m.owner b)

  -- the other files keep as many blocks
  pub parts_other : (f : ℕ) → f ≢ k → parts_of m' f ≡ parts_of m f
  unfolding parts_of inner_remove_at
  parts_other zero q = refl
  parts_other (suc f) q = ap held_blocks (upd_other m.slots k none (suc f) q)

  -- the removed file has no block
  pub parts_gone : parts_of m' k ≡ 0
  parts_gone = go k refl
    where
      go : (j : ℕ) → j ≡ k → parts_of m' j ≡ 0
      go zero e = absurd (omega arith)
      go (suc j) e = unfold parts_of inner_remove_at held_blocks in ap held_blocks (upd_same m.slots k none (suc j) e)

  owned : Owned m'.owner (parts_of m')
  unfolding inner_remove_at
  owned = freed_owned m.owner (parts_of m) v.own k (parts_of m') parts_other parts_gone

  parts_at : parts_of m k ≡ held_blocks (m.slots k)
  parts_at = go k refl
    where
      go : (j : ℕ) → j ≡ k → parts_of m j ≡ held_blocks (m.slots j)
      go zero e = absurd (omega arith)
      go (suc j) e = unfold parts_of in refl

  some_none : (x : NamedFile) → none ≡ some x → ⊥
  some_none x e = unfold is_some in true≢false (is_some {A = NamedFile} none) (ap is_some e) refl

  zero_now : held_blocks (upd m.slots k none k) ≡ 0
  unfolding held_blocks
  zero_now = ap held_blocks (upd_same m.slots k none k refl)

  in_dir : k / block_slots < parts_of m' 0
  unfolding parts_of inner_remove_at dir_blocks
  in_dir = omega arith

  -- the invariant holds after a remove
  pub remove_inv : Inv m'
  unfolding inner_remove_at file_blocks wrap
  remove_inv =
      record {
        own = owned;
        bad_is = λ b l. unowned_bad k (m.owner b) ∙ v.bad_is b l;
        slot_zero = upd_other m.slots k none 0 (omega arith) ∙ v.slot_zero;
        slot_past = λ j h. upd_other m.slots k none j (omega arith) ∙ v.slot_past j h;
        slot_name_lem = λ j x e.
            by_equal j k (λ q. absurd (some_none x (sym (upd_same m.slots k none j q) ∙ e)))
            (λ q. v.slot_name_lem j x (kept_slot m.slots k (some x) none j e q));
        slot_once = λ i j x y e e' n.
            by_equal i k (λ q. absurd (some_none x (sym (upd_same m.slots k none i q) ∙ e)))
            (λ q. by_equal j k (λ r. absurd (some_none y (sym (upd_same m.slots k none j r) ∙ e')))
            (λ r. v.slot_once i j x y (kept_slot m.slots k (some x) none i e q) (kept_slot m.slots k (some y) none j e' r) n));
        free_sum =
            let more : count blocks (free_of own') ≡ count blocks (free_of m.owner) + parts_of m k = freed_count m.owner (parts_of m) v.own k in
            let less : sum (suc m.peak) (λ (j : ℕ). held_blocks (m.slots j)) + held_blocks (upd m.slots k none k)
            ≡ sum (suc m.peak) (λ (j : ℕ). held_blocks (upd m.slots k none j)) + held_blocks (m.slots k) =
            sum_change (suc m.peak) k (λ (j : ℕ). held_blocks (m.slots j)) (λ (j : ℕ). held_blocks (upd m.slots k none j)) (omega arith)
            (λ j h q. ap held_blocks (sym (upd_other m.slots k none j q))) in
            omega (arith, v.free_sum, parts_at, zero_now);
        peak_most = v.peak_most;
        updates_fit = omega arith;
      }

  -- no block is file k's
  file_slots : (b o : ℕ) → b < blocks → content L' m.slots (own' b) o ≡ content L' L' (own' b) o
  file_slots b o l = go (own' b) refl
    where
      go : (r : Record) → own' b ≡ r → content L' m.slots r o ≡ content L' L' r o
      go Free e = unfold content in refl
      go Bad e = unfold content in refl
      go System e = unfold content in refl
      go Other e = unfold content in refl
      go (File zero s) e = unfold content in refl
      go (File (suc f) s) e =
          unfold content in
          ap (λ (x : HeldFile). part (held_bytes x) s o) (sym (upd_other m.slots k none (suc f) (unowned_file k (suc f) s (m.owner b) e).1))

  -- the disk after a remove is that of the inner model after it
  pub remove_image : remove_at (render m) k ≡ render m'
  unfolding remove_at render inner_remove_at header
  remove_image =
      let h : ℕ → ℕ = header m in
      let c : Record → ℕ → ℕ = content m.slots m.slots in
      let p₀ : With (render m) h m.owner c = with_is h m.owner c in
      let d₁ : Disk = free_blocks blocks (render m) k in
      let p₁ : With d₁ h own' c = free_all h m.owner c k v.own.own_valid v.own.own_zero (λ o. unfold content in refl) (render m) p₀ in
      let d₂ : Disk = set_slot d₁ k zeros in
      let p₂ : With d₂ h own' (content L' m.slots) =
      slot_step d₁ h own' (parts_of m') owned m.slots m.slots p₁ k none zeros (λ i l. unfold zeros slot_of in refl) in_dir in
      let p₃ : With d₂ h own' (content L' L') =
      with_same d₂ h own' (content L' m.slots) p₂ h own' (content L' L') (λ o l. refl) (λ b l. refl) (λ b o i j l. file_slots b o j) in
      let w : free_sectors (count blocks (free_of own')) ≡ free_word (inner_bad m) m.peak (file_blocks m') =
      unfold free_word in omega (arith, remove_inv.free_sum) in
      let p₄ =
      finish m.arguments m.updates (free_word (inner_bad m) m.peak (file_blocks m)) (suc m.peak) own' (content L' L') d₂ p₃ owned.own_valid
      v.updates_fit in
      with_only (header m') own' (content L' L') (remove_at (render m) k)
      (subst (λ (x : ℕ). With (remove_at (render m) k) (disk_header_byte m.arguments (wrap (m.updates + 1)) x (suc m.peak)) own' (content L' L')) w p₄)

  -- one file fewer is present
  pub present_remove : (x : NamedFile) → m.slots k ≡ some x → present_count m ≡ suc (present_count m')
  unfolding present_count inner_remove_at is_some
  present_remove x e =
      count_drop (suc m.peak) k (λ (j : ℕ). is_some (m.slots j)) (λ (j : ℕ). is_some (L' j)) (omega arith) (ap is_some e)
      (ap is_some (upd_same m.slots k none k refl)) (λ j l q. ap is_some (sym (upd_other m.slots k none j q)))
