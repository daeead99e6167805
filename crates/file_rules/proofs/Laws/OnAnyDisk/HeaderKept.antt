-- The header through an add or a remove: every byte stays but those of update count and free word, and of the length of the directory through an add
-- (§8.12; a remove leaves that, §8.13).
-- Rests on which blocks are given (Kept).
use Rattle.std.specs.Prelude.{◌≡◌, ◌≢◌, eqb, length}
use Rattle.std.proofs.Math.Path.{refl, sym}
use Rattle.std.proofs.Common.{◌∙◌, arith}
use mathlib.Core.List.{List, [], ◌∷◌}
use Prim.Native.Nat.{ℕ, zero, suc, ◌+◌, ◌*◌, ◌/◌, ◌≤◌}
use Rattle.laws.specs.Below.{firsts}
use Rattle.laws.specs.Changes.{patch}
use Rattle.laws.specs.Laws.Cases.{by_order, by_cond}
use Rattle.laws.specs.Laws.Changes.{upd₂_same, upd₂_other, patch_below, patch_above}
use Rattle.laws.specs.Laws.Firsts.{Avoids}
use Rattle.sector_rules.specs.Geometry.{blocks}
use Rattle.file_rules.specs.declared.Record.{Record}
use Rattle.file_rules.specs.declared.Record.TheVariants.{Free, System, File}
use Rattle.file_rules.specs.declared.Entry.{Entry}
use Rattle.file_rules.specs.BadBlocks.{Unwritten}
use Rattle.file_rules.specs.Calls.{opens_block, grow_dir, end_after, add_at, remove_at}
use Rattle.file_rules.specs.Directory.{entry_byte, dir_end}
use Rattle.file_rules.specs.Disk.{Disk}
use Rattle.file_rules.proofs.Laws.Base.Sound.{part_not_first}
use Rattle.file_rules.proofs.Laws.Base.Whole.{bears_not_system}
use Rattle.file_rules.proofs.Laws.OnAnyDisk.Kept.{firsts_not_first, firsts_system, grow_system, freed_system}
use Rattle.file_rules.specs.Map.{encode, record_at, bears, free_at, part_block}
use Rattle.file_rules.specs.Sizes.{block_slots, map_start, record_bytes}
use Rattle.file_rules.specs.Written.{stored_byte, part, blocks_for, zeros, set_block, set_record, set_slot, set_word, set_free, set_end, step_update}
use Rattle.file_rules.specs.Written.{give_blocks, free_block, free_blocks}

module _ (o : ℕ) (u : Unwritten o) where
  -- byte o of the header is the same on both disks
  abbrev SameByte : Disk → Disk → Type 0
  SameByte d e = d 0 o ≡ e 0 o

  -- n bytes at another place of the header
  word_kept : (d : Disk) (p n : ℕ) (g : ℕ → ℕ) → (p ≤ o → p + n ≤ o) → patch (d 0) p n g o ≡ d 0 o
  word_kept d p n g away = by_order o p (λ h. patch_below (d 0) p n g o h) (λ h. patch_above (d 0) p n g o (away h))

  end_kept : (34 ≤ o → 38 ≤ o) → (d : Disk) (k end : ℕ) → SameByte d (end_after k end d)
  unfolding end_after set_end set_word
  end_kept after d k end =
      by_cond (SameByte d) (eqb k end) (set_end d (suc k)) d
      (λ t.
      let d₁ : Disk = set_word d 34 _ in
      sym (upd₂_same d₁ 0 _ 0 o refl ∙ word_kept d₁ 36 2 _ (λ h. omega (arith, after (omega arith)))
      ∙ upd₂_same d 0 _ 0 o refl ∙ word_kept d 34 2 _ (λ h. omega (arith, after (omega arith)))))
      (λ t. refl)

  free_kept : (d : Disk) → SameByte d (set_free d)
  unfolding set_free set_word
  free_kept d = sym (upd₂_same d 0 _ 0 o refl ∙ word_kept d 20 2 _ (λ h. omega (arith, u.1 (omega arith))))

  update_kept : (d : Disk) → SameByte d (step_update d)
  unfolding step_update
  update_kept d = sym (upd₂_same d 0 _ 0 o refl ∙ word_kept d 16 4 _ (λ h. omega (arith, u.1 (omega arith))))

  slot_kept : (d : Disk) → record_at d 0 ≡ System → (k : ℕ) (g : ℕ → ℕ) → SameByte d (set_slot d k g)
  unfolding set_slot
  slot_kept d first k g = sym (upd₂_other d (part_block d 0 (k / block_slots)) _ 0 o (λ z. part_not_first d first 0 (k / block_slots) (sym z)))

  given_kept : (d : Disk) (x : ℕ) (g : ℕ → ℕ) (r : Record) → 0 ≢ x → SameByte d (set_record (set_block d x g) x r)
  unfolding set_record set_block
  given_kept d x g r h =
      let d₁ : Disk = set_block d x g in
      sym (upd₂_same d₁ 0 _ 0 o refl ∙ patch_below (d₁ 0) (map_start + record_bytes * x) record_bytes (encode r) o (omega (arith, u.0))
      ∙ upd₂_other d x g 0 o h)

  give_kept : (bs : List ℕ) (d : Disk) (f : ℕ) (c : ℕ → ℕ) (s : ℕ) → Avoids 0 bs → SameByte d (give_blocks d f c s bs)
  unfolding give_blocks
  give_kept [] d f c s a = refl
  give_kept (x ∷ bs) d f c s a =
      given_kept d x (part c s) (File f s) a.0 ∙ give_kept bs (set_record (set_block d x (part c s)) x (File f s)) f c (suc s) a.1

  -- an add leaves it
  pub add_header_kept : (34 ≤ o → 38 ≤ o) → (d : Disk) → record_at d 0 ≡ System → (k : ℕ) (x : Entry) (content : List ℕ) → SameByte d (add_at d k x content)
  unfolding add_at grow_dir
  add_header_kept after d first k x content =
      let n : ℕ = blocks_for (length content) in
      let d₁ : Disk = grow_dir d k in
      let first₁ : record_at d₁ 0 ≡ System = grow_system d first k in
      let d₂ : Disk = give_blocks d₁ k (stored_byte x content) 0 (firsts blocks n (free_at d₁)) in
      let first₂ : record_at d₂ 0 ≡ System = firsts_system d₁ first₁ k (stored_byte x content) 0 n in
      let d₃ : Disk = set_slot d₂ k (entry_byte x) in
      let d₄ : Disk = end_after k (dir_end d) d₃ in
      by_cond (SameByte d) (opens_block d k) _ d
      (λ t. give_kept (firsts blocks 1 (free_at d)) d 0 zeros (k / block_slots) (firsts_not_first d first 1)) (λ t. refl)
      ∙ give_kept (firsts blocks n (free_at d₁)) d₁ k (stored_byte x content) 0 (firsts_not_first d₁ first₁ n)
      ∙ slot_kept d₂ first₂ k (entry_byte x) ∙ end_kept after d₃ k (dir_end d) ∙ free_kept d₄ ∙ update_kept (set_free d₄)

  freed_header : (d : Disk) → record_at d 0 ≡ System → (f n : ℕ) → n ≤ blocks → SameByte d (free_blocks n d f)
  unfolding free_blocks free_block
  freed_header d first f zero h = refl
  freed_header d first f (suc n) h =
      let dn : Disk = free_blocks n d f in
      let system : record_at dn 0 ≡ System = freed_system d first f n (omega arith) in
      freed_header d first f n (omega arith)
      ∙ by_cond (SameByte dn) (bears f (record_at dn n)) _ dn
      (λ t. given_kept dn n zeros Free (λ z. bears_not_system f (record_at dn n) t (ap_zero dn n z system))) (λ t. refl)
    where
      ap_zero : (e : Disk) (j : ℕ) → 0 ≡ j → record_at e 0 ≡ System → record_at e j ≡ System
      ap_zero e zero z s = s
      ap_zero e (suc j) z s = absurd (omega arith)

  -- so does a remove
  pub remove_header_kept : (d : Disk) → record_at d 0 ≡ System → (f : ℕ) → SameByte d (remove_at d f)
  unfolding remove_at
  remove_header_kept d first f =
      let d₁ : Disk = free_blocks blocks d f in
      let d₂ : Disk = set_slot d₁ f zeros in
      freed_header d first f blocks (omega arith) ∙ slot_kept d₁ (freed_system d first f blocks (omega arith)) f zeros
      ∙ free_kept d₂ ∙ update_kept (set_free d₂)
