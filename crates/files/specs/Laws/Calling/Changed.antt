-- Add and remove as chains of their steps on an image.
-- Rests on the steps on disks that agree (Writing).
use Rattle.std.specs.Prelude.{◌≡◌, ◌≢◌, List, [], eqb, length}
use Rattle.std.proofs.Math.Path.{refl, sym, ap}
use Rattle.std.proofs.Common.{ap₂, ◌∙◌, add-one}
use Prim.Native.Nat.{ℕ, suc, ◌+◌, ◌/◌, ◌%◌}
use Rattle.laws.specs.Lists.{tab}
use Rattle.laws.specs.Laws.Cases.{by_equal}
use Rattle.laws.specs.Laws.Tests.{eq_true, eq_false, cond_true, cond_false, and_true, and_false_left, and_false_right}
use Rattle.sector_rules.specs.Geometry.{blocks, image_bytes}
use Rattle.file_rules.specs.declared.Entry.{Entry}
use Rattle.file_rules.specs.Calls.{opens_block, grow_dir, end_after, add_at, remove_at}
use Rattle.file_rules.specs.Directory.{entry_byte, dir_end}
use Rattle.file_rules.specs.Disk.{Disk, disk_of, image_of}
use Rattle.file_rules.proofs.Laws.Base.Disk.{image_disk}
use Rattle.files.specs.Laws.Writing.Given.{give_lowest, inside_lowest, inside_slot, inside_settled, stored_zeros}
use Rattle.files.specs.Laws.Writing.Steps.{stored_row, stored_row_lem, inside_end}
use Rattle.files.specs.Laws.Writing.Stored.{EqualInside, inside_step}
use Rattle.file_rules.specs.Sizes.{slot_bytes, block_slots}
use Rattle.file_rules.specs.Written.{stored_byte, blocks_for, zeros, set_slot, set_free, set_end, step_update, free_blocks}

-- ---- remove

-- blocks freed, slot zeroed, free word and update count, one after the other, are a remove
pub remove_written : (l₀ l₁ l₂ l₃ : List ℕ) (k : ℕ) → l₁ ≡ image_of (free_blocks blocks (disk_of l₀) k)
    → l₂ ≡ image_of (set_slot (disk_of l₁) k zeros) → l₃ ≡ image_of (step_update (set_free (disk_of l₂))) → l₃ ≡ image_of (remove_at (disk_of l₀) k)
unfolding remove_at
remove_written l₀ l₁ l₂ l₃ k e₁ e₂ e₃ =
    let q₂ : l₂ ≡ image_of (set_slot (free_blocks blocks (disk_of l₀) k) k zeros) =
    inside_step (λ (d : Disk). set_slot d k zeros) (λ d e n. inside_slot d e n k zeros) l₁ l₂ (free_blocks blocks (disk_of l₀) k) e₁ e₂ in
    inside_step (λ (d : Disk). step_update (set_free d)) inside_settled l₂ l₃ (set_slot (free_blocks blocks (disk_of l₀) k) k zeros) q₂ e₃

-- ---- add: the directory's block

module _ (l : List ℕ) (k end : ℕ) (long : length l ≡ image_bytes) (e : end ≡ dir_end (disk_of l)) where
  -- where the slot is not at the directory's end, the directory takes no block
  pub grow_inside : k ≢ end → l ≡ image_of (grow_dir (disk_of l) k)
  unfolding grow_dir opens_block
  grow_inside h =
      let q : k ≢ dir_end (disk_of l) = λ z. h (z ∙ sym e) in
      sym (image_disk l long) ∙ ap image_of (sym (cond_false _ _ (and_false_left (eqb (k % block_slots) 0) (eq_false q))))

  -- where the slot is not the first of a block, the directory takes no block
  pub grow_within : k % block_slots ≢ 0 → l ≡ image_of (grow_dir (disk_of l) k)
  unfolding grow_dir opens_block
  grow_within h = sym (image_disk l long) ∙ ap image_of (sym (cond_false _ _ (and_false_right (eqb k (dir_end (disk_of l))) (eq_false h))))

  -- else it takes the lowest free block, zeroed
  pub grow_block : (m : List ℕ) → k ≡ end → k % block_slots ≡ 0
      → m ≡ image_of (give_lowest (disk_of l) 0 (stored_row [] []) (k / block_slots) 1 blocks) → m ≡ image_of (grow_dir (disk_of l) k)
  unfolding grow_dir opens_block give_lowest
  grow_block m h z q =
      q
      ∙ ap (λ (c : ℕ → ℕ). image_of (give_lowest (disk_of l) 0 c (k / block_slots) 1 blocks)) stored_zeros
      ∙ ap image_of (sym (cond_true _ _ (and_true (eq_true (h ∙ e)) (eq_true z))))

-- ---- the directory's end

module _ (k end : ℕ) where
  -- where the slot is not at the directory's end, its length stays
  pub end_kept : (l : List ℕ) → length l ≡ image_bytes → k ≢ end → l ≡ image_of (end_after k end (disk_of l))
  unfolding end_after
  end_kept l long h = sym (image_disk l long) ∙ ap image_of (sym (cond_false _ _ (eq_false h)))

  -- else it is longer by that slot
  pub end_grown : (l m : List ℕ) → k ≡ end → m ≡ image_of (set_end (disk_of l) (k + 1)) → m ≡ image_of (end_after k end (disk_of l))
  unfolding end_after
  end_grown l m h q = q ∙ ap (λ (n : ℕ). image_of (set_end (disk_of l) n)) (add-one k) ∙ ap image_of (sym (cond_true _ _ (eq_true h)))

  inside_after : (d e : Disk) → EqualInside d e → EqualInside (end_after k end d) (end_after k end e)
  unfolding end_after
  inside_after d e near b o hb ho =
      by_equal k end
      (λ z.
      ap (λ (x : Disk). x b o) (cond_true (set_end d (suc k)) d (eq_true z))
      ∙ inside_end d e near (suc k) b o hb ho
      ∙ sym (ap (λ (x : Disk). x b o) (cond_true (set_end e (suc k)) e (eq_true z))))
      (λ z.
      ap (λ (x : Disk). x b o) (cond_false (set_end d (suc k)) d (eq_false z))
      ∙ near b o hb ho
      ∙ sym (ap (λ (x : Disk). x b o) (cond_false (set_end e (suc k)) e (eq_false z))))

-- ---- add

module _ (l₀ : List ℕ) (k end : ℕ) (x : Entry) (content : List ℕ) where
  abbrev d₀ : Disk
  d₀ = disk_of l₀

  abbrev d₁ : Disk
  d₁ = grow_dir d₀ k

  abbrev d₂ : Disk
  d₂ = give_lowest d₁ k (stored_byte x content) 0 (blocks_for (length content)) blocks

  abbrev d₃ : Disk
  d₃ = set_slot d₂ k (entry_byte x)

  add_steps : step_update (set_free (end_after k (dir_end d₀) d₃)) ≡ add_at d₀ k x content
  unfolding add_at give_lowest
  add_steps = refl

  -- directory's block, file's blocks, slot, directory's end, free word and update count, one after the other, are an add
  pub add_written : (l₁ l₂ l₃ l₄ l₅ head : List ℕ) (n : ℕ) → end ≡ dir_end d₀
      → head ≡ tab (entry_byte x) slot_bytes
      → n ≡ blocks_for (length content)
      → l₁ ≡ image_of d₁
      → l₂ ≡ image_of (give_lowest (disk_of l₁) k (stored_row head content) 0 n blocks)
      → l₃ ≡ image_of (set_slot (disk_of l₂) k (entry_byte x))
      → l₄ ≡ image_of (end_after k end (disk_of l₃))
      → l₅ ≡ image_of (step_update (set_free (disk_of l₄)))
      → l₅ ≡ image_of (add_at d₀ k x content)
  add_written l₁ l₂ l₃ l₄ l₅ head n eq eh en e₁ e₂ e₃ e₄ e₅ =
      let c : ℕ → ℕ = stored_byte x content in
      let m : ℕ = blocks_for (length content) in
      let p₂ : l₂ ≡ image_of (give_lowest (disk_of l₁) k c 0 m blocks) =
      e₂ ∙ ap₂ (λ (g : ℕ → ℕ) (j : ℕ). image_of (give_lowest (disk_of l₁) k g 0 j blocks)) (stored_row_lem x head content eh) en in
      let q₂ : l₂ ≡ image_of d₂ = inside_step (λ (d : Disk). give_lowest d k c 0 m blocks) (λ d e near. inside_lowest d e near k c 0 m) l₁ l₂ d₁ e₁ p₂ in
      let q₃ : l₃ ≡ image_of d₃ = inside_step (λ (d : Disk). set_slot d k (entry_byte x)) (λ d e near. inside_slot d e near k (entry_byte x)) l₂ l₃ d₂ q₂ e₃ in
      let q₄ : l₄ ≡ image_of (end_after k end d₃) = inside_step (end_after k end) (inside_after k end) l₃ l₄ d₃ q₃ e₄ in
      inside_step (λ (d : Disk). step_update (set_free d)) inside_settled l₄ l₅ (end_after k end d₃) q₄ e₅
      ∙ ap (λ (j : ℕ). image_of (step_update (set_free (end_after k j d₃)))) eq
      ∙ ap image_of add_steps
