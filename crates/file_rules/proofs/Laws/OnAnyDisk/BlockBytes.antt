-- The bytes of blocks that no file has, free and bad ones: such a block, if an add does not take it, keeps them on add and remove; one that a remove frees has
-- zeros.
-- Rests on which records the steps leave (Kept) and on a sound disk's block 0 (Base.Sound).
use Rattle.std.specs.Prelude.{◌≡◌, ◌≢◌, eqb, length}
use Rattle.std.proofs.Math.Path.{refl, sym, ap}
use Rattle.std.proofs.Common.{◌∙◌, arith}
use Rattle.std.proofs.Math.Bool.{true, false}
use mathlib.Core.List.{List, [], ◌∷◌}
use Prim.Native.Nat.{ℕ, zero, suc, ◌/◌, ◌≤◌, ◌<◌}
use Rattle.laws.specs.Below.{firsts}
use Rattle.laws.specs.Laws.Cases.{by_equal, by_cond}
use Rattle.laws.specs.Laws.Tests.{true≢false, cond_true, and_false_left}
use Rattle.laws.specs.Laws.Changes.{upd₂_same, upd₂_other}
use Rattle.laws.specs.Laws.Firsts.{Avoids}
use Rattle.sector_rules.specs.Geometry.{blocks}
use Rattle.file_rules.specs.declared.Record.{Record}
use Rattle.file_rules.specs.declared.Record.TheVariants.{Free, Bad, System, File, Other}
use Rattle.file_rules.specs.declared.Entry.{Entry}
use Rattle.file_rules.specs.Calls.{opens_block, grow_dir, end_after, add_at, remove_at}
use Rattle.file_rules.specs.Directory.{entry_byte, dir_end}
use Rattle.file_rules.specs.Disk.{Disk}
use Rattle.file_rules.specs.FreeTails.{SameRecord}
use Rattle.file_rules.proofs.Laws.Base.Records.{free_only, bad_only}
use Rattle.file_rules.proofs.Laws.Base.Sound.{part_not}
use Rattle.file_rules.proofs.Laws.Base.Whole.{bears_not_system}
use Rattle.file_rules.proofs.Laws.OnAnyDisk.Kept.{record_same, freed_later, freed_record, firsts_beside, grow_beside, grow_system, freed_kept}
use Rattle.file_rules.specs.Map.{record_at, is_free, is_bad_record, is_part, bears, free_at, bad_at, part_block}
use Rattle.file_rules.specs.Sizes.{block_slots}
use Rattle.file_rules.specs.Written.{stored_byte, part, blocks_for, zeros, set_block, set_record, set_slot, set_word, set_free, set_end, step_update}
use Rattle.file_rules.specs.Written.{give_blocks, free_block, free_blocks}

-- block b has the same bytes on both disks
abbrev pub SameBlock : Disk → Disk → ℕ → Type 0
SameBlock d e b = (o : ℕ) → d b o ≡ e b o

-- ---- steps on block 0

module _ (b : ℕ) (z : b ≢ 0) where
  word_bytes : (d : Disk) (o v : ℕ) → SameBlock d (set_word d o v) b
  unfolding set_word
  word_bytes d o v i = sym (upd₂_other d 0 _ b i z)

  update_bytes : (d : Disk) → SameBlock d (step_update d) b
  unfolding step_update
  update_bytes d i = sym (upd₂_other d 0 _ b i z)

  free_bytes : (d : Disk) → SameBlock d (set_free d) b
  unfolding set_free
  free_bytes d = word_bytes d 20 _

  end_bytes : (d : Disk) (k end : ℕ) → SameBlock d (end_after k end d) b
  unfolding end_after set_end
  end_bytes d k end =
      by_cond (λ (e : Disk). SameBlock d e b) (eqb k end) (set_end d (suc k)) d
      (λ t i. word_bytes d 34 _ i ∙ word_bytes (set_word d 34 _) 36 _ i) (λ t i. refl)

  given_bytes : (d : Disk) (x : ℕ) (g : ℕ → ℕ) (r : Record) → b ≢ x → SameBlock d (set_record (set_block d x g) x r) b
  unfolding set_record set_block
  given_bytes d x g r h i = sym (upd₂_other (set_block d x g) 0 _ b i z ∙ upd₂_other d x g b i h)

  give_bytes : (bs : List ℕ) (d : Disk) (f : ℕ) (c : ℕ → ℕ) (s : ℕ) → Avoids b bs → SameBlock d (give_blocks d f c s bs) b
  unfolding give_blocks
  give_bytes [] d f c s a = λ i. refl
  give_bytes (x ∷ bs) d f c s a =
      λ i. given_bytes d x (part c s) (File f s) a.0 i ∙ give_bytes bs (set_record (set_block d x (part c s)) x (File f s)) f c (suc s) a.1 i

-- ---- blocks that no file has

-- a record that no file has
abbrev pub NoFile : Record → Type 0
NoFile r = (f : ℕ) → bears f r ≡ false

-- a free one is such
pub free_no_file : (d : Disk) (b : ℕ) → free_at d b ≡ true → NoFile (record_at d b)
unfolding free_at bears
free_no_file d b t f = ap (bears f) (free_only (record_at d b) t)

-- so is a bad one
pub bad_no_file : (d : Disk) (b : ℕ) → bad_at d b ≡ true → NoFile (record_at d b)
unfolding bad_at bears
bad_no_file d b t f = ap (bears f) (bad_only (record_at d b) t)

-- it is no part of a file
no_part : (f s : ℕ) (r : Record) → NoFile r → is_part f s r ≡ false
unfolding bears is_part
no_part f s Free n = refl
no_part f s Bad n = refl
no_part f s System n = refl
no_part f s (File g t) n = and_false_left (eqb t s) (n f)
no_part f s Other n = refl

-- a slot does not lie in such a block
slot_bytes_lem : (d : Disk) (b : ℕ) → b < blocks → NoFile (record_at d b) → (k : ℕ) (g : ℕ → ℕ) → SameBlock d (set_slot d k g) b
unfolding set_slot
slot_bytes_lem d b l n k g i =
    sym (upd₂_other d (part_block d 0 (k / block_slots)) _ b i
    (λ z. part_not d 0 (k / block_slots) b l (no_part 0 (k / block_slots) (record_at d b) n) (sym z)))

-- a free block is not block 0
pub free_not_zero : (d : Disk) → record_at d 0 ≡ System → (b : ℕ) → free_at d b ≡ true → b ≢ 0
unfolding free_at is_free
free_not_zero d first b t z = true≢false (free_at d b) t (ap (free_at d) z ∙ ap is_free first)

-- nor is a bad one
pub bad_not_zero : (d : Disk) → record_at d 0 ≡ System → (b : ℕ) → bad_at d b ≡ true → b ≢ 0
unfolding bad_at is_bad_record
bad_not_zero d first b t z = true≢false (bad_at d b) t (ap (bad_at d) z ∙ ap is_bad_record first)

still_none : (d e : Disk) (b : ℕ) → SameRecord d e b → NoFile (record_at d b) → NoFile (record_at e b)
still_none d e b s n f = ap (bears f) (sym (record_same d e b s)) ∙ n f

-- ---- an add

module _ (d : Disk) (first : record_at d 0 ≡ System) (k : ℕ) (x : Entry) (content : List ℕ) (b : ℕ) (l : b < blocks)
    (none : NoFile (record_at d b)) (z : b ≢ 0) where
  abbrev n : ℕ
  n = blocks_for (length content)

  abbrev d₁ : Disk
  d₁ = grow_dir d k

  abbrev d₂ : Disk
  d₂ = give_blocks d₁ k (stored_byte x content) 0 (firsts blocks n (free_at d₁))

  grow_bytes : (opens_block d k ≡ true → Avoids b (firsts blocks 1 (free_at d))) → SameBlock d d₁ b
  unfolding grow_dir
  grow_bytes a =
      by_cond (λ (e : Disk). SameBlock d e b) (opens_block d k) _ d
      (λ o. give_bytes b z (firsts blocks 1 (free_at d)) d 0 zeros (k / block_slots) (a o)) (λ o i. refl)

  -- a block that an add does not take keeps its bytes
  pub add_bytes : (opens_block d k ≡ true → Avoids b (firsts blocks 1 (free_at d))) × Avoids b (firsts blocks n (free_at d₁))
      → SameBlock d (add_at d k x content) b
  unfolding add_at
  add_bytes apart o =
      let none₁ : NoFile (record_at d₁ b) = still_none d d₁ b (grow_beside d first k b l apart.0) none in
      let kept₂ : SameRecord d₁ d₂ b = firsts_beside d₁ (grow_system d first k) k (stored_byte x content) 0 n b l apart.1 in
      let none₂ : NoFile (record_at d₂ b) = still_none d₁ d₂ b kept₂ none₁ in
      let d₃ : Disk = set_slot d₂ k (entry_byte x) in
      let d₄ : Disk = end_after k (dir_end d) d₃ in
      grow_bytes apart.0 o
      ∙ give_bytes b z (firsts blocks n (free_at d₁)) d₁ k (stored_byte x content) 0 apart.1 o
      ∙ slot_bytes_lem d₂ b l none₂ k (entry_byte x) o
      ∙ end_bytes b z d₃ k (dir_end d) o ∙ free_bytes b z d₄ o ∙ update_bytes b z (set_free d₄) o

-- ---- a remove

module _ (d : Disk) (first : record_at d 0 ≡ System) (f b : ℕ) (l : b < blocks) (none : NoFile (record_at d b)) (z : b ≢ 0) where
  not_borne : bears f (record_at d b) ≡ false
  not_borne = none f

  freed_bytes : (n : ℕ) → n ≤ blocks → SameBlock d (free_blocks n d f) b
  unfolding free_blocks free_block
  freed_bytes zero h = λ i. refl
  freed_bytes (suc n) h =
      let dn : Disk = free_blocks n d f in
      let kept : bears f (record_at dn b) ≡ false = ap (bears f) (sym (record_same d dn b (freed_kept d first f n b (omega arith) l not_borne))) ∙ not_borne in
      λ i. freed_bytes n (omega arith) i
      ∙ by_cond (λ (e : Disk). dn b i ≡ e b i) (bears f (record_at dn n)) _ dn
      (λ u. given_bytes b z dn n zeros Free
      (λ q. true≢false (bears f (record_at dn n)) u (ap (λ (y : ℕ). bears f (record_at dn y)) (sym q) ∙ kept)) i)
      (λ u. refl)

  -- a remove leaves its bytes
  pub remove_bytes : SameBlock d (remove_at d f) b
  unfolding remove_at
  remove_bytes o =
      let d₁ : Disk = free_blocks blocks d f in
      let none₁ : NoFile (record_at d₁ b) = still_none d d₁ b (freed_kept d first f blocks b (omega arith) l not_borne) none in
      let d₂ : Disk = set_slot d₁ f zeros in
      freed_bytes blocks (omega arith) o ∙ slot_bytes_lem d₁ b l none₁ f zeros o ∙ free_bytes b z d₂ o ∙ update_bytes b z (set_free d₂) o

-- ---- blocks that are freed

module _ (d : Disk) (first : record_at d 0 ≡ System) (f b : ℕ) (l : b < blocks) (t : bears f (record_at d b) ≡ true) where
  pos : b ≢ 0
  pos z = bears_not_system f (record_at d b) t (ap (record_at d) z ∙ first)

  freed_zeros : (n : ℕ) → n ≤ blocks → b < n → (o : ℕ) → free_blocks n d f b o ≡ 0
  unfolding free_blocks free_block set_record set_block zeros
  freed_zeros zero h q o = absurd (omega arith)
  freed_zeros (suc n) h q o =
      let dn : Disk = free_blocks n d f in
      by_equal b n
      (λ z.
      let kept : SameRecord d dn n = freed_later d first f n n (omega arith) (omega arith) (omega arith) in
      let here : bears f (record_at dn n) ≡ true = ap (bears f) (sym (record_same d dn n kept)) ∙ ap (λ (x : ℕ). bears f (record_at d x)) (sym z) ∙ t in
      ap (λ (x : Disk). x b o) (cond_true (set_record (set_block dn n zeros) n Free) dn here)
      ∙ upd₂_other (set_block dn n zeros) 0 _ b o pos ∙ upd₂_same dn n zeros b o z)
      (λ z.
      sym (by_cond (λ (e : Disk). dn b o ≡ e b o) (bears f (record_at dn n)) _ dn (λ u. given_bytes b pos dn n zeros Free z o) (λ u. refl))
      ∙ freed_zeros n (omega arith) (omega arith) o)

  -- a remove fills the file's blocks with zeros
  pub remove_zeros : (o : ℕ) → remove_at d f b o ≡ 0
  unfolding remove_at free_at is_free
  remove_zeros o =
      let d₁ : Disk = free_blocks blocks d f in
      let free₁ : free_at d₁ b ≡ true = ap is_free (freed_record d first f b l t) in
      let d₂ : Disk = set_slot d₁ f zeros in
      sym (slot_bytes_lem d₁ b l (free_no_file d₁ b free₁) f zeros o ∙ free_bytes b pos d₂ o ∙ update_bytes b pos (set_free d₂) o)
      ∙ freed_zeros blocks (omega arith) l o
