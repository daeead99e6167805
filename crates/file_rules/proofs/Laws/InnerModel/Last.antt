-- Which disk the last steps of add and remove leave: the slot, the free word and the update count.
-- Rests on what steps leave of a whole disk (Base.Whole) and on the tests of records (Fields).
use Rattle.std.specs.Prelude.{◌≡◌, ◌≢◌}
use Rattle.std.proofs.Math.Path.{refl, ap, subst, fun_ext}
use Rattle.std.proofs.Common.{sym, ◌∙◌}
use Prim.Native.Nat.{ℕ, zero, suc, ◌+◌, ◌-◌, ◌*◌, ◌/◌, ◌%◌, ◌<◌}
use native.Mathlib.Omega.{arith}
use Rattle.laws.specs.Changes.{upd, patch}
use Rattle.laws.specs.Below.{count}
use Rattle.laws.specs.Numbers.{at32, big_endian, high_byte}
use Rattle.laws.specs.Laws.Tests.{true≢false}
use Rattle.laws.specs.Laws.Lowest.{lowest_only}
use Rattle.laws.specs.Laws.Changes.{upd_same, upd_other, patch_in, patch_below, patch_above, by_place, patch_cong, patch_twice, patch_swap}
use Rattle.file_rules.proofs.Laws.Base.Header.{at_16}
use Rattle.sector_rules.specs.Geometry.{blocks}
use Rattle.file_rules.specs.declared.Record.{Record}
use Rattle.file_rules.specs.declared.Record.TheVariants.{Free, Bad, System, File, Other}
use Rattle.file_rules.specs.Arguments.{FormatArguments}
use Rattle.file_rules.specs.Disk.{Disk}
use Rattle.file_rules.proofs.Laws.InnerModel.Fields.{is_part_true, true_is_part}
use Rattle.file_rules.proofs.Laws.InnerModel.Inner.{free_of}
use Rattle.file_rules.proofs.Laws.InnerModel.Invariant.{Owned}
use Rattle.file_rules.proofs.Laws.Base.Records.{Valid}
use Rattle.file_rules.proofs.Laws.Base.Whole.{With, free_count_is, part_block_is, write_head, write_block, with_same}
use Rattle.file_rules.specs.Map.{is_system, is_part, free_count, part_block}
use Rattle.file_rules.specs.Model.{HeldFile, slot_of, dir_byte, content, wrap}
use Rattle.file_rules.specs.Sizes.{block_bytes, slot_bytes, block_slots, free_sectors, whole_blocks, bytes_over}
use Rattle.file_rules.specs.Written.{fixed_byte, disk_header_byte, set_slot, set_word, set_free, set_end, step_update}

-- ---- the header's words

module _ (args : FormatArguments) where
  -- a header with its free word (bytes 20, 21) written anew is the header with that word
  pub set_free_word : (u w w' e o : ℕ) → patch (disk_header_byte args u w e) 20 2 (high_byte 2 w') o ≡ disk_header_byte args u w' e o
  unfolding disk_header_byte
  set_free_word u w w' e o =
      let X : ℕ → ℕ = patch (fixed_byte args) 16 4 (high_byte 4 u) in
      let a : ℕ → ℕ = high_byte 2 (whole_blocks e) in
      let b : ℕ → ℕ = high_byte 2 (bytes_over e) in
      let Y : ℕ → ℕ = patch X 20 2 (high_byte 2 w) in
      patch_swap (patch Y 34 2 a) 36 2 b 20 2 (high_byte 2 w') o (omega arith)
      ∙ patch_cong (patch (patch Y 34 2 a) 20 2 (high_byte 2 w')) (patch (patch X 20 2 (high_byte 2 w')) 34 2 a) 36 2 b o
      (patch_swap Y 34 2 a 20 2 (high_byte 2 w') o (omega arith)
      ∙ patch_cong (patch Y 20 2 (high_byte 2 w')) (patch X 20 2 (high_byte 2 w')) 34 2 a o (patch_twice X 20 2 (high_byte 2 w) (high_byte 2 w') o))

  -- a header with its update count (bytes 16 to 19) written anew is the header with that count
  pub set_updates : (u u' w e o : ℕ) → patch (disk_header_byte args u w e) 16 4 (high_byte 4 u') o ≡ disk_header_byte args u' w e o
  unfolding disk_header_byte
  set_updates u u' w e o =
      let F : ℕ → ℕ = fixed_byte args in
      let a : ℕ → ℕ = high_byte 2 (whole_blocks e) in
      let b : ℕ → ℕ = high_byte 2 (bytes_over e) in
      let X : ℕ → ℕ = patch F 16 4 (high_byte 4 u) in
      let X' : ℕ → ℕ = patch F 16 4 (high_byte 4 u') in
      let Y : ℕ → ℕ = patch X 20 2 (high_byte 2 w) in
      let Y' : ℕ → ℕ = patch X' 20 2 (high_byte 2 w) in
      patch_swap (patch Y 34 2 a) 36 2 b 16 4 (high_byte 4 u') o (omega arith)
      ∙ patch_cong (patch (patch Y 34 2 a) 16 4 (high_byte 4 u')) (patch Y' 34 2 a) 36 2 b o
      (patch_swap Y 34 2 a 16 4 (high_byte 4 u') o (omega arith)
      ∙ patch_cong (patch Y 16 4 (high_byte 4 u')) Y' 34 2 a o
      (patch_swap X 20 2 (high_byte 2 w) 16 4 (high_byte 4 u') o (omega arith)
      ∙ patch_cong (patch X 16 4 (high_byte 4 u')) X' 20 2 (high_byte 2 w) o (patch_twice F 16 4 (high_byte 4 u) (high_byte 4 u') o)))

  -- a header with the directory's length (bytes 34 to 37) written anew is the header with that end
  pub set_end_lem : (u w e e' o : ℕ)
      → patch (patch (disk_header_byte args u w e) 34 2 (high_byte 2 (whole_blocks e'))) 36 2 (high_byte 2 (bytes_over e')) o ≡ disk_header_byte args u w e' o
  unfolding disk_header_byte
  set_end_lem u w e e' o =
      let Y : ℕ → ℕ = patch (patch (fixed_byte args) 16 4 (high_byte 4 u)) 20 2 (high_byte 2 w) in
      let a : ℕ → ℕ = high_byte 2 (whole_blocks e) in
      let b : ℕ → ℕ = high_byte 2 (bytes_over e) in
      let a' : ℕ → ℕ = high_byte 2 (whole_blocks e') in
      let b' : ℕ → ℕ = high_byte 2 (bytes_over e') in
      patch_cong (patch (patch (patch Y 34 2 a) 36 2 b) 34 2 a') (patch (patch Y 34 2 a') 36 2 b) 36 2 b' o
      (patch_swap (patch Y 34 2 a) 36 2 b 34 2 a' o (omega arith)
      ∙ patch_cong (patch (patch Y 34 2 a) 34 2 a') (patch Y 34 2 a') 36 2 b o (patch_twice Y 34 2 a a' o))
      ∙ patch_twice (patch Y 34 2 a') 36 2 b b' o

wrap_bytes : (u i : ℕ) → u < 4294967296 → high_byte 4 (u + 1) i ≡ high_byte 4 (wrap (u + 1)) i
unfolding high_byte wrap
wrap_bytes u zero h = omega arith
wrap_bytes u (suc zero) h = omega arith
wrap_bytes u (suc (suc zero)) h = omega arith
wrap_bytes u (suc (suc (suc i))) h = let e : 8 * (4 - (suc (suc (suc i)) + 1)) ≡ 0 = omega arith in rw e (omega arith)

-- ---- the free word and the update count

module _ (args : FormatArguments) (u w e : ℕ) (owner : ℕ → Record) (c : Record → ℕ → ℕ) (d : Disk)
    (p : With d (disk_header_byte args u w e) owner c) where
  -- the step that writes the free word leaves the same disk with the word by its free records
  pub free_step : ((b : ℕ) → b < blocks → Valid (owner b)) → With (set_free d) (disk_header_byte args u (free_sectors (count blocks (free_of owner))) e) owner c
  unfolding set_free set_word free_of
  free_step v =
      let n : free_count d ≡ count blocks (free_of owner) = free_count_is d (disk_header_byte args u w e) owner c p v in
      subst (λ (k : ℕ). With (upd d 0 (patch (d 0) 20 2 (high_byte 2 (free_sectors k))))
      (disk_header_byte args u (free_sectors (count blocks (free_of owner))) e) owner c) (sym n)
      (with_same (upd d 0 (patch (d 0) 20 2 (high_byte 2 (free_sectors (count blocks (free_of owner))))))
      (patch (disk_header_byte args u w e) 20 2 (high_byte 2 (free_sectors (count blocks (free_of owner))))) owner c
      (write_head d (disk_header_byte args u w e) owner c p 20 2 (high_byte 2 (free_sectors (count blocks (free_of owner)))) (omega arith))
      (disk_header_byte args u (free_sectors (count blocks (free_of owner))) e) owner c
      (λ o k. set_free_word args u w (free_sectors (count blocks (free_of owner))) e o) (λ b k. refl) (λ b o i j k. refl))

  -- the step that writes the directory's length leaves the same disk with that end
  pub end_step : (e' : ℕ) → With (set_end d e') (disk_header_byte args u w e') owner c
  unfolding set_end set_word
  end_step e' =
      let h : ℕ → ℕ = disk_header_byte args u w e in
      let a : ℕ → ℕ = high_byte 2 (whole_blocks e') in
      let b : ℕ → ℕ = high_byte 2 (bytes_over e') in
      let d₁ : Disk = upd d 0 (patch (d 0) 34 2 a) in
      with_same (upd d₁ 0 (patch (d₁ 0) 36 2 b)) (patch (patch h 34 2 a) 36 2 b) owner c
      (write_head d₁ (patch h 34 2 a) owner c (write_head d h owner c p 34 2 a (omega arith)) 36 2 b (omega arith))
      (disk_header_byte args u w e') owner c
      (λ o k. set_end_lem args u w e e' o) (λ x k. refl) (λ x o i j k. refl)

  -- the step of the update count leaves the same disk with the count one higher
  pub update_step : u < 4294967296 → With (step_update d) (disk_header_byte args (wrap (u + 1)) w e) owner c
  unfolding step_update at32 big_endian
  update_step small =
      let h : ℕ → ℕ = disk_header_byte args u w e in
      let n : at32 (d 0) 16 ≡ u =
      rw (p.head 16 (omega arith), p.head 17 (omega arith), p.head 18 (omega arith), p.head 19 (omega arith)) (at_16 args u w e small) in
      let g : high_byte 4 (u + 1) ≡ high_byte 4 (wrap (u + 1)) = fun_ext (λ (i : ℕ). wrap_bytes u i small) in
      subst (λ (f : ℕ → ℕ). With (upd d 0 (patch (d 0) 16 4 f)) (disk_header_byte args (wrap (u + 1)) w e) owner c)
      (sym (ap (λ (k : ℕ). high_byte 4 (k + 1)) n ∙ g))
      (with_same (upd d 0 (patch (d 0) 16 4 (high_byte 4 (wrap (u + 1))))) (patch h 16 4 (high_byte 4 (wrap (u + 1)))) owner c
      (write_head d h owner c p 16 4 (high_byte 4 (wrap (u + 1))) (omega arith))
      (disk_header_byte args (wrap (u + 1)) w e) owner c
      (λ o k. set_updates args u (wrap (u + 1)) w e o) (λ b k. refl) (λ b o i j k. refl))

-- both last steps leave the same disk with free word and update count set
pub finish : (args : FormatArguments) (u w e : ℕ) (owner : ℕ → Record) (c : Record → ℕ → ℕ) (d : Disk)
    → With d (disk_header_byte args u w e) owner c → ((b : ℕ) → b < blocks → Valid (owner b)) → u < 4294967296
    → With (step_update (set_free d)) (disk_header_byte args (wrap (u + 1)) (free_sectors (count blocks (free_of owner))) e) owner c
finish args u w e owner c d p v small =
    update_step args u (free_sectors (count blocks (free_of owner))) e owner c (set_free d) (free_step args u w e owner c d p v) small

-- ---- a slot is written

module _ (d : Disk) (h : ℕ → ℕ) (owner : ℕ → Record) (parts : ℕ → ℕ) (v : Owned owner parts) (L F : ℕ → HeldFile)
    (p : With d h owner (content L F)) where
  -- the block of a part that is owned is the one that is owned
  pub owned_block : (b f s : ℕ) → b < blocks → owner b ≡ File f s → part_block d f s ≡ b
  owned_block b f s l e =
      part_block_is d h owner (content L F) p v.own_valid f s
      ∙ lowest_only (λ (j : ℕ). is_part f s (owner j)) blocks b l (is_part_true f s (owner b) e)
      (λ j k t. v.own_once j b f s k l (true_is_part f s (owner j) t) e)

  -- a block that a file owns is not block 0
  pub owned_not_zero : (b f s : ℕ) → owner b ≡ File f s → b ≢ 0
  unfolding is_system
  owned_not_zero b f s e z = true≢false (is_system (owner 0)) (ap is_system v.own_zero) (ap (λ (x : ℕ). is_system (owner x)) (sym z) ∙ ap is_system e)

  module _ (k : ℕ) (x : HeldFile) (e : ℕ → ℕ) (same_entry : (i : ℕ) → i < slot_bytes → e i ≡ slot_of x i) (inDir : k / block_slots < parts 0) where
    abbrev L' : ℕ → HeldFile
    L' = upd L k x

    -- the block with the slot
    slot_block : (s o : ℕ) → s ≡ k / block_slots → o < block_bytes
        → patch (λ (i : ℕ). dir_byte L s i) (k % block_slots * slot_bytes) slot_bytes e o ≡ dir_byte L' s o
    unfolding dir_byte
    slot_block s o q l =
        by_place (λ (i : ℕ). dir_byte L s i) (k % block_slots * slot_bytes) slot_bytes e o
        (λ a b.
        let here : s * block_slots + o / slot_bytes ≡ k = omega arith in
        let off : o - k % block_slots * slot_bytes ≡ o % slot_bytes = omega arith in
        patch_in (λ (i : ℕ). dir_byte L s i) (k % block_slots * slot_bytes) slot_bytes e o a b
        ∙ ap e off ∙ same_entry (o % slot_bytes) (omega arith)
        ∙ ap (λ (y : HeldFile). slot_of y (o % slot_bytes)) (sym (upd_same L k x (s * block_slots + o / slot_bytes) here)))
        (λ a.
        let there : s * block_slots + o / slot_bytes ≢ k = omega arith in
        patch_below (λ (i : ℕ). dir_byte L s i) (k % block_slots * slot_bytes) slot_bytes e o a
        ∙ ap (λ (y : HeldFile). slot_of y (o % slot_bytes)) (sym (upd_other L k x (s * block_slots + o / slot_bytes) there)))
        (λ a.
        let there : s * block_slots + o / slot_bytes ≢ k = omega arith in
        patch_above (λ (i : ℕ). dir_byte L s i) (k % block_slots * slot_bytes) slot_bytes e o a
        ∙ ap (λ (y : HeldFile). slot_of y (o % slot_bytes)) (sym (upd_other L k x (s * block_slots + o / slot_bytes) there)))

    -- any other block of the directory
    other_block : (s o : ℕ) → s ≢ k / block_slots → o < block_bytes → dir_byte L s o ≡ dir_byte L' s o
    unfolding dir_byte
    other_block s o q l =
        let there : s * block_slots + o / slot_bytes ≢ k = omega arith in
        ap (λ (y : HeldFile). slot_of y (o % slot_bytes)) (sym (upd_other L k x (s * block_slots + o / slot_bytes) there))

    other_content : (r : Record) (o : ℕ) → r ≢ File 0 (k / block_slots) → o < block_bytes → content L F r o ≡ content L' F r o
    unfolding content
    other_content Free o q l = refl
    other_content Bad o q l = refl
    other_content System o q l = refl
    other_content Other o q l = refl
    other_content (File zero s) o q l = other_block s o (λ z. q (ap (File 0) z)) l
    other_content (File (suc f) s) o q l = refl

    -- the step that writes slot k leaves the same disk with that slot changed
    pub slot_step : With (set_slot d k e) h owner (content L' F)
    unfolding set_slot content
    slot_step =
        let w : (b : ℕ) × (b < blocks) × (owner b ≡ File 0 (k / block_slots)) = v.own_part 0 (k / block_slots) inDir in
        let nz : w.0 ≢ 0 = owned_not_zero w.0 0 (k / block_slots) w.2 in
        let g : ℕ → ℕ = patch (d w.0) (k % block_slots * slot_bytes) slot_bytes e in
        subst (λ (b : ℕ). With (upd d b (patch (d b) (k % block_slots * slot_bytes) slot_bytes e)) h owner (content L' F))
        (sym (owned_block w.0 0 (k / block_slots) w.1 w.2))
        (write_block d h owner (content L F) p (content L' F) w.0 g (omega arith) w.1
        (λ o l.
        patch_cong (d w.0) (λ (i : ℕ). dir_byte L (k / block_slots) i) (k % block_slots * slot_bytes) slot_bytes e o
        (p.block w.0 o (omega arith) w.1 l ∙ ap (λ (r : Record). content L F r o) w.2)
        ∙ slot_block (k / block_slots) o refl l
        ∙ ap (λ (r : Record). content L' F r o) (sym w.2))
        (λ o l. patch_above (d w.0) (k % block_slots * slot_bytes) slot_bytes e o (omega arith) ∙ p.out w.0 o l)
        (λ b o q l i. other_content (owner b) o (λ z. q (v.own_once b w.0 0 (k / block_slots) l w.1 z w.2)) i))
