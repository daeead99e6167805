-- The steps of add and remove on disks that differ at most in tails leave disks that differ at most in tails.
-- Rests on what is read of such disks (Alike) and on which records the steps change (Kept).
use Rattle.std.specs.Prelude.{◌≡◌, ◌≢◌, Bool, List, [], ◌∷◌, eqb, length}
use Rattle.std.proofs.Math.Path.{refl, sym, ap, subst}
use Rattle.std.proofs.Common.{ap₂, ◌∙◌, arith}
use Prim.Native.Nat.{ℕ, zero, suc, ◌+◌, ◌*◌, ◌/◌, ◌%◌, ◌≤◌, ◌<◌}
use Rattle.std.proofs.Math.Dec.{leb, ltb}
use Rattle.laws.specs.Below.{firsts}
use Rattle.laws.specs.Changes.{upd, patch}
use Rattle.laws.specs.Numbers.{at32, high_byte}
use Rattle.laws.specs.Laws.Cases.{by_equal, by_both}
use Rattle.laws.specs.Laws.Changes.{upd₂_same, upd₂_other, patch_above, patch_cong}
use Rattle.laws.specs.Laws.Firsts.{Avoids}
use Rattle.sector_rules.specs.Geometry.{blocks}
use Rattle.sector_rules.specs.Replies.{reply_with}
use Rattle.file_rules.specs.declared.Record.{Record}
use Rattle.file_rules.specs.declared.Record.TheVariants.{Free, System, File}
use Rattle.file_rules.specs.declared.Entry.{Entry}
use Rattle.file_rules.specs.Calls.{DiskChanged, disk_kept, opens_block, grow_dir, end_after, add_at, add_sound, remove_at, remove_sound, needed}
use Rattle.file_rules.specs.Directory.{name_right, entry_byte, entry_for, dir_end, find_name, vacant_slot}
use Rattle.file_rules.specs.Disk.{Disk}
use Rattle.file_rules.specs.FreeTails.{SameRecord, SameOrBothFree, same_bytes, both_free}
use Rattle.file_rules.proofs.Laws.Base.Records.{record_set, record_beside}
use Rattle.file_rules.proofs.Laws.Base.Sound.{part_not_first}
use Rattle.file_rules.proofs.Laws.Base.Whole.{bears_not_system}
use Rattle.file_rules.proofs.Laws.OnAnyDisk.Alike.{Alike, records_alike, free_alike, count_alike, part_alike, updates_alike}
use Rattle.file_rules.proofs.Laws.OnAnyDisk.Alike.{end_alike, find_alike, vacant_alike, opens_alike, needed_alike}
use Rattle.file_rules.proofs.Laws.OnAnyDisk.Kept.{firsts_not_first, firsts_system, grow_system, freed_system}
use Rattle.file_rules.specs.Map.{encode, record_byte, record_at, bears, free_at, part_block}
use Rattle.file_rules.specs.Sizes.{slot_bytes, block_slots, map_start, record_bytes, free_sectors}
use Rattle.file_rules.specs.Written.{stored_byte, part, blocks_for, zeros, set_block, set_record, set_slot, set_word, set_free, set_end, step_update}
use Rattle.file_rules.specs.Written.{give_blocks, free_block, free_blocks}

-- like records that keep their bytes stay like
pub like_kept : (d e d' e' : Disk) (b : ℕ) → SameOrBothFree d e b → SameRecord d d' b → SameRecord e e' b → SameOrBothFree d' e' b
like_kept d e d' e' b (same_bytes s) p q = same_bytes (λ i k. sym (p i k) ∙ s i k ∙ q i k)
like_kept d e d' e' b (both_free x y u v) p q =
    both_free (λ i k. subst (λ (n : ℕ). n < 256) (p i k) (x i k)) (λ i k. subst (λ (n : ℕ). n < 256) (q i k) (y i k))
    (sym (p 0 (omega arith)) ∙ u) (sym (q 0 (omega arith)) ∙ v)

-- ---- single steps

module _ (d e : Disk) (a : Alike d e) where
  abbrev written : Disk → ℕ → ℕ → ℕ → (ℕ → ℕ) → Disk
  written x b o n g = upd x b (patch (x b) o n g)

  -- the same bytes in the header
  head_step : (o n : ℕ) (g : ℕ → ℕ) → o + n ≤ map_start → Alike (written d 0 o n g) (written e 0 o n g)
  head_step o n g h =
      record {
        same_but = record {
          header = λ i l. zero_row i (a.same_but.header i l);
          records = λ b l. like_kept d e _ _ b (a.same_but.records b l) (kept d b) (kept e b);
          contents = λ b i q. upd₂_other d 0 _ b i q ∙ a.same_but.contents b i q ∙ sym (upd₂_other e 0 _ b i q);
        };
        past = λ i l. zero_row i (a.past i l);
      }
    where
      zero_row : (i : ℕ) → d 0 i ≡ e 0 i → written d 0 o n g 0 i ≡ written e 0 o n g 0 i
      zero_row i q =
          upd₂_same d 0 (patch (d 0) o n g) 0 i refl ∙ patch_cong (d 0) (e 0) o n g i q ∙ sym (upd₂_same e 0 (patch (e 0) o n g) 0 i refl)

      kept : (x : Disk) (b : ℕ) → SameRecord x (written x 0 o n g) b
      kept x b i k =
          sym (upd₂_same x 0 (patch (x 0) o n g) 0 (map_start + record_bytes * b + i) refl
          ∙ patch_above (x 0) o n g (map_start + record_bytes * b + i) (omega arith))

  word_step : (o v w : ℕ) → o + 2 ≤ map_start → v ≡ w → Alike (set_word d o v) (set_word e o w)
  unfolding set_word
  word_step o v w h q = subst (λ (x : ℕ). Alike (written d 0 o 2 (high_byte 2 v)) (written e 0 o 2 (high_byte 2 x))) q (head_step o 2 (high_byte 2 v) h)

  -- the same bytes in a block other than block 0
  block_step : (b : ℕ) (g h : ℕ → ℕ) → b ≢ 0 → ((i : ℕ) → g i ≡ h i) → Alike (upd d b g) (upd e b h)
  block_step b g h z same_row =
      record {
        same_but = record {
          header = λ i l. zero_row i (a.same_but.header i l);
          records = λ x l. like_kept d e _ _ x (a.same_but.records x l)
              (λ i k. sym (beside d g (map_start + record_bytes * x + i))) (λ i k. sym (beside e h (map_start + record_bytes * x + i)));
          contents = λ x i q. by_equal x b
              (λ y. upd₂_same d b g x i y ∙ same_row i ∙ sym (upd₂_same e b h x i y))
              (λ y. upd₂_other d b g x i y ∙ a.same_but.contents x i q ∙ sym (upd₂_other e b h x i y));
        };
        past = λ i l. zero_row i (a.past i l);
      }
    where
      beside : (x : Disk) (f : ℕ → ℕ) (i : ℕ) → upd x b f 0 i ≡ x 0 i
      beside x f i = upd₂_other x b f 0 i (λ y. z (sym y))

      zero_row : (i : ℕ) → d 0 i ≡ e 0 i → upd d b g 0 i ≡ upd e b h 0 i
      zero_row i q = beside d g i ∙ q ∙ sym (beside e h i)

  -- the same record
  record_step : (b : ℕ) (r : Record) → Alike (set_record d b r) (set_record e b r)
  unfolding set_record
  record_step b r =
      record {
        same_but = record {
          header = λ i l. zero_row i (a.same_but.header i l);
          records = λ x l. by_equal x b
              (λ y. same_bytes (λ i k.
              ap (λ (j : ℕ). record_byte (set_record d b r) j i) y ∙ record_set d b r i k
              ∙ sym (ap (λ (j : ℕ). record_byte (set_record e b r) j i) y ∙ record_set e b r i k)))
              (λ y. like_kept d e _ _ x (a.same_but.records x l) (λ i k. sym (record_beside d b r x i y k)) (λ i k. sym (record_beside e b r x i y k)));
          contents = λ x i q. upd₂_other d 0 _ x i q ∙ a.same_but.contents x i q ∙ sym (upd₂_other e 0 _ x i q);
        };
        past = λ i l. zero_row i (a.past i l);
      }
    where
      zero_row : (i : ℕ) → d 0 i ≡ e 0 i → set_record d b r 0 i ≡ set_record e b r 0 i
      zero_row i q =
          let at : ℕ = map_start + record_bytes * b in
          upd₂_same d 0 (patch (d 0) at record_bytes (encode r)) 0 i refl
          ∙ patch_cong (d 0) (e 0) at record_bytes (encode r) i q
          ∙ sym (upd₂_same e 0 (patch (e 0) at record_bytes (encode r)) 0 i refl)

  slot_step : record_at d 0 ≡ System → (k : ℕ) (g : ℕ → ℕ) → Alike (set_slot d k g) (set_slot e k g)
  unfolding set_slot
  slot_step first k g =
      let p : ℕ = part_block d 0 (k / block_slots) in
      let o : ℕ = k % block_slots * slot_bytes in
      let z : part_block d 0 (k / block_slots) ≢ 0 = part_not_first d first 0 (k / block_slots) in
      subst (λ (x : ℕ). Alike (written d p o slot_bytes g) (written e x o slot_bytes g)) (part_alike d e a 0 (k / block_slots))
      (block_step p (patch (d p) o slot_bytes g) (patch (e p) o slot_bytes g) z
      (λ i. patch_cong (d p) (e p) o slot_bytes g i (a.same_but.contents p i z)))

  free_step : Alike (set_free d) (set_free e)
  unfolding set_free
  free_step = word_step 20 _ _ (omega arith) (ap free_sectors (count_alike d e a))

  update_step : Alike (step_update d) (step_update e)
  unfolding step_update
  update_step =
      subst (λ (x : ℕ). Alike (written d 0 16 4 (high_byte 4 (at32 (d 0) 16 + 1))) (written e 0 16 4 (high_byte 4 (x + 1)))) (updates_alike d e a)
      (head_step 16 4 (high_byte 4 (at32 (d 0) 16 + 1)) (omega arith))

end_step : (d e : Disk) → Alike d e → (k m n : ℕ) → m ≡ n → Alike (end_after k m d) (end_after k n e)
unfolding end_after set_end
end_step d e a k m n q =
    by_both Alike (eqb k m) (eqb k n) (set_end d (suc k)) d (set_end e (suc k)) e (ap (eqb k) q)
    (λ t. word_step _ _ (word_step d e a 34 _ _ (omega arith) refl) 36 _ _ (omega arith) refl) (λ t. a)

-- ---- blocks that are given and freed

given_step : (d e : Disk) → Alike d e → (b : ℕ) (g : ℕ → ℕ) (r : Record) → b ≢ 0 → Alike (set_record (set_block d b g) b r) (set_record (set_block e b g) b r)
unfolding set_block
given_step d e a b g r z = record_step (upd d b g) (upd e b g) (block_step d e a b g g z (λ i. refl)) b r

give_step : (bs : List ℕ) (d e : Disk) → Alike d e → (f : ℕ) (c : ℕ → ℕ) (s : ℕ) → Avoids 0 bs → Alike (give_blocks d f c s bs) (give_blocks e f c s bs)
unfolding give_blocks
give_step [] d e a f c s z = a
give_step (x ∷ bs) d e a f c s z = give_step bs _ _ (given_step d e a x (part c s) (File f s) (λ y. z.0 (sym y))) f c (suc s) z.1

-- the lowest free blocks are the same
firsts_step : (d e : Disk) → Alike d e → record_at d 0 ≡ System → (f : ℕ) (c : ℕ → ℕ) (s n : ℕ)
    → Alike (give_blocks d f c s (firsts blocks n (free_at d))) (give_blocks e f c s (firsts blocks n (free_at e)))
firsts_step d e a first f c s n =
    subst (λ (p : ℕ → Bool). Alike (give_blocks d f c s (firsts blocks n (free_at d))) (give_blocks e f c s (firsts blocks n p))) (free_alike d e a)
    (give_step (firsts blocks n (free_at d)) d e a f c s (firsts_not_first d first n))

freed_step : (d e : Disk) → Alike d e → record_at d 0 ≡ System → (f n : ℕ) → n ≤ blocks → Alike (free_blocks n d f) (free_blocks n e f)
unfolding free_blocks free_block
freed_step d e a first f zero h = a
freed_step d e a first f (suc n) h =
    let x : Disk = free_blocks n d f in
    let y : Disk = free_blocks n e f in
    let ih : Alike x y = freed_step d e a first f n (omega arith) in
    by_both Alike (bears f (record_at x n)) (bears f (record_at y n)) _ x _ y (ap (λ (r : ℕ → Record). bears f (r n)) (records_alike x y ih))
    (λ t. given_step x y ih n zeros Free
    (λ z. bears_not_system f (record_at x n) t (ap (record_at x) z ∙ freed_system d first f n (omega arith))))
    (λ t. ih)

-- ---- an add and a remove

module _ (d e : Disk) (a : Alike d e) (first : record_at d 0 ≡ System) where
  grow_step : (k : ℕ) → Alike (grow_dir d k) (grow_dir e k)
  unfolding grow_dir
  grow_step k =
      by_both Alike (opens_block d k) (opens_block e k) _ d _ e (opens_alike d e a k)
      (λ t. firsts_step d e a first 0 zeros (k / block_slots) 1) (λ t. a)

  add_step : (k : ℕ) (x : Entry) (content : List ℕ) → Alike (add_at d k x content) (add_at e k x content)
  unfolding add_at
  add_step k x content =
      let n : ℕ = blocks_for (length content) in
      let d₁ : Disk = grow_dir d k in
      let e₁ : Disk = grow_dir e k in
      let first₁ : record_at d₁ 0 ≡ System = grow_system d first k in
      let d₂ : Disk = give_blocks d₁ k (stored_byte x content) 0 (firsts blocks n (free_at d₁)) in
      let e₂ : Disk = give_blocks e₁ k (stored_byte x content) 0 (firsts blocks n (free_at e₁)) in
      let given : Alike d₂ e₂ = firsts_step d₁ e₁ (grow_step k) first₁ k (stored_byte x content) 0 n in
      let slot : Alike (set_slot d₂ k (entry_byte x)) (set_slot e₂ k (entry_byte x)) =
      slot_step d₂ e₂ given (firsts_system d₁ first₁ k (stored_byte x content) 0 n) k (entry_byte x) in
      update_step _ _ (free_step _ _ (end_step _ _ slot k (dir_end d) (dir_end e) (end_alike d e a)))

  remove_step : (k : ℕ) → Alike (remove_at d k) (remove_at e k)
  unfolding remove_at
  remove_step k =
      update_step _ _ (free_step _ _
      (slot_step (free_blocks blocks d k) (free_blocks blocks e k) (freed_step d e a first k blocks (omega arith))
      (freed_system d first k blocks (omega arith)) k zeros))

  -- the same reply, and disks that differ at most in tails
  abbrev pub LikeChanged : DiskChanged → DiskChanged → Type 0
  LikeChanged x y = (x.answer ≡ y.answer) × Alike x.disk_after y.disk_after

  -- an add
  pub add_like : (name : List ℕ) (date : ℕ) (content : List ℕ) → LikeChanged (add_sound d name date content) (add_sound e name date content)
  unfolding add_sound disk_kept
  add_like name date content =
      by_both LikeChanged (name_right name) (name_right name) _ _ _ _ refl
      (λ t. by_both LikeChanged (ltb (find_name d name) (dir_end d)) (ltb (find_name e name) (dir_end e)) _ _ _ _
      (ap₂ ltb (find_alike d e a first name) (end_alike d e a))
      (λ u. (ap (λ (k : ℕ). reply_with 13 k 0 0) (find_alike d e a first name), a))
      (λ u. by_both LikeChanged _ _ _ _ _ _ (ap₂ leb room (count_alike d e a))
      (λ r. (refl, subst (λ (k : ℕ). Alike (add_at d (vacant_slot d) x content) (add_at e k x content)) same_slot (add_step (vacant_slot d) x content)))
      (λ r. (refl, a))))
      (λ t. (refl, a))
    where
      x : Entry
      x = entry_for name date (length content)

      same_slot : vacant_slot d ≡ vacant_slot e
      same_slot = vacant_alike d e a first

      room : needed d (vacant_slot d) (length content) ≡ needed e (vacant_slot e) (length content)
      room = needed_alike d e a (vacant_slot d) (length content) ∙ ap (λ (k : ℕ). needed e k (length content)) same_slot

  -- a remove
  pub remove_like : (name : List ℕ) → LikeChanged (remove_sound d name) (remove_sound e name)
  unfolding remove_sound disk_kept
  remove_like name =
      by_both LikeChanged (name_right name) (name_right name) _ _ _ _ refl
      (λ t. by_both LikeChanged (ltb (find_name d name) (dir_end d)) (ltb (find_name e name) (dir_end e)) _ _ _ _
      (ap₂ ltb (find_alike d e a first name) (end_alike d e a))
      (λ u. (refl, subst (λ (k : ℕ). Alike (remove_at d (find_name d name)) (remove_at e k)) (find_alike d e a first name) (remove_step (find_name d name))))
      (λ u. (refl, a)))
      (λ t. (refl, a))
