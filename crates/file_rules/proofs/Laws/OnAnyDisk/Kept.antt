-- Which records the steps of add and remove change: a record that no step writes keeps its three bytes.
-- Rests on records in their bytes and on a sound disk's block 0 (Base.Records, Base.Sound), and on the lowest numbers that pass a test (laws, Firsts).
use Rattle.std.specs.Prelude.{◌≡◌, ◌≢◌, true, false, List, [], ◌∷◌, eqb}
use Rattle.std.proofs.Math.Path.{refl, sym, ap, subst}
use Rattle.std.proofs.Common.{◌∙◌}
use Prim.Native.Nat.{ℕ, zero, suc, ◌+◌, ◌-◌, ◌*◌, ◌/◌, ◌%◌, ◌≤◌, ◌<◌}
use native.Mathlib.Omega.{arith}
use Rattle.std.proofs.Math.ListN.{length}
use Rattle.laws.specs.Below.{count, firsts}
use Rattle.laws.specs.Changes.{patch}
use Rattle.laws.specs.Numbers.{at16, at32, high_byte}
use Rattle.laws.specs.Laws.Cases.{by_equal, by_test, by_cond}
use Rattle.laws.specs.Laws.Tests.{true≢false, cond_true, cond_false}
use Rattle.laws.specs.Laws.Changes.{upd₂_same, upd₂_other, patch_in, patch_above}
use Rattle.laws.specs.Laws.Count.{count_cong, count_le, count_but_one}
use Rattle.laws.specs.Laws.Firsts.{Avoids, firsts_most, firsts_fails, firsts_beyond}
use Rattle.laws.specs.Laws.Numbers.{big_ext, high_is}
use Rattle.sector_rules.specs.Geometry.{blocks}
use Rattle.file_rules.specs.declared.Record.{Record}
use Rattle.file_rules.specs.declared.Record.TheVariants.{Free, System, File}
use Rattle.file_rules.specs.declared.Entry.{Entry}
use Rattle.file_rules.specs.Calls.{opens_block, grow_dir, end_after, add_at, needed, remove_at}
use Rattle.file_rules.specs.Directory.{entry_byte, dir_end}
use Rattle.file_rules.specs.Disk.{Disk}
use Rattle.file_rules.specs.FreeTails.{SameRecord}
use Rattle.file_rules.proofs.Laws.Base.Records.{decode_bytes, record_set, record_beside}
use Rattle.file_rules.proofs.Laws.Base.Sound.{part_not_first}
use Rattle.file_rules.proofs.Laws.Base.Whole.{bears_not_system}
use Rattle.file_rules.specs.Map.{encode, decode, record_byte, number_at, record_at, is_free, bears, free_at, free_count, part_block}
use Rattle.file_rules.specs.Sizes.{block_bytes, block_slots, map_start, record_bytes, free_sectors, whole_blocks, bytes_over}
use Rattle.file_rules.specs.Written.{stored_byte, part, blocks_for, zeros, set_block, set_record, set_slot, set_word, set_free, set_end, step_update}
use Rattle.file_rules.specs.Written.{give_blocks, free_block, free_blocks}

-- ---- records with the same bytes

-- they say the same record
pub record_same : (d e : Disk) (b : ℕ) → SameRecord d e b → record_at d b ≡ record_at e b
unfolding record_at number_at
record_same d e b s = ap decode (big_ext (record_byte d b) (record_byte e b) record_bytes s)

-- so both are free or none
pub free_same : (d e : Disk) (b : ℕ) → SameRecord d e b → free_at d b ≡ free_at e b
unfolding free_at
free_same d e b s = ap is_free (record_same d e b s)

same_then : (d e g : Disk) (b : ℕ) → SameRecord d e b → SameRecord e g b → SameRecord d g b
same_then d e g b p q i l = p i l ∙ q i l

-- ---- steps beside the map

-- two disks have the same bytes in the map
abbrev pub SameMap : Disk → Disk → Type 0
SameMap d e = (o : ℕ) → map_start ≤ o → o < block_bytes → d 0 o ≡ e 0 o

-- so each record has the same bytes
pub map_records : (d e : Disk) → SameMap d e → (b : ℕ) → b < blocks → SameRecord d e b
map_records d e m b h i l = m (map_start + record_bytes * b + i) (omega arith) (omega arith)

module _ (d : Disk) where
  word_map : (o v : ℕ) → o + 2 ≤ map_start → SameMap d (set_word d o v)
  unfolding set_word
  word_map o v h i a c = sym (upd₂_same d 0 (patch (d 0) o 2 (high_byte 2 v)) 0 i refl ∙ patch_above (d 0) o 2 (high_byte 2 v) i (omega arith))

  update_map : SameMap d (step_update d)
  unfolding step_update
  update_map i a c =
      let v : ℕ = at32 (d 0) 16 + 1 in
      sym (upd₂_same d 0 (patch (d 0) 16 4 (high_byte 4 v)) 0 i refl ∙ patch_above (d 0) 16 4 (high_byte 4 v) i (omega arith))

  -- writing another block than block 0 leaves the map
  pub block_map : (b : ℕ) (g : ℕ → ℕ) → b ≢ 0 → SameMap d (set_block d b g)
  unfolding set_block
  block_map b g h i a c = sym (upd₂_other d b g 0 i (λ z. h (sym z)))

  slot_map : record_at d 0 ≡ System → (k : ℕ) (g : ℕ → ℕ) → SameMap d (set_slot d k g)
  unfolding set_slot
  slot_map first k g i a c = sym (upd₂_other d (part_block d 0 (k / block_slots)) _ 0 i (λ z. part_not_first d first 0 (k / block_slots) (sym z)))

end_map : (d : Disk) (k end : ℕ) → SameMap d (end_after k end d)
unfolding end_after set_end
end_map d k end =
    by_cond (SameMap d) (eqb k end) (set_end d (suc k)) d
    (λ t i a c.
    word_map d 34 (whole_blocks (suc k)) (omega arith) i a c
    ∙ word_map (set_word d 34 (whole_blocks (suc k))) 36 (bytes_over (suc k)) (omega arith) i a c)
    (λ t i a c. refl)

free_map : (d : Disk) → SameMap d (set_free d)
unfolding set_free
free_map d = word_map d 20 (free_sectors (free_count d)) (omega arith)

-- the last steps of an add leave the map
added_map : (d : Disk) → record_at d 0 ≡ System → (k end : ℕ) (g : ℕ → ℕ) → SameMap d (step_update (set_free (end_after k end (set_slot d k g))))
added_map d first k end g i a c =
    let d₁ : Disk = set_slot d k g in
    let d₂ : Disk = end_after k end d₁ in
    slot_map d first k g i a c ∙ end_map d₁ k end i a c ∙ free_map d₂ i a c ∙ update_map (set_free d₂) i a c

-- so do those of a remove
removed_map : (d : Disk) → record_at d 0 ≡ System → (k : ℕ) (g : ℕ → ℕ) → SameMap d (step_update (set_free (set_slot d k g)))
removed_map d first k g i a c =
    let d₁ : Disk = set_slot d k g in
    slot_map d first k g i a c ∙ free_map d₁ i a c ∙ update_map (set_free d₁) i a c

-- ---- the free word

-- as it is written last, it counts the records of the disk
pub word_written_lem : (x : Disk) → at16 (step_update (set_free x) 0) 20 ≡ free_sectors (free_count (step_update (set_free x)))
unfolding at16 free_count
word_written_lem x =
    let v : ℕ = free_sectors (free_count x) in
    let y : Disk = set_free x in
    let e : Disk = step_update (set_free x) in
    let same : count blocks (free_at x) ≡ count blocks (free_at e) =
    count_cong blocks (free_at x) (free_at e) (λ b l. free_same x e b (map_records x e (λ i a c. free_map x i a c ∙ update_map y i a c) b l)) in
    let small : free_sectors (count blocks (free_at x)) % 65536 ≡ free_sectors (count blocks (free_at x)) = omega (arith, count_le blocks (free_at x)) in
    high_is (λ (i : ℕ). e 0 (20 + i)) 2 v (λ i l. word_bytes_at x i l) ∙ small ∙ ap free_sectors same
  where
    word_bytes_at : (x : Disk) (i : ℕ) → i < 2 → step_update (set_free x) 0 (20 + i) ≡ high_byte 2 (free_sectors (free_count x)) i
    word_bytes_at x i l = unfold step_update set_free set_word in
        (let v : ℕ = free_sectors (free_count x) in
        let y : Disk = set_free x in
        let at : 20 + i - 20 ≡ i = omega arith in
        upd₂_same y 0 (patch (y 0) 16 4 (high_byte 4 (at32 (y 0) 16 + 1))) 0 (20 + i) refl
        ∙ patch_above (y 0) 16 4 (high_byte 4 (at32 (y 0) 16 + 1)) (20 + i) (omega arith)
        ∙ upd₂_same x 0 (patch (x 0) 20 2 (high_byte 2 v)) 0 (20 + i) refl
        ∙ patch_in (x 0) 20 2 (high_byte 2 v) (20 + i) (omega arith) (omega arith)
        ∙ ap (high_byte 2 v) at)

-- ---- blocks that are given

-- a block that is written and given a record leaves every other record
pub given_beside : (d : Disk) (x : ℕ) (g : ℕ → ℕ) (r : Record) (b : ℕ) → 0 ≢ x → b ≢ x → b < blocks → SameRecord d (set_record (set_block d x g) x r) b
given_beside d x g r b z h l i k =
    map_records d (set_block d x g) (block_map d x g (λ e. z (sym e))) b l i k ∙ sym (record_beside (set_block d x g) x r b i h k)

-- blocks that are given leave every record that is not among theirs
pub give_beside : (bs : List ℕ) (d : Disk) (f : ℕ) (c : ℕ → ℕ) (s b : ℕ) → Avoids 0 bs → Avoids b bs → b < blocks → SameRecord d (give_blocks d f c s bs) b
unfolding give_blocks
give_beside [] d f c s b z a l = λ i k. refl
give_beside (x ∷ bs) d f c s b z a l =
    let d₁ : Disk = set_record (set_block d x (part c s)) x (File f s) in
    same_then d d₁ (give_blocks d₁ f c (suc s) bs) b
    (given_beside d x (part c s) (File f s) b z.0 a.0 l)
    (give_beside bs d₁ f c (suc s) b z.1 a.1 l)

-- of the free blocks below b as many are left, but for those given
give_count : (bs : List ℕ) (d : Disk) (f : ℕ) (c : ℕ → ℕ) (s b : ℕ) → Avoids 0 bs → b ≤ blocks
    → count b (free_at d) ≤ count b (free_at (give_blocks d f c s bs)) + length bs
unfolding give_blocks
give_count [] d f c s b z l = omega arith
give_count (x ∷ bs) d f c s b z l =
    let d₁ : Disk = set_record (set_block d x (part c s)) x (File f s) in
    let one : count b (free_at d) ≤ count b (free_at d₁) + 1 =
    count_but_one b x (free_at d) (free_at d₁) (λ j h q. free_same d d₁ j (given_beside d x (part c s) (File f s) j z.0 q (omega arith))) in
    omega (arith, one, give_count bs d₁ f c (suc s) b z.1 l)

-- ---- an add

system_held : (d : Disk) → record_at d 0 ≡ System → free_at d 0 ≡ false
unfolding free_at is_free
system_held d first = ap is_free first

module _ (d : Disk) (first : record_at d 0 ≡ System) where
  -- block 0 is not among the lowest free blocks
  pub firsts_not_first : (n : ℕ) → Avoids 0 (firsts blocks n (free_at d))
  firsts_not_first n = firsts_fails (free_at d) 0 (system_held d first) blocks n

  -- the lowest free blocks, given to file f, leave each record that is not among theirs
  pub firsts_beside : (f : ℕ) (c : ℕ → ℕ) (s n b : ℕ) → b < blocks → Avoids b (firsts blocks n (free_at d))
      → SameRecord d (give_blocks d f c s (firsts blocks n (free_at d))) b
  firsts_beside f c s n b l a =
      give_beside (firsts blocks n (free_at d)) d f c s b (firsts_not_first n) a l

  -- block 0 stays the system's
  pub firsts_system : (f : ℕ) (c : ℕ → ℕ) (s n : ℕ) → record_at (give_blocks d f c s (firsts blocks n (free_at d))) 0 ≡ System
  firsts_system f c s n =
      let e : Disk = give_blocks d f c s (firsts blocks n (free_at d)) in
      sym (record_same d e 0 (firsts_beside f c s n 0 (omega arith) (firsts_not_first n))) ∙ first

module _ (d : Disk) (first : record_at d 0 ≡ System) where
  -- where the directory grows, every record but the lowest free one stays
  pub grow_beside : (k b : ℕ) → b < blocks → (opens_block d k ≡ true → Avoids b (firsts blocks 1 (free_at d))) → SameRecord d (grow_dir d k) b
  unfolding grow_dir
  grow_beside k b l a =
      by_cond (λ (e : Disk). SameRecord d e b) (opens_block d k) _ d
      (λ t. firsts_beside d first 0 zeros (k / block_slots) 1 b l (a t)) (λ t i q. refl)

  -- block 0 stays the system's where the directory grows
  pub grow_system : (k : ℕ) → record_at (grow_dir d k) 0 ≡ System
  grow_system k = sym (record_same d (grow_dir d k) 0 (grow_beside k 0 (omega arith) (λ t. firsts_not_first d first 1))) ∙ first

  module _ (k : ℕ) (e : Entry) (content : List ℕ) (b : ℕ) (l : b < blocks) where
    abbrev d₁ : Disk
    d₁ = grow_dir d k

    abbrev n : ℕ
    n = blocks_for (length content)

    abbrev d₂ : Disk
    d₂ = give_blocks d₁ k (stored_byte e content) 0 (firsts blocks n (free_at d₁))

    -- the steps after the blocks are given leave every record
    pub given_added : SameRecord d₂ (add_at d k e content) b
    unfolding add_at
    given_added =
        let system₂ : record_at d₂ 0 ≡ System = firsts_system d₁ (grow_system k) k (stored_byte e content) 0 n in
        map_records d₂ (add_at d k e content) (added_map d₂ system₂ k (dir_end d) (entry_byte e)) b l

    -- what is not given after the directory has grown, the add leaves
    pub grown_added : Avoids b (firsts blocks n (free_at d₁)) → SameRecord d₁ (add_at d k e content) b
    grown_added a = same_then d₁ d₂ (add_at d k e content) b (firsts_beside d₁ (grow_system k) k (stored_byte e content) 0 n b l a) given_added

    add_beside : SameRecord d d₁ b → Avoids b (firsts blocks n (free_at d₁)) → SameRecord d (add_at d k e content) b
    add_beside p a = same_then d d₁ (add_at d k e content) b p (grown_added a)

    -- a block that is not free is not among those given
    pub held_beside : free_at d b ≡ false → (opens_block d k ≡ true → Avoids b (firsts blocks 1 (free_at d))) × Avoids b (firsts blocks n (free_at d₁))
    held_beside t =
        let p : SameRecord d d₁ b = grow_beside k b l (λ o. firsts_fails (free_at d) b t blocks 1) in
        (λ o. firsts_fails (free_at d) b t blocks 1, firsts_fails (free_at d₁) b (sym (free_same d d₁ b p) ∙ t) blocks n)

    -- so an add leaves its record
    pub add_held : free_at d b ≡ false → SameRecord d (add_at d k e content) b
    add_held t = let apart = held_beside t in add_beside (grow_beside k b l apart.0) apart.1

    -- a block that has as many free ones below it as the add needs is not among those given
    pub left_beside : needed d k (length content) ≤ count b (free_at d)
        → (opens_block d k ≡ true → Avoids b (firsts blocks 1 (free_at d))) × Avoids b (firsts blocks n (free_at d₁))
    unfolding needed grow_dir
    left_beside h =
        by_test (opens_block d k)
        (λ t.
        let grown : Disk = give_blocks d 0 zeros (k / block_slots) (firsts blocks 1 (free_at d)) in
        let more : suc n ≤ count b (free_at d) = omega (arith, cond_true {b = opens_block d k} (suc n) n t) in
        let is : d₁ ≡ grown = cond_true _ _ t in
        let less : count b (free_at d) ≤ count b (free_at grown) + length (firsts blocks 1 (free_at d)) =
        give_count (firsts blocks 1 (free_at d)) d 0 zeros (k / block_slots) b (firsts_not_first d first 1) (omega arith) in
        let left : n ≤ count b (free_at d₁) =
        subst (λ (x : Disk). n ≤ count b (free_at x)) (sym is) (omega (arith, less, firsts_most blocks 1 (free_at d))) in
        (λ o. firsts_beyond (free_at d) b blocks 1 (omega arith), firsts_beyond (free_at d₁) b blocks n left))
        (λ t.
        let is : d₁ ≡ d = cond_false _ _ t in
        let left : n ≤ count b (free_at d) = omega (arith, cond_false {b = opens_block d k} (suc n) n t) in (
          λ o. true≢false (opens_block d k) o t,
          firsts_beyond (free_at d₁) b blocks n (subst (λ (x : Disk). n ≤ count b (free_at x)) (sym is) left),
        ))

    -- so an add leaves its record
    pub add_left : needed d k (length content) ≤ count b (free_at d) → SameRecord d (add_at d k e content) b
    add_left h = let apart = left_beside h in add_beside (grow_beside k b l apart.0) apart.1

-- ---- a remove

module _ (d : Disk) (first : record_at d 0 ≡ System) (f : ℕ) where
  freed_below : (n b : ℕ) → n ≤ blocks → b < blocks → (n ≤ b → SameRecord d (free_blocks n d f) b)
      × (bears f (record_at d b) ≡ false → SameRecord d (free_blocks n d f) b)
      × (bears f (record_at d b) ≡ true → b < n → (i : ℕ) → i < record_bytes → record_byte (free_blocks n d f) b i ≡ encode Free i)
  unfolding free_blocks free_block
  freed_below zero b h l = (λ q i k. refl, λ t i k. refl, λ t q. absurd (omega arith))
  freed_below (suc n) b h l =
      let dn : Disk = free_blocks n d f in
      let freed : Disk = set_record (set_block dn n zeros) n Free in
      let before = freed_below n b (omega arith) l in
      let here : record_at dn n ≡ record_at d n = sym (record_same d dn n ((freed_below n n (omega arith) (omega arith)).0 (omega arith))) in
      by_test (bears f (record_at d n))
      (λ t.
      let yes : free_block dn f n ≡ freed = cond_true _ _ (ap (bears f) here ∙ t) in
      let pos : 0 ≢ n = λ z. bears_not_system f (record_at d n) t (ap (record_at d) (sym z) ∙ first) in
      let beside : b ≢ n → SameRecord dn (free_block dn f n) b =
      λ q. subst (λ (x : Disk). SameRecord dn x b) (sym yes) (given_beside dn n zeros Free b pos q l) in (
        λ q. same_then d dn (free_block dn f n) b (before.0 (omega arith)) (beside (λ z. omega arith)),
        λ u. same_then d dn (free_block dn f n) b (before.1 u)
            (beside (λ z. true≢false (bears f (record_at d n)) t (ap (λ (x : ℕ). bears f (record_at d x)) (sym z) ∙ u))),
        λ u q i k. by_equal b n
            (λ z. ap (λ (x : Disk). record_byte x b i) yes ∙ ap (λ (x : ℕ). record_byte freed x i) z ∙ record_set (set_block dn n zeros) n Free i k)
            (λ z. sym (beside z i k) ∙ before.2 u (omega arith) i k),
      ))
      (λ t.
      let no : free_block dn f n ≡ dn = cond_false _ _ (ap (bears f) here ∙ t) in
      let kept : SameRecord dn (free_block dn f n) b = λ i k. ap (λ (x : Disk). record_byte x b i) (sym no) in (
        λ q. same_then d dn (free_block dn f n) b (before.0 (omega arith)) kept,
        λ u. same_then d dn (free_block dn f n) b (before.1 u) kept,
        λ u q i k. by_equal b n
            (λ z. true≢false (bears f (record_at d b)) u (ap (λ (x : ℕ). bears f (record_at d x)) z ∙ t))
            (λ z. sym (kept i k) ∙ before.2 u (omega arith) i k),
      ))

  -- freeing the blocks of the file below n leaves each record that does not bear it
  pub freed_kept : (n b : ℕ) → n ≤ blocks → b < blocks → bears f (record_at d b) ≡ false → SameRecord d (free_blocks n d f) b
  freed_kept n b h l t = (freed_below n b h l).1 t

  -- nor those from n on
  pub freed_later : (n b : ℕ) → n ≤ blocks → b < blocks → n ≤ b → SameRecord d (free_blocks n d f) b
  freed_later n b h l q = (freed_below n b h l).0 q

  -- a record that bears it is free then
  pub freed_record : (b : ℕ) → b < blocks → bears f (record_at d b) ≡ true → record_at (free_blocks blocks d f) b ≡ Free
  unfolding record_at number_at
  freed_record b l t = decode_bytes (record_byte (free_blocks blocks d f) b) Free tt ((freed_below blocks b (omega arith) l).2 t l)

  -- block 0 stays the system's
  pub freed_system : (n : ℕ) → n ≤ blocks → record_at (free_blocks n d f) 0 ≡ System
  unfolding bears
  freed_system n h = sym (record_same d (free_blocks n d f) 0 ((freed_below n 0 h (omega arith)).1 (ap (bears f) first))) ∙ first

  module _ (b : ℕ) (l : b < blocks) where
    removed_beside : SameRecord (free_blocks blocks d f) (remove_at d f) b
    unfolding remove_at
    removed_beside = map_records (free_blocks blocks d f) (remove_at d f) (removed_map (free_blocks blocks d f) (freed_system blocks (omega arith)) f zeros) b l

    -- a remove leaves each record that does not bear the file
    pub remove_beside : bears f (record_at d b) ≡ false → SameRecord d (remove_at d f) b
    remove_beside t = same_then d (free_blocks blocks d f) (remove_at d f) b ((freed_below blocks b (omega arith) l).1 t) removed_beside

    -- and writes the free record where one does
    pub remove_freed : bears f (record_at d b) ≡ true → (i : ℕ) → i < record_bytes → record_byte (remove_at d f) b i ≡ encode Free i
    remove_freed t i k = sym (removed_beside i k) ∙ (freed_below blocks b (omega arith) l).2 t l i k
