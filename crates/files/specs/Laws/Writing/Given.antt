-- Blocks given and freed one by one: the lowest free blocks in one walk of the map, and the steps on disks that agree inside their blocks.
-- Rests on rows and steps (Stored, Steps) and on the lowest numbers that pass (laws, Firsts).
use Rattle.std.specs.Prelude.{◌≡◌, Bool, cond}
use Rattle.std.proofs.Math.Path.{refl, sym, ap, fun_ext}
use Rattle.std.proofs.Common.{ap₂, ◌∙◌, add-zero, add-suc, suc-add, zero-add, arith}
use Rattle.std.proofs.Math.Bool.{true, false}
use mathlib.Core.List.{List, [], ◌∷◌, ◌++◌}
use Prim.Native.Nat.{ℕ, zero, suc, ◌+◌, ◌*◌, ◌/◌, ◌%◌, ◌≤◌, ◌<◌}
use Rattle.std.proofs.Math.Numerals.{add-one}
use Rattle.std.proofs.Math.ListN.{length}
use Rattle.laws.specs.Below.{firsts_from, firsts}
use Rattle.laws.specs.Laws.Cases.{by_order, by_equal, by_test}
use Rattle.laws.specs.Laws.Tests.{lt_true, lt_false, cond_true, cond_false}
use Rattle.laws.specs.Laws.Lowest.{lowest_cong}
use Rattle.laws.specs.Laws.Changes.{upd₂_same, upd₂_other}
use Rattle.laws.specs.Laws.Firsts.{firsts_cong}
use Rattle.sector_rules.specs.Geometry.{blocks, image_bytes}
use Rattle.file_rules.specs.declared.Record.{Record}
use Rattle.file_rules.specs.declared.Record.TheVariants.{Free, File}
use Rattle.file_rules.specs.Disk.{Disk, disk_of, image_of}
use Rattle.file_rules.proofs.Laws.Base.Disk.{image_disk, image_cong}
use Rattle.files.specs.Laws.Writing.Steps.{inside_patched, inside_record, inside_free, inside_update, stored_row}
use Rattle.files.specs.Laws.Writing.Rows.{row_nowhere}
use Rattle.files.specs.Laws.Writing.Stored.{EqualInside, inside_image, inside_step, patched}
use Rattle.file_rules.specs.Map.{encode, record_at, is_free, bears, is_part, free_at, part_block}
use Rattle.file_rules.specs.Sizes.{slot_bytes, block_slots, map_start, record_bytes}
use Rattle.file_rules.specs.Written.{part, zeros, set_block, set_record, set_slot, set_free, step_update, give_blocks, free_block, free_blocks}

-- ---- the steps, of disks that agree

module _ (d e : Disk) (near : EqualInside d e) where
  -- a block written on disks that agree leaves disks that agree
  pub inside_block : (b : ℕ) (g : ℕ → ℕ) → EqualInside (set_block d b g) (set_block e b g)
  unfolding set_block
  inside_block b g b' i hb hi =
      by_equal b' b (λ z. upd₂_same d b g b' i z ∙ sym (upd₂_same e b g b' i z))
      (λ z. upd₂_other d b g b' i z ∙ near b' i hb hi ∙ sym (upd₂_other e b g b' i z))

  -- a record written on disks that agree leaves disks that agree
  pub inside_set : (b : ℕ) (r : Record) → EqualInside (set_record d b r) (set_record e b r)
  unfolding set_record
  inside_set b r = inside_patched d e near 0 (map_start + record_bytes * b) record_bytes (encode r)

  -- disks that agree have a part in the same block
  pub inside_part : (f s : ℕ) → part_block d f s ≡ part_block e f s
  unfolding part_block
  inside_part f s =
      lowest_cong (λ (b : ℕ). is_part f s (record_at d b)) (λ (b : ℕ). is_part f s (record_at e b)) blocks (λ b h. ap (is_part f s)
      (inside_record d e near b h))

  -- a slot written on disks that agree leaves disks that agree
  pub inside_slot : (k : ℕ) (g : ℕ → ℕ) → EqualInside (set_slot d k g) (set_slot e k g)
  unfolding set_slot
  inside_slot k g b o hb ho =
      inside_patched d e near (part_block d 0 (k / block_slots)) (k % block_slots * slot_bytes) slot_bytes g b o hb ho
      ∙ ap (λ (p : ℕ). patched e p (k % block_slots * slot_bytes) slot_bytes g b o) (inside_part 0 (k / block_slots))

-- disk d with block b written and its record set
abbrev pub given : Disk → ℕ → (ℕ → ℕ) → Record → Disk
given d b g r = set_record (set_block d b g) b r

-- a block given on disks that agree leaves disks that agree
pub inside_given : (d e : Disk) → EqualInside d e → (b : ℕ) (g : ℕ → ℕ) (r : Record) → EqualInside (given d b g r) (given e b g r)
inside_given d e near b g r = inside_set (set_block d b g) (set_block e b g) (inside_block d e near b g) b r

-- a block written and then its record is the block given
pub given_written : (l₀ l₁ l₂ : List ℕ) (b : ℕ) (g : ℕ → ℕ) (r : Record)
    → l₁ ≡ image_of (set_block (disk_of l₀) b g) → l₂ ≡ image_of (set_record (disk_of l₁) b r) → l₂ ≡ image_of (given (disk_of l₀) b g r)
given_written l₀ l₁ l₂ b g r p q =
    inside_step (λ (d : Disk). set_record d b r) (λ d e n. inside_set d e n b r) l₁ l₂ (set_block (disk_of l₀) b g) p q

-- ---- freed

-- a block of another file stays as it is
pub freed_not : (l : List ℕ) (f b : ℕ) → length l ≡ image_bytes → bears f (record_at (disk_of l) b) ≡ false → l ≡ image_of (free_block (disk_of l) f b)
unfolding free_block
freed_not l f b e t = sym (image_disk l e) ∙ ap image_of (sym (cond_false _ _ t))

-- a block of the file, zeroed and then its record freed, is the block freed
pub freed_yes : (l₀ l₁ l₂ : List ℕ) (f b : ℕ) → bears f (record_at (disk_of l₀) b) ≡ true
    → l₁ ≡ image_of (set_block (disk_of l₀) b zeros) → l₂ ≡ image_of (set_record (disk_of l₁) b Free) → l₂ ≡ image_of (free_block (disk_of l₀) f b)
unfolding free_block
freed_yes l₀ l₁ l₂ f b t p q = given_written l₀ l₁ l₂ b zeros Free p q ∙ ap image_of (sym (cond_true _ _ t))

-- a block freed on disks that agree leaves disks that agree
pub inside_freed : (d e : Disk) → EqualInside d e → (f b : ℕ) → b < blocks → EqualInside (free_block d f b) (free_block e f b)
unfolding free_block
inside_freed d e near f b h b' o hb ho =
    let same : bears f (record_at d b) ≡ bears f (record_at e b) = ap (bears f) (inside_record d e near b h) in
    ap (λ (t : Bool). cond t (given d b zeros Free) d b' o) same
    ∙ by_test (bears f (record_at e b))
    (λ t.
    ap (λ (x : Disk). x b' o) (cond_true (given d b zeros Free) d t)
    ∙ inside_given d e near b zeros Free b' o hb ho
    ∙ sym (ap (λ (x : Disk). x b' o) (cond_true (given e b zeros Free) e t)))
    (λ t.
    ap (λ (x : Disk). x b' o) (cond_false (given d b zeros Free) d t)
    ∙ near b' o hb ho
    ∙ sym (ap (λ (x : Disk). x b' o) (cond_false (given e b zeros Free) e t)))

-- before the walk no block is freed
pub freed_none : (l : List ℕ) (f : ℕ) → length l ≡ image_bytes → l ≡ image_of (free_blocks 0 (disk_of l) f)
unfolding free_blocks
freed_none l f e = sym (image_disk l e)

-- one block more of the walk is freed
pub freed_more : (d : Disk) (f b : ℕ) (l m : List ℕ) → b < blocks → l ≡ image_of (free_blocks b d f)
    → m ≡ image_of (free_block (disk_of l) f b) → m ≡ image_of (free_blocks (b + 1) d f)
unfolding free_blocks
freed_more d f b l m h e q =
    q ∙ image_cong (free_block (disk_of l) f b) (free_block (free_blocks b d f) f b)
    (inside_freed (disk_of l) (free_blocks b d f) (inside_image l (free_blocks b d f) e) f b h)
    ∙ ap (λ (n : ℕ). image_of (free_blocks n d f)) (sym (add-one b))

-- ---- the lowest that pass, one number more

module _ (p : ℕ → Bool) where
  from_yes : (n i k : ℕ) → p i ≡ true → firsts_from (suc n) i (suc k) p ≡ i ∷ firsts_from n (suc i) k p
  unfolding firsts_from
  from_yes n i k e =
      ap (λ (b : Bool). elim b as (λ (x : Bool). List ℕ) [ true ↦ i ∷ firsts_from n (suc i) k p | false ↦ firsts_from n (suc i) (suc k) p ]) e

  from_no : (n i k : ℕ) → p i ≡ false → firsts_from (suc n) i (suc k) p ≡ firsts_from n (suc i) (suc k) p
  unfolding firsts_from
  from_no n i k e =
      ap (λ (b : Bool). elim b as (λ (x : Bool). List ℕ) [ true ↦ i ∷ firsts_from n (suc i) k p | false ↦ firsts_from n (suc i) (suc k) p ]) e

  from_zero : (n i : ℕ) → firsts_from n i 0 p ≡ []
  unfolding firsts_from
  from_zero zero i = refl
  from_zero (suc n) i = refl

  from_none : (i k : ℕ) → firsts_from 0 i k p ≡ []
  unfolding firsts_from
  from_none i k = refl

  -- the next number does not pass
  last_no : (n i k : ℕ) → p (i + n) ≡ false → firsts_from (suc n) i k p ≡ firsts_from n i k p
  last_no n i zero t = from_zero (suc n) i ∙ sym (from_zero n i)
  last_no zero i (suc k) t = from_no 0 i k (ap p (sym (add-zero i)) ∙ t) ∙ from_none (suc i) (suc k) ∙ sym (from_none i (suc k))
  last_no (suc n) i (suc k) t =
      let t' : p (suc i + n) ≡ false = ap p (suc-add i n ∙ sym (add-suc i n)) ∙ t in
      by_test (p i)
      (λ y. from_yes (suc n) i k y ∙ ap (λ (l : List ℕ). i ∷ l) (last_no n (suc i) k t') ∙ sym (from_yes n i k y))
      (λ y. from_no (suc n) i k y ∙ last_no n (suc i) (suc k) t' ∙ sym (from_no n i k y))

  -- there are enough
  last_full : (n i k : ℕ) → length (firsts_from n i k p) ≡ k → firsts_from (suc n) i k p ≡ firsts_from n i k p
  last_full n i zero e = from_zero (suc n) i ∙ sym (from_zero n i)
  last_full zero i (suc k) e = absurd (omega (arith, ap length (from_none i (suc k))))
  last_full (suc n) i (suc k) e =
      by_test (p i)
      (λ y.
      from_yes (suc n) i k y
      ∙ ap (λ (l : List ℕ). i ∷ l) (last_full n (suc i) k (omega (arith, ap length (from_yes n i k y))))
      ∙ sym (from_yes n i k y))
      (λ y. from_no (suc n) i k y ∙ last_full n (suc i) (suc k) (sym (ap length (from_no n i k y)) ∙ e) ∙ sym (from_no n i k y))

  -- it passes, and there are not enough
  last_yes : (n i k : ℕ) → p (i + n) ≡ true → length (firsts_from n i k p) < k → firsts_from (suc n) i k p ≡ firsts_from n i k p ++ ((i + n) ∷ [])
  last_yes n i zero t h = absurd (omega arith)
  last_yes zero i (suc k) t h =
      from_yes 0 i k (ap p (sym (add-zero i)) ∙ t)
      ∙ ap₂ (λ (x : ℕ) (l : List ℕ). x ∷ l) (sym (add-zero i)) (from_none (suc i) k)
      ∙ ap (λ (l : List ℕ). l ++ ((i + 0) ∷ [])) (sym (from_none i (suc k)))
  last_yes (suc n) i (suc k) t h =
      let z : suc i + n ≡ i + suc n = suc-add i n ∙ sym (add-suc i n) in
      let t' : p (suc i + n) ≡ true = ap p z ∙ t in
      by_test (p i)
      (λ y.
      from_yes (suc n) i k y
      ∙ ap (λ (l : List ℕ). i ∷ l)
      (last_yes n (suc i) k t' (omega (arith, ap length (from_yes n i k y))) ∙ ap (λ (x : ℕ). firsts_from n (suc i) k p ++ (x ∷ [])) z)
      ∙ ap (λ (l : List ℕ). l ++ ((i + suc n) ∷ [])) (sym (from_yes n i k y)))
      (λ y.
      from_no (suc n) i k y
      ∙ last_yes n (suc i) (suc k) t' (omega (arith, ap length (from_no n i k y)))
      ∙ ap (λ (x : ℕ). firsts_from n (suc i) (suc k) p ++ (x ∷ [])) z
      ∙ ap (λ (l : List ℕ). l ++ ((i + suc n) ∷ [])) (sym (from_no n i k y)))

  -- a next number that does not pass leaves the lowest that pass
  pub firsts_end_no : (b k : ℕ) → p b ≡ false → firsts (b + 1) k p ≡ firsts b k p
  unfolding firsts
  firsts_end_no b k t = rw add-one (last_no b 0 k (ap p (zero-add b) ∙ t))

  -- where there are enough, the next number leaves them
  pub firsts_full : (b k : ℕ) → length (firsts b k p) ≡ k → firsts (b + 1) k p ≡ firsts b k p
  unfolding firsts
  firsts_full b k e = rw add-one (last_full b 0 k e)

  -- a next number that passes, where there are not enough, is one more
  pub firsts_end_yes : (b k : ℕ) → p b ≡ true → length (firsts b k p) < k → firsts (b + 1) k p ≡ firsts b k p ++ (b ∷ [])
  unfolding firsts
  firsts_end_yes b k t h = rw add-one (last_yes b 0 k (ap p (zero-add b) ∙ t) h ∙ ap (λ (x : ℕ). firsts_from b 0 k p ++ (x ∷ [])) (zero-add b))

  -- of no numbers none pass
  pub firsts_of_none : (k : ℕ) → firsts 0 k p ≡ []
  unfolding firsts
  firsts_of_none k = from_none 0 k

-- ---- given

length_snoc : (bs : List ℕ) (b : ℕ) → length (bs ++ (b ∷ [])) ≡ length bs + 1
length_snoc [] b = refl
length_snoc (x ∷ bs) b = ap suc (length_snoc bs b) ∙ sym (suc-add (length bs) 1)

-- one block more
give_snoc : (d : Disk) (f : ℕ) (c : ℕ → ℕ) (s : ℕ) (bs : List ℕ) (b : ℕ)
    → give_blocks d f c s (bs ++ (b ∷ [])) ≡ given (give_blocks d f c s bs) b (part c (s + length bs)) (File f (s + length bs))
unfolding give_blocks
give_snoc d f c s [] b = ap (λ (t : ℕ). given d b (part c t) (File f t)) (sym (add-zero s))
give_snoc d f c s (x ∷ bs) b =
    give_snoc (given d x (part c s) (File f s)) f c (suc s) bs b
    ∙ ap (λ (t : ℕ). given (give_blocks (given d x (part c s) (File f s)) f c (suc s) bs) b (part c t) (File f t))
    (suc-add s (length bs) ∙ sym (add-suc s (length bs)))

-- blocks given on disks that agree leave disks that agree
pub inside_give : (f : ℕ) (c : ℕ → ℕ) (bs : List ℕ) (s : ℕ) (d e : Disk) → EqualInside d e → EqualInside (give_blocks d f c s bs) (give_blocks e f c s bs)
unfolding give_blocks
inside_give f c [] s d e near = near
inside_give f c (b ∷ bs) s d e near =
    inside_give f c bs (suc s) (given d b (part c s) (File f s)) (given e b (part c s) (File f s)) (inside_given d e near b (part c s) (File f s))

-- disk d with the n lowest free blocks below b given to file f
unfoldable pub give_lowest : Disk → ℕ → (ℕ → ℕ) → ℕ → ℕ → ℕ → Disk
give_lowest d f c s n b = give_blocks d f c s (firsts b n (free_at d))

-- the lowest free blocks given on disks that agree leave disks that agree
pub inside_lowest : (d e : Disk) → EqualInside d e → (f : ℕ) (c : ℕ → ℕ) (s n : ℕ) → EqualInside (give_lowest d f c s n blocks) (give_lowest e f c s n blocks)
unfolding give_lowest free_at
inside_lowest d e near f c s n b o hb ho =
    ap (λ (bs : List ℕ). give_blocks d f c s bs b o) (firsts_cong blocks n (free_at d) (free_at e) (λ j h. ap is_free (inside_record d e near j h)))
    ∙ inside_give f c (firsts blocks n (free_at e)) s d e near b o hb ho

-- the walk: t blocks below b are given
module _ (d : Disk) (f : ℕ) (c : ℕ → ℕ) (s n : ℕ) where
  -- the walk at block b: of those below it, t free blocks are given, n at most
  pub record Walked (b t : ℕ) (l : List ℕ) : Type 0 where
    pub some : t ≡ length (firsts b n (free_at d))
    pub most : t ≤ n
    pub image : l ≡ image_of (give_lowest d f c s n b)

  module _ (b t : ℕ) (l : List ℕ) (w : Walked b t l) where
    -- a block that is not free is passed over
    pub walked_not : free_at d b ≡ false → Walked (b + 1) t l
    unfolding give_lowest
    walked_not e = record {
      some = w.some ∙ ap length (sym (firsts_end_no (free_at d) b n e));
      most = w.most;
      image = w.image ∙ ap (λ (bs : List ℕ). image_of (give_blocks d f c s bs)) (sym (firsts_end_no (free_at d) b n e));
    }

    -- where n blocks are given, the next is passed over
    pub walked_full : n ≤ t → Walked (b + 1) t l
    unfolding give_lowest
    walked_full h =
        let q : firsts (b + 1) n (free_at d) ≡ firsts b n (free_at d) = firsts_full (free_at d) b n (omega (arith, w.some, w.most)) in
        record {
          some = w.some ∙ ap length (sym q);
          most = w.most;
          image = w.image ∙ ap (λ (bs : List ℕ). image_of (give_blocks d f c s bs)) (sym q);
        }

    -- a free block is given as the file's next part
    pub walked_more : (m : List ℕ) → free_at d b ≡ true → t < n → m ≡ image_of (given (disk_of l) b (part c (s + t)) (File f (s + t)))
        → Walked (b + 1) (t + 1) m
    unfolding give_lowest
    walked_more m e h q =
        let bs : List ℕ = firsts b n (free_at d) in
        let r : firsts (b + 1) n (free_at d) ≡ bs ++ (b ∷ []) = firsts_end_yes (free_at d) b n e (omega (arith, w.some)) in
        let g : Disk = give_blocks d f c s bs in
        record {
          some = ap (λ (k : ℕ). k + 1) w.some ∙ sym (ap length r ∙ length_snoc bs b);
          most = omega arith;
          image =
              q
              ∙ image_cong (given (disk_of l) b (part c (s + t)) (File f (s + t))) (given g b (part c (s + t)) (File f (s + t)))
              (inside_given (disk_of l) g (inside_image l g w.image) b (part c (s + t)) (File f (s + t)))
              ∙ ap (λ (k : ℕ). image_of (given g b (part c (s + k)) (File f (s + k)))) w.some
              ∙ ap image_of (sym (ap (give_blocks d f c s) r ∙ give_snoc d f c s bs b));
        }

  -- before the walk no block is given
  pub walked_none : (l : List ℕ) → d ≡ disk_of l → length l ≡ image_bytes → Walked 0 0 l
  unfolding give_lowest give_blocks
  walked_none l e h = record {
    some = sym (ap length (firsts_of_none (free_at d) n));
    most = omega arith;
    image = sym (image_disk l h) ∙ ap image_of (sym e) ∙ ap (λ (bs : List ℕ). image_of (give_blocks d f c s bs)) (sym (firsts_of_none (free_at d) n));
  }

-- what the walk asks of a block: whether it is free
module _ (d : Disk) (f : ℕ) (c : ℕ → ℕ) (s n b t : ℕ) (l : List ℕ) (w : Walked d f c s n b t l) (y : Bool) (e : y ≡ is_free (record_at d b)) where
  -- a block that is not free is passed over
  pub walked_held : y ≡ false → Walked d f c s n (b + 1) t l
  unfolding free_at
  walked_held q = walked_not d f c s n b t l w (sym e ∙ q)

  -- a free block is given, where there are not enough
  pub walked_given : (m : List ℕ) → y ≡ true → t < n
      → m ≡ image_of (given (disk_of l) b (part c (s + t)) (File f (s + t))) → Walked d f c s n (b + 1) (t + 1) m
  unfolding free_at
  walked_given m q h z = walked_more d f c s n b t l w m (sym e ∙ q) h z

-- a stored file without entry and data is zeros
pub stored_zeros : stored_row [] [] ≡ zeros
unfolding stored_row zeros
stored_zeros = fun_ext (λ (i : ℕ). by_order i slot_bytes (λ h. cond_true _ _ (lt_true h)) (λ h. cond_false _ _ (lt_false h)))

-- ---- a slot, and the end of add and remove

-- a row written at the slot's place in its block is the slot written
pub slot_written : (l m : List ℕ) (k b : ℕ) (g : ℕ → ℕ) → b ≡ part_block (disk_of l) 0 (k / block_slots)
    → m ≡ image_of (patched (disk_of l) b (k % block_slots * slot_bytes) slot_bytes g) → m ≡ image_of (set_slot (disk_of l) k g)
unfolding set_slot
slot_written l m k b g e q = q ∙ ap (λ (x : ℕ). image_of (patched (disk_of l) x (k % block_slots * slot_bytes) slot_bytes g)) e

-- a slot that has no block is not written
pub slot_nowhere : (l : List ℕ) (k : ℕ) (g : ℕ → ℕ) → length l ≡ image_bytes → blocks ≤ part_block (disk_of l) 0 (k / block_slots)
    → l ≡ image_of (set_slot (disk_of l) k g)
unfolding set_slot
slot_nowhere l k g long h = row_nowhere l (part_block (disk_of l) 0 (k / block_slots)) (k % block_slots * slot_bytes) g long h slot_bytes

-- free word and update count, written one after the other, are both steps
pub settled_written : (l₀ l₁ l₂ : List ℕ) → l₁ ≡ image_of (set_free (disk_of l₀))
    → l₂ ≡ image_of (step_update (disk_of l₁)) → l₂ ≡ image_of (step_update (set_free (disk_of l₀)))
settled_written l₀ l₁ l₂ p q = inside_step step_update inside_update l₁ l₂ (set_free (disk_of l₀)) p q

-- both steps on disks that agree leave disks that agree
pub inside_settled : (d e : Disk) → EqualInside d e → EqualInside (step_update (set_free d)) (step_update (set_free e))
inside_settled d e near = inside_update (set_free d) (set_free e) (inside_free d e near)
