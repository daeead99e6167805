-- What is read of a disk that is given by its header, records and contents (`disk_with`), and which such disk the single steps leave.
-- Rests on a record's three bytes (Records) and on the laws of changed rows (laws, Changes).
use Rattle.std.specs.Prelude.{◌≡◌, ◌≢◌, Bool, true}
use Rattle.std.proofs.Math.Path.{refl, sym, ap, ap₂, subst, fun_ext}
use Rattle.std.proofs.Common.{◌∙◌}
use Rattle.std.proofs.Math.Bool.{cond}
use Prim.Native.Nat.{ℕ, zero, suc, ◌+◌, ◌-◌, ◌*◌, ◌/◌, ◌%◌, ◌≤◌, ◌<◌}
use native.Mathlib.Omega.{arith}
use Rattle.std.proofs.Math.Dec.{ltb}
use Rattle.laws.specs.Changes.{upd, patch}
use Rattle.laws.specs.Below.{count, lowest}
use Rattle.laws.specs.Laws.Cases.{by_order, by_equal, by_test}
use Rattle.laws.specs.Laws.Tests.{lt_true, lt_false, eq_false, true≢false, cond_true, cond_false, and_true, and_false_left, and_false_right}
use Rattle.laws.specs.Laws.Lowest.{lowest_cong}
use Rattle.laws.specs.Laws.Changes.{upd_same, upd_other, upd₂_same, upd₂_other, patch_in, patch_below, patch_above, by_place}
use Rattle.laws.specs.Laws.Count.{count_cong}
use Rattle.sector_rules.specs.Geometry.{blocks}
use Rattle.file_rules.specs.declared.Record.{Record}
use Rattle.file_rules.specs.declared.Record.TheVariants.{Free, System}
use Rattle.file_rules.specs.Disk.{Disk}
use Rattle.file_rules.specs.Map.{encode, record_byte, number_at, record_at, is_free, is_bad_record, bears, is_part, free_at, free_count, bad_at, bad_count}
use Rattle.file_rules.specs.Map.{part_block}
use Rattle.file_rules.proofs.Laws.Base.Records.{Valid, decode_bytes, record_set, record_beside}
use Rattle.file_rules.specs.Sizes.{block_bytes, map_start, record_bytes}
use Rattle.file_rules.specs.Written.{disk_with, part, zeros, set_block, set_record, free_block, free_blocks}

-- ---- a disk by its places

-- disk d has the header h, the records `owner` in its map and `content` of each record in its block, and is zero outside its blocks
pub record With (d : Disk) (h : ℕ → ℕ) (owner : ℕ → Record) (content : Record → ℕ → ℕ) : Type 0 where
  pub head : (o : ℕ) → o < map_start → d 0 o ≡ h o
  pub map : (b i : ℕ) → b < blocks → i < record_bytes → record_byte d b i ≡ encode (owner b) i
  pub block : (b o : ℕ) → 0 < b → b < blocks → o < block_bytes → d b o ≡ content (owner b) o
  pub far : (b o : ℕ) → blocks ≤ b → d b o ≡ 0
  pub out : (b o : ℕ) → block_bytes ≤ o → d b o ≡ 0

module _ (h : ℕ → ℕ) (owner : ℕ → Record) (content : Record → ℕ → ℕ) where
  zero_part : ℕ → ℕ
  zero_part o = cond (ltb o map_start) (h o) (encode (owner ((o - map_start) / record_bytes)) ((o - map_start) % record_bytes))

  zero_block : (o : ℕ) → o < block_bytes → disk_with h owner content 0 o ≡ zero_part o
  unfolding disk_with zero_part
  zero_block o k = cond_true _ _ (and_true {a = ltb 0 blocks} refl (lt_true k))

  -- the disk given by header, records and contents has them
  pub with_is : With (disk_with h owner content) h owner content
  unfolding disk_with zero_part
  with_is =
      record {
        head = λ o k. zero_block o (omega arith) ∙ cond_true _ _ (lt_true k);
        map = λ b i k l.
            let q : (map_start + record_bytes * b + i - map_start) / record_bytes ≡ b = omega arith in
            let r : (map_start + record_bytes * b + i - map_start) % record_bytes ≡ i = omega arith in
            zero_block (map_start + record_bytes * b + i) (omega arith)
            ∙ cond_false _ _ (lt_false {a = map_start + record_bytes * b + i} {b = map_start} (omega arith))
            ∙ ap₂ (λ (x y : ℕ). encode (owner x) y) q r;
        block = λ b o j k l. cond_true _ _ (and_true (lt_true k) (lt_true l)) ∙ cond_false _ _ (eq_false {a = b} {b = 0} (omega arith));
        far = λ b o k. cond_false _ _ (and_false_left _ (lt_false k));
        out = λ b o k. cond_false _ _ (and_false_right (ltb b blocks) (lt_false k));
      }

  -- header, records and contents determine the disk
  pub with_only : (d : Disk) → With d h owner content → d ≡ disk_with h owner content
  with_only d p =
      fun_ext (λ (b : ℕ). fun_ext (λ (o : ℕ).
      by_order b blocks
      (λ (hb : b < blocks). by_order o block_bytes
      (λ (ho : o < block_bytes). by_equal b 0
      (λ (z : b ≡ 0). subst (λ (x : ℕ). d x o ≡ disk_with h owner content x o) (sym z)
      (by_order o map_start (λ k. p.head o k ∙ sym (with_is.head o k))
      (λ k.
      let e : map_start + record_bytes * ((o - map_start) / record_bytes) + (o - map_start) % record_bytes ≡ o = omega arith in
      subst (λ (x : ℕ). d 0 x ≡ disk_with h owner content 0 x) e
      (p.map ((o - map_start) / record_bytes) ((o - map_start) % record_bytes) (omega arith) (omega arith)
      ∙ sym (with_is.map ((o - map_start) / record_bytes) ((o - map_start) % record_bytes) (omega arith) (omega arith))))))
      (λ (z : b ≢ 0). p.block b o (omega arith) hb ho ∙ sym (with_is.block b o (omega arith) hb ho)))
      (λ (k : block_bytes ≤ o). p.out b o k ∙ sym (with_is.out b o k)))
      (λ (k : blocks ≤ b). p.far b o k ∙ sym (with_is.far b o k))))

-- ---- what is read

module _ (d : Disk) (h : ℕ → ℕ) (owner : ℕ → Record) (content : Record → ℕ → ℕ) (p : With d h owner content) where
  -- the record that is read of a block is the one given
  pub record_is : (b : ℕ) → b < blocks → Valid (owner b) → record_at d b ≡ owner b
  unfolding record_at number_at
  record_is b k v = decode_bytes (record_byte d b) (owner b) v (λ i l. p.map b i k l)

  module _ (v : (b : ℕ) → b < blocks → Valid (owner b)) where
    -- a block is read as free if its record is the free one
    pub free_is : (b : ℕ) → b < blocks → free_at d b ≡ is_free (owner b)
    unfolding free_at
    free_is b k = ap is_free (record_is b k (v b k))

    -- as many blocks are free on the disk as have the free record
    pub free_count_is : free_count d ≡ count blocks (λ (b : ℕ). is_free (owner b))
    unfolding free_count
    free_count_is = count_cong blocks (free_at d) (λ (b : ℕ). is_free (owner b)) free_is

    -- as many blocks are bad on the disk as have the bad record
    pub bad_count_is : bad_count d ≡ count blocks (λ (b : ℕ). is_bad_record (owner b))
    unfolding bad_count bad_at
    bad_count_is = count_cong blocks (bad_at d) (λ (b : ℕ). is_bad_record (owner b)) (λ b k. ap is_bad_record (record_is b k (v b k)))

    -- the block of a file's part is the lowest whose record says so
    pub part_block_is : (f s : ℕ) → part_block d f s ≡ lowest (λ (b : ℕ). is_part f s (owner b)) blocks
    unfolding part_block
    part_block_is f s =
        lowest_cong (λ (b : ℕ). is_part f s (record_at d b)) (λ (b : ℕ). is_part f s (owner b)) blocks (λ b k. ap (is_part f s) (record_is b k (v b k)))

-- ---- what the steps leave

module _ (d : Disk) (h : ℕ → ℕ) (owner : ℕ → Record) (content : Record → ℕ → ℕ) (p : With d h owner content) where
  -- a block that is written and given a record has that record and its content
  pub give_block : (b : ℕ) (r : Record) (g : ℕ → ℕ) → 0 < b → b < blocks → ((o : ℕ) → o < block_bytes → g o ≡ content r o) → ((o : ℕ) → block_bytes ≤ o
      → g o ≡ 0)
      → With (set_record (set_block d b g) b r) h (upd owner b r) content
  unfolding set_record set_block
  give_block b r g b₀ b₁ inside outside =
      let d₁ : Disk = upd d b g in
      let zero_row : (o : ℕ) → d₁ 0 o ≡ d 0 o = λ o. upd₂_other d b g 0 o (omega arith) in
      let F : ℕ → ℕ = patch (d₁ 0) (map_start + record_bytes * b) record_bytes (encode r) in
      record {
        head = λ o k.
            upd₂_same d₁ 0 F 0 o refl ∙ patch_below (d₁ 0) (map_start + record_bytes * b) record_bytes (encode r) o (omega arith) ∙ zero_row o ∙ p.head o k;
        map = λ b' i k l.
            by_equal b' b
            (λ e. ap (λ (x : ℕ). record_byte (set_record d₁ b r) x i) e ∙ record_set d₁ b r i l ∙ ap (λ (x : Record). encode x i) (sym
            (upd_same owner b r b' e)))
            (λ e. record_beside d₁ b r b' i e l ∙ zero_row (map_start + record_bytes * b' + i) ∙ p.map b' i k l
            ∙ ap (λ (x : Record). encode x i) (sym (upd_other owner b r b' e)));
        block = λ b' o j k l.
            upd₂_other d₁ 0 F b' o (omega arith)
            ∙ by_equal b' b
            (λ e. upd₂_same d b g b' o e ∙ inside o l ∙ ap (λ (x : Record). content x o) (sym (upd_same owner b r b' e)))
            (λ e. upd₂_other d b g b' o e ∙ p.block b' o j k l ∙ ap (λ (x : Record). content x o) (sym (upd_other owner b r b' e)));
        far = λ b' o k. upd₂_other d₁ 0 F b' o (omega arith) ∙ upd₂_other d b g b' o (omega arith) ∙ p.far b' o k;
        out = λ b' o k.
            by_equal b' 0
            (λ e. upd₂_same d₁ 0 F b' o e ∙ patch_above (d₁ 0) (map_start + record_bytes * b) record_bytes (encode r) o (omega arith) ∙ zero_row o
            ∙ p.out 0 o k)
            (λ e. upd₂_other d₁ 0 F b' o e
            ∙ by_equal b' b (λ q. upd₂_same d b g b' o q ∙ outside o k) (λ q. upd₂_other d b g b' o q ∙ p.out b' o k));
      }

  -- n bytes written in the header change the header alone
  pub write_head : (o n : ℕ) (g : ℕ → ℕ) → o + n ≤ map_start → With (upd d 0 (patch (d 0) o n g)) (patch h o n g) owner content
  write_head o n g f =
      let F : ℕ → ℕ = patch (d 0) o n g in
      record {
        head = λ i k.
            upd₂_same d 0 F 0 i refl
            ∙ by_place (d 0) o n g i
            (λ a b. patch_in (d 0) o n g i a b ∙ sym (patch_in h o n g i a b))
            (λ a. patch_below (d 0) o n g i a ∙ p.head i k ∙ sym (patch_below h o n g i a))
            (λ a. patch_above (d 0) o n g i a ∙ p.head i k ∙ sym (patch_above h o n g i a));
        map = λ b i k l.
            upd₂_same d 0 F 0 (map_start + record_bytes * b + i) refl
            ∙ patch_above (d 0) o n g (map_start + record_bytes * b + i) (omega arith) ∙ p.map b i k l;
        block = λ b i j k l. upd₂_other d 0 F b i (omega arith) ∙ p.block b i j k l;
        far = λ b i k. upd₂_other d 0 F b i (omega arith) ∙ p.far b i k;
        out = λ b i k.
            by_equal b 0 (λ e. upd₂_same d 0 F b i e ∙ patch_above (d 0) o n g i (omega arith) ∙ p.out 0 i k)
            (λ e. upd₂_other d 0 F b i e ∙ p.out b i k);
      }

  -- a block that is written has the new content, if all other contents stay
  pub write_block : (content' : Record → ℕ → ℕ) (b₀ : ℕ) (g : ℕ → ℕ) → 0 < b₀ → b₀ < blocks
      → ((o : ℕ) → o < block_bytes → g o ≡ content' (owner b₀) o) → ((o : ℕ) → block_bytes ≤ o → g o ≡ 0)
      → ((b o : ℕ) → b ≢ b₀ → b < blocks → o < block_bytes → content (owner b) o ≡ content' (owner b) o)
      → With (upd d b₀ g) h owner content'
  write_block content' b₀ g z l inside outside others =
      record {
        head = λ i k. upd₂_other d b₀ g 0 i (omega arith) ∙ p.head i k;
        map = λ b i k j. upd₂_other d b₀ g 0 (map_start + record_bytes * b + i) (omega arith) ∙ p.map b i k j;
        block = λ b i j k q.
            by_equal b b₀ (λ e. upd₂_same d b₀ g b i e ∙ inside i q ∙ ap (λ (x : ℕ). content' (owner x) i) (sym e))
            (λ e. upd₂_other d b₀ g b i e ∙ p.block b i j k q ∙ others b i e k q);
        far = λ b i k. upd₂_other d b₀ g b i (omega arith) ∙ p.far b i k;
        out = λ b i k. by_equal b b₀ (λ e. upd₂_same d b₀ g b i e ∙ outside i k) (λ e. upd₂_other d b₀ g b i e ∙ p.out b i k);
      }

  -- header, records and contents that agree wherever the disk has them describe the same disk
  pub with_same : (h' : ℕ → ℕ) (owner' : ℕ → Record) (content' : Record → ℕ → ℕ)
      → ((o : ℕ) → o < map_start → h o ≡ h' o) → ((b : ℕ) → b < blocks → owner b ≡ owner' b)
      → ((b o : ℕ) → 0 < b → b < blocks → o < block_bytes → content (owner b) o ≡ content' (owner b) o) → With d h' owner' content'
  with_same h' owner' content' eh eo ec =
      record {
        head = λ o k. p.head o k ∙ eh o k;
        map = λ b i k l. p.map b i k l ∙ ap (λ (r : Record). encode r i) (eo b k);
        block = λ b o j k l. p.block b o j k l ∙ ec b o j k l ∙ ap (λ (r : Record). content' r o) (eo b k);
        far = p.far;
        out = p.out;
      }

-- the record after file f is removed: free, if it was the file's
unfoldable pub unowned : ℕ → Record → Record
unowned f r = cond (bears f r) Free r

-- ---- the blocks of a file are freed

-- past the end of a block a part has no bytes
pub part_out : (c : ℕ → ℕ) (s o : ℕ) → block_bytes ≤ o → part c s o ≡ 0
unfolding part
part_out c s o h = cond_false _ _ (lt_false h)

-- a record that bears a file is not the system's
pub bears_not_system : (f : ℕ) (r : Record) → bears f r ≡ true → r ≡ System → ⊥
unfolding bears
bears_not_system f r t e = true≢false (bears f r) t (ap (bears f) e)

-- the records after file f is removed from the blocks below n
unfoldable pub unowned_below : ℕ → ℕ → (ℕ → Record) → ℕ → Record
unowned_below n f owner b = cond (ltb b n) (unowned f (owner b)) (owner b)

module _ (h : ℕ → ℕ) (owner : ℕ → Record) (content : Record → ℕ → ℕ) (f : ℕ)
    (valid : (b : ℕ) → b < blocks → Valid (owner b)) (first : owner 0 ≡ System) (blank : (o : ℕ) → content Free o ≡ 0) where
  -- freeing file f's blocks below n leaves a disk whose records below n are freed
  pub free_below : (d : Disk) → With d h owner content → (n : ℕ) → n ≤ blocks → With (free_blocks n d f) h (unowned_below n f owner) content
  unfolding free_blocks free_block unowned_below unowned zeros
  free_below d p zero k =
      with_same d h owner content p h (unowned_below 0 f owner) content (λ o q. refl)
      (λ b q. sym (cond_false _ _ (lt_false {a = b} {b = 0} (omega arith)))) (λ b o i j l. refl)
  free_below d p (suc n) k =
      let ow : ℕ → Record = unowned_below n f owner in
      let ow' : ℕ → Record = unowned_below (suc n) f owner in
      let dn : Disk = free_blocks n d f in
      let q : With dn h ow content = free_below d p n (omega arith) in
      let here : ow n ≡ owner n = cond_false _ _ (lt_false {a = n} {b = n} (omega arith)) in
      let read : record_at dn n ≡ owner n = record_is dn h ow content q n (omega arith) (subst Valid (sym here) (valid n (omega arith))) ∙ here in
      let other : (b : ℕ) → b ≢ n → ow b ≡ ow' b =
      λ b e. ap (λ (t : Bool). cond t (unowned f (owner b)) (owner b))
      (by_order b n (λ a. lt_true a ∙ sym (lt_true {a = b} {b = suc n} (omega arith))) (λ a. lt_false a ∙ sym (lt_false {a = b} {b = suc n} (omega arith)))) in
      let there : ow' n ≡ unowned f (owner n) = cond_true _ _ (lt_true {a = n} {b = suc n} (omega arith)) in
      by_test (bears f (owner n))
      (λ t.
      let pos : n ≢ 0 = λ z. bears_not_system f (owner n) t (ap owner z ∙ first) in
      subst (λ (x : Disk). With x h ow' content) (sym (cond_true _ _ (ap (bears f) read ∙ t)))
      (with_same (set_record (set_block dn n zeros) n Free) h (upd ow n Free) content
      (give_block dn h ow content q n Free zeros (omega arith) (omega arith) (λ o l. sym (blank o)) (λ o l. refl))
      h ow' content (λ o l. refl)
      (λ b l. by_equal b n
      (λ e. upd_same ow n Free b e ∙ sym (ap ow' e ∙ there ∙ cond_true _ _ t))
      (λ e. upd_other ow n Free b e ∙ other b e))
      (λ b o i j l. refl)))
      (λ t.
      subst (λ (x : Disk). With x h ow' content) (sym (cond_false _ _ (ap (bears f) read ∙ t)))
      (with_same dn h ow content q h ow' content (λ o l. refl)
      (λ b l. by_equal b n
      (λ e. ap ow e ∙ here ∙ sym (cond_false _ _ t) ∙ sym (ap ow' e ∙ there))
      (λ e. other b e))
      (λ b o i j l. refl)))

  -- freeing all blocks of file f leaves a disk whose records of f are free
  pub free_all : (d : Disk) → With d h owner content → With (free_blocks blocks d f) h (λ (b : ℕ). unowned f (owner b)) content
  unfolding unowned_below
  free_all d p =
      with_same (free_blocks blocks d f) h (unowned_below blocks f owner) content (free_below d p blocks (omega arith)) h (λ (b : ℕ). unowned f
      (owner b)) content
      (λ o l. refl) (λ b l. cond_true _ _ (lt_true l)) (λ b o i j l. refl)
