-- The records of the blocks that an add takes: the lowest free ones, in their order, the first for the directory where it grows.
-- Rests on which records the steps leave (Kept), on counts and on the lowest numbers that pass (laws, Count and Firsts).
use Rattle.std.specs.Prelude.{◌≡◌, refl, ◌≢◌, Bool, true, length}
use Rattle.std.proofs.Math.Path.{sym, ap, subst}
use Rattle.std.proofs.Common.{◌∙◌}
use Rattle.std.proofs.Math.Bool.{false}
use mathlib.Core.List.{List, ◌∷◌}
use Prim.Native.Nat.{ℕ, zero, suc, ◌+◌, ◌-◌, ◌/◌, ◌≤◌, ◌<◌}
use native.Mathlib.Omega.{arith}
use Rattle.laws.specs.Below.{count, firsts_from, firsts}
use Rattle.laws.specs.Laws.Cases.{by_order, by_equal, by_test}
use Rattle.laws.specs.Laws.Tests.{true≢false, eq_true, eq_false, cond_true, cond_false}
use Rattle.laws.specs.Laws.Count.{count_yes, count_no, count_drop, count_zero, count_first, count_more}
use Rattle.laws.specs.Laws.Firsts.{Avoids, firsts_yes, firsts_no, from_below, firsts_fails, firsts_beyond}
use Rattle.sector_rules.specs.Geometry.{blocks}
use Rattle.file_rules.specs.declared.Record.{Record}
use Rattle.file_rules.specs.declared.Record.TheVariants.{System, File}
use Rattle.file_rules.specs.declared.Entry.{Entry}
use Rattle.file_rules.specs.Calls.{opens_block, grow_dir, needed, add_at}
use Rattle.file_rules.specs.Disk.{Disk}
use Rattle.file_rules.specs.FreeTails.{SameRecord, takes_block, blocks_taken, taken_record}
use Rattle.file_rules.proofs.Laws.Base.Records.{decode_bytes, record_set}
use Rattle.file_rules.proofs.Laws.OnAnyDisk.Kept.{free_same, give_beside, firsts_not_first, grow_beside, given_added, grown_added}
use Rattle.file_rules.specs.Map.{sequences, encode, record_byte, number_at, record_at, is_free, free_at}
use Rattle.file_rules.specs.Sizes.{block_slots, record_bytes}
use Rattle.file_rules.specs.Written.{stored_byte, part, blocks_for, zeros, set_block, set_record, give_blocks}

-- what the statement says of growing and of room is what add asks
pub takes_is : (d : Disk) (k : ℕ) → takes_block d k ≡ opens_block d k
unfolding takes_block opens_block
takes_is d k = refl

-- so it takes as many blocks as it needs
pub taken_is : (d : Disk) (k size : ℕ) → blocks_taken d k size ≡ needed d k size
unfolding blocks_taken needed
taken_is d k size = rw (takes_is d k)

-- the record of block b on a disk is this one, byte for byte
abbrev pub HasRecord : Disk → ℕ → Record → Type 0
HasRecord d b r = (i : ℕ) → i < record_bytes → record_byte d b i ≡ encode r i

-- ---- blocks given in their order

module _ (p : ℕ → Bool) (f : ℕ) (c : ℕ → ℕ) (b : ℕ) (t : p b ≡ true) (l : b < blocks) where
  from_rank : (m i n : ℕ) (d : Disk) (s : ℕ) → i ≤ b → b < i + m → count b p < count i p + n → Avoids 0 (firsts_from m i n p)
      → HasRecord (give_blocks d f c s (firsts_from m i n p)) b (File f (s + (count b p - count i p)))
  unfolding firsts_from give_blocks
  from_rank zero i n d s low high few z = absurd (omega arith)
  from_rank (suc m) i zero d s low high few z = absurd (omega (arith, count_more b i p low))
  from_rank (suc m) i (suc n) d s low high few z =
      by_test (p i)
      (λ y.
      let rest : List ℕ = firsts_from m (suc i) n p in
      let is : firsts_from (suc m) i (suc n) p ≡ i ∷ rest = firsts_yes p m i n y in
      let d₁ : Disk = set_record (set_block d i (part c s)) i (File f s) in
      let away : Avoids 0 (i ∷ rest) = subst (Avoids 0) is z in
      let one : count (suc i) p ≡ suc (count i p) = count_yes i p y in
      subst (λ (bs : List ℕ). HasRecord (give_blocks d f c s bs) b (File f (s + (count b p - count i p)))) (sym is)
      (by_equal b i
      (λ q j k.
      let same : s + (count b p - count i p) ≡ s = omega (arith, ap (λ (x : ℕ). count x p) q) in
      sym (give_beside rest d₁ f c (suc s) b away.1 (from_below p b m (suc i) n (omega arith)) l j k)
      ∙ ap (λ (x : ℕ). record_byte d₁ x j) q ∙ record_set (set_block d i (part c s)) i (File f s) j k
      ∙ ap (λ (x : ℕ). encode (File f x) j) (sym same))
      (λ q j k.
      let next : suc s + (count b p - count (suc i) p) ≡ s + (count b p - count i p) = omega (arith, one, count_more b (suc i) p (omega arith)) in
      from_rank m (suc i) n d₁ (suc s) (omega arith) (omega arith) (omega arith) away.1 j k ∙ ap (λ (x : ℕ). encode (File f x) j) next)))
      (λ y.
      let is : firsts_from (suc m) i (suc n) p ≡ firsts_from m (suc i) (suc n) p = firsts_no p m i n y in
      let none : count (suc i) p ≡ count i p = count_no i p y in
      let past : b ≢ i = λ q. true≢false (p b) t (ap p q ∙ y) in
      subst (λ (bs : List ℕ). HasRecord (give_blocks d f c s bs) b (File f (s + (count b p - count i p)))) (sym is)
      (subst (λ (x : ℕ). HasRecord (give_blocks d f c s (firsts_from m (suc i) (suc n) p)) b (File f (s + (count b p - x)))) none
      (from_rank m (suc i) (suc n) d s (omega arith) (omega arith) (omega arith) (subst (Avoids 0) is z))))

  -- of the n lowest free blocks, given from sequence s on, each has the sequence of its rank
  firsts_rank : (n : ℕ) (d : Disk) (s : ℕ) → count b p < n → Avoids 0 (firsts blocks n p)
      → HasRecord (give_blocks d f c s (firsts blocks n p)) b (File f (s + count b p))
  unfolding firsts count
  firsts_rank n d s few z =
      let all : count b p - 0 ≡ count b p = omega arith in
      subst (λ (x : ℕ). HasRecord (give_blocks d f c s (firsts_from blocks 0 n p)) b (File f (s + x))) all
      (from_rank blocks 0 n d s (omega arith) (omega arith) (omega arith) z)

-- ---- an add

held_file : (d : Disk) (b f s : ℕ) → f < 3968 → s < sequences → HasRecord d b (File f s) → free_at d b ≡ false
unfolding free_at is_free record_at number_at
held_file d b f s g h r = ap is_free (decode_bytes (record_byte d b) (File f s) (g, h) r)

module _ (d : Disk) (first : record_at d 0 ≡ System) (k : ℕ) (e : Entry) (content : List ℕ) (b : ℕ) (l : b < blocks) (t : free_at d b ≡ true) where
  abbrev p : ℕ → Bool
  p = free_at d

  abbrev n : ℕ
  n = blocks_for (length content)

  abbrev d₁ : Disk
  d₁ = grow_dir d k

  abbrev c : ℕ → ℕ
  c = stored_byte e content

  -- after the directory has grown or not, the file's blocks are the lowest free
  file_taken : record_at d₁ 0 ≡ System → free_at d₁ b ≡ true → count b (free_at d₁) < n → HasRecord (add_at d k e content) b (File k (count b (free_at d₁)))
  file_taken system u few i q =
      let from : 0 + count b (free_at d₁) ≡ count b (free_at d₁) = omega arith in
      sym (given_added d first k e content b l i q)
      ∙ firsts_rank (free_at d₁) k c b u l n d₁ 0 few (firsts_not_first d₁ system n) i q
      ∙ ap (λ (s : ℕ). encode (File k s) i) from

  module _ (opens : opens_block d k ≡ true) (bound : k / block_slots < sequences) (system : record_at d₁ 0 ≡ System) where
    grown_is : d₁ ≡ give_blocks d 0 zeros (k / block_slots) (firsts blocks 1 p)
    unfolding grow_dir
    grown_is = cond_true _ _ opens

    -- the lowest free block is the directory's
    lowest_given : (x : ℕ) → x < blocks → p x ≡ true → count x p ≡ 0 → HasRecord d₁ x (File 0 (k / block_slots))
    lowest_given x h u z i q =
        let at : k / block_slots + count x p ≡ k / block_slots = omega arith in
        ap (λ (y : Disk). record_byte y x i) grown_is
        ∙ firsts_rank p 0 zeros x u h 1 d (k / block_slots) (omega arith) (firsts_not_first d first 1) i q
        ∙ ap (λ (s : ℕ). encode (File 0 s) i) at

    lowest_held : (x : ℕ) → x < blocks → p x ≡ true → count x p ≡ 0 → free_at d₁ x ≡ false
    lowest_held x h u z = held_file d₁ x 0 (k / block_slots) (omega arith) bound (lowest_given x h u z)

    first_taken : count b p ≡ 0 → HasRecord (add_at d k e content) b (File 0 (k / block_slots))
    first_taken z i q =
        sym (grown_added d first k e content b l (firsts_fails (free_at d₁) b (lowest_held b l t z) blocks n) i q) ∙ lowest_given b l t z i q

    -- of the others one less is free
    one_less_lem : 1 ≤ count b p → count b p ≡ suc (count b (free_at d₁))
    one_less_lem h =
        let w = count_first b p h in
        let x : ℕ = w.0 in
        count_drop b x p (free_at d₁) w.1 w.2 (lowest_held x (omega (arith, w.1)) w.2 w.3)
        (λ j a q. free_same d d₁ j (grow_beside d first k j (omega arith) (λ o. beside x w.2 w.3 j q)))
      where
        beside : (x : ℕ) → p x ≡ true → count x p ≡ 0 → (j : ℕ) → j ≢ x → Avoids j (firsts blocks 1 p)
        beside x u z j q =
            by_order j x
            (λ g. firsts_fails p j (count_zero x p z j g) blocks 1)
            (λ g. firsts_beyond p j blocks 1
            (by_order 0 (count j p) (λ a. a)
            (λ a. true≢false (p x) u (count_zero j p (omega arith) x (omega arith)))))

    later_taken : 1 ≤ count b p → count b p < suc n → HasRecord (add_at d k e content) b (File k (count b p - 1))
    later_taken h few i q =
        let less : count b p ≡ suc (count b (free_at d₁)) = one_less_lem h in
        let kept : SameRecord d d₁ b = grow_beside d first k b l (λ o. firsts_beyond p b blocks 1 h) in
        let at : count b (free_at d₁) ≡ count b p - 1 = omega arith in
        file_taken system (sym (free_same d d₁ b kept) ∙ t) (omega arith) i q ∙ ap (λ (s : ℕ). encode (File k s) i) at

  -- a free block that is among those which an add needs has the record of its rank
  pub add_gives_record : record_at d₁ 0 ≡ System → k / block_slots < sequences → count b p < blocks_taken d k (length content)
      → HasRecord (add_at d k e content) b (taken_record d k (count b p))
  unfolding blocks_taken taken_record
  add_gives_record system bound few =
      by_test (opens_block d k)
      (λ o.
      let few₁ : count b p < suc n = subst (λ (x : ℕ). count b p < x) (cond_true {b = takes_block d k} (suc n) n (takes_is d k ∙ o)) few in
      by_equal (count b p) 0
      (λ z. subst (HasRecord (add_at d k e content) b) (sym (cond_true _ _ (takes_is d k ∙ o) ∙ cond_true _ _ (eq_true z))) (first_taken o bound system z))
      (λ z. subst (HasRecord (add_at d k e content) b) (sym (cond_true _ _ (takes_is d k ∙ o) ∙ cond_false _ _ (eq_false z)))
      (later_taken o bound system (omega arith) few₁)))
      (λ o.
      let few₁ : count b p < n = subst (λ (x : ℕ). count b p < x) (cond_false {b = takes_block d k} (suc n) n (takes_is d k ∙ o)) few in
      let still : d₁ ≡ d = grown_not o in
      subst (HasRecord (add_at d k e content) b) (sym (cond_false _ _ (takes_is d k ∙ o)))
      (subst (λ (x : Disk). HasRecord (add_at d k e content) b (File k (count b (free_at x)))) still
      (file_taken system (ap (λ (x : Disk). free_at x b) still ∙ t) (subst (λ (x : Disk). count b (free_at x) < n) (sym still) few₁))))
    where
      grown_not : opens_block d k ≡ false → d₁ ≡ d
      grown_not o = unfold grow_dir in cond_false _ _ o
