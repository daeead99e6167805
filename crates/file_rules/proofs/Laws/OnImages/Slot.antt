-- Blocks given on the disk are given in the inner model; which slot a new file gets, whether the directory takes a block for it, whether there is room.
-- Rests on what is read of the inner model's disk (InnerModel.Reads) and on a block given on a whole disk (Base.Whole).
use Rattle.std.specs.Prelude.{◌≡◌, Bool, ◌&&◌, List, [], ◌∷◌, leb, ltb, length}
use Rattle.std.proofs.Math.Path.{refl, sym, ap}
use Rattle.std.proofs.Common.{◌∙◌}
use Rattle.std.proofs.Math.Bool.{true, false, not, cond}
use Rattle.std.proofs.Math.Option.{none, some}
use Prim.Native.Nat.{ℕ, zero, suc, ◌+◌, ◌/◌, ◌%◌, ◌≤◌, ◌<◌}
use native.Mathlib.Omega.{arith}
use Rattle.std.proofs.Math.Dec.{eqb}
use Rattle.laws.specs.Changes.{upd}
use Rattle.laws.specs.Below.{sum, lowest}
use Rattle.laws.specs.Numbers.{quotient_up}
use Rattle.laws.specs.Options.{is_some}
use Rattle.laws.specs.Laws.Cases.{by_order, by_equal, by_test}
use Rattle.laws.specs.Laws.Tests.{lt_true, lt_false, eq_true, eq_false, true_lt, true_le, true≢false, not_was, cond_true, cond_false, and_true}
use Rattle.laws.specs.Laws.Tests.{and_false_left, and_false_right, leb_iff, and_left, and_right}
use Rattle.laws.specs.Laws.Lowest.{lowest_le, lowest_hit, lowest_low}
use Rattle.laws.specs.Laws.Count.{count_but_zero, count_two_out}
use Rattle.laws.specs.Laws.Firsts.{Picks}
use Rattle.sector_rules.specs.Geometry.{blocks}
use Rattle.file_rules.specs.declared.Record.{Record}
use Rattle.file_rules.specs.declared.Record.TheVariants.{File}
use Rattle.file_rules.specs.Calls.{opens_block, needed}
use Rattle.file_rules.specs.Directory.{dir_end}
use Rattle.file_rules.specs.Disk.{Disk}
use Rattle.file_rules.proofs.Laws.InnerModel.Reads.{dir_end_is, free_count_at}
use Rattle.file_rules.proofs.Laws.InnerModel.Inner.{Inner, present_count, file_blocks, inner_bad, render, empty_slot, give, peak_after, room_for}
use Rattle.file_rules.proofs.Laws.InnerModel.Invariant.{Inv}
use Rattle.file_rules.proofs.Laws.Base.Whole.{With, give_block, part_out}
use Rattle.file_rules.specs.Map.{free_count}
use Rattle.file_rules.specs.Model.{NamedFile, HeldFile, held_blocks, dir_blocks, usable}
use Rattle.file_rules.specs.Sizes.{block_bytes, block_slots}
use Rattle.file_rules.specs.Written.{part, blocks_for, set_block, set_record, give_blocks}

-- ---- blocks placed on the disk are given in the model

-- blocks of the disk other than block 0
abbrev pub Inside : List ℕ → Type 0
Inside [] = Unit {0}
Inside (b ∷ bs) = (0 < b) × (b < blocks) × Inside bs

-- an increasing list of free blocks does not have block 0
pub picks_inside : (p : ℕ → Bool) (i : ℕ) (bs : List ℕ) → p 0 ≡ false → Picks blocks p i bs → Inside bs
picks_inside p i [] z t = tt
picks_inside p i (b ∷ bs) z t =
    (by_equal b 0 (λ q. true≢false (p b) t.2 (ap p q ∙ z)) (λ q. omega arith), t.1, picks_inside p (suc b) bs z t.3)

-- blocks given to a file on the disk are given to it in the inner model, with the file's content in them
pub give_step : (bs : List ℕ) (d : Disk) (h : ℕ → ℕ) (owner : ℕ → Record) (c : Record → ℕ → ℕ) (f s : ℕ) (g : ℕ → ℕ) → Inside bs
    → ((t o : ℕ) → s ≤ t → o < block_bytes → part g t o ≡ c (File f t) o) → With d h owner c → With (give_blocks d f g s bs) h (give owner f s bs) c
unfolding give_blocks give
give_step [] d h owner c f s g w e p = p
give_step (b ∷ bs) d h owner c f s g w e p =
    give_step bs (set_record (set_block d b (part g s)) b (File f s)) h (upd owner b (File f s)) c f (suc s) g w.2
    (λ t o q l. e t o (omega arith) l)
    (give_block d h owner c p b (File f s) (part g s) w.0 w.1 (λ o l. e s o (omega arith) l) (λ o l. part_out g s o l))

-- ---- the slot that is filled

none_slot : (l : HeldFile) → is_some l ≡ false → l ≡ none
unfolding is_some
none_slot none e = refl
none_slot (some x) e = true≢false true refl e

-- an empty slot has no blocks
pub none_blocks : (l : HeldFile) → l ≡ none → held_blocks l ≡ 0
unfolding held_blocks
none_blocks l e = ap held_blocks e

-- a file has a block at least
some_blocks : (l : HeldFile) → is_some l ≡ true → 1 ≤ held_blocks l
unfolding held_blocks is_some blocks_for quotient_up
some_blocks none e = true≢false false e refl
some_blocks (some x) e = omega arith

sum_least : (n : ℕ) (f : ℕ → ℕ) → ((j : ℕ) → 0 < j → j < n → 1 ≤ f j) → n ≤ sum n f + 1
unfolding sum
sum_least zero f e = omega arith
sum_least (suc n) f e =
    by_equal n 0 (λ q. omega arith) (λ q. omega (arith, e n (omega arith) (omega arith), sum_least n f (λ j h l. e j h (omega arith))))

module _ (m : Inner) (v : Inv m) where
  abbrev k : ℕ
  k = empty_slot m

  vacant : ℕ → Bool
  vacant j = (ltb 0 j && not (is_some (m.slots j)))

  k_is : k ≡ lowest vacant (suc m.peak)
  unfolding empty_slot vacant
  k_is = refl

  -- the slot that is filled is at most the first past the peak
  pub k_le : k ≤ suc m.peak
  k_le = omega (arith, k_is, lowest_le vacant (suc m.peak))

  k_vacant : k < suc m.peak → vacant k ≡ true
  k_vacant h = ap vacant k_is ∙ lowest_hit vacant (suc m.peak) (omega (arith, k_is))

  -- the slot that is filled is not slot 0
  pub k_pos : 0 < k
  unfolding vacant
  k_pos =
      by_order k (suc m.peak) (λ h. true_lt (and_left (ltb 0 k) (not (is_some (m.slots k))) (k_vacant h))) (λ h. omega arith)

  -- the slot that is filled was empty
  pub k_none : m.slots k ≡ none
  unfolding vacant
  k_none =
      by_order k (suc m.peak)
      (λ h. none_slot (m.slots k) (not_was (is_some (m.slots k)) (and_right (ltb 0 k) (not (is_some (m.slots k))) (k_vacant h))))
      (λ h. v.slot_past k h)

  -- if no slot is empty, all are filled
  all_filled : k ≡ suc m.peak → (j : ℕ) → 0 < j → j ≤ m.peak → is_some (m.slots j) ≡ true
  unfolding vacant
  all_filled e j h l =
      by_test (is_some (m.slots j)) (λ t. t)
      (λ t. true≢false (vacant j) (and_true (lt_true h) (ap not t)) (lowest_low vacant (suc m.peak) j (omega (arith, k_is))))

  zero_empty : is_some (m.slots 0) ≡ false
  unfolding is_some
  zero_empty = ap is_some v.slot_zero

  -- where a slot up to the peak is filled, the peak stays
  pub peak_same : k ≤ m.peak → peak_after m ≡ m.peak
  unfolding peak_after present_count
  peak_same h =
      let few : present_count m + 2 ≤ suc m.peak =
      count_two_out (suc m.peak) 0 k (λ (j : ℕ). is_some (m.slots j)) (omega arith) (omega arith) (omega (arith, k_pos)) zero_empty k_empty in
      omega arith
    where
      k_empty : is_some (m.slots k) ≡ false
      k_empty = unfold is_some in ap is_some k_none

  -- where no slot up to the peak is empty, the peak is one higher
  pub peak_more : k ≡ suc m.peak → peak_after m ≡ suc m.peak
  unfolding peak_after present_count
  peak_more e =
      let all-present : present_count m ≡ m.peak = count_but_zero m.peak (λ (j : ℕ). is_some (m.slots j)) zero_empty (all_filled e) in
      omega arith

  -- where no slot up to the peak is empty, the files have at least as many blocks as the peak says
  pub filled_blocks : k ≡ suc m.peak → m.peak ≤ file_blocks m
  unfolding file_blocks
  filled_blocks e =
      omega (arith, sum_least (suc m.peak) (λ (j : ℕ). held_blocks (m.slots j)) (λ j h l. some_blocks (m.slots j) (all_filled e j h (omega arith))))

  -- whether the directory takes a block
  abbrev grows : Bool
  grows = ltb (dir_blocks m.peak) (dir_blocks (peak_after m))

  -- the directory takes a block on the disk if it does in the inner model
  pub grows_is : opens_block (render m) k ≡ grows
  unfolding opens_block dir_blocks
  grows_is =
      by_order k (suc m.peak)
      (λ h.
      let e : peak_after m ≡ m.peak = peak_same (omega arith) in
      and_false_left (eqb (k % block_slots) 0) (eq_false {a = k} {b = dir_end (render m)} (omega (arith, dir_end_is m v)))
      ∙ sym (lt_false {a = suc (m.peak / block_slots)} {b = suc (peak_after m / block_slots)} (omega arith)))
      (λ h.
      let e : k ≡ suc m.peak = omega (arith, k_le) in
      let e' : peak_after m ≡ suc m.peak = peak_more e in
      let end : eqb k (dir_end (render m)) ≡ true = eq_true {a = k} {b = dir_end (render m)} (omega (arith, dir_end_is m v)) in
      by_equal (k % block_slots) 0
      (λ q. and_true end (eq_true q) ∙ sym (lt_true {a = suc (m.peak / block_slots)} {b = suc (peak_after m / block_slots)} (omega arith)))
      (λ q.
      and_false_right (eqb k (dir_end (render m))) (eq_false q)
      ∙ sym (lt_false {a = suc (m.peak / block_slots)} {b = suc (peak_after m / block_slots)} (omega arith))))

  -- by whether the directory takes a block: then the slot is the first past the peak and the first of that block
  pub by_growth : {X : Type 0}
      → (grows ≡ true → k ≡ suc m.peak → k / block_slots ≡ dir_blocks m.peak → dir_blocks (peak_after m) ≡ suc (dir_blocks m.peak) → X)
      → (grows ≡ false → dir_blocks (peak_after m) ≡ dir_blocks m.peak → X) → X
  unfolding dir_blocks
  by_growth f g =
      by_order k (suc m.peak)
      (λ h.
      let e : peak_after m ≡ m.peak = peak_same (omega arith) in
      g (lt_false {a = suc (m.peak / block_slots)} {b = suc (peak_after m / block_slots)} (omega arith)) (omega arith))
      (λ h.
      let e : k ≡ suc m.peak = omega (arith, k_le) in
      let e' : peak_after m ≡ suc m.peak = peak_more e in
      by_equal (k % block_slots) 0
      (λ q. f (lt_true {a = suc (m.peak / block_slots)} {b = suc (peak_after m / block_slots)} (omega arith)) e (omega arith) (omega arith))
      (λ q. g (lt_false {a = suc (m.peak / block_slots)} {b = suc (peak_after m / block_slots)} (omega arith)) (omega arith)))

  -- there is room in the inner model if the blocks needed are at most the free blocks of the disk
  pub room_is : (x : NamedFile) → room_for m x ≡ leb (needed (render m) k (length x.content)) (free_count (render m))
  unfolding room_for needed
  room_is x =
      let n : ℕ = blocks_for (length x.content) in
      by_growth
      (λ t e q r.
      let need : cond (opens_block (render m) k) (suc n) n ≡ suc n = cond_true (suc n) n (grows_is ∙ t) in
      leb_iff (inner_bad m + (dir_blocks (peak_after m) + (file_blocks m + n))) usable (cond (opens_block (render m) k) (suc n) n) (free_count (render m))
      (λ h. omega (arith, v.free_sum, free_count_at m v)) (λ h. omega (arith, v.free_sum, free_count_at m v)))
      (λ t r.
      let need : cond (opens_block (render m) k) (suc n) n ≡ n = cond_false (suc n) n (grows_is ∙ t) in
      leb_iff (inner_bad m + (dir_blocks (peak_after m) + (file_blocks m + n))) usable (cond (opens_block (render m) k) (suc n) n) (free_count (render m))
      (λ h. omega (arith, v.free_sum, free_count_at m v)) (λ h. omega (arith, v.free_sum, free_count_at m v)))

-- where there is room, bad blocks and those of the directory, of the files and of the new file are at most the usable ones
pub room_fits : (m : Inner) (x : NamedFile) → room_for m x ≡ true
    → inner_bad m + (dir_blocks (peak_after m) + (file_blocks m + blocks_for (length x.content))) ≤ usable
unfolding room_for
room_fits m x t = true_le t
