-- The inner model after a file is added: every block has one owner, the invariant holds, one file more is present.
-- Rests on the slot that is filled (Slot) and on blocks given to a file (InnerModel.Owners).
use Rattle.std.specs.Prelude.{◌≡◌, ◌≢◌, List}
use Rattle.std.proofs.Math.Path.{refl, sym, ap, ap₂, subst}
use Rattle.std.proofs.Common.{◌∙◌}
use Rattle.std.proofs.Math.Bool.{true}
use Rattle.std.proofs.Math.Option.{some}
use Prim.Native.Nat.{ℕ, zero, suc, ◌+◌, ◌≤◌, ◌<◌}
use native.Mathlib.Omega.{arith}
use Rattle.std.proofs.Math.ListN.{length}
use Rattle.laws.specs.Changes.{upd}
use Rattle.laws.specs.Below.{count, sum, firsts}
use Rattle.laws.specs.Options.{is_some}
use Rattle.laws.specs.Laws.Cases.{by_order, by_equal}
use Rattle.laws.specs.Laws.Tests.{true≢false, cond_true, cond_false}
use Rattle.laws.specs.Laws.Lowest.{lowest_low}
use Rattle.laws.specs.Laws.Changes.{upd_same, upd_other}
use Rattle.laws.specs.Laws.Count.{count_cong, count_yes, count_drop, sum_cong, sum_change}
use Rattle.laws.specs.Laws.Firsts.{firsts_picks, firsts_length}
use Rattle.sector_rules.specs.Geometry.{blocks}
use Rattle.file_rules.specs.declared.Record.{Record}
use Rattle.file_rules.specs.Arguments.{listed}
use Rattle.file_rules.specs.Directory.{name_eq}
use Rattle.file_rules.proofs.Laws.InnerModel.Fields.{parts_none}
use Rattle.file_rules.proofs.Laws.InnerModel.Inner.{Inner, present_count, file_blocks, inner_bad, inner_find, empty_slot, give, free_of, grow_owner}
use Rattle.file_rules.proofs.Laws.InnerModel.Inner.{peak_after, inner_add_at}
use Rattle.file_rules.proofs.Laws.InnerModel.Invariant.{parts_of, Owned, Inv}
use Rattle.file_rules.proofs.Laws.Base.Names.{name_sym}
use Rattle.file_rules.proofs.Laws.InnerModel.Owners.{owned_cong, give_bad, give_owned, give_count}
use Rattle.file_rules.specs.Map.{is_bad_record}
use Rattle.file_rules.specs.Model.{NamedFile, HeldFile, held_blocks, dir_blocks, usable, has_name, wrap}
use Rattle.file_rules.specs.Sizes.{name_most}
use Rattle.file_rules.specs.Written.{blocks_for}
use Rattle.file_rules.proofs.Laws.OnImages.Slot.{none_blocks, k_le, k_pos, k_none, peak_same, peak_more, filled_blocks, by_growth}

some_same : (x y : NamedFile) → ◌≡◌ {A = HeldFile} (some x) (some y) → x ≡ y
some_same x y e = cc

module _ (m : Inner) (v : Inv m) (x : NamedFile) (right : (1 ≤ length x.name) × (length x.name ≤ name_most))
    (new : suc m.peak ≤ inner_find m x.name)
    (room : inner_bad m + (dir_blocks (peak_after m) + (file_blocks m + blocks_for (length x.content))) ≤ usable) where
  abbrev kk : ℕ
  kk = empty_slot m

  abbrev n : ℕ
  n = blocks_for (length x.content)

  abbrev m' : Inner
  m' = inner_add_at m kk x

  abbrev owner₁ : ℕ → Record
  owner₁ = grow_owner m (peak_after m)

  abbrev L' : ℕ → HeldFile
  L' = upd m.slots kk (some x)

  abbrev parts₁ : ℕ → ℕ
  parts₁ = upd (parts_of m) 0 (dir_blocks (peak_after m))

  abbrev first : List ℕ
  first = firsts blocks 1 (free_of m.owner)

  -- the directory has the blocks that its slots take
  pub dir_parts : parts_of m 0 ≡ dir_blocks m.peak
  unfolding parts_of
  dir_parts = refl

  -- where the directory takes a block, one is free for it
  pub first_length : dir_blocks (peak_after m) ≡ suc (dir_blocks m.peak) → length first ≡ 1
  first_length r = firsts_length blocks 1 (free_of m.owner) (omega (arith, v.free_sum))

  -- after the directory took its block, every block has one owner
  pub owned₁ : Owned owner₁ parts₁
  unfolding grow_owner
  owned₁ =
      by_growth m v
      (λ t e q r.
      let w : Owned (give m.owner 0 (dir_blocks m.peak) first) (upd (parts_of m) 0 (dir_blocks m.peak + length first)) =
      give_owned first m.owner (parts_of m) 0 (dir_blocks m.peak) 0 v.own (firsts_picks blocks 1 (free_of m.owner)) (omega arith) dir_parts
      (omega (arith, first_length r)) in
      let d : dir_blocks m.peak + length first ≡ dir_blocks (peak_after m) = omega (arith, first_length r) in
      subst (λ (o : ℕ → Record). Owned o parts₁) (sym (cond_true _ _ t))
      (subst (λ (y : ℕ). Owned (give m.owner 0 (dir_blocks m.peak) first) (upd (parts_of m) 0 y)) d w))
      (λ t r.
      subst (λ (o : ℕ → Record). Owned o parts₁) (sym (cond_false _ _ t))
      (owned_cong m.owner (parts_of m) parts₁
      (λ f. by_equal f 0
      (λ q. ap (parts_of m) q ∙ dir_parts ∙ sym r ∙ sym (upd_same (parts_of m) 0 (dir_blocks (peak_after m)) f q))
      (λ q. sym (upd_other (parts_of m) 0 (dir_blocks (peak_after m)) f q))) v.own))

  -- and the same blocks are bad
  pub bad₁ : (b : ℕ) → b < blocks → is_bad_record (owner₁ b) ≡ listed b m.arguments.bad
  unfolding grow_owner
  bad₁ b l =
      by_growth m v
      (λ t e q r.
      ap (λ (o : ℕ → Record). is_bad_record (o b)) (cond_true _ _ t)
      ∙ give_bad first m.owner 0 (dir_blocks m.peak) 0 b (firsts_picks blocks 1 (free_of m.owner)) ∙ v.bad_is b l)
      (λ t r. ap (λ (o : ℕ → Record). is_bad_record (o b)) (cond_false _ _ t) ∙ v.bad_is b l)

  count₁ : count blocks (free_of owner₁) + dir_blocks (peak_after m) ≡ count blocks (free_of m.owner) + dir_blocks m.peak
  unfolding grow_owner
  count₁ =
      by_growth m v
      (λ t e q r.
      let w : count blocks (free_of (give m.owner 0 (dir_blocks m.peak) first)) + length first ≡ count blocks (free_of m.owner) =
      give_count first m.owner 0 (dir_blocks m.peak) 0 (firsts_picks blocks 1 (free_of m.owner)) in
      let z : owner₁ ≡ give m.owner 0 (dir_blocks m.peak) first = cond_true _ _ t in
      omega (arith, ap (λ (o : ℕ → Record). count blocks (free_of o)) z, first_length r))
      (λ t r.
      let z : owner₁ ≡ m.owner = cond_false _ _ t in
      omega (arith, ap (λ (o : ℕ → Record). count blocks (free_of o)) z))

  -- the file's blocks
  abbrev rest : List ℕ
  rest = firsts blocks n (free_of owner₁)

  -- the file gets as many blocks as it takes
  pub given_length : length rest ≡ n
  given_length = firsts_length blocks n (free_of owner₁) (omega (arith, v.free_sum, count₁))

  -- the slot that is filled had no blocks
  pub parts₁_k : parts₁ kk ≡ 0
  parts₁_k = upd_other (parts_of m) 0 (dir_blocks (peak_after m)) kk (omega (arith, k_pos m v)) ∙ parts_none m kk (k_none m v) (k_pos m v)

  -- how many blocks each file has after the call
  pub parts_after : (f : ℕ) → upd parts₁ kk (0 + length rest) f ≡ parts_of m' f
  unfolding parts_of inner_add_at held_blocks
  parts_after zero = upd_other parts₁ kk (0 + length rest) 0 (omega (arith, k_pos m v)) ∙ upd_same (parts_of m) 0 (dir_blocks (peak_after m)) 0 refl
  parts_after (suc f) =
      by_equal (suc f) kk
      (λ q.
      let l : held_blocks (L' (suc f)) ≡ n = ap held_blocks (upd_same m.slots kk (some x) (suc f) q) in
      omega (arith, upd_same parts₁ kk (0 + length rest) (suc f) q, given_length))
      (λ q.
      upd_other parts₁ kk (0 + length rest) (suc f) q ∙ upd_other (parts_of m) 0 (dir_blocks (peak_after m)) (suc f) (omega arith)
      ∙ ap held_blocks (sym (upd_other m.slots kk (some x) (suc f) q)))

  -- after the call every block has one owner
  pub owned₂ : Owned m'.owner (parts_of m')
  unfolding inner_add_at
  owned₂ =
      owned_cong (give owner₁ kk 0 rest) (upd parts₁ kk (0 + length rest)) (parts_of m') parts_after
      (give_owned rest owner₁ parts₁ kk 0 0 owned₁ (firsts_picks blocks n (free_of owner₁)) (omega (arith, k_le m v, v.peak_most)) parts₁_k
      (omega (arith, given_length)))

  count₂ : count blocks (free_of m'.owner) + n ≡ count blocks (free_of owner₁)
  unfolding inner_add_at
  count₂ = omega (arith, give_count rest owner₁ kk 0 0 (firsts_picks blocks n (free_of owner₁)), given_length)

  -- the blocks of all files
  slot_n : held_blocks (L' kk) ≡ n
  unfolding held_blocks
  slot_n = ap held_blocks (upd_same m.slots kk (some x) kk refl)

  blocks_after : file_blocks m' ≡ file_blocks m + n
  unfolding file_blocks inner_add_at sum
  blocks_after =
      by_order kk (suc m.peak)
      (λ h.
      let e : peak_after m ≡ m.peak = peak_same m v (omega arith) in
      ap (λ (p : ℕ). sum (suc p) (λ (j : ℕ). held_blocks (L' j))) e
      ∙ omega (
        arith,
        slot_n,
        none_blocks (m.slots kk) (k_none m v),
        sum_change (suc m.peak) kk (λ (j : ℕ). held_blocks (m.slots j)) (λ (j : ℕ). held_blocks (L' j)) h
            (λ j l q. ap held_blocks (sym (upd_other m.slots kk (some x) j q))),
      ))
      (λ h.
      let e : kk ≡ suc m.peak = omega (arith, k_le m v) in
      ap (λ (p : ℕ). sum (suc p) (λ (j : ℕ). held_blocks (L' j))) (peak_more m v e)
      ∙ ap₂ (λ (a b : ℕ). a + b)
      (sum_cong (suc m.peak) (λ (j : ℕ). held_blocks (L' j)) (λ (j : ℕ). held_blocks (m.slots j))
      (λ j l. ap held_blocks (upd_other m.slots kk (some x) j (omega arith))))
      (ap (λ (j : ℕ). held_blocks (L' j)) (sym e) ∙ slot_n))

  -- the slot that is filled is at most the peak after the call
  pub k_in : kk ≤ peak_after m
  k_in = by_order kk (suc m.peak) (λ h. omega (arith, peak_same m v (omega arith))) (λ h. omega (arith, k_le m v, peak_more m v (omega (arith, k_le m v))))

  peak_up : m.peak ≤ peak_after m
  unfolding peak_after
  peak_up = omega arith

  -- no other file has the name
  no_such : (j : ℕ) (y : NamedFile) → m.slots j ≡ some y → name_eq y.name x.name ≡ true → ⊥
  unfolding has_name inner_find is_some
  no_such j y e q =
      by_order m.peak j
      (λ h. true≢false (is_some (m.slots j)) (ap is_some e) (ap is_some (v.slot_past j h)))
      (λ h. true≢false (has_name x.name (m.slots j)) (ap (has_name x.name) e ∙ q)
      (lowest_low (λ (i : ℕ). has_name x.name (m.slots i)) (suc m.peak) j (omega arith)))

  -- the invariant holds after a file is added
  pub add_inv : Inv m'
  unfolding inner_add_at wrap dir_blocks
  add_inv =
      let at-k : L' kk ≡ some x = upd_same m.slots kk (some x) kk refl in
      let off-k : (j : ℕ) → j ≢ kk → L' j ≡ m.slots j = λ j q. upd_other m.slots kk (some x) j q in
      record {
        own = owned₂;
        bad_is = λ b l. give_bad rest owner₁ kk 0 0 b (firsts_picks blocks n (free_of owner₁)) ∙ bad₁ b l;
        slot_zero = off-k 0 (omega (arith, k_pos m v)) ∙ v.slot_zero;
        slot_past = λ j h. off-k j (omega (arith, k_in)) ∙ v.slot_past j (omega (arith, peak_up));
        slot_name_lem = λ j y e.
            by_equal j kk
            (λ q. subst (λ (z : NamedFile). (1 ≤ length z.name) × (length z.name ≤ name_most)) (some_same x y (sym (ap L' q ∙ at-k) ∙ e)) right)
            (λ q. v.slot_name_lem j y (sym (off-k j q) ∙ e));
        slot_once = λ i j y z ei ej s.
            by_equal i kk
            (λ q. by_equal j kk (λ r. q ∙ sym r)
            (λ r.
            let same-x : x ≡ y = some_same x y (sym (ap L' q ∙ at-k) ∙ ei) in
            absurd
            (no_such j z (sym (off-k j r) ∙ ej) (name_sym x.name z.name (ap (λ (f : NamedFile). name_eq f.name z.name) same-x ∙ s)))))
            (λ q. by_equal j kk
            (λ r.
            let same-x : x ≡ z = some_same x z (sym (ap L' r ∙ at-k) ∙ ej) in
            absurd (no_such i y (sym (off-k i q) ∙ ei) (ap (λ (f : NamedFile). name_eq y.name f.name) same-x ∙ s)))
            (λ r. v.slot_once i j y z (sym (off-k i q) ∙ ei) (sym (off-k j r) ∙ ej) s));
        free_sum = omega (arith, v.free_sum, count₁, count₂, blocks_after);
        peak_most =
            by_order kk (suc m.peak) (λ h. omega (arith, peak_same m v (omega arith), v.peak_most))
            (λ h.
            let e : kk ≡ suc m.peak = omega (arith, k_le m v) in
            omega (arith, peak_more m v e, filled_blocks m v e));
        updates_fit = omega arith;
      }

  -- one file more is present
  pub present_add : present_count m' ≡ suc (present_count m)
  unfolding present_count inner_add_at is_some
  present_add =
      let at-k : is_some (L' kk) ≡ true = ap is_some (upd_same m.slots kk (some x) kk refl) in
      let off-k : (j : ℕ) → j ≢ kk → is_some (L' j) ≡ is_some (m.slots j) = λ j q. ap is_some (upd_other m.slots kk (some x) j q) in
      by_order kk (suc m.peak)
      (λ h.
      ap (λ (p : ℕ). count (suc p) (λ (j : ℕ). is_some (L' j))) (peak_same m v (omega arith))
      ∙ count_drop (suc m.peak) kk (λ (j : ℕ). is_some (L' j)) (λ (j : ℕ). is_some (m.slots j)) h at-k (ap is_some (k_none m v)) (λ j l q. off-k j q))
      (λ h.
      let e : kk ≡ suc m.peak = omega (arith, k_le m v) in
      ap (λ (p : ℕ). count (suc p) (λ (j : ℕ). is_some (L' j))) (peak_more m v e)
      ∙ count_yes (suc m.peak) (λ (j : ℕ). is_some (L' j)) (ap (λ (j : ℕ). is_some (L' j)) (sym e) ∙ at-k)
      ∙ ap suc (count_cong (suc m.peak) (λ (j : ℕ). is_some (L' j)) (λ (j : ℕ). is_some (m.slots j)) (λ j l. off-k j (omega arith))))
