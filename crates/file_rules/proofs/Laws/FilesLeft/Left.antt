-- Each call keeps the files that the accepted adds and removes leave in the inner model's slots; the peak is the greatest number of them, and the update count
-- goes by their number (§9.6 §9.9).
-- Rests on filled slots (Present), on the invariant after each call (OnImages.Run) and on files counted (OnImages.Remove, Added).
use Rattle.std.specs.Prelude.{◌≡◌, false, cond, ltb, eqb, take}
use Rattle.std.proofs.Math.Path.{refl, subst}
use Rattle.std.proofs.Common.{sym, ap, ◌∙◌, arith, length-append}
use Rattle.std.proofs.Math.Bool.{true}
use mathlib.Core.List.{List, [], ◌∷◌, ◌++◌}
use Rattle.std.proofs.Math.Option.{some}
use Prim.Native.Nat.{ℕ, zero, suc, ◌+◌, ◌-◌, ◌≤◌, ◌<◌, max}
use Rattle.std.proofs.Math.ListN.{length}
use Rattle.laws.specs.Laws.Cases.{by_order, by_test, by_cond}
use Rattle.laws.specs.Laws.Tests.{lt_true, lt_false, true≢false, cond_true, cond_false}
use Rattle.sector_rules.specs.Replies.{reply_with, done, refusal}
use Rattle.sector_rules.specs.declared.Reply.{Reply}
use Rattle.file_rules.specs.Calls.{buffer_kept}
use Rattle.file_rules.specs.Directory.{name_eq, name_right}
use Rattle.file_rules.specs.Batch.{at_item}
use Rattle.file_rules.specs.Items.{Item, removing, adding, ItemList, Items, WrongItem, read_items, items_of}
use Rattle.file_rules.specs.Histories.{Call, accepted, without, changes_of, changes, left_by, left_by_all, most_by}
use Rattle.file_rules.specs.Histories.{to_add, to_remove, to_list, to_read, to_batch}
use Rattle.file_rules.proofs.Laws.OnImages.Slot.{k_none, room_fits}
use Rattle.file_rules.proofs.Laws.OnImages.Added.{present_add}
use Rattle.file_rules.proofs.Laws.InnerModel.Reads.{found_slot}
use Rattle.file_rules.proofs.Laws.InnerModel.Inner.{Inner, present_count, inner_find, empty_slot, InnerChanged, inner_refused, inner_remove_at, inner_remove}
use Rattle.file_rules.proofs.Laws.InnerModel.Inner.{peak_after, inner_add_at, room_for, inner_add, inner_item, inner_items, inner_batch, inner_step, inner_out}
use Rattle.file_rules.proofs.Laws.InnerModel.Inner.{inner_outs, inner_end}
use Rattle.file_rules.proofs.Laws.InnerModel.Invariant.{Inv}
use Rattle.file_rules.proofs.Laws.Base.Names.{name_bounds}
use Rattle.file_rules.proofs.Laws.FilesLeft.Present.{Fills, Once, fills_add, fills_remove, fills_count}
use Rattle.file_rules.proofs.Laws.OnImages.Remove.{present_remove}
use Rattle.file_rules.proofs.Laws.OnImages.Single.{item_inv}
use Rattle.file_rules.proofs.Laws.OnImages.Run.{step_inv}
use Rattle.file_rules.specs.Model.{NamedFile, wrap}

module _ (m : Inner) (v : Inv m) (fs : List NamedFile) (r : Fills m.slots fs) where
  -- what a call that changes leaves, and what its reply says
  abbrev Leaves : List NamedFile → InnerChanged → Type 0
  Leaves gs c =
      Fills c.model_after.slots (cond (accepted (buffer_kept [] c.answer)) gs fs)
      × (c.model_after.peak ≡ max m.peak (present_count c.model_after))

  -- as many files are present as the accepted calls leave
  pub count_is : present_count m ≡ length fs
  unfolding present_count
  count_is = fills_count fs m.slots (suc m.peak) (λ k h. v.slot_past k h) r

  once : Once m.slots
  once i j y z e f n = v.slot_once i j y z e f n

  removed : (k : ℕ) (x : NamedFile) (name : List ℕ) → m.slots k ≡ some x → name_eq x.name name ≡ true → Fills (inner_remove_at m k).slots (without name fs)
  unfolding inner_remove_at
  removed k x name e n = fills_remove fs m.slots once k x name e n r

  added : (x : NamedFile) → Fills (inner_add_at m (empty_slot m) x).slots (x ∷ fs)
  unfolding inner_add_at
  added x = fills_add m.slots fs (empty_slot m) x (k_none m v) r

  module _ (few : present_count m ≤ m.peak) where
    stays : (gs : List NamedFile) (a : Reply) → accepted (buffer_kept [] a) ≡ false → Leaves gs (inner_refused m a)
    unfolding inner_refused
    stays gs a t = (subst (Fills m.slots) (sym (cond_false gs fs t)) r, omega arith)

    leaves_remove : (name : List ℕ) → Leaves (without name fs) (inner_remove m name)
    unfolding inner_remove accepted buffer_kept
    leaves_remove name =
        by_test (name_right name)
        (λ t. by_order (inner_find m name) (suc m.peak)
        (λ h.
        let k : ℕ = inner_find m name in
        let w : (x : NamedFile) × (m.slots (inner_find m name) ≡ some x) × (name_eq x.name name ≡ true) × (0 < inner_find m name) = found_slot m v name h in
        let e : inner_remove m name ≡ record { answer = done; model_after = inner_remove_at m k } = cond_true _ _ t ∙ cond_true _ _ (lt_true h) in
        subst (Leaves (without name fs)) (sym e) (
          removed k w.0 name w.1 w.2,
          gone k w.3 (omega arith) w.0 w.1,
        ))
        (λ h.
        let e : inner_remove m name ≡ inner_refused m (refusal 14) = cond_true _ _ t ∙ cond_false _ _ (lt_false h) in
        subst (Leaves (without name fs)) (sym e) (stays (without name fs) (refusal 14) refl)))
        (λ t.
        let e : inner_remove m name ≡ inner_refused m (refusal 12) = cond_false _ _ t in
        subst (Leaves (without name fs)) (sym e) (stays (without name fs) (refusal 12) refl))
      where
        gone : (k : ℕ) → 0 < k → k ≤ m.peak → (x : NamedFile) → m.slots k ≡ some x
            → (inner_remove_at m k).peak ≡ max m.peak (present_count (inner_remove_at m k))
        gone k p l x e = let same : (inner_remove_at m k).peak ≡ m.peak = unfold inner_remove_at in refl in omega (arith, present_remove m v k p l x e)

    leaves_add : (x : NamedFile) → Leaves (x ∷ fs) (inner_add m x)
    unfolding inner_add accepted buffer_kept
    leaves_add x =
        by_test (name_right x.name)
        (λ t. by_order (inner_find m x.name) (suc m.peak)
        (λ h.
        let e : inner_add m x ≡ inner_refused m (reply_with 13 (inner_find m x.name) 0 0) = cond_true _ _ t ∙ cond_true _ _ (lt_true h) in
        subst (Leaves (x ∷ fs)) (sym e) (stays (x ∷ fs) (reply_with 13 (inner_find m x.name) 0 0) refl))
        (λ h. by_test (room_for m x)
        (λ s.
        let e : inner_add m x ≡ record { answer = done; model_after = inner_add_at m (empty_slot m) x } =
        cond_true _ _ t ∙ cond_false _ _ (lt_false h) ∙ cond_true _ _ s in
        subst (Leaves (x ∷ fs)) (sym e) (
          added x,
          more t h s,
        ))
        (λ s.
        let e : inner_add m x ≡ inner_refused m (refusal 15) = cond_true _ _ t ∙ cond_false _ _ (lt_false h) ∙ cond_false _ _ s in
        subst (Leaves (x ∷ fs)) (sym e) (stays (x ∷ fs) (refusal 15) refl))))
        (λ t.
        let e : inner_add m x ≡ inner_refused m (refusal 12) = cond_false _ _ t in
        subst (Leaves (x ∷ fs)) (sym e) (stays (x ∷ fs) (refusal 12) refl))
      where
        more : name_right x.name ≡ true → suc m.peak ≤ inner_find m x.name → room_for m x ≡ true
            → (inner_add_at m (empty_slot m) x).peak ≡ max m.peak (present_count (inner_add_at m (empty_slot m) x))
        more t h s =
            let now : (inner_add_at m (empty_slot m) x).peak ≡ max m.peak (suc (present_count m)) = unfold inner_add_at peak_after in refl in
            omega (arith, present_add m v x (name_bounds x.name t) h (room_fits m x s))

    -- the same of an item
    leaves_item : (x : Item) → Leaves (left_by fs x) (inner_item m x)
    unfolding inner_item left_by
    leaves_item (adding x) = leaves_add x
    leaves_item (removing name) = leaves_remove name

-- ---- accepted adds and removes in turn

-- the first number counts
first_most : (fs : List NamedFile) (xs : List Item) → length fs ≤ most_by fs xs
unfolding most_by
first_most fs [] = omega arith
first_most fs (x ∷ xs) = omega arith

left_both : (xs ys : List Item) (fs : List NamedFile) → left_by_all fs (xs ++ ys) ≡ left_by_all (left_by_all fs xs) ys
unfolding left_by_all
left_both [] ys fs = refl
left_both (x ∷ xs) ys fs = left_both xs ys (left_by fs x)

most_both : (xs ys : List Item) (fs : List NamedFile) → most_by fs (xs ++ ys) ≡ max (most_by fs xs) (most_by (left_by_all fs xs) ys)
unfolding left_by_all most_by
most_both [] ys fs = omega (arith, first_most fs ys)
most_both (x ∷ xs) ys fs = omega (arith, most_both xs ys (left_by fs x))

take_none : (k : ℕ) → take {A = Item} k [] ≡ []
take_none zero = refl
take_none (suc k) = refl

-- ---- what a call leaves

-- after these accepted adds and removes the slots have the files that they leave, the peak is the higher of the old one and the most present, and the update
-- count is higher by their number
pub record LeftAfter (m : Inner) (fs : List NamedFile) (xs : List Item) (after : Inner) : Type 0 where
  pub fills : Fills after.slots (left_by_all fs xs)
  pub peak : after.peak ≡ max m.peak (most_by fs xs)
  pub few : present_count after ≤ after.peak
  pub updates : after.updates ≡ wrap (m.updates + length xs)

-- counts that wrap, added
wrap_both : (a b : ℕ) → wrap (wrap a + b) ≡ wrap (a + b)
unfolding wrap
wrap_both a b = omega arith

-- a count in 32 bits is itself
wrap_small : (a : ℕ) → a < 4294967296 → a ≡ wrap (a + 0)
unfolding wrap
wrap_small a h = omega arith

-- an accepted item counts, a refused one does not
item_updates : (m : Inner) (x : Item) → (inner_item m x).model_after.updates ≡ cond (eqb (inner_item m x).answer.number 0) (wrap (m.updates + 1)) m.updates
unfolding inner_item inner_add inner_remove inner_refused inner_add_at inner_remove_at
item_updates m (removing name) =
    let counts : InnerChanged → Type 0 = λ c. c.model_after.updates ≡ cond (eqb c.answer.number 0) (wrap (m.updates + 1)) m.updates in
    by_cond counts (name_right name) _ _ (λ t. by_cond counts (ltb (inner_find m name) (suc m.peak)) _ _ (λ h. refl) (λ h. refl)) (λ t. refl)
item_updates m (adding x) =
    let counts : InnerChanged → Type 0 = λ c. c.model_after.updates ≡ cond (eqb c.answer.number 0) (wrap (m.updates + 1)) m.updates in
    by_cond counts (name_right x.name) _ _
    (λ t. by_cond counts (ltb (inner_find m x.name) (suc m.peak)) _ _ (λ h. refl)
    (λ h. by_cond counts (room_for m x) _ _ (λ r. refl) (λ r. refl))) (λ t. refl)

module _ (m : Inner) (v : Inv m) (fs : List NamedFile) (r : Fills m.slots fs) (few : present_count m ≤ m.peak) where
  nothing_left : LeftAfter m fs [] m
  unfolding left_by_all most_by
  nothing_left = record { fills = r; peak = omega (arith, count_is m v fs r); few = few; updates = wrap_small m.updates v.updates_fit }

  -- a refused item
  refused_left : (x : Item) → eqb (inner_item m x).answer.number 0 ≡ false → LeftAfter m fs [] (inner_item m x).model_after
  unfolding left_by_all most_by accepted buffer_kept
  refused_left x t =
      let w : Leaves m v fs r (left_by fs x) (inner_item m x) = leaves_item m v fs r few x in
      let same : Fills (inner_item m x).model_after.slots fs = subst (Fills (inner_item m x).model_after.slots) (cond_false (left_by fs x) fs t) w.0 in
      let n : present_count (inner_item m x).model_after ≡ length fs = count_is (inner_item m x).model_after (item_inv m v x) fs same in
      record {
        fills = same;
        peak = omega (arith, w.1, n, count_is m v fs r);
        few = omega (arith, w.1);
        updates = item_updates m x ∙ cond_false _ _ t ∙ wrap_small m.updates v.updates_fit;
      }

  -- an accepted item
  accepted_left : (x : Item) → eqb (inner_item m x).answer.number 0 ≡ true → Fills (inner_item m x).model_after.slots (left_by fs x)
      × ((inner_item m x).model_after.peak ≡ max m.peak (length (left_by fs x)))
  unfolding accepted buffer_kept
  accepted_left x t =
      let w : Leaves m v fs r (left_by fs x) (inner_item m x) = leaves_item m v fs r few x in
      let more : Fills (inner_item m x).model_after.slots (left_by fs x) =
      subst (Fills (inner_item m x).model_after.slots) (cond_true (left_by fs x) fs t) w.0 in
      (more, omega (arith, w.1, count_is (inner_item m x).model_after (item_inv m v x) (left_by fs x) more))

  -- a call that is one item
  one_left : (x : Item) → LeftAfter m fs (cond (accepted (buffer_kept [] (inner_item m x).answer)) (x ∷ []) []) (inner_item m x).model_after
  unfolding left_by_all most_by accepted buffer_kept
  one_left x =
      by_cond (λ (xs : List Item). LeftAfter m fs xs (inner_item m x).model_after) (eqb (inner_item m x).answer.number 0) _ _
      (λ t. let w : Fills (inner_item m x).model_after.slots (left_by fs x) × ((inner_item m x).model_after.peak ≡ max m.peak (length (left_by fs x))) =
      accepted_left x t in
      record {
        fills = w.0;
        peak = omega (arith, w.1, count_is m v fs r);
        few = omega (arith, w.1, count_is (inner_item m x).model_after (item_inv m v x) (left_by fs x) w.0);
        updates = item_updates m x ∙ cond_true _ _ t;
      })
      (λ t. refused_left x t)

-- a refusal of items from number n on names no lower one
third_least : (xs : List Item) (n : ℕ) (m : Inner) → eqb (inner_items m n xs).answer.number 0 ≡ false → n ≤ (inner_items m n xs).answer.third
unfolding inner_items at_item
third_least [] n m = λ e. true≢false (eqb 0 0) refl e
third_least (x ∷ xs) n m =
    by_cond (λ (c : InnerChanged). eqb c.answer.number 0 ≡ false → n ≤ c.answer.third) (eqb (inner_item m x).answer.number 0) _ _
    (λ t e. omega (arith, third_least xs (suc n) (inner_item m x).model_after e)) (λ t e. omega arith)

-- the accepted ones of items from number n on, by their reply
abbrev accepted_of : List Item → ℕ → Reply → List Item
accepted_of xs n a = cond (eqb a.number 0) xs (take (a.third - n) xs)

-- one accepted item more
accepted_more : (x : Item) (xs : List Item) (n : ℕ) (a : Reply) → (eqb a.number 0 ≡ false → suc n ≤ a.third)
    → accepted_of (x ∷ xs) n a ≡ x ∷ accepted_of xs (suc n) a
accepted_more x xs n a h =
    by_test (eqb a.number 0)
    (λ t. cond_true _ _ t ∙ ap (λ (ys : List Item). x ∷ ys) (sym (cond_true _ _ t)))
    (λ t. let k : a.third - n ≡ suc (a.third - suc n) = omega (arith, h t) in
    cond_false _ _ t ∙ ap (λ (j : ℕ). take j (x ∷ xs)) k ∙ ap (λ (ys : List Item). x ∷ ys) (sym (cond_false _ _ t)))

-- one count more before others
counted_more : (u before : ℕ) (xs : List Item) (x : Item) → u ≡ wrap (before + 1) → wrap (u + length xs) ≡ wrap (before + length (x ∷ xs))
counted_more u before xs x e =
    let one : before + 1 + length xs ≡ before + length (x ∷ xs) = omega arith in
    ap (λ (k : ℕ). wrap (k + length xs)) e ∙ wrap_both (before + 1) (length xs) ∙ ap wrap one

-- items in turn leave what the accepted ones of them leave
items_left : (xs : List Item) (n : ℕ) (m : Inner) → Inv m → (fs : List NamedFile) → Fills m.slots fs → present_count m ≤ m.peak
    → LeftAfter m fs (accepted_of xs n (inner_items m n xs).answer) (inner_items m n xs).model_after
unfolding inner_items at_item left_by_all most_by
items_left [] n m v fs r few = nothing_left m v fs r few
items_left (x ∷ xs) n m v fs r few =
    by_cond (λ (c : InnerChanged). LeftAfter m fs (accepted_of (x ∷ xs) n c.answer) c.model_after) (eqb (inner_item m x).answer.number 0) _ _
    (λ t.
    let m' : Inner = (inner_item m x).model_after in
    let a : Reply = (inner_items m' (suc n) xs).answer in
    let w : Fills m'.slots (left_by fs x) × (m'.peak ≡ max m.peak (length (left_by fs x))) = accepted_left m v fs r few x t in
    let here : present_count m' ≡ length (left_by fs x) = count_is m' (item_inv m v x) (left_by fs x) w.0 in
    let ih : LeftAfter m' (left_by fs x) (accepted_of xs (suc n) a) (inner_items m' (suc n) xs).model_after =
    items_left xs (suc n) m' (item_inv m v x) (left_by fs x) w.0 (omega (arith, w.1, here)) in
    subst (λ (ys : List Item). LeftAfter m fs ys (inner_items m' (suc n) xs).model_after)
    (sym (accepted_more x xs n a (third_least xs (suc n) m')))
    (record {
      fills = ih.fills;
      peak = omega (arith, ih.peak, w.1, count_is m v fs r, first_most (left_by fs x) (accepted_of xs (suc n) a));
      few = ih.few;
      updates = ih.updates ∙ counted_more m'.updates m.updates (accepted_of xs (suc n) a) x (item_updates m x ∙ cond_true _ _ t);
    }))
    (λ t.
    let zeroth : n - n ≡ 0 = omega arith in
    let none : accepted_of (x ∷ xs) n (at_item n (inner_item m x).answer) ≡ [] = cond_false _ _ t ∙ ap (λ (j : ℕ). take j (x ∷ xs)) zeroth in
    subst (λ (ys : List Item). LeftAfter m fs ys (inner_item m x).model_after) (sym none) (refused_left m v fs r few x t))

module _ (m : Inner) (v : Inv m) (fs : List NamedFile) (r : Fills m.slots fs) (few : present_count m ≤ m.peak) where
  -- a batch, by what its list gives
  batch_left : (l : ItemList) → LeftAfter m fs (accepted_of (items_of l) 1 (inner_batch m l).answer) (inner_batch m l).model_after
  unfolding inner_batch inner_refused items_of
  batch_left (Items xs) = items_left xs 1 m v fs r few
  batch_left (WrongItem n) = subst (λ (ys : List Item). LeftAfter m fs ys m) (sym (take_none (n - 1))) (nothing_left m v fs r few)

  -- after a call the slots have the files that its accepted adds and removes leave, and the peak counts them
  leaves : (c : Call) → LeftAfter m fs (changes_of c (inner_out m c)) (inner_step m c)
  unfolding inner_step inner_out changes_of inner_item accepted buffer_kept
  leaves (to_add x) = one_left m v fs r few (adding x)
  leaves (to_remove name) = one_left m v fs r few (removing name)
  leaves (to_list buf) = nothing_left m v fs r few
  leaves (to_read name buf) = nothing_left m v fs r few
  leaves (to_batch list) = batch_left (read_items list)

-- ---- a history

-- after a history the slots have the files that its accepted adds and removes leave, the peak is the most present at once, and the update count their number
pub left_is : (cs : List Call) (m : Inner) (fs : List NamedFile) → Inv m → Fills m.slots fs → present_count m ≤ m.peak
    → LeftAfter m fs (changes cs (inner_outs m cs)) (inner_end m cs)
unfolding inner_end inner_outs changes
left_is [] m fs v r few = nothing_left m v fs r few
left_is (c ∷ cs) m fs v r few =
    let xs : List Item = changes_of c (inner_out m c) in
    let ys : List Item = changes cs (inner_outs (inner_step m c) cs) in
    let w : LeftAfter m fs xs (inner_step m c) = leaves m v fs r few c in
    let ih : LeftAfter (inner_step m c) (left_by_all fs xs) ys (inner_end (inner_step m c) cs) =
    left_is cs (inner_step m c) (left_by_all fs xs) (step_inv m v c) w.fills w.few in
    let both : m.updates + length xs + length ys ≡ m.updates + length (xs ++ ys) = omega (arith, length-append xs ys) in
    record {
      fills = subst (Fills (inner_end (inner_step m c) cs).slots) (sym (left_both xs ys fs)) ih.fills;
      peak = omega (arith, w.peak, ih.peak, most_both xs ys fs);
      few = ih.few;
      updates = ih.updates ∙ ap (λ (k : ℕ). wrap (k + length ys)) w.updates ∙ wrap_both (m.updates + length xs) (length ys) ∙ ap wrap both;
    }
