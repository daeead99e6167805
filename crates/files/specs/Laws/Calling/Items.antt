-- The items of a batch as the code goes through them: of the list that is left, whether the items are right and what they leave in turn.
-- Rests on the laws of a batch's list (file_rules, Laws.Base.Items).
use Rattle.std.specs.Prelude.{Some, None, ◌≡◌, refl, ◌≢◌, true, false, cond, List, [], ℕ, suc, ◌+◌, ◌≤◌, ◌<◌, eqb, length, drop}
use Rattle.std.proofs.Common.{sym, ◌∙◌, length-drop}
use Rattle.std.proofs.Math.Path.{ap}
use Rattle.std.proofs.Math.Numerals.{add-one}
use native.Mathlib.Omega.{arith}
use Rattle.laws.specs.Laws.Cases.{by_order}
use Rattle.laws.specs.Laws.Tests.{eq_true, eq_false, cond_true, cond_false}
use Rattle.sector_rules.specs.Geometry.{image_bytes}
use Rattle.sector_rules.specs.Replies.{reply_with, done, wrong_length}
use Rattle.sector_rules.specs.Faults.{Fault}
use Rattle.sector_rules.specs.declared.Reply.{Reply}
use Rattle.file_rules.specs.Calls.{ImageChanged, image_kept, image_right}
use Rattle.file_rules.specs.Items.{Item, item_size, item_right, first_item}
use Rattle.file_rules.specs.Items.{ItemList, Items, WrongItem, item_before, items_from, read_items}
use Rattle.file_rules.specs.Batch.{item_call, at_item, items_in_turn, batch_of, batch}
use Rattle.file_rules.proofs.Laws.Base.Items.{size_least, right_within, items_end, wrong_at_lem, items_step}

-- what a call that writes left: its reply and the image
pub record Wrote (w : ImageChanged) (r : Reply) (l : List ℕ) : Type 0 where
  pub answer : r ≡ w.answer
  pub image : l ≡ w.image

-- what one call left, another that is the same leaves
pub wrote_same : (w v : ImageChanged) (r : Reply) (l : List ℕ) → w ≡ v → (r ≡ v.answer) × (l ≡ v.image) → Wrote w r l
wrote_same w v r l e g =
    record {
      answer = g.0 ∙ sym (ap (λ (x : ImageChanged). x.answer) e);
      image = g.1 ∙ sym (ap (λ (x : ImageChanged). x.image) e);
    }

-- ---- whether all items are right

-- the number of the first wrong item, as a fault, or none (§7.27)
unfoldable pub list_fault : ItemList → Fault
list_fault (Items xs) = None
list_fault (WrongItem n) = Some n

no_fault : (n : ℕ) → Some n ≡ None → ⊥
no_fault n e = let z : ◌≡◌ {A = ℕ} 0 1 = cc in omega arith

fault_before : (x : Item) (xs : ItemList) → list_fault (item_before x xs) ≡ list_fault xs
unfolding list_fault item_before
fault_before x (Items xs) = refl
fault_before x (WrongItem n) = refl

-- a whole list is read from item 1 on (§8.18)
pub fault_start : (list : List ℕ) → list_fault (read_items list) ≡ list_fault (items_from 1 0 list)
unfolding read_items
fault_start list = refl

module _ (n : ℕ) (list : List ℕ) where
  none_left : length list ≡ 0 → items_from n 0 list ≡ Items []
  none_left h = items_end n 0 list (omega arith)

  -- an empty list has no wrong item (§7.27)
  pub fault_end : length list ≡ 0 → list_fault (items_from n 0 list) ≡ None
  unfolding list_fault
  fault_end h = ap list_fault (none_left h)

  -- an item that is not right is the first wrong one (§7.27)
  pub fault_at : 0 < length list → item_right list ≡ false → list_fault (items_from n 0 list) ≡ Some n
  unfolding list_fault
  fault_at h t = ap list_fault (wrong_at_lem n 0 list h t)

  -- where no item is wrong, a list whose item is not right is empty
  pub empty_here : list_fault (items_from n 0 list) ≡ None → item_right list ≡ false → length list ≡ 0
  empty_here s t = by_order 0 (length list) (λ h. absurd (no_fault n (sym (fault_at h t) ∙ s))) (λ h. omega arith)

  module _ (t : item_right list ≡ true) where
    -- a right item has two bytes at least, and ends within the list (§7.27)
    pub next_shorter : length (drop (item_size list) list) + 2 ≤ length list
    next_shorter = omega (arith, length-drop (item_size list) list, size_least list, right_within list t)

    items_next : items_from n 0 list ≡ item_before (first_item list) (items_from (n + 1) 0 (drop (item_size list) list))
    items_next = items_step n list t ∙ rw add-one refl

    -- after a right item the next ones decide (§7.27)
    pub fault_next : list_fault (items_from n 0 list) ≡ list_fault (items_from (n + 1) 0 (drop (item_size list) list))
    fault_next = ap list_fault items_next ∙ fault_before _ _

-- ---- the items in turn

-- what the items from number n on leave; a list with a wrong item leaves the image (§8.19)
unfoldable pub in_turn : List ℕ → ℕ → ItemList → ImageChanged
in_turn image n (Items xs) = items_in_turn image n xs
in_turn image n (WrongItem m) = image_kept image (reply_with 20 0 0 m)

in_turn_lem : (image : List ℕ) (xs : ItemList) → batch_of image xs ≡ in_turn image 1 xs
unfolding batch_of in_turn
in_turn_lem image (Items xs) = refl
in_turn_lem image (WrongItem n) = refl

turn_before : (image image₁ : List ℕ) (n : ℕ) (r : Reply) (x : Item) (xs : ItemList) → list_fault (item_before x xs) ≡ None
    → Wrote (item_call image x) r image₁
    → in_turn image n (item_before x xs) ≡ cond (eqb r.number 0) (in_turn image₁ (suc n) xs) (record { answer = at_item n r; image = image₁ })
unfolding in_turn items_in_turn item_before list_fault
turn_before image image₁ n r x (Items xs) s g = rw (g.answer, g.image)
turn_before image image₁ n r x (WrongItem m) s g = absurd (no_fault m s)

-- a list is done from its first item on (§8.19)
pub turn_start : (image list : List ℕ) → batch_of image (read_items list) ≡ in_turn image 1 (items_from 1 0 list)
unfolding read_items
turn_start image list = in_turn_lem image (read_items list)

module _ (w : ImageChanged) (n : ℕ) (image list : List ℕ) (e : w ≡ in_turn image n (items_from n 0 list)) where
  -- where no bytes are left all items are done (§8.19)
  pub turn_end : (r : Reply) → length list ≡ 0 → r ≡ done → Wrote w r image
  unfolding in_turn items_in_turn
  turn_end r h q = wrote_same w (record { answer = done; image = image }) r image (e ∙ ap (in_turn image n) (none_left n list h)) (q, refl)

  module _ (s : list_fault (items_from n 0 list) ≡ None) (t : item_right list ≡ true) (image₁ : List ℕ) (r : Reply)
      (g : Wrote (item_call image (first_item list)) r image₁) where
    turn_here : w ≡ cond (eqb r.number 0) (in_turn image₁ (suc n) (items_from (n + 1) 0 (drop (item_size list) list)))
        (record { answer = at_item n r; image = image₁ })
    turn_here =
        let next = items_next n list t in
        e ∙ ap (in_turn image n) next ∙ turn_before image image₁ n r _ _ (sym (ap list_fault next) ∙ s) g

    -- after an item that is done the next ones are called, on the image that it left (§8.19)
    pub turn_next : r.number ≡ 0 → w ≡ in_turn image₁ (n + 1) (items_from (n + 1) 0 (drop (item_size list) list))
    turn_next b = turn_here ∙ cond_true _ _ (eq_true b) ∙ rw add-one

    -- after an item that is refused none is called (§8.19)
    pub turn_refused : (x : Reply) → r.number ≢ 0 → x ≡ at_item n r → Wrote w x image₁
    turn_refused x b q = wrote_same w (record { answer = at_item n r; image = image₁ }) x image₁ (turn_here ∙ cond_false _ _ (eq_false b)) (q, refl)

-- ---- the call

wrong_kept : (image : List ℕ) (n : ℕ) (xs : ItemList) → Some n ≡ list_fault xs → batch_of image xs ≡ image_kept image (reply_with 20 0 0 n)
unfolding batch_of list_fault
wrong_kept image n (Items xs) e = absurd (no_fault n e)
wrong_kept image n (WrongItem m) e = let q : m ≡ n = cc in rw q

module _ (image list : List ℕ) where
  -- an image of another length is refused (§7.1)
  pub batch_length : length image ≢ image_bytes → batch image list ≡ image_kept image wrong_length
  unfolding batch image_right
  batch_length h = cond_false _ _ (eq_false h)

  module _ (long : length image ≡ image_bytes) where
    batch_list : batch image list ≡ batch_of image (read_items list)
    unfolding batch image_right
    batch_list = cond_true _ _ (eq_true long)

    -- a list with a wrong item is refused with its number (§7.27)
    pub batch_wrong : (n : ℕ) → Some n ≡ list_fault (read_items list) → batch image list ≡ image_kept image (reply_with 20 0 0 n)
    batch_wrong n e = batch_list ∙ wrong_kept image n (read_items list) e

    -- what a right list leaves, the call leaves (§8.19)
    pub batch_items : (r : Reply) (l : List ℕ) → Wrote (batch_of image (read_items list)) r l → (r ≡ (batch image list).answer) × (l ≡ (batch image list).image)
    batch_items r l g = rw batch_list (g.answer, g.image)
