-- The list of a batch (§8.18): the size of its first item; bytes of an item before are passed over, a right item is followed by what the list gives after it, a
-- wrong one ends the reading; the same from any place of the list on.
-- Rests on the definitions of an item and of a list alone.
use Rattle.std.specs.Prelude.{◌≡◌, refl, ◌≢◌, true, false, ◌||◌, List, [], ◌∷◌, ℕ, zero, suc, ◌+◌, ◌-◌, ◌≤◌, ◌<◌, leb, length, drop}
use Rattle.std.proofs.Common.{sym, ap, ◌∙◌, drop_of_length-le, length-drop, drop-drop}
use native.Mathlib.Omega.{arith}
use Rattle.laws.specs.Laws.Cases.{by_cond}
use Rattle.laws.specs.Laws.Tests.{true_le, cond_true, cond_false, and_right}
use Rattle.file_rules.specs.Items.{is_remove, is_add, name_end, data_length, data_start, item_size, item_right, first_item}
use Rattle.file_rules.specs.Items.{Items, WrongItem, item_before, items_from}

-- ---- the item that a list begins with

module _ (list : List ℕ) where
  -- the name comes after its length (§8.18)
  pub name_least : 2 ≤ name_end list
  unfolding name_end
  name_least = omega arith

  -- the name ends within its item (§8.18)
  pub name_within : name_end list ≤ item_size list
  unfolding item_size data_start
  name_within =
      by_cond (λ (n : ℕ). name_end list ≤ n) (is_remove list) (name_end list) (data_start list + data_length list) (λ t. omega arith) (λ t. omega arith)

  -- an item has two bytes at least (§8.18)
  pub size_least : 2 ≤ item_size list
  size_least = omega (arith, name_least, name_within)

  -- the list has all bytes of a right item (§7.27)
  pub right_within : item_right list ≡ true → item_size list ≤ length list
  unfolding item_right
  right_within t = true_le (and_right (is_remove list || is_add list) (leb (item_size list) (length list)) t)

  -- a remove ends with its name (§8.18)
  pub remove_size : is_remove list ≡ true → item_size list ≡ name_end list
  unfolding item_size
  remove_size t = cond_true _ _ t

  -- an add ends with its data (§8.18)
  pub add_size : is_remove list ≡ false → item_size list ≡ data_start list + data_length list
  unfolding item_size
  add_size t = cond_false _ _ t

  -- the data of an add begin within it (§8.18)
  pub start_within : is_remove list ≡ false → name_end list + 8 ≤ item_size list
  unfolding data_start
  start_within t = omega (arith, add_size t)

-- ---- the whole list

-- the first k bytes, which belong to an item before, are passed over (§8.18)
pub items_skip : (n k : ℕ) (list : List ℕ) → items_from n k list ≡ items_from n 0 (drop k list)
unfolding items_from
items_skip n zero list = refl
items_skip n (suc k) [] = refl
items_skip n (suc k) (b ∷ bs) = items_skip n k bs

-- a right item, and then what the list gives after its bytes (§8.18)
pub items_step : (n : ℕ) (list : List ℕ) → item_right list ≡ true
    → items_from n 0 list ≡ item_before (first_item list) (items_from (suc n) 0 (drop (item_size list) list))
unfolding items_from
items_step n [] t = absurd (omega (arith, size_least [], right_within [] t))
items_step n (b ∷ bs) t =
    let e : item_size (b ∷ bs) ≡ suc (item_size (b ∷ bs) - 1) = omega (arith, size_least (b ∷ bs)) in
    cond_true _ _ t
    ∙ ap (item_before (first_item (b ∷ bs)))
    (items_skip (suc n) (item_size (b ∷ bs) - 1) bs ∙ sym (ap (λ (k : ℕ). items_from (suc n) 0 (drop k (b ∷ bs))) e))

-- a list that has bytes and does not begin with a right item has this item wrong (§7.27)
pub items_wrong : (n : ℕ) (list : List ℕ) → list ≢ [] → item_right list ≡ false → items_from n 0 list ≡ WrongItem n
unfolding items_from
items_wrong n [] some t = absurd (some refl)
items_wrong n (b ∷ bs) some t = cond_false _ _ t

-- ---- from a place of the list on

items_none : (n : ℕ) → items_from n 0 [] ≡ Items []
unfolding items_from
items_none n = refl

module _ (n p : ℕ) (list : List ℕ) where
  -- past its last byte a list has no item (§8.18)
  pub items_end : length list ≤ p → items_from n 0 (drop p list) ≡ Items []
  items_end h = rw (drop_of_length-le list h) (items_none n)

  -- a wrong item at a place of a list ends it with the item's number (§7.27)
  pub wrong_at_lem : p < length list → item_right (drop p list) ≡ false → items_from n 0 (drop p list) ≡ WrongItem n
  wrong_at_lem h t = items_wrong n (drop p list) (λ e. omega (arith, length-drop p list, ap length e)) t

  -- a right item at a place of a list stands before those that begin where it ends (§8.18)
  pub right_at : item_right (drop p list) ≡ true
      → items_from n 0 (drop p list) ≡ item_before (first_item (drop p list)) (items_from (suc n) 0 (drop (p + item_size (drop p list)) list))
  right_at t =
      items_step n (drop p list) t
      ∙ ap (λ (l : List ℕ). item_before (first_item (drop p list)) (items_from (suc n) 0 l)) (drop-drop (item_size (drop p list)) p list)
