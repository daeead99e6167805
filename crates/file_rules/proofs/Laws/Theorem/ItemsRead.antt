-- How the bytes of a batch's list are read (§7.27, §8.18): the proof of items_read (ItemsRead.antt).
-- Rests on every list of bytes being cut after its right items (Base/ListedItems).
use Rattle.std.specs.Prelude.{◌≡◌, refl, ◌≢◌, Bool, true, false, ℕ, suc, length}
use Rattle.std.proofs.Common.{sym, subst, ◌∙◌, arith}
use Rattle.std.proofs.Math.Path.{ap}
use mathlib.Core.List.{List, [], ◌∷◌, ◌++◌, append-nil, cons≢nil}
use Rattle.laws.specs.Laws.Tests.{true≢false}
use Rattle.file_rules.specs.Items.{Item, ItemList, Items, WrongItem, read_items, items_of}
use Rattle.file_rules.specs.ItemsRead.{list_bytes, EachCanBeListed, EachIsByte, NoItemFirst, ItemsRead}
use Rattle.file_rules.proofs.Laws.Base.ListedItems.{CutAfter, cut_after, list_read, then_wrong, none_wrong, none_first}

-- ---- items and a wrong item are told apart

all_right : ItemList → Bool
all_right (Items xs) = true
all_right (WrongItem n) = false

wrong_of : ItemList → ℕ
wrong_of (Items xs) = 0
wrong_of (WrongItem n) = n

not_both : {X : Type 0} (r : ItemList) (xs : List Item) (n : ℕ) → r ≡ Items xs → r ≡ WrongItem n → X
unfolding all_right
not_both r xs n e f = true≢false (all_right r) (ap all_right e) (ap all_right f)

same_items : (r : ItemList) (xs ys : List Item) → r ≡ Items xs → r ≡ Items ys → ys ≡ xs
unfolding items_of
same_items r xs ys e f = ap items_of (sym f ∙ e)

same_wrong : (r : ItemList) (m n : ℕ) → r ≡ WrongItem m → r ≡ WrongItem n → m ≡ n
unfolding wrong_of
same_wrong r m n e f = ap wrong_of (sym e ∙ f)

by_rest : {P : Type 0} (rest : List ℕ) → (rest ≡ [] → P) → (rest ≢ [] → P) → P
by_rest [] f g = f refl
by_rest (b ∷ bs) f g = g (λ e. cons≢nil e)

-- ---- a list that is cut after its right items

module _ (list : List ℕ) (c : CutAfter list) where
  all_items : c.rest ≡ [] → list_bytes c.before ≡ list
  all_items e = sym (c.is ∙ ap (λ (r : List ℕ). list_bytes c.before ++ r) e ∙ append-nil (list_bytes c.before))

  read_all : c.rest ≡ [] → read_items list ≡ Items c.before
  unfolding read_items
  read_all e = ap read_items (sym (all_items e)) ∙ list_read 1 c.before c.each

  read_wrong : c.rest ≢ [] → read_items list ≡ WrongItem (suc (length c.before))
  unfolding read_items
  read_wrong some = ap read_items c.is ∙ then_wrong 1 c.before c.rest c.each some c.ends ∙ ap WrongItem (omega arith)

-- ---- the parts

back : (xs : List Item) → EachCanBeListed xs → read_items (list_bytes xs) ≡ Items xs
unfolding read_items
back xs c = list_read 1 xs c

wrong : (ys : List Item) (rest : List ℕ) → EachCanBeListed ys → EachIsByte rest → rest ≢ [] → NoItemFirst rest
    → read_items (list_bytes ys ++ rest) ≡ WrongItem (suc (length ys))
unfolding read_items
wrong ys rest c b some none = then_wrong 1 ys rest c some (none_wrong rest b none) ∙ ap WrongItem (omega arith)

written : (list : List ℕ) (xs : List Item) → EachIsByte list → read_items list ≡ Items xs → (list_bytes xs ≡ list) × EachCanBeListed xs
written list xs b e =
    let c : CutAfter list = cut_after list b in
    by_rest c.rest
    (λ none.
    subst (λ (ys : List Item). (list_bytes ys ≡ list) × EachCanBeListed ys) (same_items (read_items list) xs c.before e (read_all list c none))
    (all_items list c none, c.each))
    (λ some. not_both (read_items list) xs (suc (length c.before)) e (read_wrong list c some))

only : (list : List ℕ) (n : ℕ) → EachIsByte list → read_items list ≡ WrongItem n
    → (ys : List Item) × (rest : List ℕ) × EachCanBeListed ys × (list ≡ list_bytes ys ++ rest) × (n ≡ suc (length ys)) × (rest ≢ []) × NoItemFirst rest
only list n b e =
    let c : CutAfter list = cut_after list b in
    by_rest c.rest
    (λ none. not_both (read_items list) c.before n (read_all list c none) e)
    (λ some. (
      c.before,
      c.rest,
      c.each,
      c.is,
      same_wrong (read_items list) n (suc (length c.before)) e (read_wrong list c some),
      some,
      none_first c.rest c.ends,
    ))

-- items_read: which items, or which wrong item, a list's bytes are read as
pub items_read : ItemsRead
items_read = record { read_back = back; written_back = written; wrong_read = wrong; wrong_only = only }
