-- The list of a batch (docs/RULES.md, section 8): its bytes read as items, each a remove or an add, or the number of the first wrong one.
-- Assumes nothing: these are definitions.
use Rattle.std.specs.Prelude.{Bool, cond, ◌&&◌, ◌||◌, List, [], ◌∷◌, ℕ, zero, suc, ◌+◌, ◌-◌, leb, eqb, length, get_or, take, drop}
use Rattle.laws.specs.Numbers.{high_first}
use Rattle.file_rules.specs.Arguments.{NamedFile}

-- an item: the remove of a name, or the add of a file (§8.18)
pub data Item : Type 0 where
  removing : List ℕ → Item
  adding : NamedFile → Item

-- ---- the item that a list begins with; a byte that the list does not have counts as 0, and a kind that is none is measured as an add

-- the kind byte 1 is a remove (§8.18)
unfoldable pub is_remove : List ℕ → Bool
is_remove list = eqb (get_or list 0 0) 1

-- the kind byte 2 is an add (§8.18)
unfoldable pub is_add : List ℕ → Bool
is_add list = eqb (get_or list 0 0) 2

-- the length of the name: the byte after the kind (§8.18)
unfoldable pub name_length : List ℕ → ℕ
name_length list = get_or list 1 0

-- where the name ends (§8.18)
unfoldable pub name_end : List ℕ → ℕ
name_end list = 2 + name_length list

-- an add's date: the four bytes after the name, highest first (§8.18)
unfoldable pub item_date : List ℕ → ℕ
item_date list = high_first list (name_end list) 4

-- the length of an add's data: the four bytes after the date, highest first (§8.18)
unfoldable pub data_length : List ℕ → ℕ
data_length list = high_first list (name_end list + 4) 4

-- where an add's data begin (§8.18)
unfoldable pub data_start : List ℕ → ℕ
data_start list = name_end list + 8

-- how many bytes the item has: a remove ends with its name, an add with its data (§8.18)
unfoldable pub item_size : List ℕ → ℕ
item_size list = cond (is_remove list) (name_end list) (data_start list + data_length list)

-- whether the item is right: its kind is 1 or 2, and the list has all its bytes (§7.27)
unfoldable pub item_right : List ℕ → Bool
item_right list = (is_remove list || is_add list) && leb (item_size list) (length list)

-- its name (§8.18)
unfoldable pub item_name : List ℕ → List ℕ
item_name list = take (name_length list) (drop 2 list)

-- the item itself (§8.18)
unfoldable pub first_item : List ℕ → Item
first_item list =
    cond (is_remove list) (removing (item_name list))
    (adding (record { name = item_name list; date = item_date list; content = take (data_length list) (drop (data_start list) list) }))

-- ---- the whole list

-- what a list gives: its items, or the number of the first wrong one (§7.27 §8.18)
pub data ItemList : Type 0 where
  Items : List Item → ItemList
  WrongItem : ℕ → ItemList

-- what a list gives, with an item before its items; a wrong item stays what it is (§8.18)
unfoldable pub item_before : Item → ItemList → ItemList
item_before x (Items xs) = Items (x ∷ xs)
item_before x (WrongItem n) = WrongItem n

-- what a list gives whose first k bytes belong to the item before and are passed over; the item after them has number n (§7.27 §8.18)
unfoldable pub items_from : ℕ → ℕ → List ℕ → ItemList
items_from n k [] = Items []
items_from n (suc k) (b ∷ bs) = items_from n k bs
items_from n zero (b ∷ bs) =
    cond (item_right (b ∷ bs)) (item_before (first_item (b ∷ bs)) (items_from (suc n) (item_size (b ∷ bs) - 1) bs)) (WrongItem n)

-- what a whole list gives; items are numbered from 1 (§7.27 §8.18)
unfoldable pub read_items : List ℕ → ItemList
read_items list = items_from 1 0 list

-- the items of a list, none where one is wrong (§7.27 §9.9)
unfoldable pub items_of : ItemList → List Item
items_of (Items xs) = xs
items_of (WrongItem n) = []
