-- items_read (§7.27, §8.18): what the bytes of a batch's list are read as. They are read as items exactly where they are the bytes of these items one after the
-- other. Any other list begins with the bytes of some items, or of none, and then come bytes that no item begins: there stands the wrong item.
-- item_values: lists by their bytes, and what they are read as.
-- Assumes nothing: these are definitions. The proofs are `items_read` in Laws/Theorem/ItemsRead.antt and `item_values` in Laws/Base/ItemValues.antt.
use Rattle.std.specs.Prelude.{◌≡◌, ◌≢◌, List, [], ◌∷◌, ◌++◌, ℕ, suc, ◌^◌, ◌≤◌, ◌<◌, length, get_or, take, replicate}
use Rattle.laws.specs.Lists.{tab}
use Rattle.laws.specs.Numbers.{high_byte}
use Rattle.file_rules.specs.Arguments.{NamedFile}
use Rattle.file_rules.specs.Items.{Item, removing, adding, Items, WrongItem, read_items}

-- ---- items in bytes

-- the bytes of an item: 1, the length of the name and the name for a remove; 2, the length of the name, the name, the date in four bytes and the length of
-- the data in four bytes, highest first, and the data for an add (§8.18)
unfoldable pub item_bytes : Item → List ℕ
item_bytes (removing name) = 1 ∷ length name ∷ name
item_bytes (adding x) =
    2 ∷ length x.name ∷ (x.name ++ (tab (high_byte 4 x.date) 4 ++ (tab (high_byte 4 (length x.content)) 4 ++ x.content)))

-- the bytes of items one after the other (§8.18)
unfoldable pub list_bytes : List Item → List ℕ
list_bytes [] = []
list_bytes (x ∷ xs) = item_bytes x ++ list_bytes xs

-- an item fits its bytes: the length of its name one byte, its date and the length of its data four (§8.18)
abbrev pub CanBeListed : Item → Type 0
CanBeListed (removing name) = length name ≤ 255
CanBeListed (adding x) = (length x.name ≤ 255) × (x.date < 2 ^ 32) × (length x.content < 2 ^ 32)

-- each of the items fits its bytes (§8.18)
abbrev pub EachCanBeListed : List Item → Type 0
EachCanBeListed [] = Unit {0}
EachCanBeListed (x ∷ xs) = CanBeListed x × EachCanBeListed xs

-- each number of a list is a byte; one that the list does not have counts as 0 (§8.18)
abbrev pub EachIsByte : List ℕ → Type 0
EachIsByte list = (i : ℕ) → get_or list i 0 < 256

-- a list does not begin with the bytes of any item (§7.27)
abbrev pub NoItemFirst : List ℕ → Type 0
NoItemFirst rest = (x : Item) (more : List ℕ) → CanBeListed x → rest ≡ item_bytes x ++ more → ⊥

-- ---- what is promised

-- items_read, for any number of items and bytes (§7.27 §8.18)
pub record ItemsRead : Type 0 where
  -- the bytes of items are read as these items
  pub read_back : (xs : List Item) → EachCanBeListed xs → read_items (list_bytes xs) ≡ Items xs
  -- a list that is read as items is their bytes
  pub written_back : (list : List ℕ) (xs : List Item) → EachIsByte list → read_items list ≡ Items xs → (list_bytes xs ≡ list) × EachCanBeListed xs
  -- after the bytes of items come bytes that are no item's: the wrong item is the one after them
  pub wrong_read : (ys : List Item) (rest : List ℕ) → EachCanBeListed ys → EachIsByte rest → rest ≢ [] → NoItemFirst rest
      → read_items (list_bytes ys ++ rest) ≡ WrongItem (suc (length ys))
  -- a list with a wrong item is the bytes of the items before it, and then bytes that are no item's
  pub wrong_only : (list : List ℕ) (n : ℕ) → EachIsByte list → read_items list ≡ WrongItem n
      → (ys : List Item) × (rest : List ℕ) × EachCanBeListed ys × (list ≡ list_bytes ys ++ rest) × (n ≡ suc (length ys)) × (rest ≢ []) × NoItemFirst rest

-- ---- by value

-- the remove of the name ab (§8.18)
unfoldable pub remove_ab : List ℕ
remove_ab = 0x01 ∷ 0x02 ∷ 0x61 ∷ 0x62 ∷ []

-- the add of the name c with date 01020304 (hex) and the data D1 D2 D3 (§8.18)
unfoldable pub add_c : List ℕ
add_c = 0x02 ∷ 0x01 ∷ 0x63 ∷ 0x01 ∷ 0x02 ∷ 0x03 ∷ 0x04 ∷ 0x00 ∷ 0x00 ∷ 0x00 ∷ 0x03 ∷ 0xD1 ∷ 0xD2 ∷ 0xD3 ∷ []

-- an add of the name c with date 0 up to the length of its data (§8.18)
unfoldable pub add_front : List ℕ
add_front = 0x02 ∷ 0x01 ∷ 0x63 ∷ 0x00 ∷ 0x00 ∷ 0x00 ∷ 0x00 ∷ []

-- the file c with this date and these data (§8.18)
unfoldable pub file_c : ℕ → List ℕ → NamedFile
file_c date content = record { name = 0x63 ∷ []; date = date; content = content }

-- item_values (§7.27 §8.18)
pub record ItemValues : Type 0 where
  -- a remove and an add, and the other way round, as they are read and as they are written
  pub remove_add : read_items (remove_ab ++ add_c) ≡ Items (removing (0x61 ∷ 0x62 ∷ []) ∷ adding (file_c 0x01020304 (0xD1 ∷ 0xD2 ∷ 0xD3 ∷ [])) ∷ [])
  pub add_remove : read_items (add_c ++ remove_ab) ≡ Items (adding (file_c 0x01020304 (0xD1 ∷ 0xD2 ∷ 0xD3 ∷ [])) ∷ removing (0x61 ∷ 0x62 ∷ []) ∷ [])
  pub written_so : list_bytes (removing (0x61 ∷ 0x62 ∷ []) ∷ adding (file_c 0x01020304 (0xD1 ∷ 0xD2 ∷ 0xD3 ∷ [])) ∷ []) ≡ remove_ab ++ add_c
  -- the empty list has no item; an add without data; an add with 258 bytes of data
  pub no_items : read_items [] ≡ Items []
  pub no_data : read_items (add_front ++ (0x00 ∷ 0x00 ∷ 0x00 ∷ 0x00 ∷ [])) ≡ Items (adding (file_c 0 []) ∷ [])
  pub long_data : read_items (add_front ++ (0x00 ∷ 0x00 ∷ 0x01 ∷ 0x02 ∷ replicate 258 0xD1)) ≡ Items (adding (file_c 0 (replicate 258 0xD1)) ∷ [])
  -- names of 0, 37 and 255 bytes are read; whether a name is accepted is no matter of the list
  pub no_name : read_items (0x01 ∷ 0x00 ∷ []) ≡ Items (removing [] ∷ [])
  pub add_no_name : read_items (0x02 ∷ replicate 9 0x00) ≡ Items (adding (record { name = []; date = 0; content = [] }) ∷ [])
  pub name_37 : read_items (0x01 ∷ 37 ∷ replicate 37 0x61) ≡ Items (removing (replicate 37 0x61) ∷ [])
  pub name_255 : read_items (0x01 ∷ 0xFF ∷ replicate 255 0x61) ≡ Items (removing (replicate 255 0x61) ∷ [])
  -- wrong: a kind that is 0 or 3 or FF, alone and with bytes after it
  pub kind_0 : (read_items (0x00 ∷ []) ≡ WrongItem 1) × (read_items (0x00 ∷ replicate 9 0x00) ≡ WrongItem 1)
  pub kind_3 : (read_items (0x03 ∷ []) ≡ WrongItem 1) × (read_items (0x03 ∷ replicate 9 0x00) ≡ WrongItem 1)
  pub kind_255 : (read_items (0xFF ∷ []) ≡ WrongItem 1) × (read_items (0xFF ∷ replicate 9 0x00) ≡ WrongItem 1)
  -- wrong: a remove and an add that are cut after the kind, and in or before the name
  pub cut_kind : (read_items (take 1 remove_ab) ≡ WrongItem 1) × (read_items (take 1 add_c) ≡ WrongItem 1)
  pub cut_name : (read_items (take 2 remove_ab) ≡ WrongItem 1) × (read_items (take 3 remove_ab) ≡ WrongItem 1) × (read_items (take 2 add_c) ≡ WrongItem 1)
  -- wrong: an add that is cut in or before the date, the length of the data, and the data
  pub cut_date : (read_items (take 3 add_c) ≡ WrongItem 1) × (read_items (take 6 add_c) ≡ WrongItem 1)
  pub cut_length : (read_items (take 7 add_c) ≡ WrongItem 1) × (read_items (take 10 add_c) ≡ WrongItem 1)
  pub cut_data : (read_items (take 11 add_c) ≡ WrongItem 1) × (read_items (take 13 add_c) ≡ WrongItem 1)
  -- wrong: data that end before their length, whichever of its bytes says so
  pub length_most : read_items (add_front ++ (0xFF ∷ 0xFF ∷ 0xFF ∷ 0xFF ∷ 0xD1 ∷ [])) ≡ WrongItem 1
  pub length_high : read_items (add_front ++ (0x01 ∷ 0x00 ∷ 0x00 ∷ 0x01 ∷ 0xD1 ∷ [])) ≡ WrongItem 1
  pub length_second : read_items (add_front ++ (0x00 ∷ 0x01 ∷ 0x00 ∷ 0x01 ∷ 0xD1 ∷ [])) ≡ WrongItem 1
  -- the number of the wrong item: the second, after a remove or an add, and the third; what follows a wrong item does not count
  pub second_wrong : (read_items (remove_ab ++ (0x00 ∷ [])) ≡ WrongItem 2) × (read_items (add_c ++ take 13 add_c) ≡ WrongItem 2)
  pub second_length : read_items (remove_ab ++ (add_front ++ (0xFF ∷ 0xFF ∷ 0xFF ∷ 0xFF ∷ []))) ≡ WrongItem 2
  pub third_wrong : read_items (add_c ++ (remove_ab ++ (0x03 ∷ []))) ≡ WrongItem 3
  pub first_only : read_items (0x00 ∷ remove_ab) ≡ WrongItem 1
