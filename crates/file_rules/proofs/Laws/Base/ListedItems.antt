-- Items in bytes (ItemsRead.antt): what a list that begins with an item's bytes is read as, what a list that is read as an item begins with, and every list of
-- bytes as the bytes of items and then bytes that are no right item (§7.27, §8.18).
-- Rests on the laws of reading item by item (Items) and of numbers in bytes (laws, Numbers).
use Rattle.std.specs.Prelude.{◌≡◌, refl, ◌≢◌, true, false, ◌||◌, leb, get_or}
use Rattle.std.proofs.Math.Path.{sym, ap, ap₂, subst₂}
use Rattle.std.proofs.Common.{subst, ◌∙◌, take-append-drop, drop-drop, get_or-drop}
use mathlib.Core.List.{List, [], ◌∷◌, ◌++◌, append_assoc}
use Prim.Native.Nat.{ℕ, zero, suc, ◌+◌, ◌^◌, ◌≤◌, ◌<◌}
use native.Mathlib.Omega.{arith}
use Rattle.std.proofs.Math.ListN.{length, take, drop, length-append, length-drop}
use Rattle.std.proofs.Math.Seq.{length-take-le, take-append_seam, drop-append_seam, drop_at}
use Rattle.laws.specs.Lists.{tab}
use Rattle.laws.specs.Numbers.{high_first, high_byte}
use Rattle.laws.specs.Laws.Cases.{by_test}
use Rattle.laws.specs.Laws.Numbers.{high4_stands, high_part, high_small}
use Rattle.laws.specs.Laws.Tab.{tab_length}
use Rattle.laws.specs.Laws.Tests.{le_true, true_le, true_eq, true≢false, cond_true, cond_false, and_left, and_right, or_other}
use Rattle.file_rules.specs.Arguments.{NamedFile}
use Rattle.file_rules.specs.Items.{Item, removing, adding, is_remove, is_add, name_length, name_end, item_date, data_length, data_start, item_size, item_right}
use Rattle.file_rules.specs.Items.{item_name, first_item, Items, WrongItem, item_before, items_from}
use Rattle.file_rules.specs.ItemsRead.{item_bytes, list_bytes, CanBeListed, EachCanBeListed, EachIsByte, NoItemFirst}
use Rattle.file_rules.proofs.Laws.Base.Items.{items_step, items_wrong}

-- ---- a list that begins with the bytes of an item

-- a list begins with a right item, which is x, and then comes more (§8.18)
abbrev pub ReadFirst : List ℕ → Item → List ℕ → Type 0
ReadFirst l x more = (item_right l ≡ true) × (first_item l ≡ x) × (drop (item_size l) l ≡ more)

remove_first : (name more : List ℕ) → ReadFirst (1 ∷ length name ∷ (name ++ more)) (removing name) more
unfolding item_right first_item item_size is_remove is_add name_end name_length item_name
remove_first name more = (
  le_true {a = 2 + length name} {b = length (1 ∷ length name ∷ (name ++ more))} (omega (arith, length-append name more)),
  ap removing (take-append_seam name more),
  drop_at (1 ∷ length name ∷ name) more (2 + length name) (omega arith),
)

-- the four bytes of a number
abbrev four : ℕ → List ℕ
four v = tab (high_byte 4 v) 4

four_long : (v : ℕ) (q : List ℕ) → length (four v ++ q) ≡ 4 + length q
four_long v q = length-append (four v) q ∙ ap (λ (k : ℕ). k + length q) (tab_length (high_byte 4 v) 4)

-- the bytes of an add, and then more
abbrev add_row : NamedFile → List ℕ → List ℕ
add_row x more = 2 ∷ length x.name ∷ (x.name ++ (four x.date ++ (four (length x.content) ++ (x.content ++ more))))

module _ (x : NamedFile) (more : List ℕ) (small : x.date < 2 ^ 32) (short : length x.content < 2 ^ 32) where
  date_stands : item_date (add_row x more) ≡ x.date
  unfolding item_date name_end name_length
  date_stands =
      high4_stands (2 ∷ length x.name ∷ x.name) (four (length x.content) ++ (x.content ++ more)) x.date (2 + length x.name) (omega arith) small

  length_stands : data_length (add_row x more) ≡ length x.content
  unfolding data_length name_end name_length
  length_stands =
      let rest : List ℕ = four (length x.content) ++ (x.content ++ more) in
      let long : length (x.name ++ four x.date) ≡ length x.name + 4 =
      length-append x.name (four x.date) ∙ ap (λ (k : ℕ). length x.name + k) (tab_length (high_byte 4 x.date) 4) in
      ap (λ (r : List ℕ). high_first (2 ∷ length x.name ∷ r) (2 + length x.name + 4) 4) (sym (append_assoc x.name (four x.date) rest))
      ∙ high4_stands (2 ∷ length x.name ∷ (x.name ++ four x.date)) (x.content ++ more) (length x.content) (2 + length x.name + 4)
      (omega arith) short

  data_stand : drop (data_start (add_row x more)) (add_row x more) ≡ x.content ++ more
  unfolding data_start name_end name_length
  data_stand =
      let d : List ℕ = four x.date in
      let n : List ℕ = four (length x.content) in
      let rest : List ℕ = x.content ++ more in
      let seam : x.name ++ (d ++ (n ++ rest)) ≡ x.name ++ (d ++ n) ++ rest =
      ap (λ (r : List ℕ). x.name ++ r) (sym (append_assoc d n rest)) ∙ sym (append_assoc x.name (d ++ n) rest) in
      let long : length (x.name ++ (d ++ n)) ≡ length x.name + 8 =
      length-append x.name (d ++ n) ∙ ap (λ (k : ℕ). length x.name + k) (four_long x.date n ∙ ap (λ (k : ℕ). 4 + k) (tab_length _ 4)) in
      ap (λ (r : List ℕ). drop (2 + length x.name + 8) (2 ∷ length x.name ∷ r)) seam
      ∙ drop_at (2 ∷ length x.name ∷ (x.name ++ (d ++ n))) rest (2 + length x.name + 8) (omega arith)

  row_long : data_start (add_row x more) + data_length (add_row x more) ≤ length (add_row x more)
  unfolding data_start name_end name_length
  row_long =
      let n : List ℕ = four (length x.content) ++ (x.content ++ more) in
      omega (
        arith,
        length_stands,
        length-append x.name (four x.date ++ n),
        four_long x.date n,
        four_long (length x.content) (x.content ++ more),
        length-append x.content more,
      )

  add_first : ReadFirst (add_row x more) (adding x) more
  unfolding item_right first_item item_size is_remove is_add item_name name_length
  add_first =
      let l : List ℕ = add_row x more in
      let name-stands : item_name l ≡ x.name = take-append_seam x.name _ in
      let content-stands : take (data_length l) (drop (data_start l) l) ≡ x.content =
      ap₂ (λ (k : ℕ) (r : List ℕ). take k r) length_stands data_stand ∙ take-append_seam x.content more in (
        le_true {a = data_start l + data_length l} {b = length l} row_long,
        λ i. adding (record { name = name-stands i; date = date_stands i; content = content-stands i }),
        sym (drop-drop (data_length l) (data_start l) l) ∙ ap₂ (λ (k : ℕ) (r : List ℕ). drop k r) length_stands data_stand
            ∙ drop-append_seam x.content more,
      )

add_bytes : (x : NamedFile) (more : List ℕ) → item_bytes (adding x) ++ more ≡ add_row x more
unfolding item_bytes
add_bytes x more =
    let d : List ℕ = four x.date in
    let n : List ℕ = four (length x.content) in
    ap (λ (r : List ℕ). 2 ∷ length x.name ∷ r)
    (append_assoc x.name (d ++ (n ++ x.content)) more
    ∙ ap (λ (r : List ℕ). x.name ++ r) (append_assoc d (n ++ x.content) more ∙ ap (λ (r : List ℕ). d ++ r) (append_assoc n x.content more)))

-- a list that begins with an item's bytes is read as this item, and after it what follows them (§8.18)
pub bytes_first : (x : Item) (more : List ℕ) → CanBeListed x → ReadFirst (item_bytes x ++ more) x more
unfolding item_bytes
bytes_first (removing name) more c = remove_first name more
bytes_first (adding x) more c = subst (λ (l : List ℕ). ReadFirst l (adding x) more) (sym (add_bytes x more)) (add_first x more c.1 c.2)

-- an item has at least two bytes (§8.18)
pub bytes_some : (x : Item) → 2 ≤ length (item_bytes x)
unfolding item_bytes
bytes_some (removing name) = omega arith
bytes_some (adding x) = omega arith

-- ---- a list that is read as an item

part_rest : (n i : ℕ) (l : List ℕ) → take n (drop i l) ++ drop (i + n) l ≡ drop i l
part_rest n i l = ap (λ (r : List ℕ). take n (drop i l) ++ r) (sym (drop-drop n i l)) ∙ take-append-drop n (drop i l)

two_front : (l : List ℕ) (a b : ℕ) → 2 ≤ length l → get_or l 0 0 ≡ a → get_or l 1 0 ≡ b → a ∷ b ∷ drop 2 l ≡ l
two_front [] a b h e f = absurd (omega arith)
two_front (x ∷ []) a b h e f = absurd (omega arith)
two_front (x ∷ y ∷ l) a b h e f = ap₂ (λ (i j : ℕ). i ∷ j ∷ l) (sym e) (sym f)

-- a list is the bytes of x and then its own from place s on, and x can be listed
abbrev Stands : List ℕ → Item → ℕ → Type 0
Stands l x s = (item_bytes x ++ drop s l ≡ l) × CanBeListed x

module _ (l : List ℕ) (bytes : EachIsByte l) where
  name_long : name_end l ≤ length l → length (item_name l) ≡ get_or l 1 0
  unfolding item_name name_end name_length
  name_long h = length-take-le (get_or l 1 0) (drop 2 l) (omega (arith, length-drop 2 l))

  name_first : (k : ℕ) → get_or l 0 0 ≡ k → name_end l ≤ length l → k ∷ length (item_name l) ∷ (item_name l ++ drop (name_end l) l) ≡ l
  unfolding item_name name_end name_length
  name_first k e h =
      ap (λ (r : List ℕ). k ∷ length (item_name l) ∷ r) (part_rest (get_or l 1 0) 2 l)
      ∙ two_front l k (length (item_name l)) (omega arith) e (sym (name_long h))

  name_fits : name_end l ≤ length l → length (item_name l) ≤ 255
  name_fits h = omega (arith, name_long h, bytes 1)

  remove_stands : get_or l 0 0 ≡ 1 → name_end l ≤ length l → Stands l (removing (item_name l)) (name_end l)
  unfolding item_bytes
  remove_stands k h = (name_first 1 k h, name_fits h)

  date_part : name_end l + 4 ≤ length l → (four (item_date l) ≡ take 4 (drop (name_end l) l)) × (item_date l < 2 ^ 32)
  unfolding item_date
  date_part h = (high_part l (name_end l) 4 bytes h, high_small l (name_end l) 4 bytes)

  length_part : name_end l + 4 + 4 ≤ length l → (four (data_length l) ≡ take 4 (drop (name_end l + 4) l)) × (data_length l < 2 ^ 32)
  unfolding data_length
  length_part h = (high_part l (name_end l + 4) 4 bytes h, high_small l (name_end l + 4) 4 bytes)

  content_long : data_start l + data_length l ≤ length l → length (take (data_length l) (drop (data_start l) l)) ≡ data_length l
  content_long h = length-take-le (data_length l) (drop (data_start l) l) (omega (arith, length-drop (data_start l) l))

  length_on : (content rest : List ℕ) → length content ≡ data_length l → content ++ rest ≡ drop (name_end l + 4 + 4) l → name_end l + 4 + 4 ≤ length l
      → four (length content) ++ (content ++ rest) ≡ drop (name_end l + 4) l
  length_on content rest long e h = ap₂ (λ (a b : List ℕ). a ++ b) (ap four long ∙ (length_part h).0) e ∙ part_rest 4 (name_end l + 4) l

  date_on : (rest : List ℕ) → rest ≡ drop (name_end l + 4) l → name_end l + 4 ≤ length l → four (item_date l) ++ rest ≡ drop (name_end l) l
  date_on rest e h = ap₂ (λ (a b : List ℕ). a ++ b) (date_part h).0 e ∙ part_rest 4 (name_end l) l

  add_stands : get_or l 0 0 ≡ 2 → data_start l + data_length l ≤ length l
      → Stands l (adding (record { name = item_name l; date = item_date l; content = take (data_length l) (drop (data_start l) l) }))
      (data_start l + data_length l)
  unfolding data_start
  add_stands k h =
      let content : List ℕ = take (data_length l) (drop (name_end l + 8) l) in
      let rest : List ℕ = drop (name_end l + 8 + data_length l) l in
      let long : length content ≡ data_length l = content_long h in
      let seam : name_end l + 8 ≡ name_end l + 4 + 4 = omega arith in
      let from-data : content ++ rest ≡ drop (name_end l + 4 + 4) l = part_rest (data_length l) (name_end l + 8) l ∙ ap (λ (j : ℕ). drop j l) seam in
      let from-date : four (item_date l) ++ (four (length content) ++ (content ++ rest)) ≡ drop (name_end l) l =
      date_on (four (length content) ++ (content ++ rest)) (length_on content rest long from-data (omega arith)) (omega arith) in (
        add_bytes (record { name = item_name l; date = item_date l; content = content }) rest
            ∙ ap (λ (r : List ℕ). 2 ∷ length (item_name l) ∷ (item_name l ++ r)) from-date ∙ name_first 2 k (omega arith),
        (name_fits (omega arith), (date_part (omega arith)).1, omega (arith, long, (length_part (omega arith)).1)),
      )

  -- a list of bytes that is read as an item begins with the bytes of this item, and the item can be listed (§8.18)
  pub right_bytes : item_right l ≡ true → (item_bytes (first_item l) ++ drop (item_size l) l ≡ l) × CanBeListed (first_item l)
  unfolding item_right item_size first_item is_remove is_add
  right_bytes t =
      let kind = and_left (is_remove l || is_add l) (leb (item_size l) (length l)) t in
      let long : item_size l ≤ length l = true_le (and_right (is_remove l || is_add l) (leb (item_size l) (length l)) t) in
      by_test (is_remove l)
      (λ r.
      let size : item_size l ≡ name_end l = cond_true _ _ r in
      subst₂ (Stands l) (sym (cond_true _ _ r)) (sym size) (remove_stands (true_eq r) (omega (arith, size))))
      (λ r.
      let size : item_size l ≡ data_start l + data_length l = cond_false _ _ r in
      subst₂ (Stands l) (sym (cond_false _ _ r)) (sym size) (add_stands (true_eq (or_other (is_remove l) (is_add l) kind r)) (omega (arith, size))))

-- ---- every list of bytes, cut after its right items

-- a list of bytes as the bytes of items, and then bytes that are no right item, or none (§7.27 §8.18)
pub record CutAfter (l : List ℕ) : Type 0 where
  pub before : List Item
  pub rest : List ℕ
  pub each : EachCanBeListed before
  pub is : l ≡ list_bytes before ++ rest
  pub ends : item_right rest ≡ false

cut_none : (l : List ℕ) → item_right l ≡ false → CutAfter l
unfolding list_bytes
cut_none l t = record { before = []; rest = l; each = tt; is = refl; ends = t }

cut_more : (l : List ℕ) → EachIsByte l → item_right l ≡ true → CutAfter (drop (item_size l) l) → CutAfter l
unfolding list_bytes
cut_more l b t c =
    let first = right_bytes l b t in
    record {
      before = first_item l ∷ c.before;
      rest = c.rest;
      each = (first.1, c.each);
      is = sym first.0 ∙ ap (λ (r : List ℕ). item_bytes (first_item l) ++ r) c.is
          ∙ sym (append_assoc (item_bytes (first_item l)) (list_bytes c.before) c.rest);
      ends = c.ends;
    }

shorter : (l : List ℕ) → EachIsByte l → item_right l ≡ true → length (drop (item_size l) l) < length l
shorter l b t =
    let first = right_bytes l b t in
    omega (arith, ap length first.0, length-append (item_bytes (first_item l)) (drop (item_size l) l), bytes_some (first_item l))

drop_bytes : (l : List ℕ) (k : ℕ) → EachIsByte l → EachIsByte (drop k l)
drop_bytes l k b i = rw (get_or-drop k l i 0) (b (k + i))

cut_below : (m : ℕ) (l : List ℕ) → length l ≤ m → EachIsByte l → CutAfter l
cut_below zero l h b = by_test (item_right l) (λ t. absurd (omega (arith, shorter l b t))) (λ t. cut_none l t)
cut_below (suc m) l h b =
    by_test (item_right l)
    (λ t. cut_more l b t (cut_below m (drop (item_size l) l) (omega (arith, shorter l b t)) (drop_bytes l (item_size l) b)))
    (λ t. cut_none l t)

-- every list of bytes can be cut so (§7.27 §8.18)
pub cut_after : (l : List ℕ) → EachIsByte l → CutAfter l
cut_after l b = cut_below (length l) l (omega arith) b

-- ---- what such lists are read as

items_next : (n : ℕ) (x : Item) (more : List ℕ) → CanBeListed x → items_from n 0 (item_bytes x ++ more) ≡ item_before x (items_from (suc n) 0 more)
items_next n x more c =
    let r = bytes_first x more c in
    items_step n (item_bytes x ++ more) r.0 ∙ ap₂ (λ (y : Item) (l : List ℕ). item_before y (items_from (suc n) 0 l)) r.1 r.2

-- the bytes of items are read as these items (§8.18)
pub list_read : (n : ℕ) (xs : List Item) → EachCanBeListed xs → items_from n 0 (list_bytes xs) ≡ Items xs
unfolding items_from item_before list_bytes
list_read n [] c = refl
list_read n (x ∷ xs) c = items_next n x (list_bytes xs) c.0 ∙ ap (item_before x) (list_read (suc n) xs c.1)

-- after the bytes of items come bytes that are no right item: the wrong item is the one after them (§7.27)
pub then_wrong : (n : ℕ) (ys : List Item) (rest : List ℕ) → EachCanBeListed ys → rest ≢ [] → item_right rest ≡ false
    → items_from n 0 (list_bytes ys ++ rest) ≡ WrongItem (n + length ys)
unfolding item_before list_bytes
then_wrong n [] rest c some t = items_wrong n rest some t ∙ ap WrongItem (omega arith)
then_wrong n (y ∷ ys) rest c some t =
    ap (items_from n 0) (append_assoc (item_bytes y) (list_bytes ys) rest) ∙ items_next n y (list_bytes ys ++ rest) c.0
    ∙ ap (item_before y) (then_wrong (suc n) ys rest c.1 some t) ∙ ap WrongItem (omega arith)

-- ---- no item stands first

-- bytes that do not begin with the bytes of any item are no right item (§7.27)
pub none_wrong : (rest : List ℕ) → EachIsByte rest → NoItemFirst rest → item_right rest ≡ false
none_wrong rest b none =
    by_test (item_right rest)
    (λ t. let first = right_bytes rest b t in absurd (none (first_item rest) (drop (item_size rest) rest) first.1 (sym first.0)))
    (λ t. t)

-- bytes that are no right item do not begin with the bytes of any item (§7.27)
pub none_first : (rest : List ℕ) → item_right rest ≡ false → NoItemFirst rest
none_first rest t x more c e = true≢false (item_right rest) (ap item_right e ∙ (bytes_first x more c).0) t
