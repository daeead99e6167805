-- The item that a list begins with, as the code reads it: field by field, each from the bytes that are left.
-- Rests on the laws of a batch's list (file_rules, Laws.Base.Items).
use Rattle.std.specs.Prelude.{◌≡◌, ◌≢◌, true, false, ◌||◌, List, Option, Some, None, ℕ, ◌+◌, ◌-◌, ◌≤◌, ◌<◌, leb, length, get_or, take, drop}
use Rattle.std.specs.List.{IsSplitAt}
use Rattle.std.proofs.Common.{sym, ◌∙◌, arith, length-drop, take_all, get_or-take, get_or-drop, drop-drop}
use Rattle.std.proofs.Math.Path.{ap}
use denote.Ref.{Bor}
use Rattle.laws.specs.Lists.{element_at}
use Rattle.laws.specs.Numbers.{high_first}
use Rattle.laws.specs.Laws.Cases.{by_test}
use Rattle.laws.specs.Laws.Tests.{eq_true, eq_false, le_true, cond_true, cond_false, and_true, or_left, or_right, or_none, and_false_left}
use Rattle.laws.specs.Laws.Numbers.{big_ext}
use Rattle.file_rules.specs.Items.{Item, removing, adding, is_remove, is_add, name_length, name_end, item_date, data_length, data_start}
use Rattle.file_rules.specs.Items.{item_size, item_right, item_name, first_item}
use Rattle.file_rules.proofs.Laws.Base.Items.{size_least, name_within, right_within, remove_size, add_size, start_within}
use Rattle.files.specs.declared.batching.BatchItem.{BatchItem}
use Rattle.files.specs.declared.batching.BatchItem.TheVariants.{Remove, Add}

-- the item that the code read (§8.18)
unfoldable pub item_of : BatchItem → Item
item_of (Remove name) = removing name.now
item_of (Add name date content) = adding (record { name = name.now; date = date; content = content.now })

-- what reading the first item of a list gives: it and the list after it, or nothing where it is wrong (§7.27 §8.18)
abbrev pub SplitItem : List ℕ → Option (BatchItem × Bor (List ℕ)) → Type 0
SplitItem list None = item_right list ≡ false
SplitItem list (Some p) = (item_right list ≡ true) × (item_of p.0 ≡ first_item list) × (p.1.now ≡ drop (item_size list) list)

-- the bytes from place p on, as the code lends them
abbrev rest_at : ℕ → List ℕ → List ℕ
rest_at p list = take (length list - p) (drop p list)

rest_is : (p : ℕ) (list : List ℕ) → rest_at p list ≡ drop p list
rest_is p list = take_all (length list - p) (drop p list) (omega (arith, length-drop p list))

module _ (list : List ℕ) where
  -- an item of which the list does not have all bytes is wrong (§7.27)
  pub past_wrong : length list < item_size list → item_right list ≡ false
  past_wrong h = by_test (item_right list) (λ t. absurd (omega (arith, right_within list t))) (λ f. f)

  -- so is one without a kind and a length of its name
  pub short_wrong : length list < 2 → item_right list ≡ false
  short_wrong h = past_wrong (omega (arith, size_least list))

  -- an item of which the list has all bytes is right (§7.27)
  whole_right : (is_remove list || is_add list) ≡ true → item_size list ≤ length list → item_right list ≡ true
  unfolding item_right
  whole_right t h = and_true {a = is_remove list || is_add list} {b = leb (item_size list) (length list)} t (le_true h)

  -- the numbers of the two kinds (§8.18)
  kind_remove : get_or list 0 0 ≡ 1 → is_remove list ≡ true
  unfolding is_remove
  kind_remove e = eq_true e

  kind_other : get_or list 0 0 ≢ 1 → is_remove list ≡ false
  unfolding is_remove
  kind_other e = eq_false e

  kind_add : get_or list 0 0 ≡ 2 → is_add list ≡ true
  unfolding is_add
  kind_add e = eq_true e

  -- an item of another kind is wrong (§7.27)
  pub kind_wrong : get_or list 0 0 ≢ 1 → get_or list 0 0 ≢ 2 → item_right list ≡ false
  unfolding item_right is_add
  kind_wrong a b = and_false_left (leb (item_size list) (length list)) (or_none (is_remove list) (is_add list) (kind_other a) (eq_false b))

  module _ (two : 2 ≤ length list) (n : ℕ) (e : n ≡ get_or list 1 0) where
    named : name_length list ≡ n
    unfolding name_length
    named = sym e

    ends : name_end list ≡ 2 + n
    unfolding name_end
    ends = ap (λ (k : ℕ). 2 + k) named

    left : length (rest_at 2 list) ≡ length list - 2
    left = ap length (rest_is 2 list) ∙ length-drop 2 list

    -- an item whose name the list does not have is wrong (§7.27)
    pub name_wrong : length (rest_at 2 list) < n → item_right list ≡ false
    name_wrong h = past_wrong (omega (arith, left, ends, name_within list))

    module _ (name rest : Bor (List ℕ)) (s : IsSplitAt (rest_at 2 list) n name.now rest.now) where
      name_is : name.now ≡ item_name list
      unfolding item_name
      name_is = s.1 ∙ ap (take n) (rest_is 2 list) ∙ ap (λ (m : ℕ). take m (drop 2 list)) (sym named)

      rest_from : rest.now ≡ drop (name_end list) list
      rest_from = s.2 ∙ ap (drop n) (rest_is 2 list) ∙ drop-drop n 2 list ∙ ap (λ (p : ℕ). drop p list) (sym ends)

      rest_long : length rest.now + name_end list ≡ length list
      rest_long = omega (arith, s.4, left, ends, two)

      -- a remove is read (§8.18)
      pub remove_read : get_or list 0 0 ≡ 1 → SplitItem list (Some (Remove name, rest))
      unfolding item_of first_item
      remove_read k =
          let t : is_remove list ≡ true = kind_remove k in
          let z : item_size list ≡ name_end list = remove_size list t in (
            whole_right (or_left (is_remove list) (is_add list) t) (omega (arith, rest_long)),
            ap removing name_is ∙ sym (cond_true _ _ t),
            rest_from ∙ ap (λ (p : ℕ). drop p list) (sym z),
          )

      module _ (k : get_or list 0 0 ≡ 2) where
        added : is_remove list ≡ false
        added = kind_other (λ q. omega arith)

        -- an add whose date and length of data the list does not have is wrong (§7.27)
        pub fields_wrong : length rest.now < 8 → item_right list ≡ false
        fields_wrong h = past_wrong (omega (arith, rest_long, start_within list added))

        module _ (fields more : Bor (List ℕ)) (u : IsSplitAt rest.now 8 fields.now more.now) where
          field_is : (o : ℕ) → o ≤ 4 → high_first fields.now o 4 ≡ high_first list (name_end list + o) 4
          unfolding high_first element_at
          field_is o h =
              big_ext (λ (i : ℕ). get_or fields.now (o + i) 0) (λ (i : ℕ). get_or list (name_end list + o + i) 0) 4
              (λ i l.
              let q : name_end list + (o + i) ≡ name_end list + o + i = omega arith in
              ap (λ (m : List ℕ). get_or m (o + i) 0) (u.1 ∙ ap (take 8) rest_from)
              ∙ get_or-take 8 (drop (name_end list) list) (o + i) 0 (omega arith)
              ∙ get_or-drop (name_end list) list (o + i) 0
              ∙ ap (λ (x : ℕ). get_or list x 0) q)

          more_from : more.now ≡ drop (name_end list + 8) list
          more_from = u.2 ∙ ap (drop 8) rest_from ∙ drop-drop 8 (name_end list) list

          module _ (date size : ℕ) (d : date ≡ high_first fields.now 0 4) (z : size ≡ high_first fields.now 4 4) where
            date_is : date ≡ item_date list
            unfolding item_date
            date_is = let q : name_end list + 0 ≡ name_end list = omega arith in d ∙ field_is 0 (omega arith) ∙ ap (λ (p : ℕ). high_first list p 4) q

            data_is : size ≡ data_length list
            unfolding data_length
            data_is = z ∙ field_is 4 (omega arith)

            sized : item_size list ≡ name_end list + 8 + size
            unfolding data_start
            sized = add_size list added ∙ ap (λ (m : ℕ). name_end list + 8 + m) (sym data_is)

            -- an add whose data the list does not have is wrong (§7.27)
            pub content_wrong : length more.now < size → item_right list ≡ false
            content_wrong h = past_wrong (omega (arith, rest_long, u.4, sized))

            module _ (content after : Bor (List ℕ)) (v : IsSplitAt more.now size content.now after.now) where
              content_is : content.now ≡ take (data_length list) (drop (data_start list) list)
              unfolding data_start
              content_is = v.1 ∙ ap (take size) more_from ∙ ap (λ (m : ℕ). take m (drop (name_end list + 8) list)) data_is

              -- an add is read (§8.18)
              pub add_read : SplitItem list (Some (Add name date content, after))
              unfolding item_of first_item
              add_read = (
                whole_right (or_right (is_remove list) (is_add list) (kind_add k)) (omega (arith, rest_long, u.4, v.4, sized)),
                rw (name_is, date_is, content_is) (sym (cond_false _ _ added)),
                v.2 ∙ ap (drop size) more_from ∙ drop-drop size (name_end list + 8) list ∙ ap (λ (p : ℕ). drop p list) (sym sized),
              )
