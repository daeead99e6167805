-- batch_is_calls: by induction on the items, each of which is its single call; a refused one leaves the image (Refusals).
use Rattle.std.specs.Prelude.{◌≡◌, ◌≢◌, ◌⊎◌, List, [], ◌∷◌, ◌++◌, ℕ, suc, ◌+◌, length}
use Rattle.std.proofs.Math.Path.{refl}
use Rattle.std.proofs.Common.{sym, ap, ◌∙◌, subst, inl, inr, ⊎_elim, arith}
use Rattle.laws.specs.Laws.Cases.{by_equal}
use Rattle.laws.specs.Laws.Tests.{eq_true, eq_false, cond_true, cond_false}
use Rattle.sector_rules.specs.Geometry.{image_bytes}
use Rattle.sector_rules.specs.Replies.{reply_with, done}
use Rattle.sector_rules.specs.declared.Reply.{Reply}
use Rattle.file_rules.specs.Batch.{item_call, at_item, items_in_turn, batch_of, batch}
use Rattle.file_rules.specs.BatchIsCalls.{call_of, calls_of, AllDoneOn, reply_after, FirstRefused, BatchIsCalls}
use Rattle.file_rules.specs.Calls.{ImageChanged, buffer_kept, image_kept, image_right}
use Rattle.file_rules.specs.Histories.{image_out, image_step, image_outs, image_end}
use Rattle.file_rules.specs.Items.{Item, removing, adding, ItemList, Items, WrongItem, items_from, read_items}
use Rattle.file_rules.proofs.Laws.Theorem.Refusals.{add_unchanged, remove_unchanged}
use Rattle.file_rules.specs.Refusals.{Refuses}

-- ---- one item

out_of : (image : List ℕ) (x : Item) → (image_out image (call_of x)).answer ≡ (item_call image x).answer
unfolding image_out call_of item_call buffer_kept
out_of image (removing name) = refl
out_of image (adding x) = refl

step_of : (image : List ℕ) (x : Item) → image_step image (call_of x) ≡ (item_call image x).image
unfolding image_step call_of item_call
step_of image (removing name) = refl
step_of image (adding x) = refl

item_unchanged : (image : List ℕ) (x : Item) → Refuses (item_call image x).answer → (item_call image x).image ≡ image
unfolding item_call
item_unchanged image (removing name) n = remove_unchanged image name n
item_unchanged image (adding x) n = add_unchanged image x.name x.date x.content n

-- ---- items in turn

-- an item that is done goes before what the others give
item_done : (image : List ℕ) (n : ℕ) (x : Item) (xs : List Item) → (image_out image (call_of x)).answer.number ≡ 0
    → items_in_turn image n (x ∷ xs) ≡ items_in_turn (image_step image (call_of x)) (suc n) xs
unfolding items_in_turn
item_done image n x xs e =
    cond_true _ _ (eq_true (ap (λ (r : Reply). r.number) (sym (out_of image x)) ∙ e)) ∙ ap (λ (i : List ℕ). items_in_turn i (suc n) xs) (sym (step_of image x))

-- an item that is refused ends them
item_refused : (image : List ℕ) (n : ℕ) (x : Item) (xs : List Item) → Refuses (image_out image (call_of x)).answer
    → items_in_turn image n (x ∷ xs) ≡ record { answer = at_item n (image_out image (call_of x)).answer; image = image }
unfolding items_in_turn
item_refused image n x xs h =
    let refuses : Refuses (item_call image x).answer = subst Refuses (out_of image x) h in
    cond_false _ _ (eq_false refuses)
    ∙ ap (λ (i : List ℕ). record { answer = at_item n (item_call image x).answer; image = i }) (item_unchanged image x refuses)
    ∙ ap (λ (r : Reply). record { answer = at_item n r; image = image }) (sym (out_of image x))

all_in_turn : (xs : List Item) (n : ℕ) (image : List ℕ) → AllDoneOn image xs
    → items_in_turn image n xs ≡ record { answer = done; image = image_end image (calls_of xs) }
unfolding image_outs image_end calls_of
all_in_turn [] n image h = unfold items_in_turn in refl
all_in_turn (x ∷ xs) n image h = item_done image n x xs h.0 ∙ all_in_turn xs (suc n) (image_step image (call_of x)) h.1

-- the reply and the image where item x, after the ys from number n on, is refused
abbrev refused_at : List ℕ → ℕ → List Item → Item → ImageChanged
refused_at image k ys x = record { answer = at_item k (reply_after image ys x); image = image_end image (calls_of ys) }

first_in_turn : (ys : List Item) (x : Item) (zs : List Item) (n : ℕ) (image : List ℕ) → AllDoneOn image ys → Refuses (reply_after image ys x)
    → items_in_turn image n (ys ++ x ∷ zs) ≡ refused_at image (n + length ys) ys x
unfolding image_outs image_end calls_of
first_in_turn [] x zs n image h r =
    let k : n ≡ n + length {A = Item} [] = omega arith in
    item_refused image n x zs r ∙ ap (λ (j : ℕ). record { answer = at_item j (image_out image (call_of x)).answer; image = image }) k
first_in_turn (y ∷ ys) x zs n image h r =
    let k : suc n + length ys ≡ n + length (y ∷ ys) = omega arith in
    item_done image n y (ys ++ x ∷ zs) h.0 ∙ first_in_turn ys x zs (suc n) (image_step image (call_of y)) h.1 r
    ∙ ap (λ (j : ℕ). refused_at (image_step image (call_of y)) j ys x) k

either : (xs : List Item) (image : List ℕ) → AllDoneOn image xs ⊎ FirstRefused image xs
unfolding image_outs image_end calls_of
either [] image = inl tt
either (x ∷ xs) image =
    by_equal (image_out image (call_of x)).answer.number 0
    (λ e. ⊎_elim (λ (h : AllDoneOn (image_step image (call_of x)) xs). inl (e, h))
    (λ (f : FirstRefused (image_step image (call_of x)) xs). inr (record {
      before = x ∷ f.before;
      item = f.item;
      after = f.after;
      in_order = ap (λ (ys : List Item). x ∷ ys) f.in_order;
      before_done = (e, f.before_done);
      refused = f.refused;
    })) (either xs (image_step image (call_of x))))
    (λ e. inr (record { before = []; item = x; after = xs; in_order = refl; before_done = tt; refused = e }))

-- ---- the whole

long_batch : (image list : List ℕ) → length image ≡ image_bytes → batch image list ≡ batch_of image (read_items list)
unfolding batch image_right
long_batch image list long = cond_true _ _ (eq_true long)

read_batch : (image list : List ℕ) (l : ItemList) → length image ≡ image_bytes → read_items list ≡ l → batch image list ≡ batch_of image l
read_batch image list l long e = long_batch image list long ∙ ap (batch_of image) e

other_long : (image list : List ℕ) → length image ≢ image_bytes → batch image list ≡ record { answer = reply_with 1 2 0 0; image = image }
unfolding batch image_right image_kept
other_long image list h = cond_false _ _ (eq_false h)

wrong : (image list : List ℕ) (n : ℕ) → length image ≡ image_bytes → read_items list ≡ WrongItem n
    → batch image list ≡ record { answer = reply_with 20 0 0 n; image = image }
unfolding batch_of image_kept
wrong image list n long e = read_batch image list (WrongItem n) long e

empty : (image : List ℕ) → length image ≡ image_bytes → batch image [] ≡ record { answer = reply_with 0 0 0 0; image = image }
unfolding read_items items_from batch_of items_in_turn
empty image long = long_batch image [] long

items : (image list : List ℕ) (xs : List Item) → length image ≡ image_bytes → read_items list ≡ Items xs → batch image list ≡ items_in_turn image 1 xs
unfolding batch_of
items image list xs long e = read_batch image list (Items xs) long e

refused_first : (image : List ℕ) (ys : List Item) (x : Item) (zs : List Item) → AllDoneOn image ys → Refuses (reply_after image ys x)
    → items_in_turn image 1 (ys ++ x ∷ zs)
    ≡ record {
      answer = let r : Reply = reply_after image ys x in reply_with r.number r.first r.second (suc (length ys));
      image = image_end image (calls_of ys);
    }
unfolding at_item
refused_first image ys x zs h r =
    let k : 1 + length ys ≡ suc (length ys) = omega arith in first_in_turn ys x zs 1 image h r ∙ ap (λ (j : ℕ). refused_at image j ys x) k

-- a batch gives what the single calls of its items give, made in turn until one is refused
pub batch_is_calls : BatchIsCalls
batch_is_calls =
    record {
      other_length = other_long;
      wrong_list = wrong;
      empty_list = empty;
      all_done = λ image list xs long e h. items image list xs long e ∙ all_in_turn xs 1 image h;
      first_refusal = λ image list xs long e f.
          items image list xs long e ∙ ap (items_in_turn image 1) f.in_order
          ∙ refused_first image f.before f.item f.after f.before_done f.refused;
      one_or_other = λ image xs. either xs image;
    }
