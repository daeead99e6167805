-- batch_is_calls (docs/PROMISES.md; §8.19): a batch gives the reply and the image of the single calls of its items, made in turn until one is refused, for
-- every image, every list and any disk. Beside it stands what is judged before any item is tried. What the single calls are says calls_made (History.antt).
-- Assumes nothing: these are definitions. The proof is `batch_is_calls` in Laws/Theorem/BatchIsCalls.antt.
use Rattle.std.specs.Prelude.{◌≡◌, ◌≢◌, ◌⊎◌, List, [], ◌∷◌, ◌++◌, ℕ, suc, length}
use Rattle.sector_rules.specs.Geometry.{image_bytes}
use Rattle.sector_rules.specs.Replies.{reply_with}
use Rattle.sector_rules.specs.declared.Reply.{Reply}
use Rattle.file_rules.specs.Batch.{batch}
use Rattle.file_rules.specs.Calls.{Outcome}
use Rattle.file_rules.specs.Histories.{Call, to_add, to_remove, image_out, image_outs, image_end}
use Rattle.file_rules.specs.Items.{Item, removing, adding, Items, WrongItem, read_items}
use Rattle.file_rules.specs.Refusals.{Refuses}

-- the single call that an item stands for (§8.19)
unfoldable pub call_of : Item → Call
call_of (removing name) = to_remove name
call_of (adding x) = to_add x

-- the single calls of items, in order (§8.19)
unfoldable pub calls_of : List Item → List Call
calls_of [] = []
calls_of (x ∷ xs) = call_of x ∷ calls_of xs

-- every one of these calls is done: its reply has the number 0 (§7.17)
abbrev pub AllDone : List Outcome → Type 0
AllDone [] = Unit {0}
AllDone (o ∷ os) = (o.answer.number ≡ 0) × AllDone os

-- these items as single calls on the image, each on what the one before left, are all done (§8.19)
abbrev pub AllDoneOn : List ℕ → List Item → Type 0
AllDoneOn image xs = AllDone (image_outs image (calls_of xs))

-- the reply of item x as a single call after the single calls of the items before it (§8.19)
abbrev pub reply_after : List ℕ → List Item → Item → Reply
reply_after image ys x = (image_out (image_end image (calls_of ys)) (call_of x)).answer

-- a refused item after others that are done, and the items after it (§8.19)
pub record FirstRefused (image : List ℕ) (xs : List Item) : Type 0 where
  pub before : List Item
  pub item : Item
  pub after : List Item
  pub in_order : xs ≡ before ++ item ∷ after
  pub before_done : AllDoneOn image before
  pub refused : Refuses (reply_after image before item)

-- batch_is_calls: the reply and every byte of the image (§8.19)
pub record BatchIsCalls : Type 0 where
  -- 1 comes first, whatever the list is; nothing changes (§7.1)
  pub other_length : (image list : List ℕ) → length image ≢ image_bytes → batch image list ≡ record { answer = reply_with 1 2 0 0; image = image }
  -- then 20, whose third place names the first wrong item, whatever the disk and the items before it are; nothing changes (§7.27)
  pub wrong_list : (image list : List ℕ) (n : ℕ) → length image ≡ image_bytes → read_items list ≡ WrongItem n
      → batch image list ≡ record { answer = reply_with 20 0 0 n; image = image }
  -- an empty list is done on any disk
  pub empty_list : (image : List ℕ) → length image ≡ image_bytes → batch image [] ≡ record { answer = reply_with 0 0 0 0; image = image }
  -- where every single call is done the batch is done, with no place, and the image is the one that they leave
  pub all_done : (image list : List ℕ) (xs : List Item) → length image ≡ image_bytes → read_items list ≡ Items xs → AllDoneOn image xs
      → batch image list ≡ record { answer = reply_with 0 0 0 0; image = image_end image (calls_of xs) }
  -- where one is refused the batch has its number and its first two places, and in the third the item's number, from 1; the image is the one that the calls
  -- before it leave: they stand, the refused item changes no byte, and those after it are not tried
  pub first_refusal : (image list : List ℕ) (xs : List Item) → length image ≡ image_bytes → read_items list ≡ Items xs → (f : FirstRefused image xs)
      → batch image list
      ≡ record {
        answer =
            let r : Reply = reply_after image f.before f.item in
            reply_with r.number r.first r.second (suc (length f.before));
        image = image_end image (calls_of f.before);
      }
  -- on every image every list of items is of one of these two kinds
  pub one_or_other : (image : List ℕ) (xs : List Item) → AllDoneOn image xs ⊎ FirstRefused image xs
