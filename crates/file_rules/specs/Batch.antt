-- The call batch (docs/RULES.md, section 8): the items of a list, each as its single call, until one is refused; for any image and any list.
-- Assumes nothing: these are definitions.
use Rattle.std.specs.Prelude.{cond, List, [], ◌∷◌, ℕ, suc, eqb}
use Rattle.sector_rules.specs.Replies.{reply_with, done, wrong_length}
use Rattle.sector_rules.specs.declared.Reply.{Reply}
use Rattle.file_rules.specs.Calls.{ImageChanged, image_kept, image_right, add, remove}
use Rattle.file_rules.specs.Items.{Item, removing, adding, ItemList, Items, WrongItem, read_items}

-- the single call of an item (§8.19)
unfoldable pub item_call : List ℕ → Item → ImageChanged
item_call image (removing name) = remove image name
item_call image (adding x) = add image x.name x.date x.content

-- a refusal with its own number and first two places, and the item's number as its third place (§8.19)
unfoldable pub at_item : ℕ → Reply → Reply
at_item n r = reply_with r.number r.first r.second n

-- the items from number n on, each on the image that the one before left; after a refusal none is tried (§8.19)
unfoldable pub items_in_turn : List ℕ → ℕ → List Item → ImageChanged
items_in_turn image n [] = record { answer = done; image = image }
items_in_turn image n (x ∷ xs) =
    let one : ImageChanged = item_call image x in
    cond (eqb one.answer.number 0) (items_in_turn one.image (suc n) xs) (record { answer = at_item n one.answer; image = one.image })

-- what is done with a list: 20, which names the first wrong item, or the items in turn (§7.27 §8.19)
unfoldable pub batch_of : List ℕ → ItemList → ImageChanged
batch_of image (Items xs) = items_in_turn image 1 xs
batch_of image (WrongItem n) = image_kept image (reply_with 20 0 0 n)

-- the call batch: 1 (§7.1), then the whole list is read before an item is tried (§8.19)
unfoldable pub batch : List ℕ → List ℕ → ImageChanged
batch image list = cond (image_right image) (batch_of image (read_items list)) (image_kept image wrong_length)
