-- A batch on an image gives what the inner model gives: its items in turn, up to the first refusal.
-- Rests on one item (Single).
use Rattle.std.specs.Prelude.{◌≡◌, refl, List, [], ◌∷◌, ℕ, suc, eqb}
use Rattle.std.proofs.Common.{sym, ap, ◌∙◌}
use Rattle.laws.specs.Laws.Cases.{by_test, by_cond}
use Rattle.laws.specs.Laws.Tests.{eq_true, cond_true, cond_false}
use Rattle.file_rules.specs.Batch.{items_in_turn, batch_of, batch}
use Rattle.file_rules.specs.Calls.{image_kept, image_right}
use Rattle.file_rules.specs.Disk.{image_of}
use Rattle.file_rules.specs.Items.{Item, ItemList, Items, WrongItem, read_items}
use Rattle.file_rules.proofs.Laws.Base.Disk.{length_image}
use Rattle.file_rules.proofs.Laws.InnerModel.Inner.{Inner, render, InnerChanged, inner_refused, inner_item, inner_items, inner_batch}
use Rattle.file_rules.proofs.Laws.InnerModel.Invariant.{Inv}
use Rattle.file_rules.proofs.Laws.OnImages.Single.{image_after, item_is, item_inv}

-- items in turn on the image give the inner model's reply and leave its image (§8.19)
items_are : (xs : List Item) (n : ℕ) (m : Inner) → Inv m → items_in_turn (image_of (render m)) n xs ≡ image_after (inner_items m n xs)
unfolding items_in_turn inner_items image_after
items_are [] n m v = refl
items_are (x ∷ xs) n m v =
    rw (item_is m v x)
    (by_test (eqb (inner_item m x).answer.number 0)
    (λ t. cond_true _ _ t ∙ items_are xs (suc n) (inner_item m x).model_after (item_inv m v x) ∙ ap image_after (sym (cond_true _ _ t)))
    (λ t. cond_false _ _ t ∙ ap image_after (sym (cond_false _ _ t))))

-- the invariant holds after items in turn
items_inv : (xs : List Item) (n : ℕ) (m : Inner) → Inv m → Inv (inner_items m n xs).model_after
unfolding inner_items
items_inv [] n m v = v
items_inv (x ∷ xs) n m v =
    by_cond (λ (c : InnerChanged). Inv c.model_after) (eqb (inner_item m x).answer.number 0) _ _
    (λ t. items_inv xs (suc n) (inner_item m x).model_after (item_inv m v x)) (λ t. item_inv m v x)

-- the same of a list as it is read
list_is : (l : ItemList) (m : Inner) → Inv m → batch_of (image_of (render m)) l ≡ image_after (inner_batch m l)
unfolding batch_of inner_batch image_after image_kept inner_refused
list_is (Items xs) m v = items_are xs 1 m v
list_is (WrongItem n) m v = refl

-- a batch on the image gives the inner model's reply and leaves its image (§8.19)
pub batch_is : (m : Inner) → Inv m → (list : List ℕ) → batch (image_of (render m)) list ≡ image_after (inner_batch m (read_items list))
unfolding batch image_right
batch_is m v list = cond_true _ _ (eq_true (length_image (render m))) ∙ list_is (read_items list) m v

-- the invariant holds after a batch
pub batch_inv : (l : ItemList) (m : Inner) → Inv m → Inv (inner_batch m l).model_after
unfolding inner_batch inner_refused
batch_inv (Items xs) m v = items_inv xs 1 m v
batch_inv (WrongItem n) m v = v
