-- Every history gives in the model what it gives in the inner model: a batch by its items, a call, all calls.
-- Rests on one call (Agree) and on the invariant after each (OnImages.Single, OnImages.Run).
use Rattle.std.specs.Prelude.{◌≡◌, refl, false, List, [], ◌∷◌, ℕ, zero, suc, ◌<◌, ltb, eqb, length, get_or}
use Rattle.std.proofs.Common.{sym, ap, ap₂, ◌∙◌, subst, arith}
use Rattle.laws.specs.Laws.Cases.{by_cond, by_both}
use Rattle.laws.specs.Laws.Tests.{true≢false}
use Rattle.sector_rules.specs.Geometry.{blocks}
use Rattle.sector_rules.specs.declared.Reply.{Reply}
use Rattle.file_rules.specs.declared.Record.TheVariants.{File}
use Rattle.file_rules.specs.Arguments.{FormatArguments}
use Rattle.file_rules.specs.Calls.{Outcome, buffer_kept, fresh_owner}
use Rattle.file_rules.specs.Items.{Item, removing, adding, ItemList, Items, WrongItem, read_items}
use Rattle.file_rules.specs.Batch.{at_item}
use Rattle.file_rules.specs.Histories.{Call, model_out, model_step, model_outs, model_end, to_add, to_remove, to_list, to_read, to_batch}
use Rattle.file_rules.proofs.Laws.InnerModel.Inner.{Inner, render, empty_slots, inner_format}
use Rattle.file_rules.proofs.Laws.InnerModel.Inner.{inner_list, inner_read, InnerChanged, inner_refused}
use Rattle.file_rules.proofs.Laws.InnerModel.Inner.{inner_step, inner_out, inner_outs, inner_end, inner_item, inner_items, inner_batch}
use Rattle.file_rules.proofs.Laws.InnerModel.Invariant.{parts_of, Inv}
use Rattle.file_rules.proofs.Laws.InModel.Listed.{listed_blocks, with_owner, BlocksListed}
use Rattle.file_rules.proofs.Laws.OnImages.Single.{item_inv}
use Rattle.file_rules.proofs.Laws.OnImages.Run.{step_inv}
use Rattle.file_rules.proofs.Laws.InModel.Agree.{ModelsAgree, image_same, list_same, read_same, item_same, item_agrees}
use Rattle.file_rules.specs.Model.{Model, file_of, taken_by, held_blocks, dir_blocks}
use Rattle.file_rules.specs.Model.{model_disk, model_format, acceptable, slot_named}
use Rattle.file_rules.specs.Model.{model_list, model_read, fits, ModelChanged, model_add, model_remove, model_item, model_items, model_batch}

-- one item: its reply, and after it, the models agree
one_agrees : (i : Inner) (m : Model) → Inv i → ModelsAgree i m → (x : Item)
    → ((inner_item i x).answer ≡ (model_item m x).answer) × ModelsAgree (inner_item i x).model_after (model_item m x).model_after
one_agrees i m v (o, e, r) x =
    let v' : Inv (with_owner m o) = subst Inv e v in
    let r' : BlocksListed m.slots m.dir o (parts_of (with_owner m o)) = subst (λ (z : Inner). BlocksListed m.slots m.dir o (parts_of z)) e r in
    subst (λ (z : Inner). ((inner_item z x).answer ≡ (model_item m x).answer) × ModelsAgree (inner_item z x).model_after (model_item m x).model_after) (sym e)
    (item_same m o v' r' x, item_agrees m o v' r' x)

-- a refused item leaves the model as it was
refused_kept : (m : Model) (x : Item) → eqb (model_item m x).answer.number 0 ≡ false → (model_item m x).model_after ≡ m
unfolding model_item model_add model_remove
refused_kept m (removing name) =
    let kept : ModelChanged → Type 0 = λ c. eqb c.answer.number 0 ≡ false → c.model_after ≡ m in
    by_cond kept (acceptable name) _ _
    (λ t. by_cond kept (ltb (slot_named m name) (suc m.peak)) _ _ (λ h e. true≢false (eqb 0 0) refl e) (λ h e. refl)) (λ t e. refl)
refused_kept m (adding x) =
    let kept : ModelChanged → Type 0 = λ c. eqb c.answer.number 0 ≡ false → c.model_after ≡ m in
    by_cond kept (acceptable x.name) _ _
    (λ t. by_cond kept (ltb (slot_named m x.name) (suc m.peak)) _ _ (λ h e. refl)
    (λ h. by_cond kept (fits m x) _ _ (λ s e. true≢false (eqb 0 0) refl e) (λ s e. refl))) (λ t e. refl)

-- what holds of a reply and the models after it
abbrev Alike : InnerChanged → ModelChanged → Type 0
Alike c d = (c.answer ≡ d.answer) × ModelsAgree c.model_after d.model_after

-- items in turn
items_agree : (xs : List Item) (n : ℕ) (i : Inner) (m : Model) → Inv i → ModelsAgree i m → Alike (inner_items i n xs) (model_items m n xs)
unfolding inner_items model_items at_item
items_agree [] n i m v a = (refl, a)
items_agree (x ∷ xs) n i m v a =
    let w : Alike (inner_item i x) (model_item m x) = one_agrees i m v a x in
    by_both Alike (eqb (inner_item i x).answer.number 0) (eqb (model_item m x).answer.number 0) _ _ _ _ (ap (λ (r : Reply). eqb r.number 0) w.0)
    (λ t. items_agree xs (suc n) (inner_item i x).model_after (model_item m x).model_after (item_inv i v x) w.1)
    (λ t. (
      ap (at_item n) w.0,
      subst (ModelsAgree (inner_item i x).model_after)
          (refused_kept m x (sym (ap (λ (r : Reply). eqb r.number 0) w.0) ∙ t)) w.1,
    ))

-- a batch, by what its list gives
batch_agrees : (l : ItemList) (i : Inner) (m : Model) → Inv i → ModelsAgree i m → Alike (inner_batch i l) (model_batch m l)
unfolding inner_batch model_batch inner_refused
batch_agrees (Items xs) i m v a = items_agree xs 1 i m v a
batch_agrees (WrongItem n) i m v a = (refl, a)

-- list and read
answers_same : (i : Inner) (m : Model) → Inv i → ModelsAgree i m
    → ((buf : List ℕ) → inner_list i buf ≡ model_list m buf) × ((name buf : List ℕ) → inner_read i name buf ≡ model_read m name buf)
answers_same i m v (o, e, r) =
    let v' : Inv (with_owner m o) = subst Inv e v in
    let r' : BlocksListed m.slots m.dir o (parts_of (with_owner m o)) = subst (λ (z : Inner). BlocksListed m.slots m.dir o (parts_of z)) e r in
    subst (λ (z : Inner). ((buf : List ℕ) → inner_list z buf ≡ model_list m buf) × ((name buf : List ℕ) → inner_read z name buf ≡ model_read m name buf))
    (sym e)
    (list_same m o v' r', read_same m o v' r')

-- a call: its reply and result buffer, and after it, the models agree
call_agrees : (c : Call) (i : Inner) (m : Model) → Inv i → ModelsAgree i m
    → (inner_out i c ≡ model_out m c) × ModelsAgree (inner_step i c) (model_step m c)
unfolding inner_out model_out inner_step model_step buffer_kept inner_item model_item
call_agrees (to_add x) i m v a = let w : Alike (inner_item i (adding x)) (model_item m (adding x)) = one_agrees i m v a (adding x) in (
  ap (buffer_kept []) w.0,
  w.1,
)
call_agrees (to_remove name) i m v a = let w : Alike (inner_item i (removing name)) (model_item m (removing name)) = one_agrees i m v a (removing name) in (
  ap (buffer_kept []) w.0,
  w.1,
)
call_agrees (to_list buf) i m v a = ((answers_same i m v a).0 buf, a)
call_agrees (to_read name buf) i m v a = ((answers_same i m v a).1 name buf, a)
call_agrees (to_batch list) i m v a = let w : Alike (inner_batch i (read_items list)) (model_batch m (read_items list)) =
    batch_agrees (read_items list) i m v a in (
      ap (buffer_kept []) w.0,
      w.1,
    )

-- ---- a history

-- models that agree have the same disk and the same peak
disks_same : (i : Inner) (m : Model) → Inv i → ModelsAgree i m → (render i ≡ model_disk m) × (i.peak ≡ m.peak)
unfolding with_owner
disks_same i m v (o, e, r) =
    let v' : Inv (with_owner m o) = subst Inv e v in
    let r' : BlocksListed m.slots m.dir o (parts_of (with_owner m o)) = subst (λ (z : Inner). BlocksListed m.slots m.dir o (parts_of z)) e r in
    (ap render e ∙ image_same m o v' r', ap (λ (z : Inner). z.peak) e)

-- a history gives in both models the same replies, the same disk and the same peak
pub agree : (cs : List Call) (i : Inner) (m : Model) → Inv i → ModelsAgree i m
    → (inner_outs i cs ≡ model_outs m cs) × (render (inner_end i cs) ≡ model_disk (model_end m cs)) × ((inner_end i cs).peak ≡ (model_end m cs).peak)
unfolding inner_outs model_outs inner_end model_end
agree [] i m v a = (refl, (disks_same i m v a).0, (disks_same i m v a).1)
agree (c ∷ cs) i m v a =
    let w : (inner_out i c ≡ model_out m c) × ModelsAgree (inner_step i c) (model_step m c) = call_agrees c i m v a in
    let ih : (inner_outs (inner_step i c) cs ≡ model_outs (model_step m c) cs) × (render (inner_end (inner_step i c) cs) ≡ model_disk (model_end
    (model_step m c) cs))
    × ((inner_end (inner_step i c) cs).peak ≡ (model_end (model_step m c) cs).peak) = agree cs (inner_step i c) (model_step m c) (step_inv i v c) w.1 in
    (ap₂ (λ (x : Outcome) (xs : List Outcome). x ∷ xs) w.0 ih.0, ih.1, ih.2)

-- after a format lists and owners agree
fresh_listed : (args : FormatArguments)
    → BlocksListed (model_format args).slots (model_format args).dir (fresh_owner args) (parts_of (inner_format args))
unfolding model_format inner_format parts_of dir_blocks held_blocks empty_slots listed_blocks taken_by fresh_owner
fresh_listed args = record { sizes = sizes; each = each }
  where
    sizes : (k : ℕ) → length (listed_blocks (model_format args).slots (model_format args).dir k) ≡ parts_of (inner_format args) k
    sizes zero = refl
    sizes (suc k) = refl

    each : (k s : ℕ) → s < parts_of (inner_format args) k
        → (get_or (listed_blocks (model_format args).slots (model_format args).dir k) s 0 < blocks)
        × (fresh_owner args (get_or (listed_blocks (model_format args).slots (model_format args).dir k) s 0) ≡ File k s)
    each zero zero h = (omega arith, refl)
    each zero (suc s) h = absurd (omega arith)
    each (suc k) s h = absurd (omega arith)

-- after a format the inner model is the model with the owners of a fresh disk
start_is : (args : FormatArguments) → inner_format args ≡ with_owner (model_format args) (fresh_owner args)
unfolding inner_format model_format with_owner empty_slots file_of
start_is args = refl

-- after a format the models agree
pub fresh_agrees : (args : FormatArguments) → ModelsAgree (inner_format args) (model_format args)
fresh_agrees args = (fresh_owner args, start_is args, fresh_listed args)
