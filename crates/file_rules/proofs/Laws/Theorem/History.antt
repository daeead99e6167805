-- history, history_check, calls_made and every_byte. On an image each call does what it does in the inner model (OnImages: runs), which agrees with the model
-- (InModel: agree) and whose slots have the files that the accepted calls leave (FilesLeft: left_is); its invariant (InnerModel: Inv) gives the rest.
use Rattle.std.specs.Prelude.{◌≡◌, refl, Bool, false, cond, List, [], ◌∷◌, ℕ, suc, ◌+◌, ◌≤◌, ◌<◌, max, ◌%◌, ltb, eqb, get_or}
use Rattle.std.proofs.Math.Path.{sym, ap, ap₂}
use Rattle.std.proofs.Common.{◌∙◌, subst}
use Rattle.std.proofs.Math.Bool.{true}
use Rattle.std.proofs.Math.Option.{none, some}
use native.Mathlib.Omega.{arith}
use Rattle.std.proofs.Math.Dec.{leb}
use Rattle.std.proofs.Math.ListN.{length}
use Rattle.laws.specs.Below.{count}
use Rattle.laws.specs.Numbers.{at16, at32}
use Rattle.laws.specs.Options.{is_some}
use Rattle.laws.specs.Laws.Cases.{by_order, by_test, by_cond}
use Rattle.laws.specs.Laws.Tests.{lt_true, lt_false, true≢false, cond_true, cond_false, and_true}
use Rattle.laws.specs.Laws.Lowest.{lowest_low}
use Rattle.sector_rules.specs.Geometry.{image_bytes}
use Rattle.sector_rules.specs.Replies.{done, refusal}
use Rattle.file_rules.specs.Calls.{Outcome, ImageChanged, buffer_kept, check, deliver, read, add}
use Rattle.file_rules.specs.Directory.{name_eq, name_right, held, dir_end}
use Rattle.file_rules.specs.Arguments.{FormatArguments, EachCanBeBad}
use Rattle.file_rules.specs.Disk.{Disk, disk_of, image_of}
use Rattle.file_rules.specs.Items.{Item, removing, adding, ItemList, Items, WrongItem, read_items}
use Rattle.file_rules.specs.Histories.{Call, to_add, to_remove, to_list, to_read, to_batch, image_out, image_step, image_outs, image_end, model_outs, model_end}
use Rattle.file_rules.specs.Histories.{changes, files_left, most_present, blocks_of_files, file_named, IsPresent}
use Rattle.file_rules.specs.History.{data_found, HasEntry, Belongs, Holds, formatted, EveryHistory, HistoryCheck, CallsMade, EveryByte}
use Rattle.file_rules.proofs.Laws.InModel.Run.{agree, fresh_agrees}
use Rattle.file_rules.proofs.Laws.Base.Disk.{block_lt, offset_lt, byte_is, length_image}
use Rattle.file_rules.proofs.Laws.InnerModel.Reads.{dir_end_is, word16, word20, held_is, found_slot}
use Rattle.file_rules.proofs.Laws.InnerModel.Inner.{Inner, present_count, file_blocks, inner_bad, render, empty_slots, inner_format, inner_find, inner_read}
use Rattle.file_rules.proofs.Laws.InnerModel.Inner.{InnerChanged, inner_refused, inner_remove_at, inner_remove, peak_after, inner_add_at, room_for}
use Rattle.file_rules.proofs.Laws.InnerModel.Inner.{inner_add, inner_item, inner_items, inner_batch, inner_step, inner_out, inner_outs, inner_end}
use Rattle.file_rules.proofs.Laws.InnerModel.Invariant.{Inv}
use Rattle.file_rules.proofs.Laws.FilesLeft.Left.{count_is, LeftAfter, left_is}
use Rattle.file_rules.proofs.Laws.FilesLeft.Present.{Fills, none_some, fills_blocks, fills_named, fills_not_named, fills_present, present_fills}
use Rattle.file_rules.proofs.Laws.Base.Names.{bounds_name}
use Rattle.file_rules.proofs.Laws.Base.Results.{result_is}
use Rattle.file_rules.proofs.Laws.OnImages.Single.{img_disk, img_sound}
use Rattle.file_rules.proofs.Laws.OnImages.Run.{format_done, format_is, format_inv, out_is, runs, end_inv}
use Rattle.file_rules.proofs.Laws.FilesLeft.Zero.{by_slot, filled_below, slot_entry_lem, zero_outside}
use Rattle.file_rules.specs.Model.{NamedFile, HeldFile, Model, dir_blocks, different_blocks, usable, free_word, model_disk, model_format, has_name}
use Rattle.file_rules.specs.Model.{held_data, wrap}
use Rattle.file_rules.specs.Sizes.{name_most, title_most}
use Rattle.file_rules.specs.Written.{blocks_for}

-- ---- the accepted format

fresh_fills : (args : FormatArguments) → Fills (inner_format args).slots []
unfolding inner_format empty_slots
fresh_fills args k = refl

fresh_few : (args : FormatArguments) → present_count (inner_format args) ≤ (inner_format args).peak
unfolding inner_format empty_slots is_some present_count count
fresh_few args = omega arith

fresh_peak : (args : FormatArguments) → (inner_format args).peak ≡ 0
unfolding inner_format
fresh_peak args = refl

-- ---- what is read of the inner model at the end

module _ (m : Inner) (v : Inv m) (fs : List NamedFile) (r : Fills m.slots fs) where
  present_blocks : file_blocks m ≡ blocks_of_files fs
  unfolding file_blocks
  present_blocks = fills_blocks fs m.slots (suc m.peak) (λ k h. v.slot_past k h) r

  -- a name that no slot has
  no_slot : (name : List ℕ) → suc m.peak ≤ inner_find m name → (k : ℕ) (x : NamedFile) → m.slots k ≡ some x → name_eq x.name name ≡ false
  unfolding inner_find has_name
  no_slot name h k x e =
      ap (has_name name) (sym e)
      ∙ lowest_low (λ (j : ℕ). has_name name (m.slots j)) (suc m.peak) k (omega (arith, (filled_below m v fs r k x e).1))

  -- by whether a slot has it
  by_name : {X : Type 0} (name : List ℕ)
      → ((x : NamedFile) → inner_find m name < suc m.peak → m.slots (inner_find m name) ≡ some x → file_named name fs ≡ some x → X)
      → (suc m.peak ≤ inner_find m name → file_named name fs ≡ none → X) → X
  by_name name f g =
      by_order (inner_find m name) (suc m.peak)
      (λ h.
      let w : (x : NamedFile) × (m.slots (inner_find m name) ≡ some x) × (name_eq x.name name ≡ true) × (0 < inner_find m name) = found_slot m v name h in
      f w.0 h w.1 (fills_named fs m.slots (λ i j y z a b n. v.slot_once i j y z a b n) (inner_find m name) w.0 name w.1 w.2 r))
      (λ h. g h (fills_not_named fs m.slots name (no_slot name h) r))

  read_found : (name buf : List ℕ) → 1 ≤ length name → length name ≤ name_most → inner_read m name buf ≡ data_found (file_named name fs) buf
  unfolding inner_read data_found held_data buffer_kept
  read_found name buf p q =
      cond_true _ _ (bounds_name name p q)
      ∙ by_name name
      (λ x h e f. cond_true _ _ (lt_true h) ∙ ap (λ (l : HeldFile). deliver (held_data l) buf) e ∙ result_is x.content buf
      ∙ ap (λ (l : HeldFile). data_found l buf) (sym f))
      (λ h f. cond_false _ _ (lt_false h) ∙ ap (λ (l : HeldFile). data_found l buf) (sym f))

  add_found : (x : NamedFile) → 1 ≤ length x.name → length x.name ≤ name_most → file_named x.name fs ≡ none
      → (inner_add m x).answer ≡ cond (room_for m x) done (refusal 15)
  unfolding inner_add inner_refused
  add_found x p q n =
      let t : name_right x.name ≡ true = bounds_name x.name p q in
      by_name x.name
      (λ y h e f. absurd (none_some y (sym n ∙ f)))
      (λ h f. by_test (room_for m x)
      (λ s. ap (λ (c : InnerChanged). c.answer) (cond_true _ _ t ∙ cond_false _ _ (lt_false h) ∙ cond_true _ _ s) ∙ sym (cond_true _ _ s))
      (λ s. ap (λ (c : InnerChanged). c.answer) (cond_true _ _ t ∙ cond_false _ _ (lt_false h) ∙ cond_false _ _ s) ∙ sym (cond_false _ _ s)))

  room_by : (x : NamedFile) → room_for m x
      ≡ leb (inner_bad m + (dir_blocks (max m.peak (suc (length fs))) + (blocks_of_files fs + blocks_for (length x.content)))) usable
  unfolding room_for peak_after
  room_by x =
      ap₂ (λ (p s : ℕ). leb (inner_bad m + (dir_blocks (max m.peak (suc p)) + (s + blocks_for (length x.content)))) usable)
      (count_is m v fs r) present_blocks

  slot_of_lem : (x : NamedFile) → IsPresent x fs → (k : ℕ) × (0 < k) × (k < dir_end (render m)) × HasEntry (render m) k x
  slot_of_lem x p =
      let w : (k : ℕ) × (m.slots k ≡ some x) = present_fills fs m.slots x p r in
      let b : (0 < w.0) × (w.0 ≤ m.peak) = filled_below m v fs r w.0 x w.1 in
      (w.0, b.0, omega (arith, b.1, dir_end_is m v), slot_entry_lem m v fs r w.0 x w.1)

  of_slot : (k : ℕ) → k < dir_end (render m) → held (render m) k ≡ true → (x : NamedFile) × IsPresent x fs × HasEntry (render m) k x
  unfolding is_some
  of_slot k l h =
      let low : k ≤ m.peak = omega (arith, dir_end_is m v) in
      by_slot (m.slots k)
      (λ e. true≢false (held (render m) k) h (held_is m v k low none e))
      (λ x e. (x, fills_present fs m.slots k x e r, slot_entry_lem m v fs r k x e))

-- ---- what no call changes

item_arguments : (x : Item) (m : Inner) → (inner_item m x).model_after.arguments ≡ m.arguments
unfolding inner_item inner_add inner_remove inner_refused inner_add_at inner_remove_at
item_arguments (removing name) m =
    let same : InnerChanged → Type 0 = λ c. c.model_after.arguments ≡ m.arguments in
    by_cond same (name_right name) _ _ (λ t. by_cond same (ltb (inner_find m name) (suc m.peak)) _ _ (λ h. refl) (λ h. refl)) (λ t. refl)
item_arguments (adding x) m =
    let same : InnerChanged → Type 0 = λ c. c.model_after.arguments ≡ m.arguments in
    by_cond same (name_right x.name) _ _
    (λ t. by_cond same (ltb (inner_find m x.name) (suc m.peak)) _ _ (λ h. refl)
    (λ h. by_cond same (room_for m x) _ _ (λ r. refl) (λ r. refl))) (λ t. refl)

items_arguments : (xs : List Item) (n : ℕ) (m : Inner) → (inner_items m n xs).model_after.arguments ≡ m.arguments
unfolding inner_items
items_arguments [] n m = refl
items_arguments (x ∷ xs) n m =
    by_cond (λ (c : InnerChanged). c.model_after.arguments ≡ m.arguments) (eqb (inner_item m x).answer.number 0) _ _
    (λ t. items_arguments xs (suc n) (inner_item m x).model_after ∙ item_arguments x m) (λ t. item_arguments x m)

batch_arguments : (l : ItemList) (m : Inner) → (inner_batch m l).model_after.arguments ≡ m.arguments
unfolding inner_batch inner_refused
batch_arguments (Items xs) m = items_arguments xs 1 m
batch_arguments (WrongItem n) m = refl

next_arguments : (c : Call) (m : Inner) → (inner_step m c).arguments ≡ m.arguments
unfolding inner_step inner_item
next_arguments (to_list buf) m = refl
next_arguments (to_read name buf) m = refl
next_arguments (to_remove name) m = item_arguments (removing name) m
next_arguments (to_add x) m = item_arguments (adding x) m
next_arguments (to_batch list) m = batch_arguments (read_items list) m

-- a history keeps the arguments of its format
pub same_arguments : (cs : List Call) (m : Inner) → (inner_end m cs).arguments ≡ m.arguments
unfolding inner_end
same_arguments [] m = refl
same_arguments (c ∷ cs) m = same_arguments cs (inner_step m c) ∙ next_arguments c m

-- ---- the whole

module _ (args : FormatArguments) (each : EachCanBeBad args.bad) (calls : List Call) where
  abbrev m₀ : Inner
  m₀ = inner_format args

  abbrev b₀ : Model
  b₀ = model_format args

  abbrev m : Inner
  m = inner_end m₀ calls

  abbrev os : List Outcome
  os = inner_outs m₀ calls

  abbrev fs : List NamedFile
  fs = files_left [] calls os

  abbrev P : ℕ
  P = most_present [] calls os

  v : Inv m
  v = end_inv calls m₀ (format_inv args each)

  left : LeftAfter m₀ [] (changes calls os) m
  left = left_is calls m₀ [] (format_inv args each) (fresh_fills args) (fresh_few args)

  both : Fills m.slots fs × (m.peak ≡ max m₀.peak P)
  unfolding files_left most_present
  both = (left.fills, left.peak)

  -- the update count begins with 0
  updates_same : m.updates ≡ length (changes calls os) % 4294967296
  unfolding inner_format wrap
  updates_same = let e : m₀.updates + length (changes calls os) ≡ length (changes calls os) = omega arith in left.updates ∙ ap wrap e

  -- the arguments of the format stay
  bad_same : inner_bad m ≡ different_blocks args.bad
  unfolding inner_format
  bad_same = ap (λ (a : FormatArguments). different_blocks a.bad) (same_arguments calls m₀)

  peak_most_is : m.peak ≡ P
  peak_most_is = omega (arith, both.1, fresh_peak args)

  with_model : (os ≡ model_outs b₀ calls) × (render m ≡ model_disk (model_end b₀ calls)) × (m.peak ≡ (model_end b₀ calls).peak)
  with_model = agree calls m₀ b₀ (format_inv args each) (fresh_agrees args)

  abbrev img : List ℕ
  img = image_of (render m)

  on_disk : disk_of img ≡ render m
  on_disk = img_disk m v

  history_holds : Holds args calls img os fs P
  history_holds =
      record {
        same_outs = with_model.0;
        same_image = ap image_of with_model.1;
        whole = length_image (render m);
        read_gives = λ name buf p q. read_at name buf ∙ read_found m v fs both.0 name buf p q;
        has_slot = λ x p.
            subst (λ (d : Disk). (k : ℕ) × (0 < k) × (k < dir_end d) × HasEntry d k x) (sym on_disk) (slot_of_lem m v fs both.0 x p);
        slot_has =
            subst (λ (d : Disk). (k : ℕ) → k < dir_end d → held d k ≡ true → (x : NamedFile) × IsPresent x fs × HasEntry d k x) (sym on_disk)
            (of_slot m v fs both.0);
        peak_is = sym with_model.2 ∙ peak_most_is;
        updates_are = ap (λ (d : Disk). at32 (d 0) 16) on_disk ∙ word16 m v ∙ updates_same;
        free_word_lem =
            ap (λ (d : Disk). at16 (d 0) 20) on_disk ∙ word20 m v ∙ ap (λ (n : ℕ). free_word n m.peak (file_blocks m)) bad_same
            ∙ ap₂ (free_word (different_blocks args.bad)) peak_most_is (present_blocks m v fs both.0);
        no_less = room_left;
        add_gives = λ x p q n.
            add_at_lem x ∙ add_found m v fs both.0 x p q n
            ∙ ap (λ (b : Bool). cond b done (refusal 15))
            (room_by m v fs both.0 x
            ∙ ap₂ (λ (n p : ℕ). leb (n + (dir_blocks (max p (suc (length fs))) + (blocks_of_files fs + blocks_for (length x.content)))) usable)
            bad_same peak_most_is);
        zero_else =
            subst (λ (d : Disk). (b o : ℕ) → (Belongs d fs b o → ⊥) → d b o ≡ 0) (sym on_disk) (zero_outside m v fs both.0);
      }
    where
      read_at : (name buf : List ℕ) → read img name buf ≡ inner_read m name buf
      read_at name buf = unfold image_out inner_out in out_is m v (to_read name buf)

      add_at_lem : (x : NamedFile) → (add img x.name x.date x.content).answer ≡ (inner_add m x).answer
      add_at_lem x = unfold image_out inner_out buffer_kept in ap (λ (o : Outcome). o.answer) (out_is m v (to_add x))

      room_left : different_blocks args.bad + (dir_blocks P + blocks_of_files fs) ≤ usable
      room_left = omega (arith, v.free_sum, bad_same, ap dir_blocks peak_most_is, present_blocks m v fs both.0)

formatted_is : (old : List ℕ) (args : FormatArguments) → length old ≡ image_bytes → length args.title ≤ title_most → EachCanBeBad args.bad
    → formatted old args ≡ image_of (render (inner_format args))
formatted_is old args long short each = ap (λ (w : ImageChanged). w.image) (format_done old args long short each) ∙ ap image_of (format_is args each)

-- the image at the end of a history is the inner model's
pub end_is : (old : List ℕ) (args : FormatArguments) (calls : List Call) → length old ≡ image_bytes → length args.title ≤ title_most → EachCanBeBad args.bad
    → image_end (formatted old args) calls ≡ image_of (render (inner_end (inner_format args) calls))
end_is old args calls long short each =
    ap (λ (l : List ℕ). image_end l calls) (formatted_is old args long short each) ∙ (runs calls (inner_format args) (format_inv args each)).1

-- for every history each reply, each result buffer and the whole image are the model's, and what the model says of them holds
pub history : EveryHistory
history old args calls long short each =
    let e : image_end (formatted old args) calls ≡ image_of (render (inner_end (inner_format args) calls)) = end_is old args calls long short each in
    let o : image_outs (formatted old args) calls ≡ inner_outs (inner_format args) calls =
    ap (λ (l : List ℕ). image_outs l calls) (formatted_is old args long short each) ∙ (runs calls (inner_format args) (format_inv args each)).0 in (
      ap (λ (w : ImageChanged). w.answer) (format_done old args long short each),
      subst (λ (im : List ℕ). Holds args calls im (image_outs (formatted old args) calls)
          (files_left [] calls (image_outs (formatted old args) calls)) (most_present [] calls (image_outs (formatted old args) calls))) (sym e)
          (subst (λ (xs : List Outcome).
          Holds args calls (image_of (render (inner_end (inner_format args) calls))) xs (files_left [] calls xs) (most_present [] calls xs)) (sym o)
          (history_holds args each calls)),
    )

-- after every history the check passes
pub history_check : HistoryCheck
unfolding check
history_check old args calls long short each =
    let n : Inner = inner_end (inner_format args) calls in
    let w : Inv n = end_inv calls (inner_format args) (format_inv args each) in
    ap check (end_is old args calls long short each) ∙ img_sound n w _ _

-- each call of a history is the call of its name
pub calls_made : CallsMade
unfolding image_out image_step buffer_kept
calls_made =
    record {
      made_add = λ image x. (refl, refl);
      made_remove = λ image name. (refl, refl);
      made_list = λ image buffer. (refl, refl);
      made_read = λ image name buffer. (refl, refl);
      made_batch = λ image items. (refl, refl);
    }

-- each byte of an image is a byte of its disk
pub every_byte : EveryByte
unfolding disk_of
every_byte image i h = (
  block_lt i h,
  offset_lt i h,
  sym (cond_true _ _ (and_true (lt_true (block_lt i h)) (lt_true (offset_lt i h))) ∙ ap (λ (k : ℕ). get_or image k 0) (byte_is i h)),
)
