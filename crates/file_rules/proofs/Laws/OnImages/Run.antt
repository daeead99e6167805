-- Every history on an image gives what the inner model gives, reply by reply, and ends with its image.
-- Rests on reads of the inner model's disk (InnerModel.Reads), on one call (Single) and on a batch (Batch).
use Rattle.std.specs.Prelude.{◌≡◌, false, cond, ◌&&◌, ◌||◌, length}
use Rattle.std.proofs.Math.Path.{refl, sym, ap}
use Rattle.std.proofs.Common.{ap₂, ◌∙◌, subst}
use Rattle.std.proofs.Math.Bool.{Bool, not}
use mathlib.Core.List.{List, [], ◌∷◌}
use Rattle.std.proofs.Math.Option.{some}
use Prim.Native.Nat.{ℕ, zero, suc, ◌+◌, ◌-◌, ◌≤◌, ◌<◌}
use native.Mathlib.Omega.{arith}
use Rattle.std.proofs.Math.Dec.{ltb}
use Rattle.laws.specs.Below.{count, sum}
use Rattle.laws.specs.Options.{is_some}
use Rattle.laws.specs.Laws.Cases.{by_order, by_test, by_cond}
use Rattle.laws.specs.Laws.Tests.{lt_false, le_true, eq_true, true≢false, cond_true, cond_false, and_true}
use Rattle.laws.specs.Laws.Tests.{and_false_left, and_false_right}
use Rattle.laws.specs.Laws.Count.{count_cong, count_or, count_not}
use Rattle.sector_rules.specs.Geometry.{blocks, image_bytes}
use Rattle.sector_rules.specs.Replies.{done}
use Rattle.file_rules.specs.declared.Record.{Record}
use Rattle.file_rules.specs.declared.Record.TheVariants.{Free, Bad, System, File, Other}
use Rattle.file_rules.specs.Batch.{item_call}
use Rattle.file_rules.specs.Items.{removing, adding, read_items}
use Rattle.file_rules.specs.Calls.{Outcome, ImageChanged, buffer_kept, image_right, fresh_owner}
use Rattle.file_rules.specs.Calls.{fresh_header, format_disk, format, list, read, add, remove}
use Rattle.file_rules.specs.Arguments.{FormatArguments, listed, count_listed, EachCanBeBad}
use Rattle.file_rules.specs.Disk.{image_of}
use Rattle.file_rules.specs.Histories.{Call, image_out, image_step, image_outs, image_end, to_add, to_remove, to_list, to_read, to_batch}
use Rattle.file_rules.proofs.Laws.InnerModel.Reads.{list_is, read_is}
use Rattle.file_rules.proofs.Laws.InnerModel.Inner.{Inner, file_blocks, header, render, empty_slots, inner_format}
use Rattle.file_rules.proofs.Laws.InnerModel.Inner.{free_of, inner_remove}
use Rattle.file_rules.proofs.Laws.InnerModel.Inner.{inner_add, inner_item, inner_step, inner_out, inner_outs, inner_end}
use Rattle.file_rules.proofs.Laws.InnerModel.Invariant.{parts_of, Inv}
use Rattle.file_rules.proofs.Laws.Base.BadList.{each_right, low_unlisted, different_is}
use Rattle.file_rules.proofs.Laws.InnerModel.Fields.{is_part_true}
use Rattle.file_rules.proofs.Laws.Base.Records.{Valid}
use Rattle.file_rules.proofs.Laws.OnImages.Single.{image_after, img_sound, item_is, item_inv}
use Rattle.file_rules.proofs.Laws.OnImages.Batch.{batch_is, batch_inv}
use Rattle.file_rules.proofs.Laws.Base.Whole.{with_is, with_only, with_same}
use Rattle.file_rules.specs.Map.{is_free, is_bad_record, is_system, is_part}
use Rattle.file_rules.specs.Model.{NamedFile, held_blocks, dir_blocks, different_blocks, usable, free_word, slot_of, held_bytes, dir_byte, content}
use Rattle.file_rules.specs.Sizes.{block_bytes, title_most, free_sectors}
use Rattle.file_rules.specs.Written.{disk_header_byte, part}

-- ---- format

-- an accepted format leaves a fresh disk
pub format_done : (image : List ℕ) (args : FormatArguments) → length image ≡ image_bytes → length args.title ≤ title_most → EachCanBeBad args.bad
    → format image args ≡ record { answer = done; image = image_of (format_disk args) }
unfolding format image_right
format_done image args long short each = cond_true _ _ (eq_true long) ∙ cond_true _ _ (and_true (le_true short) (each_right args.bad each))

blank : (r : Record) (o : ℕ) → content empty_slots empty_slots r o ≡ 0
unfolding content dir_byte slot_of held_bytes part empty_slots
blank Free o = refl
blank Bad o = refl
blank System o = refl
blank Other o = refl
blank (File zero s) o = refl
blank (File (suc f) s) o = by_test (ltb o block_bytes) (λ t. cond_true _ _ t) (λ t. cond_false _ _ t)

-- ---- the records of a fresh disk

module _ (args : FormatArguments) where
  fresh_valid : (b : ℕ) → Valid (fresh_owner args b)
  unfolding fresh_owner
  fresh_valid zero = tt
  fresh_valid (suc zero) = (omega arith, omega arith)
  fresh_valid (suc (suc b)) = by_cond Valid (listed (suc (suc b)) args.bad) Bad Free (λ t. tt) (λ t. tt)

  fresh_system : (b : ℕ) → fresh_owner args b ≡ System → b ≡ 0
  unfolding fresh_owner is_system
  fresh_system zero e = refl
  fresh_system (suc zero) e = true≢false (is_system System) refl (ap is_system (sym e))
  fresh_system (suc (suc b)) e =
      true≢false (is_system System) refl
      (ap is_system (sym e) ∙ by_cond (λ (r : Record). is_system r ≡ false) (listed (suc (suc b)) args.bad) Bad Free (λ t. refl) (λ t. refl))

  fresh_file : (b f s : ℕ) → fresh_owner args b ≡ File f s → (b ≡ 1) × (f ≡ 0) × (s ≡ 0)
  unfolding fresh_owner is_part
  fresh_file zero f s e = true≢false (is_part f s System) (is_part_true f s System e) refl
  fresh_file (suc zero) f s e = (refl, cc, cc)
  fresh_file (suc (suc b)) f s e =
      let t : Bool = listed (suc (suc b)) args.bad in
      true≢false (is_part f s (cond t Bad Free)) (is_part_true f s (cond t Bad Free) e)
      (by_cond (λ (r : Record). is_part f s r ≡ false) t Bad Free (λ t. refl) (λ t. refl))

  module _ (each : EachCanBeBad args.bad) where
    -- bad are those of the list
    fresh_bad : (b : ℕ) → is_bad_record (fresh_owner args b) ≡ listed b args.bad
    unfolding fresh_owner is_bad_record
    fresh_bad zero = sym (low_unlisted args.bad each 0 (omega arith))
    fresh_bad (suc zero) = sym (low_unlisted args.bad each 1 (omega arith))
    fresh_bad (suc (suc b)) =
        by_test (listed (suc (suc b)) args.bad) (λ t. ap is_bad_record (cond_true _ _ t) ∙ sym t) (λ t. ap is_bad_record (cond_false _ _ t) ∙ sym t)

    -- taken are blocks 0 and 1 and those of the list
    fresh_taken : (b : ℕ) → not (free_of (fresh_owner args) b) ≡ (ltb b 2 || listed b args.bad)
    unfolding fresh_owner free_of is_free
    fresh_taken zero = refl
    fresh_taken (suc zero) = refl
    fresh_taken (suc (suc b)) =
        let off : (ltb (suc (suc b)) 2 || listed (suc (suc b)) args.bad) ≡ listed (suc (suc b)) args.bad =
        ap (λ (a : Bool). a || listed (suc (suc b)) args.bad) (lt_false {a = suc (suc b)} {b = 2} (omega arith)) in
        by_test (listed (suc (suc b)) args.bad)
        (λ t. ap (λ (r : Record). not (is_free r)) (cond_true _ _ t) ∙ sym (off ∙ t))
        (λ t. ap (λ (r : Record). not (is_free r)) (cond_false _ _ t) ∙ sym (off ∙ t))

    two_low : count blocks (λ (b : ℕ). ltb b 2) ≡ 2
    unfolding count
    two_low = refl

    low_apart : (b : ℕ) → (ltb b 2 && listed b args.bad) ≡ false
    low_apart b =
        by_order b 2 (λ h. and_false_right (ltb b 2) (low_unlisted args.bad each b h)) (λ h. and_false_left (listed b args.bad) (lt_false h))

    -- free are all others
    fresh_count : count blocks (free_of (fresh_owner args)) + (2 + count_listed args.bad) ≡ blocks
    unfolding count_listed
    fresh_count =
        let held : count blocks (λ (b : ℕ). not (free_of (fresh_owner args) b)) ≡ count blocks (λ (b : ℕ). (ltb b 2 || listed b args.bad)) =
        count_cong blocks (λ (b : ℕ). not (free_of (fresh_owner args) b)) (λ (b : ℕ). (ltb b 2 || listed b args.bad)) (λ b l. fresh_taken b) in
        let both : count blocks (λ (b : ℕ). (ltb b 2 || listed b args.bad))
        ≡ count blocks (λ (b : ℕ). ltb b 2) + count blocks (λ (b : ℕ). listed b args.bad) =
        count_or blocks (λ (b : ℕ). ltb b 2) (λ (b : ℕ). listed b args.bad) (λ b l. low_apart b) in
        omega (arith, two_low, count_not blocks (free_of (fresh_owner args)))

    -- free blocks, those of the list, and block 1 are all blocks but block 0
    fresh_sum : count blocks (free_of (fresh_owner args)) + (different_blocks args.bad + 1) ≡ usable
    fresh_sum = omega (arith, fresh_count, different_is args.bad each)

    -- the free word of a fresh disk is that of demand 3
    fresh_word : free_sectors (blocks - 2 - count_listed args.bad) ≡ free_word (different_blocks args.bad) 0 0
    unfolding free_word dir_blocks
    fresh_word = omega (arith, different_is args.bad each)

-- a formatted disk is that of the inner model after the format
pub format_is : (args : FormatArguments) → EachCanBeBad args.bad → format_disk args ≡ render (inner_format args)
unfolding format_disk render inner_format header file_blocks sum held_blocks empty_slots
format_is args each =
    let written : ℕ → ℕ = disk_header_byte args 0 (free_word (different_blocks args.bad) 0 0) 1 in
    with_only written (fresh_owner args) (content empty_slots empty_slots) (format_disk args)
    (with_same (format_disk args) (fresh_header args) (fresh_owner args) (λ (r : Record) (o : ℕ). 0)
    (with_is (fresh_header args) (fresh_owner args) (λ (r : Record) (o : ℕ). 0))
    written (fresh_owner args) (content empty_slots empty_slots)
    (λ o l. ap (λ (w : ℕ). disk_header_byte args 0 w 1 o) (fresh_word args each)) (λ b l. refl) (λ b o i j l. sym (blank (fresh_owner args b) o)))

fresh_part : (args : FormatArguments) (f s : ℕ) → s < parts_of (inner_format args) f → (b : ℕ) × (b < blocks) × (fresh_owner args b ≡ File f s)
unfolding fresh_owner parts_of inner_format dir_blocks held_blocks empty_slots
fresh_part args zero s h = (1, omega arith, ap (File 0) (omega arith))
fresh_part args (suc f) s h = absurd (omega arith)

-- the invariant holds after a format
pub format_inv : (args : FormatArguments) → EachCanBeBad args.bad → Inv (inner_format args)
unfolding inner_format parts_of dir_blocks file_blocks held_blocks empty_slots sum fresh_owner is_some
format_inv args each =
    record {
      own =
          record {
            own_valid = λ b l. fresh_valid args b;
            own_zero = refl;
            own_system = λ b l e. fresh_system args b e;
            own_below = λ b f s l e.
                let w : (b ≡ 1) × (f ≡ 0) × (s ≡ 0) = fresh_file args b f s e in
                subst (λ (g : ℕ). s < parts_of (inner_format args) g) (sym w.1) (omega (arith, w.2));
            own_part = λ f s h. fresh_part args f s h;
            own_once = λ b b' f s l l' e e'. (fresh_file args b f s e).0 ∙ sym (fresh_file args b' f s e').0;
          };
      bad_is = λ b l. fresh_bad args each b;
      slot_zero = refl;
      slot_past = λ k h. refl;
      slot_name_lem = λ k x e. true≢false (is_some (some x)) refl (ap is_some (sym e));
      slot_once = λ j k x y e e' n. true≢false (is_some (some x)) refl (ap is_some (sym e));
      free_sum = fresh_sum args each;
      peak_most = omega arith;
      updates_fit = omega arith;
    }

-- ---- one call

module _ (m : Inner) (v : Inv m) where
  abbrev img : List ℕ
  img = image_of (render m)

  -- the single call of an item is the call
  add_same : (x : NamedFile) → add img x.name x.date x.content ≡ image_after (inner_add m x)
  add_same x = unfold item_call inner_item in item_is m v (adding x)

  remove_same : (name : List ℕ) → remove img name ≡ image_after (inner_remove m name)
  remove_same name = unfold item_call inner_item in item_is m v (removing name)

  -- reply and result buffer of a call on the image are the inner model's
  pub out_is : (c : Call) → image_out img c ≡ inner_out m c
  unfolding image_out inner_out list read image_after
  out_is (to_add x) = ap (λ (w : ImageChanged). buffer_kept [] w.answer) (add_same x)
  out_is (to_remove name) = ap (λ (w : ImageChanged). buffer_kept [] w.answer) (remove_same name)
  out_is (to_list buf) = img_sound m v _ _ ∙ list_is m v buf
  out_is (to_read name buf) = img_sound m v _ _ ∙ read_is m v name buf
  out_is (to_batch list) = ap (λ (w : ImageChanged). buffer_kept [] w.answer) (batch_is m v list)

  -- the image after a call is that of the inner model after it
  pub step_is : (c : Call) → image_step img c ≡ image_of (render (inner_step m c))
  unfolding image_step inner_step image_after
  step_is (to_add x) = ap (λ (w : ImageChanged). w.image) (add_same x)
  step_is (to_remove name) = ap (λ (w : ImageChanged). w.image) (remove_same name)
  step_is (to_list buf) = refl
  step_is (to_read name buf) = refl
  step_is (to_batch list) = ap (λ (w : ImageChanged). w.image) (batch_is m v list)

  -- the invariant holds after every call
  pub step_inv : (c : Call) → Inv (inner_step m c)
  unfolding inner_step inner_item
  step_inv (to_add x) = item_inv m v (adding x)
  step_inv (to_remove name) = item_inv m v (removing name)
  step_inv (to_list buf) = v
  step_inv (to_read name buf) = v
  step_inv (to_batch list) = batch_inv (read_items list) m v

-- ---- a history

-- a history gives on the image the inner model's replies and buffers and leaves its image
pub runs : (cs : List Call) (m : Inner) → Inv m
    → (image_outs (image_of (render m)) cs ≡ inner_outs m cs) × (image_end (image_of (render m)) cs ≡ image_of (render (inner_end m cs)))
unfolding image_outs inner_outs image_end inner_end
runs [] m v = (refl, refl)
runs (c ∷ cs) m v =
    let ih : (image_outs (image_of (render (inner_step m c))) cs ≡ inner_outs (inner_step m c) cs)
    × (image_end (image_of (render (inner_step m c))) cs ≡ image_of (render (inner_end (inner_step m c) cs))) =
    runs cs (inner_step m c) (step_inv m v c) in (
      ap₂ (λ (o : Outcome) (os : List Outcome). o ∷ os) (out_is m v c) (ap (λ (l : List ℕ). image_outs l cs) (step_is m v c) ∙ ih.0),
      ap (λ (l : List ℕ). image_end l cs) (step_is m v c) ∙ ih.1,
    )

-- the invariant holds at the end of a history
pub end_inv : (cs : List Call) (m : Inner) → Inv m → Inv (inner_end m cs)
unfolding inner_end
end_inv [] m v = v
end_inv (c ∷ cs) m v = end_inv cs (inner_step m c) (step_inv m v c)
