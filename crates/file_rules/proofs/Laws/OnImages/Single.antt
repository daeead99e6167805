-- One call on an image: a remove or an add gives what the inner model gives; on its image a call acts on its disk.
-- Rests on reads and judgements of the inner model's disk (InnerModel.Reads, Judgements) and on Add and Remove.
use Rattle.std.specs.Prelude.{◌≡◌, true, List, ℕ, suc, ◌≤◌, ◌<◌}
use Rattle.std.proofs.Common.{sym, ◌∙◌, arith}
use Rattle.std.proofs.Math.Path.{ap, subst}
use Rattle.std.proofs.Math.Option.{some}
use Rattle.std.proofs.Math.ListN.{length}
use Rattle.laws.specs.Laws.Cases.{by_order, by_test}
use Rattle.laws.specs.Laws.Tests.{lt_true, lt_false, true_le, cond_true, cond_false}
use Rattle.sector_rules.specs.Replies.{reply_with, done, refusal}
use Rattle.sector_rules.specs.declared.Reply.{Reply}
use Rattle.file_rules.specs.Batch.{item_call}
use Rattle.file_rules.specs.Items.{Item, removing, adding}
use Rattle.file_rules.specs.Calls.{DiskChanged, ImageChanged, disk_kept, on_sound}
use Rattle.file_rules.specs.Calls.{add_sound, imaged, add, remove_sound, remove}
use Rattle.file_rules.specs.Check.{disk_refusal}
use Rattle.file_rules.specs.Directory.{name_eq, name_right}
use Rattle.file_rules.specs.Disk.{Disk, disk_of, image_of}
use Rattle.file_rules.proofs.Laws.OnImages.Slot.{room_is}
use Rattle.file_rules.proofs.Laws.OnImages.Added.{add_inv}
use Rattle.file_rules.proofs.Laws.OnImages.Add.{add_image}
use Rattle.file_rules.proofs.Laws.Base.Disk.{length_image, disk_image}
use Rattle.file_rules.proofs.Laws.Base.OnSound.{sound_passed}
use Rattle.file_rules.proofs.Laws.InnerModel.Reads.{dir_end_is, find_name_is, vacant_slot_is, found_slot}
use Rattle.file_rules.proofs.Laws.InnerModel.Judgements.{disk_refusal_none}
use Rattle.file_rules.proofs.Laws.InnerModel.Inner.{Inner, header, render, inner_find, empty_slot}
use Rattle.file_rules.proofs.Laws.InnerModel.Inner.{InnerChanged, inner_refused, inner_remove_at, inner_remove, inner_add_at}
use Rattle.file_rules.proofs.Laws.InnerModel.Inner.{room_for, inner_add, inner_item}
use Rattle.file_rules.proofs.Laws.InnerModel.Invariant.{Inv}
use Rattle.file_rules.proofs.Laws.Base.Names.{name_bounds}
use Rattle.file_rules.proofs.Laws.OnImages.Remove.{remove_inv, remove_image}
use Rattle.file_rules.proofs.Laws.Base.Whole.{with_is}
use Rattle.file_rules.specs.Model.{NamedFile, content}
use Rattle.file_rules.specs.Sizes.{name_most}

-- ---- one call

disked : InnerChanged → DiskChanged
disked c = record { answer = c.answer; disk_after = render c.model_after }

-- a reply, and the image of the inner model after it
unfoldable pub image_after : InnerChanged → ImageChanged
image_after c = record { answer = c.answer; image = image_of (render c.model_after) }

module _ (m : Inner) (v : Inv m) where
  remove_is : (name : List ℕ) → (remove_sound (render m) name ≡ disked (inner_remove m name)) × Inv (inner_remove m name).model_after
  unfolding remove_sound inner_remove disk_kept inner_refused disked
  remove_is name =
      by_test (name_right name)
      (λ t. by_order (inner_find m name) (suc m.peak)
      (λ h.
      let w : (x : NamedFile) × (m.slots (inner_find m name) ≡ some x) × (name_eq x.name name ≡ true) × (0 < inner_find m name) = found_slot m v name h in
      let e : inner_remove m name ≡ record { answer = done; model_after = inner_remove_at m (inner_find m name) } = cond_true _ _ t
      ∙ cond_true _ _ (lt_true h) in (
        rw (find_name_is m v name, dir_end_is m v)
            (cond_true _ _ t ∙ cond_true _ _ (lt_true h)
            ∙ ap (λ (d : Disk). record { answer = done; disk_after = d }) (remove_image m v (inner_find m name) w.3 (omega arith))
            ∙ ap disked (sym e)),
        subst (λ (c : InnerChanged). Inv c.model_after) (sym e) (remove_inv m v (inner_find m name) w.3 (omega arith)),
      ))
      (λ h.
      let e : inner_remove m name ≡ inner_refused m (refusal 14) = cond_true _ _ t ∙ cond_false _ _ (lt_false h) in (
        rw (find_name_is m v name, dir_end_is m v)
            (cond_true _ _ t ∙ cond_false _ _ (lt_false h) ∙ ap disked (sym e)),
        subst (λ (c : InnerChanged). Inv c.model_after) (sym e) v,
      )))
      (λ t.
      let e : inner_remove m name ≡ inner_refused m (refusal 12) = cond_false _ _ t in (
        cond_false _ _ t ∙ ap disked (sym e),
        subst (λ (c : InnerChanged). Inv c.model_after) (sym e) v,
      ))

  add_is : (x : NamedFile) → (add_sound (render m) x.name x.date x.content ≡ disked (inner_add m x)) × Inv (inner_add m x).model_after
  unfolding add_sound inner_add disk_kept inner_refused disked name_right room_for
  add_is x =
      by_test (name_right x.name)
      (λ t. by_order (inner_find m x.name) (suc m.peak)
      (λ h.
      let e : inner_add m x ≡ inner_refused m (reply_with 13 (inner_find m x.name) 0 0) = cond_true _ _ t ∙ cond_true _ _ (lt_true h) in (
        rw (find_name_is m v x.name, dir_end_is m v) (cond_true _ _ t ∙ cond_true _ _ (lt_true h) ∙ ap disked (sym e)),
        subst (λ (c : InnerChanged). Inv c.model_after) (sym e) v,
      ))
      (λ h. by_test (room_for m x)
      (λ r.
      let right : (1 ≤ length x.name) × (length x.name ≤ name_most) = name_bounds x.name t in
      let e : inner_add m x ≡ record { answer = done; model_after = inner_add_at m (empty_slot m) x } =
      cond_true _ _ t ∙ cond_false _ _ (lt_false h) ∙ cond_true _ _ r in (
        rw (find_name_is m v x.name, dir_end_is m v, vacant_slot_is m v)
            (cond_true _ _ t ∙ cond_false _ _ (lt_false h) ∙ cond_true _ _ (sym (room_is m v x) ∙ r)
            ∙ ap (λ (d : Disk). record { answer = done; disk_after = d }) (add_image m v x right h (true_le r))
            ∙ ap disked (sym e)),
        subst (λ (c : InnerChanged). Inv c.model_after) (sym e) (add_inv m v x right h (true_le r)),
      ))
      (λ r.
      let e : inner_add m x ≡ inner_refused m (refusal 15) = cond_true _ _ t ∙ cond_false _ _ (lt_false h) ∙ cond_false _ _ r in (
        rw (find_name_is m v x.name, dir_end_is m v, vacant_slot_is m v)
            (cond_true _ _ t ∙ cond_false _ _ (lt_false h) ∙ cond_false _ _ (sym (room_is m v x) ∙ r) ∙ ap disked (sym e)),
        subst (λ (c : InnerChanged). Inv c.model_after) (sym e) v,
      ))))
      (λ t.
      let e : inner_add m x ≡ inner_refused m (refusal 12) = cond_false _ _ t in (
        cond_false _ _ t ∙ ap disked (sym e),
        subst (λ (c : InnerChanged). Inv c.model_after) (sym e) v,
      ))

  -- ---- the same on the image

  abbrev img : List ℕ
  img = image_of (render m)

  -- the disk of the inner model's image is its disk
  pub img_disk : disk_of img ≡ render m
  unfolding render
  img_disk =
      disk_image (render m) (with_is (header m) m.owner (content m.slots m.slots)).far
      (with_is (header m) m.owner (content m.slots m.slots)).out

  -- the inner model's image is sound, so that a call acts on its disk
  pub img_sound : {A : Type 0} (refuse : Reply → A) (act : Disk → A) → on_sound img refuse act ≡ act (render m)
  img_sound refuse act = sound_passed img refuse act (length_image (render m)) (ap disk_refusal img_disk ∙ disk_refusal_none m v) ∙ ap act img_disk

  -- an add on the image
  add_image_is : (x : NamedFile)
      → add img x.name x.date x.content ≡ record { answer = (inner_add m x).answer; image = image_of (render (inner_add m x).model_after) }
  unfolding add imaged disked
  add_image_is x =
      img_sound _ _ ∙ ap imaged (add_is x).0

  -- a remove on the image
  remove_image_is : (name : List ℕ)
      → remove img name ≡ record { answer = (inner_remove m name).answer; image = image_of (render (inner_remove m name).model_after) }
  unfolding remove imaged disked
  remove_image_is name =
      img_sound _ _ ∙ ap imaged (remove_is name).0

  -- an item on the image gives the inner model's reply and leaves its image (§8.19)
  pub item_is : (x : Item) → item_call img x ≡ image_after (inner_item m x)
  unfolding item_call inner_item image_after
  item_is (removing name) = remove_image_is name
  item_is (adding x) = add_image_is x

  -- the invariant holds after an item
  pub item_inv : (x : Item) → Inv (inner_item m x).model_after
  unfolding inner_item
  item_inv (removing name) = (remove_is name).1
  item_inv (adding x) = (add_is x).1
