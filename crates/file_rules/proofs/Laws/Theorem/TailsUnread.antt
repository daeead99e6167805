-- tails_unread (FreeTails.antt): two block images that differ at most in tails get the same answers. All that is read of their disks is the same
-- (OnAnyDisk.Alike), and adds and removes leave disks that differ at most in tails (OnAnyDisk.Unread).
use Rattle.std.specs.Prelude.{◌≡◌, ℕ, suc, ◌+◌, ◌*◌, ◌<◌, eqb, take}
use Rattle.std.proofs.Math.Path.{refl, ap}
use Rattle.std.proofs.Common.{sym, ap₂, ◌∙◌, subst, arith}
use mathlib.Core.List.{List, [], ◌∷◌}
use Rattle.std.proofs.Math.Option.{Option, none, some}
use Rattle.std.proofs.Math.Dec.{ltb}
use Rattle.laws.specs.Laws.Cases.{by_order, by_both}
use Rattle.laws.specs.Laws.Tests.{eq_true}
use Rattle.sector_rules.specs.Geometry.{blocks}
use Rattle.sector_rules.specs.Replies.{reply_with, wrong_length}
use Rattle.sector_rules.specs.declared.Reply.{Reply}
use Rattle.file_rules.specs.declared.Record.TheVariants.{System}
use Rattle.file_rules.specs.Batch.{item_call, at_item, items_in_turn, batch_of, batch}
use Rattle.file_rules.specs.Items.{Item, removing, adding, ItemList, Items, WrongItem, read_items}
use Rattle.file_rules.specs.Calls.{Outcome, image_kept, image_right, on_sound, check, deliver, entries, list_sound, list}
use Rattle.file_rules.specs.Calls.{data_of, read_sound, read, imaged, add, remove}
use Rattle.file_rules.specs.Check.{disk_refusal}
use Rattle.file_rules.specs.Directory.{name_right, dir_end, find_name}
use Rattle.file_rules.specs.Disk.{Disk, disk_of, image_of}
use Rattle.file_rules.specs.FirstTrack.{first_track_result}
use Rattle.file_rules.specs.FreeTails.{SameButTails, ImagesSameButTails, ChangedAlike, TailsUnread}
use Rattle.file_rules.proofs.Laws.Base.Disk.{length_image, inside_disk, outside_disk, far_disk}
use Rattle.file_rules.proofs.Laws.Base.OnSound.{sound_refused, sound_passed}
use Rattle.file_rules.proofs.Laws.Base.Sound.{first_system}
use Rattle.file_rules.proofs.Laws.Base.Track.{track_is}
use Rattle.file_rules.proofs.Laws.OnAnyDisk.Alike.{Alike, end_alike, find_alike, entries_alike, data_alike, start_alike, eleven_alike}
use Rattle.file_rules.proofs.Laws.OnAnyDisk.Alike.{counted_alike, refusal_alike}
use Rattle.file_rules.proofs.Laws.OnAnyDisk.Unread.{like_kept, add_like, remove_like}
use Rattle.file_rules.specs.Map.{record_at}
use Rattle.file_rules.specs.Sizes.{block_bytes, map_start, record_bytes}
use Rattle.file_rules.specs.TrackValues.{judged_first}

-- the images of disks that differ at most in tails do so
images_same_but_tails : (d e : Disk) → Alike d e → ImagesSameButTails (image_of d) (image_of e)
images_same_but_tails d e a = (length_image d, length_image e, disks_same)
  where
    in_map : (x : Disk) (b i : ℕ) → b < blocks → i < record_bytes
        → disk_of (image_of x) 0 (map_start + record_bytes * b + i) ≡ x 0 (map_start + record_bytes * b + i)
    in_map x b i l k = inside_disk x 0 (map_start + record_bytes * b + i) (omega arith) (omega arith)

    disks_same : SameButTails (disk_of (image_of d)) (disk_of (image_of e))
    disks_same =
        record {
          header = λ o l. inside_disk d 0 o (omega arith) (omega arith) ∙ a.same_but.header o l ∙ sym (inside_disk e 0 o (omega arith) (omega arith));
          records = λ b l. like_kept d e _ _ b (a.same_but.records b l) (λ i k. sym (in_map d b i l k)) (λ i k. sym (in_map e b i l k));
          contents = λ b o q. by_order b blocks
              (λ hb. by_order o block_bytes
              (λ ho. inside_disk d b o hb ho ∙ a.same_but.contents b o q ∙ sym (inside_disk e b o hb ho))
              (λ h. outside_disk (image_of d) b o h ∙ sym (outside_disk (image_of e) b o h)))
              (λ h. far_disk (image_of d) b o h ∙ sym (far_disk (image_of e) b o h));
        }

module _ (x y : List ℕ) (p : ImagesSameButTails x y) where
  abbrev d : Disk
  d = disk_of x

  abbrev e : Disk
  e = disk_of y

  alike : Alike d e
  alike = record { same_but = p.2; past = λ o h. outside_disk x 0 o h ∙ sym (outside_disk y 0 o h) }

  module _ {A : Type 0} (R : A → A → Type 0) (f g : Reply → A) (act on : Disk → A)
      (refused : (r : Reply) → R (f r) (g r)) (acted : record_at d 0 ≡ System → R (act d) (on e)) where
    by_refusal : (v : Option Reply) → disk_refusal d ≡ v → R (on_sound x f act) (on_sound y g on)
    by_refusal none q =
        subst (λ (z : A). R z (on_sound y g on)) (sym (sound_passed x f act p.0 q))
        (subst (R (act d)) (sym (sound_passed y g on p.1 (sym (refusal_alike d e alike) ∙ q))) (acted (first_system d q)))
    by_refusal (some r) q =
        subst (λ (z : A). R z (on_sound y g on)) (sym (sound_refused x f act p.0 r q))
        (subst (R (f r)) (sym (sound_refused y g on p.1 r (sym (refusal_alike d e alike) ∙ q))) (refused r))

    -- what relates their refusals, and what is done on them where they are sound, relates the calls
    both_sound : R (on_sound x f act) (on_sound y g on)
    both_sound = by_refusal (disk_refusal d) refl

  check_is : check x ≡ check y
  unfolding check
  check_is = both_sound (λ (u v : Reply). u ≡ v) _ _ _ _ (λ r. refl) (λ first. refl)

  list_is : (buffer : List ℕ) → list x buffer ≡ list y buffer
  unfolding list list_sound
  list_is buffer =
      both_sound (λ (u v : Outcome). u ≡ v) _ _ _ _ (λ r. refl)
      (λ first. ap (λ (l : List ℕ). deliver l buffer) (entries_alike d e alike first (dir_end d) ∙ ap (entries e) (end_alike d e alike)))

  read_is : (name buffer : List ℕ) → read x name buffer ≡ read y name buffer
  unfolding read read_sound
  read_is name buffer =
      both_sound (λ (u v : Outcome). u ≡ v) _ _ _ _ (λ r. refl)
      (λ first.
      let found : find_name d name ≡ find_name e name = find_alike d e alike first name in
      by_both (λ (u v : Outcome). u ≡ v) (name_right name) (name_right name) _ _ _ _ refl
      (λ t. by_both (λ (u v : Outcome). u ≡ v) (ltb (find_name d name) (dir_end d)) (ltb (find_name e name) (dir_end e)) _ _ _ _
      (ap₂ ltb found (end_alike d e alike))
      (λ u. ap (λ (l : List ℕ). deliver l buffer) (data_alike d e alike first (find_name d name) ∙ ap (data_of e) found)) (λ u. refl))
      (λ t. refl))

  judged_first_lem : judged_first d ≡ judged_first e
  unfolding judged_first
  judged_first_lem = rw (start_alike d e alike, eleven_alike d e alike, counted_alike d e alike)

  track_same : first_track_result (take 9216 x) ≡ first_track_result (take 9216 y)
  track_same = track_is x p.0 ∙ judged_first_lem ∙ sym (track_is y p.1)

  kept : (r : Reply) → ChangedAlike (image_kept x r) (image_kept y r)
  unfolding image_kept
  kept r = record { answers = refl; images = p }

  add_is : (name : List ℕ) (date : ℕ) (content : List ℕ) → ChangedAlike (add x name date content) (add y name date content)
  unfolding add imaged
  add_is name date content =
      both_sound ChangedAlike _ _ _ _ kept
      (λ first.
      let w = add_like d e alike first name date content in
      record { answers = w.0; images = images_same_but_tails _ _ w.1 })

  remove_is : (name : List ℕ) → ChangedAlike (remove x name) (remove y name)
  unfolding remove imaged
  remove_is name =
      both_sound ChangedAlike _ _ _ _ kept
      (λ first.
      let w = remove_like d e alike first name in
      record { answers = w.0; images = images_same_but_tails _ _ w.1 })

-- ---- a batch

one_alike : (x y : List ℕ) → ImagesSameButTails x y → (i : Item) → ChangedAlike (item_call x i) (item_call y i)
unfolding item_call
one_alike x y p (removing name) = remove_is x y p name
one_alike x y p (adding f) = add_is x y p f.name f.date f.content

items_alike : (xs : List Item) (n : ℕ) (x y : List ℕ) → ImagesSameButTails x y → ChangedAlike (items_in_turn x n xs) (items_in_turn y n xs)
unfolding items_in_turn
items_alike [] n x y p = record { answers = refl; images = p }
items_alike (i ∷ xs) n x y p =
    let w : ChangedAlike (item_call x i) (item_call y i) = one_alike x y p i in
    by_both ChangedAlike (eqb (item_call x i).answer.number 0) (eqb (item_call y i).answer.number 0) _ _ _ _
    (ap (λ (r : Reply). eqb r.number 0) w.answers)
    (λ t. items_alike xs (suc n) (item_call x i).image (item_call y i).image w.images)
    (λ t. record { answers = ap (at_item n) w.answers; images = w.images })

list_alike : (l : ItemList) (x y : List ℕ) → ImagesSameButTails x y → ChangedAlike (batch_of x l) (batch_of y l)
unfolding batch_of
list_alike (Items xs) x y p = items_alike xs 1 x y p
list_alike (WrongItem n) x y p = kept x y p (reply_with 20 0 0 n)

batch_same : (x y items : List ℕ) → ImagesSameButTails x y → ChangedAlike (batch x items) (batch y items)
unfolding batch image_right
batch_same x y items p =
    by_both ChangedAlike (image_right x) (image_right y) _ _ _ _ (eq_true p.0 ∙ sym (eq_true p.1))
    (λ t. list_alike (read_items items) x y p) (λ t. kept x y p wrong_length)

-- tails_unread: all of this holds
pub tails_unread : TailsUnread
tails_unread =
    record {
      check_alike = check_is;
      list_alike = λ x y buffer p. list_is x y p buffer;
      read_alike = λ x y name buffer p. read_is x y p name buffer;
      track_alike = track_same;
      add_alike = λ x y name date content p. add_is x y p name date content;
      remove_alike = λ x y name p. remove_is x y p name;
      batch_alike = batch_same;
    }
