-- free_tails (FreeTails.antt). What the calls leave of a record is what their steps leave (OnAnyDisk.Kept, Stays). That no history makes another tail is read
-- off the inner model's disk, whose free records are written ones.
use Rattle.std.specs.Prelude.{◌≡◌, refl, true, cond, ◌&&◌}
use Rattle.std.proofs.Math.Path.{sym, ap, ap₂, subst}
use Rattle.std.proofs.Common.{◌∙◌, arith}
use Rattle.std.proofs.Math.Bool.{Bool, not}
use mathlib.Core.List.{List}
use Rattle.std.proofs.Math.Option.{Option, none, some}
use Prim.Native.Nat.{ℕ, ◌+◌, ◌-◌, ◌*◌, ◌/◌, ◌≤◌, ◌<◌}
use Rattle.std.proofs.Math.Dec.{leb, ltb, eqb}
use Rattle.std.proofs.Math.ListN.{length}
use Rattle.laws.specs.Below.{count}
use Rattle.laws.specs.Numbers.{at16, high_byte}
use Rattle.laws.specs.Laws.Cases.{by_order, by_equal, by_test, by_cond}
use Rattle.laws.specs.Laws.Tests.{lt_false, true_eq, false_eq, cond_true, cond_false}
use Rattle.laws.specs.Laws.Lowest.{lowest_le}
use Rattle.laws.specs.Laws.Numbers.{big_ext}
use Rattle.laws.specs.Laws.Count.{count_cong, count_not}
use Rattle.sector_rules.specs.Geometry.{blocks, image_bytes}
use Rattle.sector_rules.specs.Replies.{done, refusal}
use Rattle.sector_rules.specs.declared.Reply.{Reply}
use Rattle.file_rules.specs.declared.Record.{Record}
use Rattle.file_rules.specs.declared.Record.TheVariants.{Free, System}
use Rattle.file_rules.specs.declared.Entry.{Entry}
use Rattle.file_rules.specs.Arguments.{FormatArguments, EachCanBeBad}
use Rattle.file_rules.specs.Calls.{DiskChanged, ImageChanged, disk_kept, image_kept, wrong_length, on_sound, check, needed, add_at, add_sound, imaged, add}
use Rattle.file_rules.specs.Calls.{remove_at, remove_sound, remove}
use Rattle.file_rules.specs.Check.{record_fault, free_right, disk_refusal}
use Rattle.file_rules.specs.Directory.{name_right, entry_for, held, dir_end, find_name, vacant_slot}
use Rattle.file_rules.specs.Disk.{Disk, disk_of, image_of}
use Rattle.file_rules.specs.FirstTrack.{counted}
use Rattle.file_rules.specs.FreeTails.{MapInBytes, IsWrittenFree, free_by_first, blocks_taken, taken_record, FreeTails}
use Rattle.file_rules.specs.Histories.{Call, image_end}
use Rattle.file_rules.specs.History.{formatted}
use Rattle.file_rules.proofs.Laws.Base.Disk.{inside_disk, outside_disk}
use Rattle.file_rules.proofs.Laws.Base.Ends.{end_within}
use Rattle.file_rules.proofs.Laws.Base.Judged.{check_long, check_passed, nine_wrong, nine_at_zero, word_right, eleven_wrong, track_accepted}
use Rattle.file_rules.proofs.Laws.Base.Names.{bounds_name}
use Rattle.file_rules.proofs.Laws.Base.OnSound.{sound_length, sound_refused, sound_passed}
use Rattle.file_rules.proofs.Laws.Base.Records.{free_only, free_by_byte, begins_free}
use Rattle.file_rules.proofs.Laws.Base.Sound.{first_system, NotDone, refused_number}
use Rattle.file_rules.proofs.Laws.Base.Whole.{with_is, free_is}
use Rattle.file_rules.proofs.Laws.InnerModel.Inner.{Inner, render, inner_format, inner_end}
use Rattle.file_rules.proofs.Laws.InnerModel.Invariant.{Inv}
use Rattle.file_rules.proofs.Laws.OnImages.Single.{img_disk}
use Rattle.file_rules.proofs.Laws.OnImages.Run.{format_inv, end_inv}
use Rattle.file_rules.proofs.Laws.OnAnyDisk.Kept.{free_same, word_written_lem, grow_system, add_held, left_beside, add_left, remove_beside, remove_freed}
use Rattle.file_rules.proofs.Laws.OnAnyDisk.BlockBytes.{free_no_file, free_not_zero, add_bytes, remove_bytes, remove_zeros}
use Rattle.file_rules.proofs.Laws.OnAnyDisk.Stays.{record_image, add_kept, remove_kept, add_stays, remove_stays}
use Rattle.file_rules.proofs.Laws.OnAnyDisk.Taken.{HasRecord, taken_is, add_gives_record}
use Rattle.file_rules.proofs.Laws.Theorem.History.{end_is}
use Rattle.file_rules.specs.Map.{sequences, number_of, encode, record_byte, record_at, is_system, is_other, bears, free_at, free_count}
use Rattle.file_rules.specs.Sizes.{block_bytes, block_slots, name_most, title_most, free_sectors}
use Rattle.file_rules.specs.Written.{set_free, step_update}

-- as many free blocks as it takes, said as add asks for them
as_needed : (image content : List ℕ) (b : ℕ) → blocks_taken (disk_of image) (vacant_slot (disk_of image)) (length content) ≤ count b (free_at (disk_of image))
    → needed (disk_of image) (vacant_slot (disk_of image)) (length content) ≤ count b (free_at (disk_of image))
as_needed image content b =
    subst (λ (x : ℕ). x ≤ count b (free_at (disk_of image))) (taken_is (disk_of image) (vacant_slot (disk_of image)) (length content))

-- ---- records that are written

not_done : {X : Type 0} (r : Reply) → NotDone (some r) → r ≡ done → X
not_done r n e = absurd (n (ap (λ (x : Reply). x.number) e))

-- what a call that writes has done, where its reply is done
module _ (image : List ℕ) (act : Disk → DiskChanged) (P : List ℕ → Type 0)
    (sound : disk_refusal (disk_of image) ≡ none → (act (disk_of image)).answer ≡ done → P (image_of (act (disk_of image)).disk_after)) where
  abbrev call : ImageChanged
  call = on_sound image (image_kept image) (λ (x : Disk). imaged (act x))

  abbrev IfDone : ImageChanged → Type 0
  IfDone w = w.answer ≡ done → P w.image

  done_by : (long : length image ≡ image_bytes) (v : Option Reply) → disk_refusal (disk_of image) ≡ v → IfDone call
  unfolding imaged image_kept
  done_by long none e = subst IfDone (sym (sound_passed image _ _ long e)) (sound e)
  done_by long (some r) e = subst IfDone (sym (sound_refused image _ _ long r e)) (not_done r (subst NotDone e (refused_number (disk_of image))))

  when_done : IfDone call
  unfolding image_kept
  when_done =
      by_equal (length image) image_bytes (λ long. done_by long (disk_refusal (disk_of image)) refl)
      (λ short. subst IfDone (sym (sound_length image _ _ short)) (not_done wrong_length (λ z. omega arith)))

-- a record with the bytes of the free one is FD FF FF
pub written_free : (e : Disk) (b : ℕ) → HasRecord e b Free → IsWrittenFree e b
unfolding encode number_of high_byte
written_free e b h = (h 0 (omega arith), h 1 (omega arith), h 2 (omega arith))

module _ (image : List ℕ) (b : ℕ) (l : b < blocks) where
  abbrev before : Disk
  before = disk_of image

  -- the record of a block on the image of a disk is the disk's
  written_image : (e : Disk) (r : Record) → HasRecord e b r → HasRecord (disk_of (image_of e)) b r
  written_image e r h i k = record_image image b l e i k ∙ h i k

  -- what a remove leaves of a block of the file: the free record, and zeros
  abbrev Cleared : Disk → Type 0
  Cleared x = IsWrittenFree x b × ((o : ℕ) → x b o ≡ 0)

  cleared_image : (e : Disk) → HasRecord e b Free → ((o : ℕ) → e b o ≡ 0) → Cleared (disk_of (image_of e))
  cleared_image e r h = (
    written_free (disk_of (image_of e)) b (written_image e Free r),
    λ o. by_order o block_bytes (λ g. inside_disk e b o l g ∙ h o) (λ g. outside_disk (image_of e) b o g),
  )

  remove_frees : (name : List ℕ) → (remove image name).answer ≡ done → bears (find_name before name) (record_at before b) ≡ true
      → Cleared (disk_of (remove image name).image)
  unfolding remove remove_sound disk_kept
  remove_frees name e t =
      let k : ℕ = find_name before name in
      let Freed : DiskChanged → Type 0 = λ (c : DiskChanged). c.answer ≡ done → Cleared (disk_of (image_of c.disk_after)) in
      when_done image (λ (x : Disk). remove_sound x name) (λ (x : List ℕ). Cleared (disk_of x))
      (λ passed.
      let first : record_at before 0 ≡ System = first_system before passed in
      by_cond Freed (name_right name) _ _
      (λ u. by_cond Freed (ltb (find_name before name) (dir_end before)) _ _
      (λ v q. cleared_image (remove_at before k) (remove_freed before first k b l t) (remove_zeros before first k b l t))
      (λ v. not_done _ (λ z. omega arith)))
      (λ u. not_done _ (λ z. omega arith))) e

  -- the slot that an add takes lies in a block whose sequence has 12 bits
  slot_bound : disk_refusal before ≡ none → vacant_slot before / block_slots < sequences
  unfolding vacant_slot
  slot_bound passed = omega (arith, end_within before passed, lowest_le (λ (k : ℕ). ltb 0 k && not (held before k)) (dir_end before))

  add_given : (name : List ℕ) (date : ℕ) (content : List ℕ) → (add image name date content).answer ≡ done → free_at before b ≡ true
      → count b (free_at before) < blocks_taken before (vacant_slot before) (length content)
      → HasRecord (disk_of (add image name date content).image) b (taken_record before (vacant_slot before) (count b (free_at before)))
  unfolding add add_sound disk_kept
  add_given name date content e t few =
      let k : ℕ = vacant_slot before in
      let x : Entry = entry_for name date (length content) in
      let r : Record = taken_record before (vacant_slot before) (count b (free_at before)) in
      let Given : DiskChanged → Type 0 = λ (c : DiskChanged). c.answer ≡ done → HasRecord (disk_of (image_of c.disk_after)) b r in
      when_done image (λ (y : Disk). add_sound y name date content) (λ (y : List ℕ). HasRecord (disk_of y) b r)
      (λ passed.
      let first : record_at before 0 ≡ System = first_system before passed in
      by_cond Given (name_right name) _ _
      (λ u. by_cond Given (ltb (find_name before name) (dir_end before)) _ _ (λ v. not_done _ (λ z. omega arith))
      (λ v. by_cond Given (leb (needed before (vacant_slot before) (length content)) (free_count before)) _ _
      (λ w q. written_image (add_at before k x content) r (add_gives_record before first k x content b l t (grow_system before first k)
      (slot_bound passed) few))
      (λ w. not_done _ (λ z. omega arith))))
      (λ u. not_done _ (λ z. omega arith))) e

-- ---- histories

-- the free records of the inner model's disk are written ones
render_freed : (m : Inner) → Inv m → (b : ℕ) → b < blocks → free_at (render m) b ≡ true → IsWrittenFree (render m) b
unfolding render
render_freed m v b l t =
    let w = with_is _ m.owner _ in
    let owned : m.owner b ≡ Free = free_only (m.owner b) (sym (free_is (render m) _ m.owner _ w (λ x h. v.own.own_valid x h) b l) ∙ t) in
    written_free (render m) b (λ i k. w.map b i l k ∙ ap (λ (r : Record). encode r i) owned)

history_frees : (old : List ℕ) (args : FormatArguments) (calls : List Call) → length old ≡ image_bytes → length args.title ≤ title_most
    → EachCanBeBad args.bad → (b : ℕ) → b < blocks → free_at (disk_of (image_end (formatted old args) calls)) b ≡ true
    → IsWrittenFree (disk_of (image_end (formatted old args) calls)) b
history_frees old args calls long short each =
    let m : Inner = inner_end (inner_format args) calls in
    let v : Inv m = end_inv calls (inner_format args) (format_inv args each) in
    let e : disk_of (image_end (formatted old args) calls) ≡ render m = ap disk_of (end_is old args calls long short each) ∙ img_disk m v in
    subst (λ (x : Disk). (b : ℕ) → b < blocks → free_at x b ≡ true → IsWrittenFree x b) (sym e) (render_freed m v)

-- ---- what is counted

free_fault : (b : ℕ) → record_fault b Free ≡ eqb b 0
unfolding record_fault is_system is_other
free_fault b = by_test (eqb b 0) (λ t. rw t) (λ t. rw t)

module _ (d : Disk) (bytes : MapInBytes d) where
  free_first : free_count d ≡ free_by_first d
  unfolding free_count free_by_first
  free_first = count_cong blocks (free_at d) (λ (b : ℕ). eqb (record_byte d b 0) 0xFD) (λ b l. free_by_byte d b (bytes b l))

  word_is : free_right d ≡ eqb (at16 (d 0) 20) (3 * free_by_first d)
  unfolding free_right
  word_is = ap (λ (n : ℕ). eqb (at16 (d 0) 20) (free_sectors n)) free_first

  counted_is : free_right d ≡ true → counted d ≡ record { reply = done; free = 3 * free_by_first d; good = at16 (d 0) 22; held = blocks - free_by_first d }
  unfolding counted free_count
  counted_is t =
      let word : at16 (d 0) 20 ≡ 3 * free_by_first d = true_eq (sym word_is ∙ t) in
      let others : count blocks (λ (b : ℕ). not (free_at d b)) ≡ blocks - free_by_first d = omega (arith, count_not blocks (free_at d), free_first) in
      rw (word, others)

-- the free word of an image that was written
word_image : (x : Disk) → MapInBytes (disk_of (image_of (step_update (set_free x))))
    → at16 (disk_of (image_of (step_update (set_free x))) 0) 20 ≡ 3 * free_by_first (disk_of (image_of (step_update (set_free x))))
unfolding at16 free_count
word_image x bytes =
    let e : Disk = step_update (set_free x) in
    let i : Disk = disk_of (image_of e) in
    let same : count blocks (free_at e) ≡ count blocks (free_at i) =
    count_cong blocks (free_at e) (free_at i) (λ b l. free_same e i b (λ j k. sym (record_image (image_of e) b l e j k))) in
    big_ext (λ (j : ℕ). i 0 (20 + j)) (λ (j : ℕ). e 0 (20 + j)) 2 (λ j l. inside_disk e 0 (20 + j) (omega arith) (omega arith))
    ∙ word_written_lem x ∙ ap free_sectors (same ∙ free_first i bytes)

abbrev WordRight : List ℕ → Type 0
WordRight y = MapInBytes (disk_of y) → at16 (disk_of y 0) 20 ≡ 3 * free_by_first (disk_of y)

module _ (image : List ℕ) where
  abbrev d₀ : Disk
  d₀ = disk_of image

  abbrev WordOn : DiskChanged → Type 0
  WordOn c = c.answer ≡ done → WordRight (image_of c.disk_after)

  add_writes_word : (name : List ℕ) (date : ℕ) (content : List ℕ) → (add image name date content).answer ≡ done → WordRight (add image name date content).image
  unfolding add add_sound add_at disk_kept
  add_writes_word name date content =
      when_done image (λ (y : Disk). add_sound y name date content) WordRight
      (λ passed. by_cond WordOn (name_right name) _ _
      (λ u. by_cond WordOn (ltb (find_name d₀ name) (dir_end d₀)) _ _ (λ v. not_done _ (λ z. omega arith))
      (λ v. by_cond WordOn (leb (needed d₀ (vacant_slot d₀) (length content)) (free_count d₀)) _ _ (λ w q. word_image _) (λ w. not_done _ (λ z. omega arith))))
      (λ u. not_done _ (λ z. omega arith)))

  remove_writes_word : (name : List ℕ) → (remove image name).answer ≡ done → WordRight (remove image name).image
  unfolding remove remove_sound remove_at disk_kept
  remove_writes_word name =
      when_done image (λ (y : Disk). remove_sound y name) WordRight
      (λ passed. by_cond WordOn (name_right name) _ _
      (λ u. by_cond WordOn (ltb (find_name d₀ name) (dir_end d₀)) _ _ (λ v q. word_image _) (λ v. not_done _ (λ z. omega arith)))
      (λ u. not_done _ (λ z. omega arith)))

  room_is : (name : List ℕ) (date : ℕ) (content : List ℕ) → MapInBytes d₀ → check image ≡ done → 1 ≤ length name → length name ≤ name_most
      → find_name d₀ name ≡ dir_end d₀
      → (add image name date content).answer ≡ cond (leb (blocks_taken d₀ (vacant_slot d₀) (length content)) (free_by_first d₀)) done (refusal 15)
  unfolding add add_sound imaged disk_kept
  room_is name date content bytes e p q new =
      let long : length image ≡ image_bytes = check_long image (λ z. absurd (omega (arith, z, ap (λ (x : Reply). x.number) e))) in
      let acts : add image name date content ≡ imaged (add_sound d₀ name date content) = sound_passed image _ _ long (check_passed image e) in
      let asked : Bool = leb (needed d₀ (vacant_slot d₀) (length content)) (free_count d₀) in
      let room : asked ≡ leb (blocks_taken d₀ (vacant_slot d₀) (length content)) (free_by_first d₀) =
      ap₂ leb (sym (taken_is d₀ (vacant_slot d₀) (length content))) (free_first d₀ bytes) in
      ap (λ (w : ImageChanged). w.answer) acts
      ∙ ap (λ (c : DiskChanged). c.answer)
      (cond_true _ _ (bounds_name name p q) ∙ cond_false _ _ (lt_false {a = find_name d₀ name} {b = dir_end d₀} (omega (arith, new))))
      ∙ by_test asked
      (λ t. ap (λ (c : DiskChanged). c.answer) (cond_true _ _ t) ∙ sym (cond_true _ _ (sym room ∙ t)))
      (λ t. ap (λ (c : DiskChanged). c.answer) (cond_false _ _ t) ∙ sym (cond_false _ _ (sym room ∙ t)))

-- free_tails: all of this holds
pub free_tails : FreeTails
free_tails =
    record {
      first_byte = free_by_byte;
      nine_names = λ image b e bytes f.
          true_eq (sym (free_fault b) ∙ ap (record_fault b) (sym (begins_free (disk_of image) b bytes f)) ∙ nine_wrong image b e);
      nine_zero = λ image long right bytes f.
          nine_at_zero image long right (ap (record_fault 0) (begins_free (disk_of image) 0 bytes f) ∙ free_fault 0);
      word_counts = λ image bytes e. true_eq (sym (word_is (disk_of image) bytes) ∙ word_right image (check_passed image e));
      word_wrong = λ image bytes e. false_eq (sym (word_is (disk_of image) bytes) ∙ eleven_wrong image e);
      track_counts = λ image long bytes e.
          let w = track_accepted image long e in w.0 ∙ counted_is (disk_of image) bytes w.1;
      add_room = λ image name date content bytes e p q new. room_is image name date content bytes e p q new;
      add_word = λ image name date content e. add_writes_word image name date content e;
      remove_word = λ image name e. remove_writes_word image name e;
      add_others = λ image name date content b l t.
          add_kept image b l name date content (λ first e. add_held (disk_of image) first (vacant_slot (disk_of image)) e content b l t);
      add_free = λ image name date content b l h.
          add_kept image b l name date content
          (λ first e. add_left (disk_of image) first (vacant_slot (disk_of image)) e content b l (as_needed image content b h));
      add_bytes_stay = λ image name date content b l t h.
          add_stays image b l name date content
          (λ first x.
          let k : ℕ = vacant_slot (disk_of image) in
          add_bytes (disk_of image) first k x content b l (free_no_file (disk_of image) b t) (free_not_zero (disk_of image) first b t)
          (left_beside (disk_of image) first k x content b l (as_needed image content b h)));
      remove_bytes_stay = λ image name b l t.
          remove_stays image b l name (λ first. remove_bytes (disk_of image) first (find_name (disk_of image) name) b l (free_no_file (disk_of image) b t)
          (free_not_zero (disk_of image) first b t));
      add_taken = λ image name date content b l e t few. add_given image b l name date content e t few;
      remove_others = λ image name b l t.
          remove_kept image b l name (λ first. remove_beside (disk_of image) first (find_name (disk_of image) name) b l t);
      remove_own = λ image name b l e t. remove_frees image b l name e t;
      history_free = history_frees;
    }
