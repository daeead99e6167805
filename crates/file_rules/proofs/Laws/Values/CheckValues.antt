-- 9 and 10 by value: the proof of check_values (CheckValues.antt).
-- Rests on: the laws of the disk in block order (Base/Disk), that a written header passes 8 (Base/Header), and that a format is accepted (OnImages/Run);
-- all else is computed.
use Rattle.std.specs.Prelude.{None, true, ◌≢◌, List, [], ◌≡◌, refl, ℕ, suc, ◌-◌, ◌≤◌, ◌<◌, ltb, set}
use Rattle.std.proofs.Common.{sym, ap, ◌∙◌, subst, arith, lit<, lit≤}
use Rattle.laws.specs.Below.{lowest, count, all}
use Rattle.laws.specs.Changes.{upd, patch}
use Rattle.laws.specs.Laws.Changes.{upd_other, upd₂_same, upd₂_other}
use Rattle.laws.specs.Laws.Cases.{by_equal}
use Rattle.laws.specs.Laws.Tests.{eq_true, lt_false, cond_true, cond_false, and_false_left, and_false_right}
use Rattle.laws.specs.Lists.{same, tab}
use Rattle.laws.specs.Numbers.{at16, at32, big_endian, high_byte, quotient_up}
use Rattle.laws.specs.Options.{or_else}
use Rattle.sector_rules.specs.declared.Reply.{Reply}
use Rattle.sector_rules.specs.Faults.{fault_below}
use Rattle.sector_rules.specs.Geometry.{sector_bytes, blocks}
use Rattle.sector_rules.specs.Replies.{done, reply_with}
use Rattle.file_rules.specs.declared.Record.{Record}
use Rattle.file_rules.specs.Arguments.{FormatArguments, arguments_of, listed, count_listed}
use Rattle.file_rules.specs.Calls.{ImageChanged, unless, image_right, on_sound, fresh_owner, fresh_header, format_disk, check}
use Rattle.file_rules.specs.Check.{disk_header_fault, record_fault, map_fault}
use Rattle.file_rules.specs.Check.{parts_right, no_record_bears, new_name, entry_right, file_right, file_fault}
use Rattle.file_rules.specs.Check.{good_right, refusal9, refusal19, start_refusal, refusal10, refusal11, disk_refusal}
use Rattle.file_rules.specs.Directory.{lowered, name_eq, entry_of, entry_byte, name_of, entry_for, slot_byte, slot_entry, slot_name, held, dir_bytes, dir_end}
use Rattle.file_rules.specs.Disk.{Disk, image_place, image_of, set_byte}
use Rattle.file_rules.proofs.Laws.Base.BadList.{none_bad}
use Rattle.file_rules.proofs.Laws.Base.Disk.{first_place, length_image, disk_image, image_set}
use Rattle.file_rules.proofs.Laws.Base.Header.{header_none, header_passes}
use Rattle.file_rules.proofs.Laws.Base.Whole.{with_is}
use Rattle.file_rules.proofs.Laws.OnImages.Run.{format_done}
use Rattle.file_rules.specs.Map.{decode, encode, number_of, number_at, record_at, is_bad_record, bad_at, bad_count, is_system, is_other, bears, is_part}
use Rattle.file_rules.specs.Map.{within, part_block}
use Rattle.file_rules.specs.Model.{Model, file_of, taken_by, slot_of, dir_byte, content, position, or_record, slot_record, model_record, model_header}
use Rattle.file_rules.specs.Model.{model_disk}
use Rattle.file_rules.specs.Sizes.{block_bytes, map_start, free_sectors}
use Rattle.file_rules.specs.Written.{fixed_byte, disk_header_byte, disk_with}
use Rattle.file_rules.specs.CheckValues.{RecordsJudged, CheckValues, empty_file, two_files}
use Rattle.file_rules.specs.NamesEqual.{reel_one, reel_capitals, reel_other}

-- a disk has nothing outside its blocks (§1.3)
pub record NothingOutside (d : Disk) : Type 0 where
  pub far : (b o : ℕ) → blocks ≤ b → d b o ≡ 0
  pub out : (b o : ℕ) → block_bytes ≤ o → d b o ≡ 0

with_nothing_outside : (header : ℕ → ℕ) (owner : ℕ → Record) (content : Record → ℕ → ℕ) → NothingOutside (disk_with header owner content)
unfolding disk_with
with_nothing_outside header owner content =
    record {
      far = λ b o h. cond_false _ _ (and_false_left (ltb o block_bytes) (lt_false h));
      out = λ b o h. cond_false _ _ (and_false_right (ltb b blocks) (lt_false h));
    }

-- a fresh disk has nothing outside its blocks
pub fresh_nothing_outside : (args : FormatArguments) → NothingOutside (format_disk args)
unfolding format_disk
fresh_nothing_outside args = with_nothing_outside _ _ _

-- a disk of which a byte of block 0 is another has nothing outside its blocks
pub set_nothing_outside : (d : Disk) (o v : ℕ) → o < block_bytes → NothingOutside d → NothingOutside (set_byte d 0 o v)
unfolding set_byte
set_nothing_outside d o v l w =
    record {
      far = λ b p h. upd₂_other d 0 (upd (d 0) o v) b p (λ e. absurd (omega arith)) ∙ w.far b p h;
      out = λ b p h.
          by_equal b 0
          (λ e. upd₂_same d 0 (upd (d 0) o v) b p e ∙ upd_other (d 0) o v p (λ e. absurd (omega arith)) ∙ w.out 0 p h)
          (λ e. upd₂_other d 0 (upd (d 0) o v) b p e ∙ w.out b p h);
    }

-- what check says of the image of a disk (§8.5)
unfoldable judged_reply : Disk → Reply
judged_reply d = unless (disk_refusal d) (λ (r : Reply). r) done

check_is : (d : Disk) → NothingOutside d → check (image_of d) ≡ judged_reply d
unfolding check on_sound image_right judged_reply
check_is d w = cond_true _ _ (eq_true (length_image d)) ∙ ap judged_reply (disk_image d (λ b o h. w.far b o h) (λ b o h. w.out b o h))

-- a byte of block 0's first sector, which stands at the image's beginning
pub set_is : (d : Disk) (o v : ℕ) → image_place 0 o ≡ o → o < block_bytes → set (image_of d) o v ≡ image_of (set_byte d 0 o v)
set_is d o v e l = ap (λ (i : ℕ). set (image_of d) i v) (sym e) ∙ image_set d 0 o v (lit< tt) l

-- what check says of an image of which such a byte is another
changed_is : (d : Disk) → NothingOutside d → (o v : ℕ) → image_place 0 o ≡ o → o < block_bytes → check (set (image_of d) o v) ≡ judged_reply (set_byte d 0 o v)
changed_is d w o v e l = ap check (set_is d o v e l) ∙ check_is (set_byte d 0 o v) (set_nothing_outside d o v l w)

-- what 9, 19, 10 and 11 say of a disk
unfoldable reply_after_header : Disk → Reply
reply_after_header d = unless (or_else (or_else (refusal9 d) (refusal19 d)) (or_else (refusal10 d) (refusal11 d))) (λ (r : Reply). r) done

-- where the header is right, they decide
past_header : (d : Disk) → disk_header_fault d ≡ None → judged_reply d ≡ reply_after_header d
unfolding judged_reply reply_after_header disk_refusal start_refusal or_else
past_header d e = rw (header_none d e) refl

-- a disk has the header of a fresh one
abbrev HasFreshHeader : FormatArguments → Disk → Type 0
HasFreshHeader args d = (o : ℕ) → o < map_start → d 0 o ≡ fresh_header args o

-- a fresh disk has its header
fresh_header_lem : (args : FormatArguments) → HasFreshHeader args (format_disk args)
unfolding format_disk
fresh_header_lem args = (with_is (fresh_header args) (fresh_owner args) (λ (r : Record) (o : ℕ). 0)).head

-- a disk with letters and fields of a fresh header passes 8
fresh_passes : (args : FormatArguments) (d : Disk) → ((o : ℕ) → o < 4 → d 0 o ≡ fresh_header args o)
    → ((o : ℕ) → 24 ≤ o → o < 76 → d 0 o ≡ fresh_header args o) → disk_header_fault d ≡ None
fresh_passes args = header_passes args 0 (free_sectors (blocks - 2 - count_listed args.bad)) 1 (lit≤ tt) (lit< tt)

-- bytes that 8 judges are those of a fresh disk
abbrev pub JudgedFresh : FormatArguments → Disk → Type 0
JudgedFresh args d = ((o : ℕ) → o < 4 → d 0 o ≡ fresh_header args o) × ((o : ℕ) → 24 ≤ o → o < 76 → d 0 o ≡ fresh_header args o)

-- a byte that 8 does not judge: one of 4 to 23, or one after the tables, in the first sector
abbrev pub Unjudged : ℕ → Type 0
Unjudged p = (p < sector_bytes) × (4 ≤ p) × (24 ≤ p → 76 ≤ p)

-- another byte there leaves them
judged_stays : (args : FormatArguments) (d : Disk) (p v : ℕ) → Unjudged p → JudgedFresh args d → JudgedFresh args (set_byte d 0 p v)
unfolding set_byte
judged_stays args d p v k w =
    let other : (o : ℕ) → o ≢ p → set_byte d 0 p v 0 o ≡ d 0 o = λ o q. upd₂_same d 0 (upd (d 0) p v) 0 o refl ∙ upd_other (d 0) p v o q in (
      λ o h. other o (λ e. omega (arith, k.1)) ∙ w.0 o h,
      λ o g h. other o (λ e. omega (arith, k.2 (omega arith))) ∙ w.1 o g h,
    )

-- a disk that 8 passes, with nothing outside its blocks
pub record Passable (args : FormatArguments) (d : Disk) : Type 0 where
  pub inside : NothingOutside d
  pub judged : JudgedFresh args d

-- a fresh disk is one
pub passable_fresh : (args : FormatArguments) → Passable args (format_disk args)
passable_fresh args =
    record { inside = fresh_nothing_outside args; judged = (λ o h. fresh_header_lem args o (omega arith), λ o g h. fresh_header_lem args o (omega arith)) }

-- another byte that 8 does not judge leaves it one
pub passable_set : (args : FormatArguments) (d : Disk) (p v : ℕ) → Unjudged p → Passable args d → Passable args (set_byte d 0 p v)
passable_set args d p v k w =
    record { inside = set_nothing_outside d p v (omega (arith, k.0)) w.inside; judged = judged_stays args d p v k w.judged }

-- it passes 8
pub passable_passes : (args : FormatArguments) (d : Disk) → Passable args d → disk_header_fault d ≡ None
passable_passes args d w = fresh_passes args d w.judged.0 w.judged.1

-- what check says of an image of which such a byte is another
byte_changed : (args : FormatArguments) (d : Disk) → Passable args d → (p v : ℕ) → Unjudged p → check (set (image_of d) p v) ≡ reply_after_header
    (set_byte d 0 p v)
byte_changed args d w p v k =
    changed_is d w.inside p v (first_place p k.0) (omega (arith, k.0))
    ∙ past_header (set_byte d 0 p v) (passable_passes args (set_byte d 0 p v) (passable_set args d p v k w))

-- the same of two bytes
two_changed : (args : FormatArguments) (d : Disk) → Passable args d → (p v q w : ℕ) → Unjudged p → Unjudged q
    → check (set (set (image_of d) p v) q w) ≡ reply_after_header (set_byte (set_byte d 0 p v) 0 q w)
two_changed args d ok p v q w k l =
    ap (λ (x : List ℕ). check (set x q w)) (set_is d p v (first_place p k.0) (omega (arith, k.0)))
    ∙ byte_changed args (set_byte d 0 p v) (passable_set args d p v k ok) q w l

-- the same of three bytes
three_changed : (args : FormatArguments) (d : Disk) → Passable args d → (p v q w r x : ℕ) → Unjudged p → Unjudged q → Unjudged r
    → check (set (set (set (image_of d) p v) q w) r x) ≡ reply_after_header (set_byte (set_byte (set_byte d 0 p v) 0 q w) 0 r x)
three_changed args d ok p v q w r x k l m =
    ap (λ (y : List ℕ). check (set (set y q w) r x)) (set_is d p v (first_place p k.0) (omega (arith, k.0)))
    ∙ two_changed args (set_byte d 0 p v) (passable_set args d p v k ok) q w r x l m

judged_is : (title : List ℕ) (number : ℕ) → RecordsJudged (image_of (format_disk (arguments_of title number [])))
unfolding reply_after_header refusal9 refusal19 refusal10 refusal11 dir_bytes map_fault record_at number_at good_right bad_count bad_at is_bad_record
    count_listed listed
    format_disk disk_with disk_header_byte fixed_byte patch high_byte tab at16 big_endian lowest count
    decode encode number_of fresh_owner record_fault is_system is_other fault_below unless or_else set_byte upd
    file_fault file_right parts_right dir_end all within is_part bears no_record_bears quotient_up held
judged_is title number =
    let args : FormatArguments = arguments_of title number [] in
    let d : Disk = format_disk args in
    let ok : Passable args d = passable_fresh args in
    record {
      first_record = byte_changed args d ok 96 0xF9 (lit< tt, lit≤ tt, λ h. lit≤ tt);
      first_free = byte_changed args d ok 96 0xFD (lit< tt, lit≤ tt, λ h. lit≤ tt);
      first_bad_lem = three_changed args d ok 96 0xFE 97 0xFF 98 0xFF (lit< tt, lit≤ tt, λ h. lit≤ tt) (lit< tt, lit≤ tt, λ h. lit≤ tt)
          (lit< tt, lit≤ tt, λ h. lit≤ tt);
      system_record = byte_changed args d ok 99 0xF8 (lit< tt, lit≤ tt, λ h. lit≤ tt);
      other_record = byte_changed args d ok 396 0xFC (lit< tt, lit≤ tt, λ h. lit≤ tt);
      other_tail = two_changed args d ok 396 0xFE 398 0xFE (lit< tt, lit≤ tt, λ h. lit≤ tt) (lit< tt, lit≤ tt, λ h. lit≤ tt);
      bad_record = byte_changed args d ok 396 0xFE (lit< tt, lit≤ tt, λ h. lit≤ tt);
      bad_directory = three_changed args d ok 99 0xFE 100 0xFF 101 0xFF (lit< tt, lit≤ tt, λ h. lit≤ tt) (lit< tt, lit≤ tt, λ h. lit≤ tt)
          (lit< tt, lit≤ tt, λ h. lit≤ tt);
      good_less = byte_changed args d ok 23 0x9F (lit< tt, lit≤ tt, λ h. omega arith);
      good_high_byte = byte_changed args d ok 22 0x04 (lit< tt, lit≤ tt, λ h. omega arith);
      nine_first = two_changed args d ok 396 0xFC 23 0x9F (lit< tt, lit≤ tt, λ h. lit≤ tt) (lit< tt, lit≤ tt, λ h. omega arith);
      ten_after = two_changed args d ok 101 1 23 0x9F (lit< tt, lit≤ tt, λ h. lit≤ tt) (lit< tt, lit≤ tt, λ h. omega arith);
      eleven_after = two_changed args d ok 21 0x9B 23 0x9F (lit< tt, lit≤ tt, λ h. omega arith) (lit< tt, lit≤ tt, λ h. omega arith);
      directory_part = byte_changed args d ok 101 1 (lit< tt, lit≤ tt, λ h. lit≤ tt);
      no_slot = three_changed args d ok 102 0x00 103 0x50 104 0x00 (lit< tt, lit≤ tt, λ h. lit≤ tt) (lit< tt, lit≤ tt, λ h. lit≤ tt)
          (lit< tt, lit≤ tt, λ h. lit≤ tt);
    }

-- a model's disk has nothing outside its blocks
model_nothing_outside : (m : Model) → NothingOutside (model_disk m)
unfolding model_disk
model_nothing_outside m = with_nothing_outside _ _ _

-- the header of a model's disk is right, while its directory is short enough for the header's words
model_header_lem : (m : Model) → m.peak < 1572863 → disk_header_fault (model_disk m) ≡ None
unfolding model_disk model_header
model_header_lem m h =
    let head = (with_is (model_header m) _ _).head in
    header_passes _ _ _ (suc m.peak) (omega arith) (omega arith) (model_disk m) (λ o g. head o (omega arith)) (λ o k g. head o (omega arith))

spellings_found : (title : List ℕ) (number : ℕ)
    → reply_after_header (model_disk (two_files (arguments_of title number []) reel_one reel_capitals)) ≡ reply_with 10 2 0 0
unfolding reply_after_header refusal9 refusal19 refusal10 refusal11 dir_bytes map_fault record_at number_at good_right bad_count bad_at is_bad_record
    count_listed listed
    model_disk model_header model_record content dir_byte slot_of position or_record slot_record two_files empty_file reel_one reel_capitals file_of taken_by
    disk_with disk_header_byte fixed_byte patch high_byte same tab at16 at32 big_endian lowest count
    decode encode number_of record_fault is_system is_other fault_below unless or_else upd
    file_fault file_right entry_right new_name name_eq lowered slot_entry slot_name slot_byte part_block entry_of entry_byte entry_for name_of
    parts_right dir_end all within is_part quotient_up held
spellings_found title number = refl

other_found : (title : List ℕ) (number : ℕ) → file_right (model_disk (two_files (arguments_of title number []) reel_one reel_other)) 2 ≡ true
unfolding dir_bytes record_at number_at listed
    model_disk model_header model_record content dir_byte slot_of position or_record slot_record two_files empty_file reel_one reel_other file_of taken_by
    disk_with disk_header_byte fixed_byte patch high_byte same tab at16 at32 big_endian lowest count decode encode number_of upd
    file_right entry_right new_name name_eq lowered slot_entry slot_name slot_byte part_block entry_of entry_byte entry_for name_of
    parts_right dir_end all within is_part quotient_up held
other_found title number = refl

two_files_header : (args : FormatArguments) → disk_header_fault (model_disk (two_files args reel_one reel_capitals)) ≡ None
unfolding two_files
two_files_header args = model_header_lem (two_files args reel_one reel_capitals) (lit< tt)

-- check_values: these hold
pub check_values : CheckValues
check_values =
    record {
      records_judged = λ old title number long short.
          subst RecordsJudged (sym (ap (λ (w : ImageChanged). w.image) (format_done old (arguments_of title number []) long short none_bad)))
          (judged_is title number);
      other_sound = other_found;
      spellings_judged = λ title number.
          let args : FormatArguments = arguments_of title number [] in
          let m : Model = two_files args reel_one reel_capitals in
          check_is (model_disk m) (model_nothing_outside m) ∙ past_header (model_disk m) (two_files_header args) ∙ spellings_found title number;
    }
