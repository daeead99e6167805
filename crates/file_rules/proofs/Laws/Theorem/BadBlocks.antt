-- bad_blocks (BadBlocks.antt). What 19 says is read off the judgement (Base.Judged); that bad blocks and the header stay is what the steps of the calls leave
-- (OnAnyDisk: Kept, BlockBytes, HeaderKept, Stays); which records are bad after a history is read off the inner model's disk.
use Rattle.std.specs.Prelude.{◌≡◌, refl, ◌≢◌, Bool, true, ◌&&◌, ◌||◌, List, [], ◌∷◌, ◌++◌, ℕ, zero, suc, ◌+◌, ◌*◌, ◌/◌, ◌%◌, ◌≤◌, ◌<◌, leb, ltb, length, take}
use Rattle.std.proofs.Math.Path.{sym, ap}
use Rattle.std.proofs.Common.{◌∙◌, subst, arith}
use Rattle.std.proofs.Math.Bool.{false, not}
use Rattle.std.proofs.Math.Option.{Option, none, some}
use Rattle.std.proofs.Math.Dec.{eqb}
use Rattle.laws.specs.Lists.{bytes_are}
use Rattle.laws.specs.Numbers.{at16, big_endian, high_byte}
use Rattle.laws.specs.Options.{or_else}
use Rattle.laws.specs.Laws.Cases.{by_order, by_equal, by_test, by_cond}
use Rattle.laws.specs.Laws.Count.{count_cong, count_le}
use Rattle.laws.specs.Laws.Lowest.{lowest_none, lowest_some}
use Rattle.laws.specs.Laws.Tests.{eq_true, eq_false, true_eq, false_eq, true≢false, cond_true, cond_false, or_left, or_right, or_other}
use Rattle.laws.specs.Laws.Tests.{le_true, le_false, true_lt, false_lt, and_true, and_false_left, and_false_right}
use Rattle.sector_rules.specs.Faults.{refusal_at}
use Rattle.sector_rules.specs.Geometry.{blocks, image_bytes}
use Rattle.sector_rules.specs.Replies.{reply_with, refusal}
use Rattle.sector_rules.specs.declared.Reply.{Reply}
use Rattle.file_rules.specs.declared.FirstTrack.{FirstTrack}
use Rattle.file_rules.specs.declared.Record.{Record}
use Rattle.file_rules.specs.declared.Record.TheVariants.{Free, Bad, System, File, Other}
use Rattle.file_rules.specs.Arguments.{FormatArguments, listed, EachCanBeBad}
use Rattle.file_rules.specs.BadBlocks.{has_bad_bytes, bad_by_bytes, three_bytes, is_wrong, disk_at_end, Unwritten, AnswersAs, BadBlocks}
use Rattle.file_rules.specs.Calls.{Outcome, ImageChanged, buffer_kept, image_kept, wrong_length, on_sound, fresh_owner, check, list, read, add, remove}
use Rattle.file_rules.specs.Check.{disk_signature, dimensions_fault, disk_header_fault, record_fault, map_fault, good_right}
use Rattle.file_rules.specs.Check.{refusal8, refusal9, start_refusal, disk_refusal}
use Rattle.file_rules.specs.Directory.{find_name, vacant_slot}
use Rattle.file_rules.specs.Disk.{Disk, disk_of, image_of}
use Rattle.file_rules.specs.FirstTrack.{refused_track, counted, first_track_result}
use Rattle.file_rules.specs.FreeTails.{SameRecord, InBytes, MapInBytes, IsWrittenFree}
use Rattle.file_rules.specs.Histories.{Call, image_end}
use Rattle.file_rules.specs.History.{formatted}
use Rattle.file_rules.proofs.Laws.Base.BadList.{different_is, bad_most}
use Rattle.file_rules.proofs.Laws.Base.Disk.{inside_disk}
use Rattle.file_rules.proofs.Laws.Base.Header.{judged_alike}
use Rattle.file_rules.proofs.Laws.Base.Judged.{nine_absent, nine_present, check_passed, nine_wrong, passed_nineteen}
use Rattle.file_rules.proofs.Laws.Base.Judged.{nineteen_wrong, wrong_start, start_refused}
use Rattle.file_rules.proofs.Laws.Base.Judged.{track_accepted, track_alike}
use Rattle.file_rules.proofs.Laws.Base.OnSound.{sound_length, sound_refused, sound_passed}
use Rattle.file_rules.proofs.Laws.Base.Records.{bad_only, bad_by_bytes_lem, system_by_number}
use Rattle.file_rules.proofs.Laws.Base.Sound.{sound_start, start_nineteen}
use Rattle.file_rules.proofs.Laws.Base.Whole.{With, with_is}
use Rattle.file_rules.proofs.Laws.InnerModel.Inner.{Inner, header, render, inner_format, inner_end}
use Rattle.file_rules.proofs.Laws.InnerModel.Invariant.{Inv}
use Rattle.file_rules.proofs.Laws.InnerModel.Reads.{rec, word22}
use Rattle.file_rules.proofs.Laws.OnAnyDisk.BlockBytes.{bad_no_file, bad_not_zero, add_bytes, remove_bytes}
use Rattle.file_rules.proofs.Laws.OnAnyDisk.HeaderKept.{add_header_kept, remove_header_kept}
use Rattle.file_rules.proofs.Laws.OnAnyDisk.Kept.{held_beside, add_held, remove_beside}
use Rattle.file_rules.proofs.Laws.OnAnyDisk.Stays.{by_add, by_remove, add_kept, remove_kept, add_stays, remove_stays}
use Rattle.file_rules.proofs.Laws.OnImages.Single.{img_disk}
use Rattle.file_rules.proofs.Laws.OnImages.Run.{format_inv, end_inv}
use Rattle.file_rules.proofs.Laws.Theorem.FreeTails.{written_free}
use Rattle.file_rules.proofs.Laws.Theorem.History.{same_arguments, end_is}
use Rattle.file_rules.specs.Map.{file_bound, free_byte, tail_count, system_number, bad_number, sequences, decode}
use Rattle.file_rules.specs.Map.{encode, number_at, record_at, bears, is_part, within}
use Rattle.file_rules.specs.Map.{is_free, is_bad_record, is_system, is_other, free_at, bad_at, bad_count}
use Rattle.file_rules.specs.Model.{different_blocks, content}
use Rattle.file_rules.specs.Sizes.{block_bytes, title_most, good_sectors}

-- ---- records and the good word

three_is : (d : Disk) (b : ℕ) → InBytes d b → bad_at d b ≡ has_bad_bytes d b
unfolding has_bad_bytes
three_is d b bytes = bad_by_bytes_lem d b bytes

has_bad : (d : Disk) (b : ℕ) → InBytes d b → has_bad_bytes d b ≡ true → record_at d b ≡ Bad
unfolding bad_at
has_bad d b bytes t = bad_only (record_at d b) (three_is d b bytes ∙ t)

bad_fault : (b : ℕ) → record_fault b Bad ≡ eqb b 0
unfolding record_fault is_system is_other
bad_fault b = by_test (eqb b 0) (λ t. rw t) (λ t. rw t)

-- what 9 finds wrong, by a record's number
module _ (n : ℕ) where
  abbrev later : Bool
  later = leb 0xF80000 n && (not (eqb (n / 0x10000) 0xFD) && not (eqb n 0xFEFFFF))

  abbrev AsLater : Record → Type 0
  AsLater r = (is_system r || is_other r) ≡ later

  later_is : AsLater (decode n)
  unfolding decode is_system is_other
  later_is =
      by_cond AsLater (ltb n file_bound) (File (n / sequences) (n % sequences)) _
      (λ t. sym (and_false_left _ (le_false {a = 0xF80000} {b = n} (true_lt {a = n} {b = file_bound} t))))
      (λ t. by_cond AsLater (eqb (n / tail_count) free_byte) Free _
      (λ u. sym (and_false_right (leb 0xF80000 n) (and_false_left _ (ap not u))))
      (λ u. by_cond AsLater (eqb n system_number) System _
      (λ w. let e : n ≡ 0xF80000 = true_eq w in rw e)
      (λ w. by_cond AsLater (eqb n bad_number) Bad Other
      (λ x. let e : n ≡ 0xFEFFFF = true_eq x in rw e)
      (λ x. sym (and_true (le_true {a = 0xF80000} {b = n} (false_lt {a = n} {b = file_bound} t)) (and_true (ap not u) (ap not x)))))))

number_is : (d : Disk) (b : ℕ) → number_at d b ≡ three_bytes d b
unfolding number_at big_endian three_bytes
number_is d b = omega arith

fault_is : (d : Disk) (b : ℕ) → record_fault b (record_at d b) ≡ is_wrong b (three_bytes d b)
unfolding record_fault record_at is_wrong
fault_is d b =
    ap (λ (m : ℕ). record_fault b (decode m)) (number_is d b)
    ∙ by_test (eqb b 0)
    (λ t. cond_true _ _ t ∙ ap not (system_by_number (three_bytes d b)) ∙ sym (cond_true _ _ t))
    (λ t. cond_false _ _ t ∙ later_is (three_bytes d b) ∙ sym (cond_false _ _ t))

module _ (d : Disk) (bytes : MapInBytes d) where
  bad_counted : bad_count d ≡ bad_by_bytes d
  unfolding bad_count bad_by_bytes
  bad_counted = count_cong blocks (bad_at d) (has_bad_bytes d) (λ b l. three_is d b (bytes b l))

  few : bad_by_bytes d ≤ 480
  unfolding bad_by_bytes
  few = count_le blocks (has_bad_bytes d)

  right_sum : good_right d ≡ true → at16 (d 0) 22 + 3 * bad_by_bytes d ≡ 1440
  unfolding good_right
  right_sum t = omega (arith, true_eq {a = at16 (d 0) 22} {b = good_sectors (bad_count d)} t, bad_counted, few)

  wrong_sum : good_right d ≡ false → at16 (d 0) 22 + 3 * bad_by_bytes d ≢ 1440
  unfolding good_right
  wrong_sum t e = false_eq {a = at16 (d 0) 22} {b = good_sectors (bad_count d)} t (omega (arith, e, bad_counted, few))

  sum_wrong : at16 (d 0) 22 + 3 * bad_by_bytes d ≢ 1440 → good_right d ≡ false
  sum_wrong n = by_test (good_right d) (λ t. absurd (n (right_sum t))) (λ t. t)

track_good_lem : (d : Disk) → (counted d).good ≡ at16 (d 0) 22
unfolding counted
track_good_lem d = refl

module _ (image : List ℕ) (long : length image ≡ image_bytes) where
  abbrev d : Disk
  d = disk_of image

  nineteen_given : MapInBytes d → refusal8 d ≡ none → refusal9 d ≡ none → at16 (d 0) 22 + 3 * bad_by_bytes d ≢ 1440
      → (check image ≡ refusal 19) × (first_track_result (take 9216 image) ≡ refused_track (refusal 19))
  nineteen_given bytes a b n = start_refused image long (refusal 19) (wrong_start image a b (sum_wrong d bytes n))

  eight_given : (r : Reply) → refusal8 d ≡ some r → (check image ≡ r) × (first_track_result (take 9216 image) ≡ refused_track r)
  unfolding start_refusal or_else
  eight_given r e = start_refused image long r (rw e)

  total_named : bytes_are (d 0) 0 (0x51 ∷ 0x4C ∷ 0x35 ∷ 0x41 ∷ []) ≡ true → at16 (d 0) 24 ≢ 1440 → refusal8 d ≡ some (reply_with 8 24 0 0)
  unfolding refusal8 disk_header_fault disk_signature dimensions_fault
  total_named letters n = let wrong : eqb (at16 (d 0) 24) 1440 ≡ false = eq_false {a = at16 (d 0) 24} {b = 1440} n in rw (letters, wrong)

  nine_given : (r : Reply) → refusal8 d ≡ none → refusal9 d ≡ some r → (check image ≡ r) × (first_track_result (take 9216 image) ≡ refused_track r)
  unfolding start_refusal or_else
  nine_given r a e = start_refused image long r (rw (a, e))

  nine_found : refusal8 d ≡ none → (b : ℕ) → b < blocks → is_wrong b (three_bytes d b) ≡ true
      → ((j : ℕ) → j < b → is_wrong j (three_bytes d j) ≡ false)
      → (check image ≡ reply_with 9 b 0 0) × (first_track_result (take 9216 image) ≡ refused_track (reply_with 9 b 0 0))
  unfolding map_fault
  nine_found a b l t below =
      let at : map_fault d ≡ b =
      lowest_some (λ (j : ℕ). record_fault j (record_at d j)) blocks b l (λ j h. fault_is d j ∙ below j h) (fault_is d b ∙ t) in
      nine_given (reply_with 9 b 0 0) a (nine_present d b l at)

-- ---- the calls answer as check does

module _ {A : Type 0} (image : List ℕ) (refuse : Reply → A) (act : Disk → A) (pick : A → Reply) (picks : (r : Reply) → pick (refuse r) ≡ r)
    (refused : (check image).number ≢ 0) where
  by_judgement : length image ≡ image_bytes → (v : Option Reply) → disk_refusal (disk_of image) ≡ v → pick (on_sound image refuse act) ≡ check image
  unfolding check
  by_judgement long none e = absurd (refused (ap (λ (r : Reply). r.number) (sound_passed image _ _ long e)))
  by_judgement long (some r) e = ap pick (sound_refused image refuse act long r e) ∙ picks r ∙ sym (sound_refused image _ _ long r e)

  same_answer : pick (on_sound image refuse act) ≡ check image
  unfolding check
  same_answer =
      by_equal (length image) image_bytes (λ long. by_judgement long (disk_refusal (disk_of image)) refl)
      (λ short. ap pick (sound_length image refuse act short) ∙ picks wrong_length ∙ sym (sound_length image _ _ short))

answers : (image : List ℕ) → (check image).number ≢ 0 → AnswersAs image (check image)
unfolding list read add remove buffer_kept image_kept
answers image n =
    record {
      list_answers = λ buffer. same_answer image (buffer_kept buffer) _ (λ (o : Outcome). o.answer) (λ r. refl) n;
      read_answers = λ name buffer. same_answer image (buffer_kept buffer) _ (λ (o : Outcome). o.answer) (λ r. refl) n;
      add_answers = λ name date content. same_answer image (image_kept image) _ (λ (w : ImageChanged). w.answer) (λ r. refl) n;
      remove_answers = λ name. same_answer image (image_kept image) _ (λ (w : ImageChanged). w.answer) (λ r. refl) n;
    }

-- ---- lists

stands : (b : ℕ) (xs ys : List ℕ) → listed b (xs ++ (b ∷ ys)) ≡ true
unfolding listed
stands b [] ys = or_left (eqb b b) (listed b ys) (eq_true {a = b} {b = b} refl)
stands b (x ∷ xs) ys = or_right (eqb x b) (listed b (xs ++ (b ∷ ys))) (stands b xs ys)

standing : (b : ℕ) (bad : List ℕ) → listed b bad ≡ true → (xs : List ℕ) × (ys : List ℕ) × (bad ≡ xs ++ (b ∷ ys))
unfolding listed
standing b [] t = true≢false false t refl
standing b (x ∷ xs) t =
    by_test (eqb x b)
    (λ q. ([], xs, ap (λ (j : ℕ). j ∷ xs) (true_eq q)))
    (λ q.
    let w : (ys : List ℕ) × (zs : List ℕ) × (xs ≡ ys ++ (b ∷ zs)) = standing b xs (or_other (eqb x b) (listed b xs) t q) in
    (x ∷ w.0, w.1, ap (λ (l : List ℕ). x ∷ l) w.2))

-- ---- histories

byte_small : (n : ℕ) → n % 256 < 256
byte_small n = omega arith

encode_small : (r : Record) (i : ℕ) → encode r i < 256
unfolding encode high_byte
encode_small r i = byte_small _

module _ (m : Inner) (v : Inv m) where
  abbrev e : Disk
  e = render m

  whole : With e (header m) m.owner (content m.slots m.slots)
  unfolding render
  whole = with_is (header m) m.owner (content m.slots m.slots)

  in_bytes : (b : ℕ) → b < blocks → InBytes e b
  in_bytes b l i k = subst (λ (x : ℕ). x < 256) (sym (whole.map b i l k)) (encode_small (m.owner b) i)

  bad_listed : (b : ℕ) → b < blocks → has_bad_bytes e b ≡ listed b m.arguments.bad
  unfolding bad_at
  bad_listed b l = sym (three_is e b (in_bytes b l)) ∙ ap is_bad_record (rec m v b l) ∙ v.bad_is b l

  bad_blank : (b o : ℕ) → b < blocks → listed b m.arguments.bad ≡ true → e b o ≡ 0
  unfolding content is_bad_record
  bad_blank b o l t =
      let owned : m.owner b ≡ Bad = bad_only (m.owner b) (v.bad_is b l ∙ t) in
      let pos : b ≢ 0 = λ z. true≢false (is_bad_record (m.owner b)) (ap is_bad_record owned) (ap (λ (j : ℕ). is_bad_record (m.owner j)) z
      ∙ ap is_bad_record v.own.own_zero) in
      by_order o block_bytes
      (λ h. whole.block b o (omega arith) l h ∙ ap (λ (r : Record). content m.slots m.slots r o) owned) (λ h. whole.out b o h)

  good_sum : EachCanBeBad m.arguments.bad → at16 (e 0) 22 + 3 * different_blocks m.arguments.bad ≡ 1440
  good_sum each = omega (arith, word22 m v, different_is m.arguments.bad each, bad_most m.arguments.bad)

module _ (old : List ℕ) (args : FormatArguments) (calls : List Call) (long : length old ≡ image_bytes) (short : length args.title ≤ title_most)
    (each : EachCanBeBad args.bad) where
  abbrev m : Inner
  m = inner_end (inner_format args) calls

  abbrev v : Inv m
  v = end_inv calls (inner_format args) (format_inv args each)

  at_end_lem : disk_at_end old args calls ≡ render m
  at_end_lem = ap disk_of (end_is old args calls long short each) ∙ img_disk m v

  arguments_same : m.arguments ≡ args
  unfolding inner_format
  arguments_same = same_arguments calls (inner_format args)

  end_bad : (b : ℕ) → b < blocks → has_bad_bytes (disk_at_end old args calls) b ≡ listed b args.bad
  end_bad b l =
      ap (λ (x : Disk). has_bad_bytes x b) at_end_lem ∙ bad_listed m v b l ∙ ap (λ (a : FormatArguments). listed b a.bad) arguments_same

  end_zero : (b o : ℕ) → listed b args.bad ≡ true → disk_at_end old args calls b o ≡ 0
  end_zero b o t =
      ap (λ (x : Disk). x b o) at_end_lem
      ∙ bad_blank m v b o (omega (arith, (each b t).1)) (ap (λ (a : FormatArguments). listed b a.bad) arguments_same ∙ t)

  end_good : at16 (disk_at_end old args calls 0) 22 + 3 * different_blocks args.bad ≡ 1440
  end_good =
      let there : EachCanBeBad m.arguments.bad = subst (λ (a : FormatArguments). EachCanBeBad a.bad) (sym arguments_same) each in
      ap (λ (x : Disk). at16 (x 0) 22 + 3 * different_blocks args.bad) at_end_lem
      ∙ ap (λ (a : FormatArguments). at16 (render m 0) 22 + 3 * different_blocks a.bad) (sym arguments_same) ∙ good_sum m v there

-- ---- a format

unlisted_free : (args : FormatArguments) (b : ℕ) → 2 ≤ b → listed b args.bad ≡ false → fresh_owner args b ≡ Free
unfolding fresh_owner
unlisted_free args zero h t = absurd (omega arith)
unlisted_free args (suc zero) h t = absurd (omega arith)
unlisted_free args (suc (suc b)) h t = cond_false Bad Free t

made_free : (old : List ℕ) (args : FormatArguments) → length old ≡ image_bytes → length args.title ≤ title_most → EachCanBeBad args.bad
    → (b : ℕ) → 2 ≤ b → b < blocks → listed b args.bad ≡ false → IsWrittenFree (disk_of (formatted old args)) b
unfolding image_end inner_end inner_format
made_free old args long short each b h l t =
    subst (λ (x : Disk). IsWrittenFree x b) (sym (at_end_lem old args [] long short each))
    (written_free (render (inner_format args)) b
    (λ i k. (whole (inner_format args) (format_inv args each)).map b i l k ∙ ap (λ (r : Record). encode r i) (unlisted_free args b h t)))

-- ---- what stays

bad_not_free : (d : Disk) (b : ℕ) → bad_at d b ≡ true → free_at d b ≡ false
unfolding bad_at free_at is_free
bad_not_free d b t = ap is_free (bad_only (record_at d b) t)

module _ (image : List ℕ) (b : ℕ) (l : b < blocks) (t : bad_at (disk_of image) b ≡ true) where
  abbrev before : Disk
  before = disk_of image

  add_leaves : (name : List ℕ) (date : ℕ) (content : List ℕ)
      → SameRecord before (disk_of (add image name date content).image) b × ((o : ℕ) → before b o ≡ disk_of (add image name date content).image b o)
  add_leaves name date content =
      let k : ℕ = vacant_slot before in
      let busy : free_at before b ≡ false = bad_not_free before b t in (
        add_kept image b l name date content (λ first x. add_held before first k x content b l busy),
        add_stays image b l name date content
            (λ first x. add_bytes before first k x content b l (bad_no_file before b t) (bad_not_zero before first b t)
            (held_beside before first k x content b l busy)),
      )

  remove_leaves : (name : List ℕ)
      → SameRecord before (disk_of (remove image name).image) b × ((o : ℕ) → before b o ≡ disk_of (remove image name).image b o)
  remove_leaves name =
      let k : ℕ = find_name before name in (
        remove_kept image b l name (λ first. remove_beside before first k b l (bad_no_file before b t k)),
        remove_stays image b l name (λ first. remove_bytes before first k b l (bad_no_file before b t) (bad_not_zero before first b t)),
      )

module _ (image : List ℕ) (o : ℕ) (u : Unwritten o) where
  on_image : (e : Disk) → disk_of image 0 o ≡ e 0 o → disk_of image 0 o ≡ disk_of (image_of e) 0 o
  on_image e p = p ∙ sym (inside_disk e 0 o (omega arith) (omega (arith, u.0)))

  add_stands : (34 ≤ o → 38 ≤ o) → (name : List ℕ) (date : ℕ) (content : List ℕ) → disk_of image 0 o ≡ disk_of (add image name date content).image 0 o
  add_stands after name date content =
      by_add image (λ (e : Disk). disk_of image 0 o ≡ e 0 o) on_image refl name date content
      (λ first x. add_header_kept o u after (disk_of image) first (vacant_slot (disk_of image)) x content)

  remove_stands : (name : List ℕ) → disk_of image 0 o ≡ disk_of (remove image name).image 0 o
  remove_stands name =
      by_remove image (λ (e : Disk). disk_of image 0 o ≡ e 0 o) on_image refl name
      (λ first. remove_header_kept o u (disk_of image) first (find_name (disk_of image) name))

-- bad_blocks: all of this holds
pub bad_blocks : BadBlocks
unfolding refusal8 bears is_part within map_fault
bad_blocks =
    record {
      three_bytes_lem = three_is;
      no_part = λ f s n. (refl, refl, refl);
      nine_lowest = λ image b long a l t below. nine_found image long a b l t below;
      nine_none = λ d right. nine_absent d (lowest_none (λ (b : ℕ). record_fault b (record_at d b)) blocks (λ b l. fault_is d b ∙ right b l));
      nine_names = λ image b e bytes t.
          true_eq (sym (bad_fault b) ∙ ap (record_fault b) (sym (has_bad (disk_of image) b bytes t)) ∙ nine_wrong image b e);
      eight_unread = λ d e letters fields. ap (refusal_at 8) (judged_alike d e letters fields);
      total_eight = λ image long letters n. (eight_given image long (reply_with 8 24 0 0) (total_named image long letters n)).0;
      word_counts = λ image bytes e.
          right_sum (disk_of image) bytes (passed_nineteen image (start_nineteen (disk_of image) (sound_start (disk_of image) (check_passed image e))));
      word_wrong = λ image bytes e. wrong_sum (disk_of image) bytes (nineteen_wrong image e);
      track_counts = λ image long bytes e.
          let w = track_accepted image long e in
          ap (λ (x : FirstTrack). x.good + 3 * bad_by_bytes (disk_of image)) w.0
          ∙ ap (λ (g : ℕ). g + 3 * bad_by_bytes (disk_of image)) (track_good_lem (disk_of image)) ∙ right_sum (disk_of image) bytes w.2;
      nineteen_check = λ image long bytes a b n. (nineteen_given image long bytes a b n).0;
      nineteen_track = λ image long bytes a b n. (nineteen_given image long bytes a b n).1;
      eight_first = λ image r long e. eight_given image long r e;
      nine_first = λ image r long a e. nine_given image long r a e;
      track_as_check = track_alike;
      answers_as = answers;
      stands_listed = stands;
      listed_stands = standing;
      format_free = made_free;
      history_bad = end_bad;
      history_zero = end_zero;
      history_good = end_good;
      add_keeps = λ image name date content b l t. add_leaves image b l t name date content;
      remove_keeps = λ image name b l t. remove_leaves image b l t name;
      add_header = λ image name date content o u after. add_stands image o u after name date content;
      remove_header = λ image name o u. remove_stands image o u name;
    }
