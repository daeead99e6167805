-- What a reply of check, or of the first track, tells of the disk: done, 9, 19 or 11.
-- Rests on calls that judge a disk first (OnSound), on what a sound disk has (Sound) and on the first track (Track).
use Rattle.std.specs.Prelude.{Some, None, ◌≡◌, refl, ◌≢◌, true, false, List, length, take}
use Rattle.std.proofs.Math.Path.{sym, ap, subst}
use Rattle.std.proofs.Common.{◌∙◌, arith}
use Rattle.std.proofs.Math.Bool.{Bool}
use Rattle.std.proofs.Math.Option.{Option, none, some}
use Prim.Native.Nat.{ℕ, ◌<◌}
use Rattle.laws.specs.Options.{or_else}
use Rattle.laws.specs.Laws.Cases.{by_order, by_equal, by_test, by_cond}
use Rattle.laws.specs.Laws.Tests.{lt_true, lt_false, cond_true, cond_false}
use Rattle.laws.specs.Laws.Lowest.{lowest_hit, lowest_here}
use Rattle.sector_rules.specs.declared.Reply.{Reply}
use Rattle.sector_rules.specs.Faults.{Fault}
use Rattle.sector_rules.specs.Faults.{fault_below, refusal_at}
use Rattle.sector_rules.specs.Geometry.{blocks, image_bytes}
use Rattle.sector_rules.specs.Replies.{reply_with, done, refusal}
use Rattle.file_rules.specs.declared.FirstTrack.{FirstTrack}
use Rattle.file_rules.specs.Calls.{unless, check}
use Rattle.file_rules.specs.Check.{disk_header_fault, record_fault, map_fault, file_fault, good_right, free_right}
use Rattle.file_rules.specs.Check.{refusal8, refusal9, refusal19, start_refusal, refusal10, refusal11, disk_refusal}
use Rattle.file_rules.specs.Disk.{Disk, disk_of}
use Rattle.file_rules.specs.FirstTrack.{refused_track, counted, first_track_result}
use Rattle.file_rules.proofs.Laws.Base.OnSound.{sound_length, sound_refused, sound_passed}
use Rattle.file_rules.proofs.Laws.Base.Sound.{or_none_left, or_none_right, start_nineteen, sound_eleven, NotDone, other_or, other_eleven}
use Rattle.file_rules.proofs.Laws.Base.Sound.{other_start, refused_number}
use Rattle.file_rules.proofs.Laws.Base.Track.{track_is}
use Rattle.file_rules.specs.Map.{record_at}
use Rattle.file_rules.specs.Sizes.{slot_count}
use Rattle.file_rules.specs.TrackValues.{judged_first}

-- ---- which of several refusals is given

-- a refusal, where there is one, has this number
abbrev Numbered : ℕ → Option Reply → Type 0
Numbered n none = Unit {0}
Numbered n (some r) = r.number ≡ n

at_number : (n : ℕ) (f : Fault) → Numbered n (refusal_at n f)
at_number n (Some o) = refl
at_number n None = tt

other_number : (n : ℕ) (a : Option Reply) (r : Reply) → Numbered n a → r.number ≢ n → a ≢ some r
other_number n a r p q e = q (subst (Numbered n) e p)

or_second : (a b : Option Reply) (r : Reply) → or_else a b ≡ some r → a ≢ some r → b ≡ some r
unfolding or_else
or_second none b r e n = e
or_second (some x) b r e n = absurd (n e)

or_first : (a b : Option Reply) (r : Reply) → or_else a b ≡ some r → b ≢ some r → a ≡ some r
unfolding or_else
or_first none b r e n = absurd (n e)
or_first (some x) b r e n = e

none_some : {X : Type 0} (r : Reply) → none ≡ some r → X
none_some r e = let z : ◌≡◌ {A = ℕ} 0 1 = cc in absurd (omega arith)

some_same : (q r : Reply) → some q ≡ some r → q ≡ r
some_same q r e = cc

-- ---- 9

-- where no record is wrong 9 is not found
pub nine_absent : (d : Disk) → map_fault d ≡ blocks → refusal9 d ≡ none
unfolding refusal9 fault_below
nine_absent d e = ap (refusal_at 9) (cond_false (Some (map_fault d)) None (lt_false {a = map_fault d} {b = blocks} (omega (arith, e))))

-- where one is, 9 names the lowest block with such a record
pub nine_present : (d : Disk) (b : ℕ) → b < blocks → map_fault d ≡ b → refusal9 d ≡ some (reply_with 9 b 0 0)
unfolding refusal9 fault_below
nine_present d b l e = ap (λ (m : ℕ). refusal_at 9 (fault_below blocks m)) e ∙ ap (refusal_at 9) (cond_true (Some b) None (lt_true l))

-- ---- check

module _ (image : List ℕ) where
  abbrev d : Disk
  d = disk_of image

  -- another reply than 1 is given for an image of the right length
  pub check_long : (check image).number ≢ 1 → length image ≡ image_bytes
  unfolding check
  check_long n =
      by_equal (length image) image_bytes (λ e. e) (λ h. absurd (n (ap (λ (r : Reply). r.number) (sound_length image _ _ h))))

  passed_by : length image ≡ image_bytes → check image ≡ done → (v : Option Reply) → disk_refusal d ≡ v → disk_refusal d ≡ none
  unfolding check
  passed_by long e none q = q
  passed_by long e (some r) q =
      absurd (subst NotDone q (refused_number d) (ap (λ (x : Reply). x.number) (sym (sound_refused image _ _ long r q) ∙ e)))

  -- done is said of a sound disk
  pub check_passed : check image ≡ done → disk_refusal d ≡ none
  check_passed e = passed_by (check_long (λ z. absurd (omega (arith, z, ap (λ (x : Reply). x.number) e)))) e (disk_refusal d) refl

  refused_by : length image ≡ image_bytes → (r : Reply) → r.number ≢ 0 → check image ≡ r → (v : Option Reply) → disk_refusal d ≡ v → disk_refusal d ≡ some r
  unfolding check
  refused_by long r n e none q = absurd (n (ap (λ (x : Reply). x.number) (sym e ∙ sound_passed image _ _ long q)))
  refused_by long r n e (some x) q = q ∙ ap some (sym (sound_refused image _ _ long x q) ∙ e)

  check_refused : (r : Reply) → r.number ≢ 0 → r.number ≢ 1 → check image ≡ r → disk_refusal d ≡ some r
  check_refused r n m e = refused_by (check_long (λ z. m (ap (λ (x : Reply). x.number) (sym e) ∙ z))) r n e (disk_refusal d) refl

  nine_number : Numbered 9 (refusal9 d)
  unfolding refusal9
  nine_number = at_number 9 (fault_below blocks (map_fault d))

  nineteen_number : Numbered 19 (refusal19 d)
  unfolding refusal19
  nineteen_number = by_cond (Numbered 19) (good_right d) none (some (refusal 19)) (λ t. tt) (λ t. refl)

  ten_number : Numbered 10 (refusal10 d)
  unfolding refusal10
  ten_number = at_number 10 (fault_below slot_count (file_fault d))

  eleven_number : Numbered 11 (refusal11 d)
  unfolding refusal11
  eleven_number = by_cond (Numbered 11) (free_right d) none (some (refusal 11)) (λ t. tt) (λ t. refl)

  -- a refusal of neither 10 nor 11 is one that a judgement begins with
  start_given : (r : Reply) → r.number ≢ 10 → r.number ≢ 11 → disk_refusal d ≡ some r → start_refusal d ≡ some r
  unfolding disk_refusal
  start_given r n m e =
      or_first (start_refusal d) _ r e
      (λ z. other_number 11 (refusal11 d) r eleven_number m (or_second (refusal10 d) _ r z (other_number 10 (refusal10 d) r ten_number n)))

  -- of these, one that is not 8 is 9's or 19's
  start_after_eight : (r : Reply) → r.number ≢ 8 → start_refusal d ≡ some r → or_else (refusal9 d) (refusal19 d) ≡ some r
  unfolding start_refusal refusal8
  start_after_eight r n e = or_second (refusal8 d) _ r e (other_number 8 (refusal8 d) r (at_number 8 (disk_header_fault d)) n)

  nine_of_start : (r : Reply) → r.number ≢ 8 → r.number ≢ 19 → start_refusal d ≡ some r → refusal9 d ≡ some r
  nine_of_start r n m e =
      or_first (refusal9 d) (refusal19 d) r (start_after_eight r n e) (other_number 19 (refusal19 d) r nineteen_number m)

  nineteen_of_start : (r : Reply) → r.number ≢ 8 → r.number ≢ 9 → start_refusal d ≡ some r → refusal19 d ≡ some r
  nineteen_of_start r n m e =
      or_second (refusal9 d) (refusal19 d) r (start_after_eight r n e) (other_number 9 (refusal9 d) r nine_number m)

  nine_given : (b : ℕ) → check image ≡ reply_with 9 b 0 0 → refusal9 d ≡ some (reply_with 9 b 0 0)
  nine_given b e =
      let r : Reply = reply_with 9 b 0 0 in
      nine_of_start r (λ z. omega arith) (λ z. omega arith)
      (start_given r (λ z. omega arith) (λ z. omega arith) (check_refused r (λ z. omega arith) (λ z. omega arith) e))

  -- 9 names a block whose record is wrong
  pub nine_wrong : (b : ℕ) → check image ≡ reply_with 9 b 0 0 → record_fault b (record_at d b) ≡ true
  unfolding refusal9 fault_below map_fault
  nine_wrong b e =
      let wrong : ℕ → Bool = λ (j : ℕ). record_fault j (record_at d j) in
      by_order (map_fault d) blocks
      (λ h.
      let same : some (reply_with 9 (map_fault d) 0 0) ≡ some (reply_with 9 b 0 0) =
      sym (ap (refusal_at 9) (cond_true (Some (map_fault d)) None (lt_true h))) ∙ nine_given b e in
      let at : map_fault d ≡ b = ap (λ (x : Reply). x.first) (some_same _ _ same) in
      ap wrong (sym at) ∙ lowest_hit wrong blocks h)
      (λ h. none_some (reply_with 9 b 0 0) (sym (ap (refusal_at 9) (cond_false (Some (map_fault d)) None (lt_false h))) ∙ nine_given b e))

  -- where the header is right and the record of block 0 is wrong, 9 names it
  pub nine_at_zero : length image ≡ image_bytes → refusal8 d ≡ none → record_fault 0 (record_at d 0) ≡ true → check image ≡ reply_with 9 0 0 0
  unfolding check disk_refusal start_refusal or_else map_fault
  nine_at_zero long right wrong =
      let at : map_fault d ≡ 0 = omega (arith, lowest_here (λ (j : ℕ). record_fault j (record_at d j)) blocks 0 wrong) in
      sound_refused image _ _ long (reply_with 9 0 0 0) (rw (right, nine_present d 0 (omega arith) at))

  -- where 19 is not given, the good word is right
  pub passed_nineteen : refusal19 d ≡ none → good_right d ≡ true
  unfolding refusal19
  passed_nineteen e = by_test (good_right d) (λ t. t) (λ t. none_some (refusal 19) (sym e ∙ cond_false none (some (refusal 19)) t))

  -- where 19 is given, it is wrong
  pub nineteen_wrong : check image ≡ refusal 19 → good_right d ≡ false
  unfolding refusal19
  nineteen_wrong e =
      let r : Reply = refusal 19 in
      let given : refusal19 d ≡ some r =
      nineteen_of_start r (λ z. omega arith) (λ z. omega arith)
      (start_given r (λ z. omega arith) (λ z. omega arith) (check_refused r (λ z. omega arith) (λ z. omega arith) e)) in
      by_test (good_right d) (λ t. none_some r (sym (cond_true none (some (refusal 19)) t) ∙ given)) (λ t. t)

  -- where 8 and 9 pass and the good word is wrong, a judgement begins with 19
  pub wrong_start : refusal8 d ≡ none → refusal9 d ≡ none → good_right d ≡ false → start_refusal d ≡ some (refusal 19)
  unfolding start_refusal or_else refusal19
  wrong_start a b wrong = let given : refusal19 d ≡ some (refusal 19) = cond_false none (some (refusal 19)) wrong in rw (a, b, given)

  -- what a judgement begins with is what check and the first track give
  pub start_refused : length image ≡ image_bytes → (r : Reply) → start_refusal d ≡ some r
      → (check image ≡ r) × (first_track_result (take 9216 image) ≡ refused_track r)
  unfolding check disk_refusal judged_first or_else unless
  start_refused long r e = (sound_refused image _ _ long r (rw e), track_is image long ∙ rw e)

  -- where 11 is not given, the free word is right
  pub passed_eleven : refusal11 d ≡ none → free_right d ≡ true
  unfolding refusal11
  passed_eleven e = by_test (free_right d) (λ t. t) (λ t. none_some (refusal 11) (sym e ∙ cond_false none (some (refusal 11)) t))

  -- the free word of a sound disk is right
  pub word_right : disk_refusal d ≡ none → free_right d ≡ true
  word_right e = passed_eleven (sound_eleven d e)

  -- a refusal of neither 8, 9, 19 nor 10 is 11's
  eleven_given : (r : Reply) → r.number ≢ 8 → r.number ≢ 9 → r.number ≢ 19 → r.number ≢ 10 → disk_refusal d ≡ some r → refusal11 d ≡ some r
  unfolding disk_refusal
  eleven_given r n m j k e =
      let rest : or_else (refusal10 d) (refusal11 d) ≡ some r =
      or_second (start_refusal d) _ r e (λ z. other_number 9 (refusal9 d) r nine_number m (nine_of_start r n j z)) in
      or_second (refusal10 d) _ r rest (other_number 10 (refusal10 d) r ten_number k)

  -- where 11 is given, it is wrong
  pub eleven_wrong : check image ≡ refusal 11 → free_right d ≡ false
  unfolding refusal11
  eleven_wrong e =
      let r : Reply = refusal 11 in
      let given : refusal11 d ≡ some r =
      eleven_given r (λ z. omega arith) (λ z. omega arith) (λ z. omega arith) (λ z. omega arith) (check_refused r (λ z. omega arith) (λ z. omega arith) e) in
      by_test (free_right d) (λ t. none_some r (sym (cond_true none (some (refusal 11)) t) ∙ given)) (λ t. t)

  -- ---- the first track

  track_by : (v : Option Reply) → or_else (start_refusal d) (refusal11 d) ≡ v → (judged_first d).reply ≡ done
      → (judged_first d ≡ counted d) × (free_right d ≡ true) × (good_right d ≡ true)
  unfolding judged_first unless
  track_by none e p =
      let counts : judged_first d ≡ counted d = rw e in
      let start : start_refusal d ≡ none = or_none_left (start_refusal d) (refusal11 d) e in
      (counts, passed_eleven (or_none_right (start_refusal d) (refusal11 d) e), passed_nineteen (start_nineteen d start))
  track_by (some r) e p =
      let refused : judged_first d ≡ refused_track r = rw e in
      let number : NotDone (some r) =
      subst NotDone e (other_or 0 _ _ (other_start 0 d (λ z. omega arith) (λ z. omega arith) (λ z. omega arith)) (other_eleven 0 d (λ z. omega arith))) in
      absurd (number (ap (λ (x : FirstTrack). x.reply.number) (sym refused) ∙ ap (λ (x : Reply). x.number) p))

  -- an accepted first track gives the counts, and its free word and good word are right
  pub track_accepted : length image ≡ image_bytes → (first_track_result (take 9216 image)).reply ≡ done
      → (first_track_result (take 9216 image) ≡ counted d) × (free_right d ≡ true) × (good_right d ≡ true)
  track_accepted long e =
      let is : first_track_result (take 9216 image) ≡ judged_first d = track_is image long in
      let w : (judged_first d ≡ counted d) × (free_right d ≡ true) × (good_right d ≡ true) =
      track_by (or_else (start_refusal d) (refusal11 d)) refl (ap (λ (x : FirstTrack). x.reply) (sym is) ∙ e) in
      (is ∙ w.0, w.1, w.2)

  alike_by : length image ≡ image_bytes → (check image).number ≢ 10 → (u v w : Option Reply)
      → start_refusal d ≡ u → refusal10 d ≡ v → refusal11 d ≡ w → (judged_first d).reply ≡ check image
  unfolding check disk_refusal judged_first or_else unless counted
  alike_by long n (some r) v w e f g =
      let is : judged_first d ≡ refused_track r = rw e in
      ap (λ (x : FirstTrack). x.reply) is ∙ sym (sound_refused image _ _ long r (rw e))
  alike_by long n none (some r) w e f g =
      absurd (n (ap (λ (x : Reply). x.number) (sound_refused image _ _ long r (rw (e, f))) ∙ subst (Numbered 10) f ten_number))
  alike_by long n none none (some r) e f g =
      let is : judged_first d ≡ refused_track r = rw (e, g) in
      ap (λ (x : FirstTrack). x.reply) is ∙ sym (sound_refused image _ _ long r (rw (e, f, g)))
  alike_by long n none none none e f g =
      let is : judged_first d ≡ counted d = rw (e, g) in
      ap (λ (x : FirstTrack). x.reply) is ∙ sym (sound_passed image _ _ long (rw (e, f, g)))

  -- the first track has check's reply, where that is not 10
  pub track_alike : length image ≡ image_bytes → (check image).number ≢ 10 → (first_track_result (take 9216 image)).reply ≡ check image
  track_alike long n =
      ap (λ (x : FirstTrack). x.reply) (track_is image long) ∙ alike_by long n (start_refusal d) (refusal10 d) (refusal11 d) refl refl refl
