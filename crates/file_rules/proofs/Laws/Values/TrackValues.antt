-- The first track by value: the proof of first_track_values (TrackValues.antt).
-- Rests on: what the first track is enough for (Base/Track); CheckValues beside it; the laws of the disk in block order (Base/Disk).
use Rattle.std.specs.Prelude.{None, List, [], ◌∷◌, ◌≢◌, ◌≡◌, refl, ℕ, ◌≤◌, length, set, take}
use Rattle.std.proofs.Common.{ap, ◌∙◌, arith, lit<, lit≤}
use Rattle.laws.specs.Below.{lowest, count}
use Rattle.laws.specs.Changes.{upd, patch}
use Rattle.laws.specs.Laws.Tests.{eq_false, cond_false}
use Rattle.laws.specs.Numbers.{at16, big_endian, high_byte}
use Rattle.laws.specs.Options.{or_else}
use Rattle.sector_rules.specs.Faults.{fault_below}
use Rattle.sector_rules.specs.Geometry.{image_bytes}
use Rattle.sector_rules.specs.Replies.{reply_with}
use Rattle.file_rules.specs.declared.FirstTrack.{FirstTrack}
use Rattle.file_rules.specs.Arguments.{FormatArguments, arguments_of, listed, bad_list_right, count_listed, EachCanBeBad}
use Rattle.file_rules.specs.Calls.{ImageChanged, unless, fresh_owner, format_disk, format}
use Rattle.file_rules.specs.Check.{disk_header_fault, record_fault, map_fault, good_right, free_right}
use Rattle.file_rules.specs.Check.{refusal9, refusal19, start_refusal, refusal11}
use Rattle.file_rules.proofs.Laws.Values.CheckValues.{NothingOutside, Unjudged, Passable, passable_fresh, passable_set, passable_passes, set_is}
use Rattle.file_rules.specs.Disk.{Disk, image_of, set_byte}
use Rattle.file_rules.specs.FirstTrack.{refused_track, counted, first_track_result}
use Rattle.file_rules.proofs.Laws.Base.BadList.{right_each, none_bad}
use Rattle.file_rules.proofs.Laws.Base.Disk.{first_place, length_image, disk_image}
use Rattle.file_rules.proofs.Laws.Base.Header.{header_none}
use Rattle.file_rules.proofs.Laws.Base.Track.{track_is}
use Rattle.file_rules.proofs.Laws.OnImages.Run.{format_done}
use Rattle.file_rules.specs.Map.{decode, encode, number_of, number_at, record_at, is_free, is_bad_record, is_system, is_other, free_at, free_count, bad_at}
use Rattle.file_rules.specs.Map.{bad_count}
use Rattle.file_rules.specs.Sizes.{title_most}
use Rattle.file_rules.specs.Written.{fixed_byte, disk_header_byte, disk_with}
use Rattle.file_rules.specs.TrackValues.{judged_first, FirstTrackValues}

length_is : (track : List ℕ) → length track ≢ 9216 → first_track_result track ≡ record { reply = reply_with 1 2 0 0; free = 0; good = 0; held = 0 }
unfolding first_track_result
length_is track h = cond_false _ _ (eq_false h)

-- the track that an image of a disk begins with
image_is : (d : Disk) → NothingOutside d → first_track_result (take 9216 (image_of d)) ≡ judged_first d
image_is d w = track_is (image_of d) (length_image d) ∙ ap judged_first (disk_image d (λ b o h. w.far b o h) (λ b o h. w.out b o h))

-- what 9, 19 and 11 say of a disk, and its counts
unfoldable track_after_header : Disk → FirstTrack
track_after_header d = unless (or_else (or_else (refusal9 d) (refusal19 d)) (refusal11 d)) refused_track (counted d)

-- where the header is right, they decide
past_header : (d : Disk) → disk_header_fault d ≡ None → judged_first d ≡ track_after_header d
unfolding judged_first track_after_header start_refusal or_else
past_header d e = rw (header_none d e) refl

-- ---- a formatted disk

-- on a disk that passes 8 they decide what first track gives
passable_track : (args : FormatArguments) (d : Disk) → Passable args d → first_track_result (take 9216 (image_of d)) ≡ track_after_header d
passable_track args d w = image_is d w.inside ∙ past_header d (passable_passes args d w)

-- another byte that 8 does not judge
byte_track : (args : FormatArguments) (d : Disk) → Passable args d → (o v : ℕ) → Unjudged o
    → first_track_result (take 9216 (set (image_of d) o v)) ≡ track_after_header (set_byte d 0 o v)
byte_track args d w o v k =
    ap (λ (t : List ℕ). first_track_result (take 9216 t)) (set_is d o v (first_place o k.0) (omega (arith, k.0)))
    ∙ passable_track args (set_byte d 0 o v) (passable_set args d o v k w)

abbrev two_bad : List ℕ
two_bad = 2 ∷ 479 ∷ 2 ∷ []

two_each : EachCanBeBad two_bad
unfolding bad_list_right
two_each = right_each two_bad refl

formatted_is : (title : List ℕ) (number : ℕ)
    → (track_after_header (format_disk (arguments_of title number [])) ≡ record { reply = reply_with 0 0 0 0; free = 1434; good = 1440; held = 2 })
    × (track_after_header (format_disk (arguments_of title number two_bad)) ≡ record { reply = reply_with 0 0 0 0; free = 1428; good = 1434; held = 4 })
    × (track_after_header (set_byte (format_disk (arguments_of title number [])) 0 103 0x50)
    ≡ record { reply = reply_with 0 0 0 0; free = 1434; good = 1440; held = 2 })
    × (track_after_header (set_byte (format_disk (arguments_of title number [])) 0 23 0x9F) ≡ record {
      reply = reply_with 19 0 0 0;
      free = 0;
      good = 0;
      held =
          0;
    })
    × (track_after_header (set_byte (set_byte (format_disk (arguments_of title number [])) 0 21 0x9B) 0 23 0x9F)
    ≡ record { reply = reply_with 19 0 0 0; free = 0; good = 0; held = 0 })
    × (track_after_header (set_byte (format_disk (arguments_of title number [])) 0 21 0x9B) ≡ record {
      reply = reply_with 11 0 0 0;
      free = 0;
      good = 0;
      held =
          0;
    })
unfolding track_after_header refusal9 refusal19 refusal11 map_fault record_at number_at free_right free_count free_at
    good_right bad_count bad_at is_bad_record count_listed listed counted format_disk disk_with disk_header_byte fixed_byte patch high_byte at16
    big_endian lowest count
    decode encode number_of fresh_owner record_fault is_system is_other is_free fault_below unless or_else set_byte upd
formatted_is title number = (refl, refl, refl, refl, refl, refl)

-- ---- what is promised

-- the image of an accepted format
made : (old : List ℕ) (args : FormatArguments) → length old ≡ image_bytes → length args.title ≤ title_most → EachCanBeBad args.bad
    → (format old args).image ≡ image_of (format_disk args)
made old args long short each = ap (λ (w : ImageChanged). w.image) (format_done old args long short each)

-- first_track_values: all of these hold
pub first_track_values : FirstTrackValues
first_track_values =
    record {
      whole_image = track_is;
      track_length_lem = length_is;
      formatted_track = λ old title number long short.
          let args : FormatArguments = arguments_of title number [] in
          ap (λ (t : List ℕ). first_track_result (take 9216 t)) (made old args long short none_bad)
          ∙ passable_track args (format_disk args) (passable_fresh args) ∙ (formatted_is title number).0;
      bad_track = λ old title number long short.
          let args : FormatArguments = arguments_of title number two_bad in
          ap (λ (t : List ℕ). first_track_result (take 9216 t)) (made old args long short two_each)
          ∙ passable_track args (format_disk args) (passable_fresh args) ∙ (formatted_is title number).1;
      tail_track = λ old title number long short.
          let args : FormatArguments = arguments_of title number [] in
          ap (λ (t : List ℕ). first_track_result (take 9216 (set t 103 0x50))) (made old args long short none_bad)
          ∙ byte_track args (format_disk args) (passable_fresh args) 103 0x50 (lit< tt, lit≤ tt, λ h. lit≤ tt) ∙ (formatted_is title number).2;
      good_refused = λ old title number long short.
          let args : FormatArguments = arguments_of title number [] in
          ap (λ (t : List ℕ). first_track_result (take 9216 (set t 23 0x9F))) (made old args long short none_bad)
          ∙ byte_track args (format_disk args) (passable_fresh args) 23 0x9F (lit< tt, lit≤ tt, λ h. omega arith) ∙ (formatted_is title number).3;
      both_refused = λ old title number long short.
          let args : FormatArguments = arguments_of title number [] in
          let d : Disk = set_byte (format_disk args) 0 21 0x9B in
          ap (λ (t : List ℕ). first_track_result (take 9216 (set (set t 21 0x9B) 23 0x9F))) (made old args long short none_bad)
          ∙ ap (λ (t : List ℕ). first_track_result (take 9216 (set t 23 0x9F))) (set_is (format_disk args) 21 0x9B (first_place 21 (lit< tt)) (lit< tt))
          ∙ byte_track args d (passable_set args (format_disk args) 21 0x9B (lit< tt, lit≤ tt, λ h. omega arith) (passable_fresh args)) 23 0x9F
          (lit< tt, lit≤ tt, λ h. omega arith) ∙ (formatted_is title number).4;
      word_refused = λ old title number long short.
          let args : FormatArguments = arguments_of title number [] in
          ap (λ (t : List ℕ). first_track_result (take 9216 (set t 21 0x9B))) (made old args long short none_bad)
          ∙ byte_track args (format_disk args) (passable_fresh args) 21 0x9B (lit< tt, lit≤ tt, λ h. omega arith) ∙ (formatted_is title number).5;
    }
