-- first_track_values: judging the first track (§8.14) is judging the image that it begins by 8, 9, 19 and 11; and what it gives of a formatted disk, by value.
-- Assumes nothing: these are definitions. The proof is `first_track_values` in Laws/Values/TrackValues.antt.
use Rattle.std.specs.Prelude.{List, [], ◌∷◌, ◌≢◌, ◌≡◌, ℕ, ◌≤◌, length, set, take}
use Rattle.laws.specs.Options.{or_else}
use Rattle.sector_rules.specs.Geometry.{image_bytes}
use Rattle.sector_rules.specs.Replies.{reply_with}
use Rattle.file_rules.specs.declared.FirstTrack.{FirstTrack}
use Rattle.file_rules.specs.Arguments.{arguments_of}
use Rattle.file_rules.specs.Calls.{unless, format}
use Rattle.file_rules.specs.Check.{start_refusal, refusal11}
use Rattle.file_rules.specs.Disk.{Disk, disk_of}
use Rattle.file_rules.specs.FirstTrack.{refused_track, counted, first_track_result}
use Rattle.file_rules.specs.Sizes.{title_most}

-- what first track gives of a disk by 8, 9, 19 and 11 (§8.14)
unfoldable pub judged_first : Disk → FirstTrack
judged_first d = unless (or_else (start_refusal d) (refusal11 d)) refused_track (counted d)

-- ---- what is promised

-- by value: what first track gives of a track of another length, of a formatted disk, of one with bad blocks, of one with another tail and of those with
-- another good word or free word (§8.14)
pub record FirstTrackValues : Type 0 where
  -- the first 9,216 bytes of an image are enough
  pub whole_image : (image : List ℕ) → length image ≡ image_bytes → first_track_result (take 9216 image) ≡ judged_first (disk_of image)
  -- 1
  pub track_length_lem : (track : List ℕ) → length track ≢ 9216 → first_track_result track ≡ record { reply = reply_with 1 2 0 0; free = 0; good = 0; held = 0 }
  -- the free word, the good word, and the records of header and directory
  pub formatted_track : (old title : List ℕ) (number : ℕ) → length old ≡ image_bytes → length title ≤ title_most
      → first_track_result (take 9216 (format old (arguments_of title number [])).image)
      ≡ record { reply = reply_with 0 0 0 0; free = 1434; good = 1440; held = 2 }
  -- with blocks 2 and 479 bad, of which one stands in the list twice (§6.18)
  pub bad_track : (old title : List ℕ) (number : ℕ) → length old ≡ image_bytes → length title ≤ title_most
      → first_track_result (take 9216 (format old (arguments_of title number (2 ∷ 479 ∷ 2 ∷ []))).image)
      ≡ record { reply = reply_with 0 0 0 0; free = 1428; good = 1434; held = 4 }
  -- without bad blocks, where block 2 is free with the tail 50 FF (§6.9)
  pub tail_track : (old title : List ℕ) (number : ℕ) → length old ≡ image_bytes → length title ≤ title_most
      → first_track_result (take 9216 (set (format old (arguments_of title number [])).image 103 0x50))
      ≡ record { reply = reply_with 0 0 0 0; free = 1434; good = 1440; held = 2 }
  -- 19: the good word is one less; and where the free word is wrong too
  pub good_refused : (old title : List ℕ) (number : ℕ) → length old ≡ image_bytes → length title ≤ title_most
      → first_track_result (take 9216 (set (format old (arguments_of title number [])).image 23 0x9F))
      ≡ record { reply = reply_with 19 0 0 0; free = 0; good = 0; held = 0 }
  pub both_refused : (old title : List ℕ) (number : ℕ) → length old ≡ image_bytes → length title ≤ title_most
      → first_track_result (take 9216 (set (set (format old (arguments_of title number [])).image 21 0x9B) 23 0x9F))
      ≡ record { reply = reply_with 19 0 0 0; free = 0; good = 0; held = 0 }
  -- 11: the free word is one more
  pub word_refused : (old title : List ℕ) (number : ℕ) → length old ≡ image_bytes → length title ≤ title_most
      → first_track_result (take 9216 (set (format old (arguments_of title number [])).image 21 0x9B))
      ≡ record { reply = reply_with 11 0 0 0; free = 0; good = 0; held = 0 }
