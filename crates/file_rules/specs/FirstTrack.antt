-- The judgement of track 0 alone: 1, 8, 9, 19 and 11, and three counts (docs/RULES.md, section 8).
-- Assumes nothing: these are definitions.
use Rattle.std.specs.Prelude.{cond, not, List, ℕ, eqb, length}
use Rattle.laws.specs.Below.{count}
use Rattle.laws.specs.Numbers.{at16}
use Rattle.laws.specs.Options.{or_else}
use Rattle.sector_rules.specs.declared.Reply.{Reply}
use Rattle.sector_rules.specs.Replies.{done}
use Rattle.sector_rules.specs.Geometry.{blocks}
use Rattle.file_rules.specs.declared.FirstTrack.{FirstTrack}
use Rattle.file_rules.specs.Sizes.{first_track_bytes}
use Rattle.file_rules.specs.Disk.{Disk, disk_of}
use Rattle.file_rules.specs.Map.{free_at}
use Rattle.file_rules.specs.Check.{start_refusal, refusal11}
use Rattle.file_rules.specs.Calls.{unless, wrong_length}

-- a refusal has no counts (§8.14)
abbrev pub refused_track : Reply → FirstTrack
refused_track r = record { reply = r; free = 0; good = 0; held = 0 }

-- the free word, the good word, and the number of records that are not free, bad ones among them (§8.14)
unfoldable pub counted : Disk → FirstTrack
counted d = record { reply = done; free = at16 (d 0) 20; good = at16 (d 0) 22; held = count blocks (λ (b : ℕ). not (free_at d b)) }

-- the call first track: block 0 lies on track 0 by the placement, and these judgements read nothing but block 0 (§8.14 §7.1)
unfoldable pub first_track_result : List ℕ → FirstTrack
first_track_result track =
    cond (eqb (length track) first_track_bytes)
    (unless (or_else (start_refusal (disk_of track)) (refusal11 (disk_of track))) refused_track (counted (disk_of track)))
    (refused_track wrong_length)
