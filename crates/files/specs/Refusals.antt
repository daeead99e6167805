-- The replies that the refusals of the calls on a disk stand for (docs/RULES.md, section 7).
-- Assumes nothing: these are definitions, and laws about them.
use Rattle.std.specs.Prelude.{Result, Ok, Err, ℕ, ◌≡◌}
use Rattle.std.proofs.Math.Option.{Option, none, some}
use native.Mathlib.Omega.{arith}
use Rattle.sector_rules.specs.declared.Reply.{Reply}
use Rattle.sector_rules.specs.Replies.{reply_with, done, refusal, wrong_length}
use Rattle.file_rules.specs.declared.FirstTrack.{FirstTrack}
use Rattle.file_rules.specs.FirstTrack as Tracks
use Rattle.file_rules.specs.Batch.{at_item}
use Rattle.files.specs.declared.refusals.BatchRefusal.{BatchRefusal}
use Rattle.files.specs.declared.refusals.BatchRefusal.TheVariants as Batch
use Rattle.files.specs.declared.refusals.TrackCounts.{TrackCounts}
use Rattle.files.specs.declared.refusals.DiskRefusal.{DiskRefusal}
use Rattle.files.specs.declared.refusals.DiskRefusal.TheVariants.{ImageLength, HeaderField, MapRecord, UnsoundFile, FreeWord, OutOfRange}
use Rattle.files.specs.declared.refusals.DiskRefusal.TheVariants.{NameTaken, NoSuchName, NoRoom, ShortBuffer, GoodWord}

-- the reply of a refusal: its number and its places (§7.17)
abbrev pub disk_refused : DiskRefusal → Reply
disk_refused ImageLength = wrong_length
disk_refused (HeaderField o) = reply_with 8 o 0 0
disk_refused (MapRecord b) = reply_with 9 b 0 0
disk_refused (UnsoundFile f) = reply_with 10 f 0 0
disk_refused FreeWord = refusal 11
disk_refused OutOfRange = refusal 12
disk_refused (NameTaken k) = reply_with 13 k 0 0
disk_refused NoSuchName = refusal 14
disk_refused NoRoom = refusal 15
disk_refused (ShortBuffer n) = reply_with 16 n 0 0
disk_refused GoodWord = refusal 19

-- the refusal that a judgement found, as the definitions have it (§7.18)
abbrev pub refusal_of : Result (Unit {0}) DiskRefusal → Option Reply
refusal_of (Ok x) = none
refusal_of (Err e) = some (disk_refused e)

-- the reply of a call that names no place where it is done (§7.17)
abbrev pub disk_replied : Result (Unit {0}) DiskRefusal → Reply
disk_replied (Ok x) = done
disk_replied (Err e) = disk_refused e

-- the reply of a call that names a place where it is done (§7.17)
abbrev pub disk_replied_place : Result ℕ DiskRefusal → Reply
disk_replied_place (Ok n) = reply_with 0 n 0 0
disk_replied_place (Err e) = disk_refused e

-- the reply of a refused batch: the item that was refused is the third place (§8.19)
abbrev pub batch_refused : BatchRefusal → Reply
batch_refused Batch.ImageLength = wrong_length
batch_refused (Batch.WrongItem n) = at_item n (refusal 20)
batch_refused (Batch.Item n e) = at_item n (disk_refused e)

-- the reply of a batch (§8.19)
abbrev pub batch_replied : Result (Unit {0}) BatchRefusal → Reply
batch_replied (Ok x) = done
batch_replied (Err e) = batch_refused e

-- what first track answers: three counts, or a refusal (§8.14)
abbrev pub track_replied : Result TrackCounts DiskRefusal → FirstTrack
track_replied (Ok x) = record { reply = done; free = x.free; good = x.good; held = x.held }
track_replied (Err e) = Tracks.refused_track (disk_refused e)

-- the number of a refusal is not 0
pub disk_refused_number : (e : DiskRefusal) → (disk_refused e).number ≡ 0 → ⊥
disk_refused_number ImageLength z = omega (arith, z)
disk_refused_number (HeaderField o) z = omega (arith, z)
disk_refused_number (MapRecord b) z = omega (arith, z)
disk_refused_number (UnsoundFile f) z = omega (arith, z)
disk_refused_number FreeWord z = omega (arith, z)
disk_refused_number OutOfRange z = omega (arith, z)
disk_refused_number (NameTaken k) z = omega (arith, z)
disk_refused_number NoSuchName z = omega (arith, z)
disk_refused_number NoRoom z = omega (arith, z)
disk_refused_number (ShortBuffer n) z = omega (arith, z)
disk_refused_number GoodWord z = omega (arith, z)
