-- `slot_to_empty` meets its contract, case by case.
-- Rests on: the laws in file_rules::Base/Ends and Calling/SoundDisk; the contracts of name_right, directory and
-- find_name.
-- Assumes nothing.
use Rattle.std.specs.Prelude.{◌≡◌, true, List, Option, Some, None, ℕ, MatchResult}
use Rattle.std.specs.Option.{ok_or}
use mathlib.Core.Path.{sym, ◌∙◌}
use Rattle.file_rules.proofs.Laws.Base.Ends.{end_within}
use Rattle.files.specs.Laws.Calling.SoundDisk.{removed, remove_name, remove_none, remove_done}
use Rattle.file_rules.specs.Disk.{Disk}
use Rattle.file_rules.specs.Directory.{name_right}
use Rattle.file_rules.specs.Calls.{remove_sound, disk_kept}
use Rattle.files.specs.Laws.Loading.Slots.{named_slot}
use Rattle.files.specs.Refusals.{disk_refused}
use Rattle.files.specs.declared.refusals.DiskRefusal.TheVariants.{NoSuchName}
use Rattle.files.proofs.removing.slot_to_empty.Goals as goal

pub returns-then-not-name_right : goal.returns-then-not-name_right
returns-then-not-name_right c = remove_name _ _ (sym c.name_right.ensures ∙ c.if-not-name_right.true)

pub find_name-requires : goal.find_name-requires
find_name-requires c = rw c.directory.ensures (end_within _ c.args.sound.now.sound.passed)

asked : (d : Disk) (name : List ℕ) (o : Option ℕ) → name_right name ≡ true → named_slot d name ≡ o
    → MatchResult (ok_or o NoSuchName) (λ k. remove_sound d name ≡ removed d k) (λ e. remove_sound d name ≡ disk_kept d (disk_refused e))
asked d name None right e = remove_none d name right e
asked d name (Some k) right e = remove_done d name right k e

pub returns : goal.returns
returns c = rw c.ok_or.ensures.value
    (asked _ _ _ (sym c.name_right.ensures ∙ c.if-not-name_right.false) (sym (rw c.directory.ensures at c.find_name.ensures)))
