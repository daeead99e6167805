-- `read_sound` meets its contract.
-- Rests on: the laws in file_rules::Base/Ends, Loading/Slots and Calling/Delivered; the contracts of name_right, directory, find_name and read_slot.
-- Assumes nothing.
use mathlib.Core.Path.{refl, sym, ◌∙◌}
use Rattle.file_rules.proofs.Laws.Base.Ends.{end_within}
use Rattle.files.specs.Laws.Loading.Slots.{searched_slot}
use Rattle.files.specs.Laws.Calling.Delivered.{read_misnamed, read_absent, read_present, gave_kept, gave_same}
use native.Mathlib.Omega.{arith}
use Rattle.files.proofs.reading.read_sound.Goals as goal

pub returns-then-not-name_right : goal.returns-then-not-name_right
returns-then-not-name_right c = gave_kept _ _ _ _ (read_misnamed _ _ _ (sym c.name_right.ensures ∙ c.if-not-name_right.true)) refl

pub find_name-requires : goal.find_name-requires
find_name-requires c = rw c.directory-dir.ensures (end_within _ c.args.sound.now.sound.passed)

pub returns-in-None : goal.returns-in-None
returns-in-None c = gave_kept _ _ _ _ (read_absent _ _ _ (sym c.name_right.ensures ∙ c.if-not-name_right.false)
    (sym (rw c.directory-dir.ensures at c.find_name.ensures) ∙ c.in-None.is))
    refl

pub read_slot-requires : goal.read_slot-requires
read_slot-requires c =
    omega (arith, (searched_slot _ _ _ (sym (rw c.directory-dir.ensures at c.find_name.ensures) ∙ c.in-Some.is)).0, end_within _ c.args.sound.now.sound.passed)

pub returns-in-Some : goal.returns-in-Some
returns-in-Some c = gave_same _ _ _ _ (read_present _ _ _ (sym c.name_right.ensures ∙ c.if-not-name_right.false) _
    (sym (rw c.directory-dir.ensures at c.find_name.ensures) ∙ c.in-Some.is))
    (rw c.directory-dir.ensures at c.read_slot.ensures)
