-- `slot_to_fill` meets its contract, case by case.
-- Rests on: the laws in Loading/Slots, file_rules::Base/Ends and Calling/SoundDisk; the contracts of name_right,
-- directory, find_name, dir_end, vacant_slot and has_room.
-- Assumes nothing.
use mathlib.Core.Path.{sym, ◌∙◌}
use Rattle.files.specs.Laws.Loading.Slots.{vacant_or_end}
use Rattle.file_rules.proofs.Laws.Base.Ends.{end_within}
use Rattle.files.specs.Laws.Calling.SoundDisk.{vacant_most, room_size, name_most_lem, add_name, add_present, add_full, add_done}
use Rattle.files.proofs.adding.slot_to_fill.Goals as goal

pub returns-then-not-name_right : goal.returns-then-not-name_right
returns-then-not-name_right c = λ date. add_name _ _ date _ (sym c.name_right.ensures ∙ c.if-not-name_right.true)

pub find_name-requires : goal.find_name-requires
find_name-requires c = rw c.directory-dir.ensures (end_within _ c.args.sound.now.sound.passed)

pub returns-in-Some : goal.returns-in-Some
returns-in-Some c = λ date. add_present _ _ date _ (sym c.name_right.ensures ∙ c.if-not-name_right.false) _
    (sym (rw c.directory-dir.ensures at c.find_name.ensures) ∙ c.in-Some.is)

pub vacant_slot-requires : goal.vacant_slot-requires
vacant_slot-requires c = rw c.directory-dir.ensures (end_within _ c.args.sound.now.sound.passed)

pub returns-then-not-has_room : goal.returns-then-not-has_room
returns-then-not-has_room c = λ date. add_full _ _ date _ (sym c.name_right.ensures ∙ c.if-not-name_right.false)
    (sym (rw c.directory-dir.ensures at c.find_name.ensures) ∙ c.in_default.is) _
    (vacant_or_end _ _ _ _ (rw c.directory-dir.ensures at c.vacant_slot.ensures) c.dir_end.ensures.0 c.unwrap_or-k.ensures)
    (sym c.has_room.ensures ∙ c.if-not-has_room.true)

pub returns : goal.returns
returns c =
    let vacant = vacant_or_end _ _ _ _ (rw c.directory-dir.ensures at c.vacant_slot.ensures) c.dir_end.ensures.0 c.unwrap_or-k.ensures in
    let room = sym c.has_room.ensures ∙ c.if-not-has_room.false in
    record {
      slot = rw vacant (vacant_most _ c.args.sound.now.sound.passed);
      name_short = name_most_lem _ (sym c.name_right.ensures ∙ c.if-not-name_right.false);
      data_short = room_size _ _ _ room;
      fills = λ date. add_done _ _ date _ (sym c.name_right.ensures ∙ c.if-not-name_right.false)
          (sym (rw c.directory-dir.ensures at c.find_name.ensures) ∙ c.in_default.is) _ vacant room;
    }
