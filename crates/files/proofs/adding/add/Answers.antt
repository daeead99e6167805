-- `add` meets its contract: what the sound disk refuses, and what is written.
-- Rests on: the laws in Judging/SoundImage, Writing/InStep and Calling/SoundDisk; the contracts of sound_disk,
-- slot_to_fill, entry_for and add_at.
-- Assumes nothing.
use Rattle.std.proofs.Common.{rules}
use Rattle.std.proofs.lemmas.Result.{err_from_is_err_and}
use mathlib.Core.Path.{refl}
use Rattle.file_rules.specs.Calls.{add}
use Rattle.files.specs.Laws.Judging.SoundImage.{not_sound, sound_acts}
use Rattle.files.specs.Laws.Writing.InStep.{in_step}
use Rattle.files.specs.Laws.Calling.SoundDisk.{gave_refused, gave_done, wrote_refused, wrote_gave, wrote_left}
use Rattle.files.proofs.adding.add.Goals as goal

pub returns-in_err-sound : goal.returns-in_err-sound
unfolding add
returns-in_err-sound c = let p = err_from_is_err_and c.from_residual.result c.from_residual.ensures.1 in
    rw (p.1, p.2) (wrote_refused _ _ _ _ (not_sound _ _ _ _ c.in_err-sound.ensures) refl)

pub returns-in_err-k : goal.returns-in_err-k
unfolding add
returns-in_err-k c = let p = err_from_is_err_and c.from_residual-in_err-k.result c.from_residual-in_err-k.ensures.1 in
    let sound = rw c.in_ok-sound.ensures at c.in_ok-sound.sound.sound in
    rw (p.1, p.2) (wrote_gave _ _ _ _ (sound_acts _ _ _ _ refl sound)
    (gave_refused _ _ _ _ sound.long (rw c.in_ok-sound.ensures at (c.in_err-k.ensures c.args.date)) refl))

pub entry_for-e-requires : goal.entry_for-e-requires
entry_for-e-requires c = (c.in_ok-k.ensures.name_short, c.in_ok-k.ensures.data_short)

pub add_at-requires : goal.add_at-requires
add_at-requires c = (c.in_ok-k.ensures.slot, c.in_ok-k.ensures.data_short)

pub invariant_of-disk : goal.invariant_of-disk
invariant_of-disk c =
    let sound = rw c.in_ok-sound.ensures at c.in_ok-sound.sound.sound in
    record { in_step = in_step _ _ sound.long (rw c.in_ok-sound.ensures at c.in_ok-sound.sound.disk.loaded) sound.passed }

pub returns : goal.returns
unfolding add
returns c =
    let sound = rw c.in_ok-sound.ensures at c.in_ok-sound.sound.sound in
    wrote_left _ _ _ _ _ (sound_acts _ _ _ _ refl sound)
    (gave_done _ _ _ _ (rw c.in_ok-sound.ensures at (c.in_ok-k.ensures.fills c.args.date)) refl
    (rw c.entry_for-e.ensures at c.add_at.ensures.written)) (search rules)
