-- `check` meets its contract.
-- Rests on: the laws in Judging/SoundImage; the contract of sound_disk.
-- Assumes nothing.
use Rattle.std.proofs.lemmas.Result.{err_from_is_err_and}
use mathlib.Core.Path.{sym}
use Rattle.file_rules.specs.Calls.{check}
use Rattle.files.specs.Laws.Judging.SoundImage.{not_sound, sound_acts}
use Rattle.files.proofs.checking.check.Goals as goal

pub returns-in_err-sound_disk : goal.returns-in_err-sound_disk
unfolding check
returns-in_err-sound_disk c = let p = err_from_is_err_and c.from_residual.result c.from_residual.ensures.1 in
    rw (p.1, p.2) (sym (not_sound _ _ _ _ c.in_err-sound_disk.ensures))

pub returns : goal.returns
unfolding check
returns c = sym (sound_acts _ _ _ _ c.in_ok-sound_disk.ensures c.in_ok-sound_disk.field-0.sound)
