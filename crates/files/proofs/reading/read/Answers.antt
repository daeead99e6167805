-- `read` meets its contract.
-- Rests on: the laws in Judging/SoundImage and Calling/Delivered; the contracts of sound_disk and read_sound.
-- Assumes nothing.
use Rattle.std.proofs.lemmas.Result.{err_from_is_err_and}
use mathlib.Core.Path.{refl}
use Rattle.file_rules.specs.Calls.{read}
use Rattle.files.specs.Laws.Judging.SoundImage.{not_sound, sound_acts}
use Rattle.files.specs.Laws.Calling.Delivered.{gave_kept, gave_same}
use Rattle.files.proofs.reading.read.Goals as goal

pub returns-in_err-sound : goal.returns-in_err-sound
unfolding read
returns-in_err-sound c = let p = err_from_is_err_and c.from_residual.result c.from_residual.ensures.1 in
    rw (p.1, p.2) (gave_kept _ _ _ _ (not_sound _ _ _ _ c.in_err-sound.ensures) refl)

pub returns : goal.returns
unfolding read
returns c = gave_same _ _ _ _ (sound_acts _ _ _ _ c.in_ok-sound.ensures c.in_ok-sound.sound.sound) c.read_sound.ensures
