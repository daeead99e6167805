-- `sound_disk` meets its contract.
-- Rests on: the laws in Judging/SoundImage; the contracts of LoadedDisk::load and judge.
-- Assumes nothing.
use Rattle.std.proofs.Common.{inl, inr}
use Rattle.std.proofs.lemmas.Result.{err_from_is_err_and}
use mathlib.Core.Path.{refl, sym}
use Rattle.files.proofs.checking.sound_disk.Goals as goal

pub returns-then-image-ne-IMAGE_BYTES : goal.returns-then-image-ne-IMAGE_BYTES
returns-then-image-ne-IMAGE_BYTES c = inl (c.if-image-ne-IMAGE_BYTES.true, refl)

pub returns-in_err-judge : goal.returns-in_err-judge
returns-in_err-judge c = let p = err_from_is_err_and c.from_residual.result c.from_residual.ensures.1 in
    rw (p.1, p.2, ← c.load-disk.ensures) (inr (rw c.load-disk.ensures c.if-image-ne-IMAGE_BYTES.false, sym c.in_err-judge.ensures))
