-- `counted_track` meets its contract.
-- Rests on: the laws in Loading/Loaded and Judging/Track; the contracts of count_free and head_word.
-- Assumes nothing.
use mathlib.Core.Path.{refl}
use Rattle.files.specs.Laws.Judging.Track.{counted_is}
use Rattle.files.proofs.track.counted_track.Goals as goal

pub returns : goal.returns
returns c = counted_is _ _ _ _ _ refl
    c.count_free-free.ensures.0 c.head_word.ensures.0
    c.head_word-2.ensures.0
