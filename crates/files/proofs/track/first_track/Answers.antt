-- `first_track` meets its contract.
-- Rests on: the laws in Judging/Track; the contracts of LoadedDisk::load, judge_track and
-- counted_track.
-- Assumes nothing.
use Rattle.std.proofs.lemmas.Result.{err_from_is_err_and}
use Rattle.std.proofs.Common.{rules}
use mathlib.Core.Path.{◌∙◌}
use Rattle.files.specs.Laws.Judging.Track.{track_length_lem, track_refused, track_passed}
use Rattle.files.proofs.track.first_track.Goals as goal

pub returns-then-track-ne-TRACK_BYTES : goal.returns-then-track-ne-TRACK_BYTES
returns-then-track-ne-TRACK_BYTES c = track_length_lem _ c.if-track-ne-TRACK_BYTES.true

pub judge_track-requires : goal.judge_track-requires
judge_track-requires c = rw c.load-track.ensures (search rules)

pub returns-in_err-judge_track : goal.returns-in_err-judge_track
returns-in_err-judge_track c = let p = err_from_is_err_and c.from_residual.result c.from_residual.ensures.1 in
    rw (p.1, p.2) (track_refused _ c.if-track-ne-TRACK_BYTES.false _ (rw c.load-track.ensures at c.in_err-judge_track.ensures))

pub returns : goal.returns
returns c = (rw c.load-track.ensures at c.counted_track.ensures) ∙
    track_passed _ c.if-track-ne-TRACK_BYTES.false (rw c.load-track.ensures at c.in_ok-judge_track.ensures)
