-- `side_codes` meets its contract.
-- Rests on: the laws in Unpacking/Codes; the contracts of track_part, track_side and cells::judge_codes.
-- Assumes nothing.
use mathlib.Core.Path.{sym, ◌∙◌}
use Rattle.sectors.specs.Laws.Unpacking.Codes.{side_reply}
use Rattle.sectors.proofs.codes.side_codes.Goals as goal

pub returns-in-Some : goal.returns-in-Some
returns-in-Some c = side_reply _ _ _ _ _ c.track_part-part.ensures c.track_side-side.ensures (sym c.in-Some.is ∙ c.judge_codes.ensures)

pub returns-in-None : goal.returns-in-None
returns-in-None c = side_reply _ _ _ _ _ c.track_part-part.ensures c.track_side-side.ensures (sym c.in-None.is ∙ c.judge_codes.ensures)
