-- `judge_map` meets its contract.
-- Rests on: the laws in Judging/Sound and laws::FirstBelow; the contract of map_fault.
-- Assumes nothing.
use Rattle.std.proofs.Common.{◌∙◌, sym, arith}
use Rattle.laws.specs.Laws.FirstBelow.{first_lowest, none_lowest}
use Rattle.files.specs.Laws.Judging.Sound.{refused_map, passed_map}
use Rattle.files.proofs.checking.judge_map.Goals as goal

pub returns-in-Some : goal.returns-in-Some
returns-in-Some c =
    let e = first_lowest _ _ _ (sym c.map_fault.ensures ∙ c.in-Some.is) in
    refused_map _ _ (sym e.1) e.0

pub returns-in-None : goal.returns-in-None
returns-in-None c =
    let e = none_lowest _ _ (sym c.map_fault.ensures ∙ c.in-None.is) in
    passed_map _ _ (sym e) (omega arith)
