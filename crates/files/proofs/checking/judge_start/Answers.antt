-- `judge_start` meets its contract.
-- Rests on: the laws in laws::Options and Judging/Sound; the contracts of judge_header, judge_map and judge_good.
-- Assumes nothing.
use Rattle.std.proofs.lemmas.Result.{err_from_is_err_and}
use mathlib.Core.Path.{sym, ◌∙◌}
use Rattle.laws.specs.Laws.Options.{or_there, or_absent}
use Rattle.file_rules.specs.Check.{start_refusal}
use Rattle.files.specs.Laws.Judging.Sound.{refusal_loaded}
use Rattle.files.proofs.checking.judge_start.Goals as goal

pub returns-in_err-judge_header : goal.returns-in_err-judge_header
unfolding start_refusal
returns-in_err-judge_header c = let p = err_from_is_err_and c.from_residual.result c.from_residual.ensures.1 in
    rw (p.1, p.2) (sym (or_there _ _ _ (sym c.in_err-judge_header.ensures)))

pub returns-in_err-judge_map : goal.returns-in_err-judge_map
unfolding start_refusal
returns-in_err-judge_map c = let p = err_from_is_err_and c.from_residual-in_err-judge_map.result c.from_residual-in_err-judge_map.ensures.1 in
    rw (p.1, p.2) (sym (or_absent _ _ (sym c.in_ok-judge_header.ensures) ∙
    or_there _ _ _ (sym (c.in_err-judge_map.ensures ∙ refusal_loaded _ _ c.args.disk.now.loaded))))

pub returns : goal.returns
unfolding start_refusal
returns c = c.judge_good.ensures ∙ sym (or_absent _ _ (sym c.in_ok-judge_header.ensures) ∙
    or_absent _ _ (sym (c.in_ok-judge_map.ensures ∙ refusal_loaded _ _ c.args.disk.now.loaded)))
