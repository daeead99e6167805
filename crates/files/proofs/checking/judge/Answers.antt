-- `judge` meets its contract.
-- Rests on: the laws in laws::Options; the contracts of judge_start, judge_files and judge_free.
-- Assumes nothing.
use Rattle.std.proofs.lemmas.Result.{err_from_is_err_and}
use mathlib.Core.Path.{sym, ◌∙◌}
use Rattle.laws.specs.Laws.Options.{or_there, or_absent}
use Rattle.file_rules.specs.Check.{disk_refusal}
use Rattle.files.proofs.checking.judge.Goals as goal

pub returns-in_err-judge_start : goal.returns-in_err-judge_start
unfolding disk_refusal
returns-in_err-judge_start c = let p = err_from_is_err_and c.from_residual.result c.from_residual.ensures.1 in
    rw (p.1, p.2) (sym (or_there _ _ _ (sym c.in_err-judge_start.ensures)))

pub returns-in_err-judge_files : goal.returns-in_err-judge_files
unfolding disk_refusal
returns-in_err-judge_files c = let p = err_from_is_err_and c.from_residual-in_err-judge_files.result c.from_residual-in_err-judge_files.ensures.1 in
    rw (p.1, p.2) (sym (or_absent _ _ (sym c.in_ok-judge_start.ensures) ∙ or_there _ _ _ (sym c.in_err-judge_files.ensures)))

pub returns : goal.returns
unfolding disk_refusal
returns c = c.judge_free.ensures ∙ sym (or_absent _ _ (sym c.in_ok-judge_start.ensures) ∙ or_absent _ _ (sym c.in_ok-judge_files.ensures))
