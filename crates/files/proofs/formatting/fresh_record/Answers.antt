-- `fresh_record` meets its contract, case by case.
-- Rests on: the laws in Calling/Fresh.
-- Assumes nothing.
use Rattle.std.proofs.Common.{rules}
use Rattle.files.specs.Laws.Calling.Fresh.{fresh_zero, fresh_one, fresh_bad, fresh_free}
use Rattle.files.proofs.formatting.fresh_record.Goals as goal

pub returns-in-0 : goal.returns-in-0
returns-in-0 c = fresh_zero _ _ c.in-0.is

pub returns-in-1 : goal.returns-in-1
returns-in-1 c = fresh_one _ _ c.in-1.is

pub returns-in_default : goal.returns-in_default
returns-in_default c = fresh_bad _ _ (λ e. search rules) (λ e. search rules) c.if-noted-b.true

pub returns-in_default-2 : goal.returns-in_default-2
returns-in_default-2 c = fresh_free _ _ (λ e. search rules) (λ e. search rules) c.if-noted-b.false
