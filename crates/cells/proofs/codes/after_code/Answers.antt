-- `after_code` meets its contract where the byte is no code.
-- Rests on: the laws in Codes; the contract of is_code.
-- Assumes nothing.
use mathlib.Core.Path.{sym, ◌∙◌}
use Rattle.cells.specs.Codes.{expected_after}
use Rattle.cells.proofs.Laws.Codes.{plain_after}
use Rattle.cells.proofs.codes.after_code.Goals as goal

pub returns-then-not-is_code : goal.returns-then-not-is_code
unfolding expected_after
returns-then-not-is_code c = sym (plain_after _ _ (sym c.is_code.ensures ∙ c.if-not-is_code.true))
