-- `judge_codes` meets its contract.
-- Rests on: the laws in Unpacking/Codes; the contracts of is_version3 and all_codes.
-- Assumes nothing.
use mathlib.Core.Path.{sym, ◌∙◌}
use Rattle.sectors.specs.Laws.Unpacking.Codes.{plain_done}
use Rattle.sectors.proofs.codes.judge_codes.Goals as goal
use Rattle.std.specs.Prelude.{refl}

pub all_codes-requires : goal.all_codes-requires
all_codes-requires c = sym c.is_version3.ensures ∙ c.if-is_version3.true

pub returns-else-is_version3 : goal.returns-else-is_version3
returns-else-is_version3 c = plain_done _ (sym c.is_version3.ensures ∙ c.if-is_version3.false) _ refl
