-- `bad_list_right` meets its contract: each entry is asked whether it can be a bad block.
-- Rests on: the laws in Calling/BadNoted.
-- Assumes nothing.
use mathlib.Core.Path.{◌∙◌}
use Rattle.std.proofs.Common.{rules, tests}
use Rattle.std.proofs.lemmas.Iterator.{YieldsList-from_slice}
use Rattle.std.proofs.lemmas.Iterator.Search.{all_from_yields_List}
use Rattle.files.specs.Laws.Calling.BadNoted.{can_be_bad, right_list}
use Rattle.files.proofs.formatting.bad_list_right.Goals as goal

pub returns : goal.returns
unfolding can_be_bad
returns c = all_from_yields_List can_be_bad _ _ c.all.result c.all.ensures.ran (YieldsList-from_slice c.args.bad.now (cc)) (λ x b q k. search (rules, tests))
    ∙ right_list c.args.bad.now
