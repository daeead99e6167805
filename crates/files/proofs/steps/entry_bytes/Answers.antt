-- `entry_bytes` meets its contract: the fields are written in the order of the definition.
-- Rests on: the laws in Writing/Steps; the contracts of fields::put_high4, fields::put_high2 and
-- fields::copy_into.
-- Assumes nothing.
use mathlib.Core.Path.{◌≡◌, refl}
use lib.ListN.{length}
use borrow.Author.Rules.{rules}
use Rattle.laws.specs.Lists.{tab}
use Rattle.file_rules.specs.Sizes.{name_most}
use Rattle.files.specs.Laws.Writing.Steps.{entry_row_lem}
use Rattle.files.proofs.steps.entry_bytes.Goals as goal

pub returns : goal.returns
unfolding tab
returns c = let long : length c.args.e.name ≡ name_most = search rules in entry_row_lem c.args.e long _ _ _ _ _ refl c.put_high4.ensures
    c.put_high2.ensures c.copy_into.ensures c.put_high4-2.ensures
