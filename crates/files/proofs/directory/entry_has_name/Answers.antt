-- `entry_has_name` meets its contract: names of one length, compared byte by byte.
-- Rests on: the laws in laws::Ranges and Loading/Slots; the contracts of name_length, fields::byte and lowered_byte.
-- Assumes nothing.
use mathlib.Core.Path.{sym, ◌∙◌}
use Prim.Native.Nat.{ℕ, ◌+◌}
use lib.Dec.{eqb}
use Rattle.std.proofs.Common.{rules, tests}
use Rattle.std.proofs.lemmas.Iterator.{YieldsList-from_slice}
use Rattle.std.proofs.lemmas.Iterator.Consumers.{YieldsList-from_enumerate, YieldsList-at}
use Rattle.std.proofs.lemmas.Iterator.Search.{all_from_yields_List}
use Rattle.laws.specs.Lists.{element_at}
use Rattle.laws.specs.Laws.Tests.{eq_false}
use Rattle.laws.specs.Laws.Ranges.{all_enumerated}
use Rattle.file_rules.specs.Directory.{lowered}
use Rattle.files.specs.Laws.Loading.Slots.{name_other_length, name_compared}
use Rattle.files.proofs.directory.entry_has_name.Goals as goal

pub returns-then-name_length-name : goal.returns-then-name_length-name
unfolding element_at
returns-then-name_length-name c =
    let test = λ (p : ℕ × ℕ). eqb (lowered (element_at c.args.image.now (c.args.at + 16) p.0)) (lowered p.1) in
    all_from_yields_List test _ _ c.all.result c.all.ensures.ran
    (YieldsList-from_enumerate (YieldsList-at c.enumerate.ensures.source (YieldsList-from_slice c.args.name.now (cc))) (cc)) (λ x b q k. search (rules, tests))
    ∙ all_enumerated test c.args.name.now 0
    ∙ name_compared c.args.image.now c.args.at c.args.name.now (sym c.name_length.ensures ∙ c.if-name_length-name.true)

pub returns-else-name_length-name : goal.returns-else-name_length-name
returns-else-name_length-name c = eq_false c.if-name_length-name.false ∙ name_other_length _ _ _ (λ e. c.if-name_length-name.false (c.name_length.ensures ∙ e))
