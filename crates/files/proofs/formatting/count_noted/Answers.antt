-- `count_noted` meets its contract: the noted blocks are counted along the row.
-- Rests on: the laws in laws::Ranges, laws::Count and Calling/BadNoted.
-- Assumes nothing.
use mathlib.Core.Path.{◌≡◌, ap, ◌∙◌}
use mathlib.Core.Bool.{Bool, false}
use Prim.Native.Nat.{ℕ}
use lib.ListN.{length}
use native.Mathlib.Omega.{arith}
use Rattle.std.proofs.Common.{rules, tests}
use Rattle.std.proofs.lemmas.Iterator.{YieldsList-from_slice}
use Rattle.std.proofs.lemmas.Iterator.Consumers.{YieldsList-from_filter, YieldsList-at, count_from_yields_List}
use Rattle.laws.specs.Below.{count}
use Rattle.laws.specs.Laws.Count.{count_le}
use Rattle.laws.specs.Laws.Ranges.{counted_list}
use Rattle.sector_rules.specs.Geometry.{blocks}
use Rattle.files.specs.Laws.Calling.BadNoted.{is_noted}
use Rattle.files.proofs.formatting.count_noted.Goals as goal

pub returns : goal.returns
unfolding is_noted
returns c =
    let noted = c.args.noted.now in
    let long : length noted ≡ blocks = search (rules, tests) in
    let e = count_from_yields_List c.filter.result c.count.result c.count.ensures.ran
    (YieldsList-from_filter _ (λ (t : Bool). t) (YieldsList-at c.filter.ensures.source (YieldsList-from_slice noted (cc)))
    c.filter.ensures.closure (λ x b q k. search (rules, tests)))
    ∙ counted_list (λ (t : Bool). t) noted false
    ∙ ap (λ (n : ℕ). count n (is_noted noted)) long in
    (e, omega (arith, e, count_le blocks (is_noted noted)))
