-- `count_held` meets its contract: the numbers below the end that pass are counted.
-- Rests on: the laws in laws::Ranges and laws::Count; the contract of held_slot.
-- Assumes nothing.
use mathlib.Core.Path.{◌∙◌}
use native.Mathlib.Omega.{arith}
use Rattle.std.proofs.Common.{rules, tests}
use Rattle.std.proofs.lemmas.Iterator.{YieldsList-from_range}
use Rattle.std.proofs.lemmas.Iterator.Consumers.{YieldsList-from_filter, YieldsList-at, count_from_yields_List}
use Rattle.laws.specs.Laws.Count.{count_le}
use Rattle.laws.specs.Laws.Ranges.{counted_listed}
use Rattle.file_rules.specs.Disk.{disk_of}
use Rattle.file_rules.specs.Directory.{held}
use Rattle.files.proofs.listing.count_held.Goals as goal

pub returns : goal.returns
returns c =
    let test = held (disk_of c.args.dir.now.disk.now.image.now) in
    let e = count_from_yields_List c.filter.result c.count.result c.count.ensures.ran
    (YieldsList-from_filter _ test (YieldsList-at c.filter.ensures.source (YieldsList-from_range 0 c.args.end c.args.end (cc) (omega arith)))
    c.filter.ensures.closure (λ x b q k. search (rules, tests)))
    ∙ counted_listed test c.args.end in
    (e, omega (arith, e, count_le c.args.end test, c.requires))
