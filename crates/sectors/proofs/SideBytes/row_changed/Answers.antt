-- `row_changed` meets its contract.
-- Rests on: the law each_below; the contract of is_changed.
-- Assumes nothing.
use mathlib.Core.Path.{◌≡◌, refl}
use mathlib.Core.Bool.{false}
use native.Mathlib.Omega.{arith}
use Prim.Native.Nat.{◌+◌}
use Rattle.std.proofs.Common.{rules, tests}
use Rattle.std.proofs.lemmas.Bool.{MatchBool-at_false}
use Rattle.std.proofs.lemmas.Iterator.{YieldsList-from_range, cases_from_any}
use Rattle.sector_rules.specs.Rewritten.{is_side_byte}
use Rattle.sectors.specs.Laws.RangeTests.{each_below}
use Rattle.sectors.proofs.SideBytes.row_changed.Goals as goal

pub returns : goal.returns
returns c = λ e.
    let told =
    cases_from_any _ _ _ (λ j. Unit {0})
    (λ j. is_side_byte c.args.self.start (c.args.self.first + c.args.self.count) c.args.self.side c.args.self.first c.args.self.count (c.args.at + j) ≡ false)
    c.any.ensures.ran (YieldsList-from_range 0 c.args.n c.args.n refl (omega arith)) (λ j q k. tt) (λ j q k. search (rules, tests)) in
    record { each = each_below _ _ (MatchBool-at_false _ _ e told) }
