-- `vacant_at` meets its contract: the test of each number below 64 is that of the byte there.
-- Rests on: the laws in laws::Ranges; the contract of fields::byte.
-- Assumes nothing.
use mathlib.Core.Path.{◌∙◌}
use Prim.Native.Nat.{ℕ}
use lib.Dec.{eqb}
use native.Mathlib.Omega.{arith}
use Rattle.std.proofs.Common.{rules, tests}
use Rattle.std.proofs.lemmas.Iterator.{YieldsList-from_range}
use Rattle.std.proofs.lemmas.Iterator.Search.{all_from_yields_List}
use Rattle.laws.specs.Lists.{element_at}
use Rattle.laws.specs.Laws.Ranges.{all_listed}
use Rattle.file_rules.specs.Sizes.{slot_bytes}
use Rattle.files.proofs.directory.vacant_at.Goals as goal

pub returns : goal.returns
unfolding element_at
returns c = let test = λ (i : ℕ). eqb (element_at c.args.image.now c.args.at i) 0 in
    all_from_yields_List test _ _ c.all.result c.all.ensures.ran (YieldsList-from_range 0 slot_bytes slot_bytes (cc) (omega arith))
    (λ x b q k. search (rules, tests))
    ∙ all_listed test slot_bytes
