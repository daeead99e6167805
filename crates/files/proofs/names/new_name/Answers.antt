-- `new_name` meets its contract: no number below k is that of a held slot with the name.
-- Rests on: the laws in laws::Ranges; the contract of slot_has_name.
-- Assumes nothing.
use mathlib.Core.Path.{ap, ◌∙◌}
use mathlib.Core.Bool.{not, ◌&&◌}
use Prim.Native.Nat.{ℕ}
use native.Mathlib.Omega.{arith}
use Rattle.std.proofs.Common.{rules, tests}
use Rattle.std.proofs.lemmas.Iterator.{YieldsList-from_range}
use Rattle.std.proofs.lemmas.Iterator.Search.{any_from_yields_List}
use Rattle.laws.specs.Laws.Ranges.{none_listed}
use Rattle.file_rules.specs.Disk.{disk_of}
use Rattle.file_rules.specs.Directory.{name_eq, slot_name, held}
use Rattle.files.proofs.names.new_name.Goals as goal

pub returns : goal.returns
returns c =
    let disk = disk_of c.args.dir.now.disk.now.image.now in
    let test = λ (j : ℕ). held disk j && name_eq (slot_name disk j) c.args.name.now in
    ap not (any_from_yields_List test _ _ c.any.result c.any.ensures.ran (YieldsList-from_range 0 c.args.k c.args.k (cc) (omega arith))
    (λ x b q k. search (rules, tests)))
    ∙ none_listed test c.args.k
