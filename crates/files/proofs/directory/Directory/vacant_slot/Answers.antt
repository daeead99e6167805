-- `vacant_slot` meets its contract: the search over the numbers below the end finds the first that passes.
-- Rests on: the laws in laws::FirstBelow; the contracts of dir_end and held_slot.
-- Assumes nothing.
use mathlib.Core.Path.{◌≡◌, ap, ◌∙◌}
use mathlib.Core.Bool.{true, false, not, ◌&&◌}
use Prim.Native.Nat.{ℕ}
use lib.Dec.{ltb}
use Rattle.std.proofs.Common.{rules, tests}
use Rattle.std.proofs.lemmas.Iterator.{first_from_Range}
use Rattle.laws.specs.Below.{first_below}
use Rattle.laws.specs.Laws.FirstBelow.{first_below_told}
use Rattle.file_rules.specs.Disk.{disk_of}
use Rattle.file_rules.specs.Directory.{held}
use Rattle.files.proofs.directory.Directory.vacant_slot.Goals as goal

pub returns : goal.returns
returns c =
    let disk = disk_of c.args.self.now.disk.now.image.now in
    let test = λ (k : ℕ). ltb 0 k && not (held disk k) in
    first_below_told test _ c.find.result
    (first_from_Range _ _ _ _ (λ k. test k ≡ true) (λ k. test k ≡ false) c.find.ensures.ran (λ x q k. search (rules, tests)) (λ x q k. search (rules, tests)))
    ∙ ap (first_below test) c.dir_end.ensures.0
