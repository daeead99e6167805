-- `map_fault` meets its contract.
-- Rests on: the laws in laws::FirstBelow; the contracts of loaded_record and record_fault.
-- Assumes nothing.
use Rattle.std.proofs.Common.{rules, ◌≡◌, ℕ, Bool, true, false}
use borrow.Author.Tests.{tests}
use Rattle.std.proofs.lemmas.Iterator.{first_from_Range}
use Rattle.laws.specs.Laws.FirstBelow.{first_below_told}
use Rattle.sector_rules.specs.Geometry.{blocks}
use Rattle.file_rules.specs.Check.{record_fault}
use Rattle.files.specs.Laws.Loading.Loaded.{loaded_record}
use Rattle.files.proofs.map.map_fault.Goals as goal

pub returns : goal.returns
returns c =
    let p : ℕ → Bool = λ (b : ℕ). record_fault b (loaded_record c.args.map.now b) in
    first_below_told p blocks c.find.result
    (first_from_Range _ _ _ c.find.result (λ (b : ℕ). p b ≡ true) (λ (b : ℕ). p b ≡ false) c.find.ensures.ran
    (λ x q k. search (rules, tests)) (λ x q k. search (rules, tests)))
