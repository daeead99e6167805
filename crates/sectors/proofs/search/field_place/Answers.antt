-- `field_place` meets its contract.
-- Rests on: the laws in Reading/Search and cells::Sync; the contracts of Cells::len and Cells::three_sync.
-- Assumes nothing.
use mathlib.Core.Bool.{true, false}
use mathlib.Core.Path.{◌≡◌, sym}
use native.Mathlib.Omega.{arith}
use borrow.Author.Rules.{rules}
use borrow.Author.Tests.{tests}
use Rattle.std.proofs.lemmas.Iterator.{first_from_Range}
use Rattle.cells.specs.Stream.{from}
use Rattle.cells.specs.Sync.{three_sync}
use Rattle.cells.proofs.Laws.Stream.{from_length}
use Rattle.cells.proofs.Laws.Sync.{three_past}
use Rattle.sector_rules.specs.Rewritten.{field_place}
use Rattle.sectors.specs.Laws.Reading.Search.{first_found, first_none, found_within}
use Rattle.sectors.proofs.search.field_place.Goals as goal

pub returns-then-len-i : goal.returns-then-len-i
unfolding field_place
returns-then-len-i c = (sym (first_none _ _ _ _ _ (λ j h. three_past _ (rw from_length (omega arith)))), tt)

pub returns : goal.returns
unfolding field_place
returns c =
    let ran = first_from_Range _ _ _ _ (λ j. three_sync (from c.args.cells.now j) ≡ true) (λ j. three_sync (from c.args.cells.now j) ≡ false)
    c.find.ensures.ran (λ x q k. search (rules, tests)) (λ x q k. search (rules, tests)) in
    (first_found _ _ _ 689 (omega arith) _ ran, found_within _ _ _ (omega arith) (omega arith) _ ran)
