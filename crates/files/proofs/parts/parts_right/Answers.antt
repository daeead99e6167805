-- `parts_right` meets its contract.
-- Rests on: the laws in Loading/Parts and laws::Found; the contract of tally_parts.
-- Assumes nothing.
use Rattle.std.proofs.Common.{◌≡◌, ◌∙◌, ℕ, arith, rules, take, eqb}
use Rattle.std.specs.List.{list_all}
use Rattle.std.proofs.lemmas.Iterator.{YieldsList-from_slice}
use Rattle.std.proofs.lemmas.Iterator.Search.{all_from_yields_List}
use borrow.Author.Tests.{tests}
use Rattle.laws.specs.Laws.Found.{all_first}
use Rattle.files.specs.Laws.Loading.Parts.{parts_many, parts_later, parts_once}
use Rattle.files.proofs.parts.parts_right.Goals as goal

pub returns-then-n-gt-BLOCKS : goal.returns-then-n-gt-BLOCKS
returns-then-n-gt-BLOCKS c = parts_many _ _ _ c.if-n-gt-BLOCKS.true

pub returns-then-tally-n-ne0 : goal.returns-then-tally-n-ne0
returns-then-tally-n-ne0 c = parts_later _ _ _ c.if-n-gt-BLOCKS.false _ c.tally_parts-tally.ensures c.if-tally-n-ne0.true

pub returns : goal.returns
returns c =
    let t = c.tally_parts-tally.result in
    let n : c.all.result ≡ list_all (λ (x : ℕ). eqb x 1) (take c.args.n t) =
    all_from_yields_List (λ (x : ℕ). eqb x 1) _ _ c.all.result c.all.ensures.ran (YieldsList-from_slice (take c.args.n t) (search rules))
    (λ x b q k. search (rules, tests)) in
    parts_once _ _ _ c.if-n-gt-BLOCKS.false _ c.tally_parts-tally.ensures _ c.if-tally-n-ne0.false
    (n ∙ all_first (λ (x : ℕ). eqb x 1) c.args.n t 0 (omega (arith, c.tally_parts-tally.ensures.long)))
