-- `judge_codes` meets its contract.
-- Rests on: the laws in Codes; the contracts of Side::byte, expected_after and wrong_at_end.
-- Assumes nothing.
use mathlib.Core.Path.{refl, ap, ◌∙◌}
use native.Mathlib.Omega.{arith}
use borrow.Author.Rules.{rules}
use lib.ListN.{get_or}
use Prim.Native.Nat.{◌/◌}
use Rattle.std.proofs.lemmas.Iterator.{YieldsList-from_range}
use Rattle.std.proofs.lemmas.Iterator.Consumers.{fold_from_yields_List}
use Rattle.cells.specs.declared.Expected.TheVariants.{Any}
use Rattle.cells.specs.Stream.{byte_place}
use Rattle.cells.specs.Codes.{expected_after, at_end, wrong_of, coded}
use Rattle.cells.proofs.Laws.Codes.{wrong_in_turn}
use Rattle.cells.proofs.codes.judge_codes.Goals as goal

pub returns : goal.returns
unfolding coded
returns c =
    let part = c.args.part.now in
    let side = c.args.side in
    let fold = fold_from_yields_List _ (λ y j. expected_after y j (get_or part (byte_place side j) 0)) _ _ c.fold-end.ensures.ran
    (YieldsList-from_range 0 _ (side.cells / 8) refl (omega arith)) (λ a x b q k. search rules) in
    c.wrong_at_end.ensures ∙ ap (λ x. wrong_of (at_end x)) fold ∙ wrong_in_turn part side (side.cells / 8) 0 Any (omega arith)
