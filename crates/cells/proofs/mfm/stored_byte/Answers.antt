-- `cells::stored_byte` meets its contract.
-- Rests on: the laws in Packed and Mfm; the contract of item_cell.
-- Assumes nothing.
use mathlib.Core.Path.{refl, ◌∙◌}
use Prim.Native.Nat.{◌+◌, ◌*◌, ◌%◌, ◌^◌}
use borrow.Author.Rules.{rules}
use Rattle.std.proofs.Common.{bit_or}
use Rattle.std.proofs.lemmas.Iterator.{YieldsList-from_range}
use Rattle.std.proofs.lemmas.Iterator.Consumers.{fold_from_yields_List}
use Rattle.cells.specs.Written.{item_cell}
use Rattle.cells.proofs.Laws.Packed.{packed_in_turn}
use Rattle.cells.proofs.Laws.Mfm.{item_cell_bit}
use Rattle.cells.proofs.mfm.stored_byte.Goals as goal

pub returns : goal.returns
returns c =
    fold_from_yields_List _ (λ v j. bit_or (item_cell c.args.p c.args.item (c.args.start + j) * 2 ^ j % 256) v) _ _ c.fold.ensures.ran
    (YieldsList-from_range 0 8 8 refl refl) (λ a x b q k. search rules)
    ∙ packed_in_turn (item_cell c.args.p c.args.item) (item_cell_bit _ _) c.args.start
