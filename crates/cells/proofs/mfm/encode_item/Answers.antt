-- `cells::encode_item` meets its contract.
-- Rests on: the laws in Number, Mfm and laws::Tab; the contract of item_cell.
-- Assumes nothing.
use mathlib.Core.Path.{refl, sym, ◌∙◌}
use Prim.Native.Nat.{◌*◌, ◌%◌}
use native.Mathlib.Omega.{arith}
use native.Mathlib.Nat.{one-mul, zero-add}
use borrow.Author.Rules.{rules}
use Rattle.std.proofs.Common.{bit_or}
use Rattle.std.proofs.lemmas.Iterator.{YieldsList-from_range}
use Rattle.std.proofs.lemmas.Iterator.Consumers.{fold_from_yields_List}
use Rattle.laws.specs.Laws.Tab.{tab_in}
use Rattle.laws.specs.Lists.{tab}
use Rattle.cells.specs.Stream.{word}
use Rattle.cells.specs.Written.{item_cell, item_word}
use Rattle.cells.proofs.Laws.Number.{number_in_turn}
use Rattle.cells.proofs.Laws.Mfm.{item_cell_bit}
use Rattle.cells.proofs.mfm.encode_item.Goals as goal

pub returns : goal.returns
unfolding item_word word
returns c =
    fold_from_yields_List _ (λ v j. bit_or (v * 2 % 65536) (item_cell c.args.p c.args.item j)) _ _ c.fold.ensures.ran
    (YieldsList-from_range 0 16 16 refl refl) (λ a x b q k. search rules)
    ∙ number_in_turn (tab (item_cell c.args.p c.args.item) 16) 1 0 16 65536 (item_cell c.args.p c.args.item) (item_cell_bit _ _)
    (λ j h. rw (zero-add, one-mul) (sym (tab_in _ 16 j h))) (omega arith)
