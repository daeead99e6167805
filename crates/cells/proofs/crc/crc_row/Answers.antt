-- `cells::crc_row` meets its contract.
-- Rests on: the laws in Crc; the contract of crc_byte.
-- Assumes nothing.
use mathlib.Core.Path.{◌∙◌}
use borrow.Author.Rules.{rules}
use Rattle.std.proofs.lemmas.Iterator.{YieldsList-from_slice}
use Rattle.std.proofs.lemmas.Iterator.Consumers.{fold_from_yields_List}
use Rattle.cells.specs.Crc.{crc_bits}
use Rattle.cells.proofs.Laws.Crc.{bytes_in_turn}
use Rattle.cells.proofs.crc.crc_row.Goals as goal

pub returns : goal.returns
returns c = fold_from_yields_List _ (λ v x. crc_bits v x 8) _ _ c.fold.ensures.ran (YieldsList-from_slice c.args.row.now (cc)) (λ a x b q k. search rules)
    ∙ bytes_in_turn _ _
