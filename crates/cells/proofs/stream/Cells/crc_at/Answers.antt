-- `Cells::crc_at` meets its contract.
-- Rests on: the laws in Crc; the contracts of row_byte and crc_byte.
-- Assumes nothing.
use mathlib.Core.Path.{refl, ◌∙◌}
use Prim.Native.Nat.{◌+◌, ◌*◌}
use native.Mathlib.Omega.{arith}
use borrow.Author.Rules.{rules}
use Rattle.std.proofs.lemmas.Iterator.{YieldsList-from_range}
use Rattle.std.proofs.lemmas.Iterator.Consumers.{fold_from_yields_List}
use Rattle.cells.specs.Stream.{from, data_byte}
use Rattle.cells.specs.Crc.{crc_bits}
use Rattle.cells.proofs.Laws.Crc.{cells_in_turn}
use Rattle.cells.proofs.stream.Cells.crc_at.Goals as goal

pub returns : goal.returns
returns c =
    fold_from_yields_List _ (λ v j. crc_bits v (data_byte (from c.args.self.now c.args.i) (c.args.k + 16 * j)) 8) _ _ c.fold.ensures.ran
    (YieldsList-from_range 0 _ c.args.n refl (omega arith)) (λ a x b q k. search rules)
    ∙ cells_in_turn _ _ _
