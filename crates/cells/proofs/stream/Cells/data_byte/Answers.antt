-- `Cells::data_byte` meets its contract.
-- Rests on: the laws in Stream and Number; the contracts of cells_from and cell_from.
-- Assumes nothing.
use mathlib.Core.Path.{refl, sym, ◌∙◌}
use Prim.Native.Nat.{◌+◌, ◌*◌, ◌%◌}
use native.Mathlib.Omega.{arith}
use borrow.Author.Rules.{rules}
use Rattle.std.proofs.Common.{bit_or, get_or}
use Rattle.std.proofs.lemmas.Iterator.{YieldsList-from_range}
use Rattle.std.proofs.lemmas.Iterator.Consumers.{fold_from_yields_List}
use Rattle.cells.specs.Stream.{from, data_byte}
use Rattle.cells.proofs.Laws.Stream.{from_past}
use Rattle.cells.proofs.Laws.Number.{number_in_turn, byte_past}
use Rattle.cells.proofs.stream.Cells.data_byte.Goals as goal

pub returns-then-cells_from-k : goal.returns-then-cells_from-k
returns-then-cells_from-k c = sym (byte_past _ _ (λ j h. from_past _ _ _ (rw (← c.cells_from.ensures.0) (omega arith))))

pub returns : goal.returns
unfolding data_byte
returns c =
    fold_from_yields_List _ (λ v n. bit_or (v * 2 % 256) (get_or (from c.args.self.now c.args.i) (c.args.k + 1 + 2 * n) 0)) _ _ c.fold.ensures.ran
    (YieldsList-from_range 0 8 8 refl refl) (λ a x b q k. search rules)
    ∙ number_in_turn (from c.args.self.now c.args.i) 2 (c.args.k + 1) 8 256 (λ n. get_or (from c.args.self.now c.args.i) (c.args.k + 1 + 2 * n) 0)
    (λ n. c.cells_from.ensures.2 _) (λ n h. refl) (omega arith)
