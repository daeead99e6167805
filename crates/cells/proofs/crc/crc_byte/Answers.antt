-- `cells::crc_byte` meets its contract.
-- Rests on: the laws in Crc; the contract of crc_bit.
-- Assumes nothing.
use mathlib.Core.Path.{refl, ◌∙◌}
use Prim.Native.Nat.{◌-◌, ◌/◌, ◌%◌, ◌^◌}
use borrow.Author.Rules.{rules}
use Rattle.std.proofs.lemmas.Iterator.{YieldsList-from_range}
use Rattle.std.proofs.lemmas.Iterator.Consumers.{fold_from_yields_List}
use Rattle.cells.specs.Crc.{crc_bit}
use Rattle.cells.proofs.Laws.Crc.{bits_in_turn}
use Rattle.cells.proofs.crc.crc_byte.Goals as goal

pub returns : goal.returns
returns c = fold_from_yields_List _ (λ v k. crc_bit v (c.args.x / 2 ^ (7 - k) % 2)) _ _ c.fold.ensures.ran (YieldsList-from_range 0 8 8 refl refl)
    (λ a x b q k. search rules) ∙ bits_in_turn c.args.s c.args.x
