-- `field_row` meets its contract.
-- Rests on: the laws in Made and of rows; the contract of field_byte.
-- Assumes nothing.
use Prim.Native.Nat.{ℕ}
use mathlib.Core.List.{◌∷◌}
use lib.ListN.{get_or}
use Rattle.std.proofs.Common.{rules, ◌∙◌}
use Rattle.laws.specs.Lists.{window}
use Rattle.sector_rules.specs.Geometry.{sector_bytes}
use Rattle.sector_rules.specs.Packed.{with_crc}
use Rattle.sector_rules.specs.Search.{data_mark}
use Rattle.laws.specs.Laws.Made.{made_each}
use Rattle.sectors.specs.Laws.Rewriting.NewCells.{row_whole, row_window}
use Rattle.sectors.proofs.new_cells.field_row.Goals as goal

pub returns : goal.returns
returns c =
    let byte : ℕ → ℕ = λ (k : ℕ). get_or (with_crc (data_mark ∷ window c.args.content.now 0 sector_bytes)) k 0 in
    row_whole _ c.told-content _ c.from_fn.ensures.items.long
    (λ i l. made_each _ _ byte (λ k y q h. search rules) _ _ c.from_fn.ensures.items i l ∙ row_window _ c.told-content i)
