-- `write_table` meets its contract.
-- Rests on: the laws in Made and in Packing/Runs; the contracts of table_byte and fields::copy_into.
-- Assumes nothing.
use Rattle.std.proofs.Common.{rules, ◌∙◌}
use Rattle.sector_rules.specs.Packed.{hfe_table_byte}
use Rattle.laws.specs.Laws.Made.{made_each}
use Rattle.sectors.specs.Laws.Packing.Runs.{put_made}
use Rattle.sectors.proofs.packing.write_table.Goals as goal

pub returns : goal.returns
returns c =
    c.copy_into.ensures
    ∙ put_made _ _ _ _ _ c.from_fn-table.ensures.items.long
    (made_each _ _ hfe_table_byte (λ k y q h. search rules) _ _ c.from_fn-table.ensures.items)
