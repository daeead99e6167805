-- `write_header` meets its contract: signature, the rest of the header as it is named, and FF.
-- Rests on: the laws in Packing/Runs; the contracts of fields::copy_into and fields::fill.
-- Assumes nothing.
use mathlib.Core.Path.{◌∙◌}
use Rattle.laws.specs.Numbers.{low_byte}
use Rattle.sector_rules.specs.Hfe.{hfe_signature}
use Rattle.sector_rules.specs.Packed.{hfe_header_rest}
use Rattle.sectors.specs.Laws.Packing.Runs.{header_written}
use Rattle.sectors.proofs.packing.write_header.Goals as goal

pub returns : goal.returns
unfolding hfe_signature hfe_header_rest low_byte
returns c = c.fill.ensures ∙
    header_written _ _ _ c.copy_into.ensures c.copy_into-2.ensures
