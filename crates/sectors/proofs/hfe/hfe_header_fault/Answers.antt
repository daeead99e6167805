-- `hfe_header_fault` meets its contract.
-- Rests on: the contracts of is_version1, is_version3 and field_fault.
-- Assumes nothing.
use mathlib.Core.Path.{◌∙◌}
use Rattle.sector_rules.specs.Hfe.{hfe_header_fault}
use Rattle.sectors.proofs.hfe.hfe_header_fault.Goals as goal

pub returns : goal.returns
unfolding hfe_header_fault
returns c = c.field_fault.ensures ∙ rw (c.is_version1.ensures, c.is_version3.ensures)
