-- `version1_fault` meets its contract.
-- Rests on: the contracts of is_version1 and field_fault.
-- Assumes nothing.
use mathlib.Core.Path.{◌∙◌}
use Rattle.sector_rules.specs.Hfe.{version1_fault}
use Rattle.sectors.proofs.hfe.version1_fault.Goals as goal

pub returns : goal.returns
unfolding version1_fault
returns c = c.field_fault.ensures ∙ rw c.is_version1.ensures
