-- `is_version1` meets its contract.
-- Rests on: the contract of fields::stands_at.
-- Assumes nothing.
use Rattle.sector_rules.specs.Hfe.{is_version1, hfe_signature}
use Rattle.sectors.proofs.hfe.is_version1.Goals as goal

pub returns : goal.returns
unfolding is_version1 hfe_signature
returns c = c.stands_at.ensures
