-- `is_version3` meets its contract.
-- Rests on: the contract of fields::stands_at.
-- Assumes nothing.
use Rattle.sector_rules.specs.Hfe.{is_version3, version3_signature}
use Rattle.sectors.proofs.hfe.is_version3.Goals as goal

pub returns : goal.returns
unfolding is_version3 version3_signature
returns c = c.stands_at.ensures
