-- `put_title` meets its contract.
-- Rests on: the laws in Calling/Fresh; the contracts of fields::copy_into, fields::fill and fields::put_high2.
-- Assumes nothing.
use Rattle.files.specs.Laws.Calling.Fresh.{titled_is}
use Rattle.file_rules.specs.Check.{disk_signature}
use Rattle.files.proofs.formatting.put_title.Goals as goal

pub returns : goal.returns
unfolding disk_signature
returns c = titled_is _ _ _ _ _ _ _ c.requires c.copy_into.ensures c.fill.ensures
    c.copy_into-2.ensures c.put_high2.ensures
