-- `opens_block` meets its contract.
-- Rests on: the laws in Calling/SoundDisk; the contract of dir_end.
-- Assumes nothing.
use Rattle.files.specs.Laws.Calling.SoundDisk.{opens_is}
use Rattle.files.proofs.adding.opens_block.Goals as goal

pub returns : goal.returns
returns c = opens_is _ _ _ c.dir_end.ensures.0
