-- `dir_end` meets its contract: the disk is sound, so its directory has no more slots than every block's.
-- Rests on: the laws in file_rules::Base/Ends; the contract of header::dir_end.
-- Assumes nothing.
use Rattle.file_rules.proofs.Laws.Base.Ends.{end_within}
use Rattle.files.proofs.sound.SoundDisk.dir_end.Goals as goal

pub returns : goal.returns
returns c = (c.dir_end.ensures.0, rw c.dir_end.ensures.0 (end_within _ c.args.self.now.sound.passed))
