-- `directory` meets its contract: the image of a sound disk is whole.
-- Rests on: the contract of Directory::of.
-- Assumes nothing.
use Rattle.files.proofs.sound.SoundDisk.directory.Goals as goal

pub of-requires : goal.of-requires
of-requires c = c.args.self.now.sound.long
