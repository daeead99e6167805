-- `of` meets its contract: the blocks of file 0 are the directory's.
-- Rests on: the laws in Loading/Slots; the contract of file_blocks.
-- Assumes nothing.
use Rattle.files.specs.Laws.Loading.Slots.{located_directory}
use Rattle.files.proofs.directory.Directory.of.Goals as goal

pub invariant_of-result : goal.invariant_of-result
invariant_of-result c = record { whole = c.requires; located = located_directory _ _ _ c.args.disk.now.loaded c.file_blocks.ensures }
