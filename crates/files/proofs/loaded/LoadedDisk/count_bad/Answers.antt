-- `count_bad` meets its contract: the records of the loaded map are the disk's.
-- Rests on: the laws in Loading/Loaded; the contract of map::count_bad.
-- Assumes nothing.
use mathlib.Core.Path.{◌∙◌}
use Rattle.files.specs.Laws.Loading.Loaded.{bad_loaded}
use Rattle.files.proofs.loaded.LoadedDisk.count_bad.Goals as goal

pub returns : goal.returns
returns c = (c.count_bad.ensures.0 ∙ bad_loaded _ _ c.args.self.now.loaded, c.count_bad.ensures.1)
