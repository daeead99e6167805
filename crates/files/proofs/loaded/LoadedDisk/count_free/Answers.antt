-- `count_free` meets its contract: the records of the loaded map are the disk's.
-- Rests on: the laws in Loading/Loaded; the contract of map::count_free.
-- Assumes nothing.
use mathlib.Core.Path.{◌∙◌}
use Rattle.files.specs.Laws.Loading.Loaded.{free_loaded}
use Rattle.files.proofs.loaded.LoadedDisk.count_free.Goals as goal

pub returns : goal.returns
returns c = (c.count_free.ensures.0 ∙ free_loaded _ _ c.args.self.now.loaded, c.count_free.ensures.1)
