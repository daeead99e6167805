-- `entry_for` meets its contract.
-- Rests on: the laws in Calling/SoundDisk; the contract of fields::copy_into.
-- Assumes nothing.
use mathlib.Core.Path.{refl}
use Rattle.laws.specs.Lists.{tab}
use Rattle.files.specs.Laws.Calling.SoundDisk.{name_filled, entry_filled}
use Rattle.files.proofs.adding.entry_for.Goals as goal

pub returns : goal.returns
unfolding tab
returns c = entry_filled _ _ _ _ (name_filled _ _ _ refl c.copy_into.ensures)
