-- `load_map` meets its contract: the records below b are loaded.
use Rattle.std.proofs.Common.{◌≡◌, ◌<◌, length, ℕ, get_or}
use Rattle.sector_rules.specs.Geometry.{blocks}
use Rattle.file_rules.specs.Disk.{disk_of}
use Rattle.file_rules.specs.Map.{number_at}
use Rattle.files.proofs.map.load_map.Given as goal

abbrev pub invariant-loop-b : goal.invariant-loop-b
invariant-loop-b l = (length l.number-items ≡ blocks) × ((j : ℕ) → j < l.b → get_or l.number-items j 0 ≡ number_at (disk_of l.image) j)
