-- `give_blocks` meets its contract: the walk has given the free blocks below b, as long as there are not enough; the records from b on are as they were.
use mathlib.Core.Path.{◌≡◌}
use Prim.Native.Nat.{ℕ, ◌-◌, ◌≤◌, ◌<◌}
use Rattle.sector_rules.specs.Geometry.{blocks}
use Rattle.file_rules.specs.Disk.{disk_of}
use Rattle.file_rules.specs.Map.{record_at}
use Rattle.files.specs.Laws.Loading.Loaded.{loaded_record}
use Rattle.files.specs.Laws.Writing.Steps.{stored_row}
use Rattle.files.specs.Laws.Writing.Given.{Walked}
use Rattle.files.proofs.open.OpenDisk.give_blocks.Given as goal

abbrev pub invariant-loop-b : goal.invariant-loop-b
invariant-loop-b l = (l.b ≤ blocks) × (l.self.image.ghost_name ≡ l.initial.self.image.ghost_name) ×
    ((j : ℕ) → l.b ≤ j → j < blocks → loaded_record l.self.map j ≡ record_at (disk_of l.initial.self.image.now) j) ×
    Walked (disk_of l.initial.self.image.now) l.f (stored_row l.file.head.now l.file.content.now) l.s l.n l.b l.given l.self.image.now

abbrev pub decreases-loop-b : goal.decreases-loop-b
decreases-loop-b l = blocks - l.b
