-- `free_blocks` meets its contract: the blocks below b are freed.
use mathlib.Core.Path.{◌≡◌}
use Prim.Native.Nat.{◌-◌, ◌≤◌}
use Rattle.sector_rules.specs.Geometry.{blocks}
use Rattle.file_rules.specs.Disk.{disk_of, image_of}
use Rattle.file_rules.specs.Written.{free_blocks}
use Rattle.files.proofs.open.OpenDisk.free_blocks.Given as goal

abbrev pub invariant-loop-b : goal.invariant-loop-b
invariant-loop-b l = (l.b ≤ blocks) × (l.self.image.ghost_name ≡ l.initial.self.image.ghost_name)
    × (l.self.image.now ≡ image_of (free_blocks l.b (disk_of l.initial.self.image.now) l.f))

abbrev pub decreases-loop-b : goal.decreases-loop-b
decreases-loop-b l = blocks - l.b
