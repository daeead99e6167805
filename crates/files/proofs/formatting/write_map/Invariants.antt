-- `write_map` meets its contract: the records below b are written.
use mathlib.Core.Path.{◌≡◌}
use Prim.Native.Nat.{◌-◌, ◌≤◌}
use lib.ListN.{length}
use Rattle.sector_rules.specs.Geometry.{blocks, image_bytes}
use Rattle.file_rules.specs.Disk.{disk_of, image_of}
use Rattle.files.specs.Laws.Calling.BadNoted.{fresh_record}
use Rattle.files.specs.Laws.Calling.Fresh.{with_records}
use Rattle.files.proofs.formatting.write_map.Given as goal

abbrev pub invariant-loop-b : goal.invariant-loop-b
invariant-loop-b l = (l.b ≤ blocks) × (length l.image ≡ image_bytes) × (l.image ≡ image_of (with_records (disk_of l.initial.image) (fresh_record l.noted) l.b))

abbrev pub decreases-loop-b : goal.decreases-loop-b
decreases-loop-b l = blocks - l.b
