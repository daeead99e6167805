-- `put_part` meets its contract: the first p sectors are written.
use mathlib.Core.Path.{◌≡◌}
use Prim.Native.Nat.{ℕ, ◌+◌, ◌-◌, ◌*◌, ◌≤◌}
use lib.ListN.{length}
use Rattle.sector_rules.specs.Geometry.{image_bytes, block_sectors}
use Rattle.files.specs.Laws.Writing.Stored.{patched}
use Rattle.files.specs.Laws.Writing.Steps.{stored_row}
use Rattle.file_rules.specs.Disk.{disk_of, image_of}
use Rattle.files.proofs.steps.put_part.Given as goal

abbrev pub invariant-loop-p : goal.invariant-loop-p
invariant-loop-p l = (l.p ≤ block_sectors) × (length l.image ≡ image_bytes) ×
    (l.image ≡ image_of (patched (disk_of l.initial.image) l.b 0 (l.p * 512) (λ (i : ℕ). stored_row l.file.head.now l.file.content.now (l.s * 1536 + i))))

abbrev pub decreases-loop-p : goal.decreases-loop-p
decreases-loop-p l = block_sectors - l.p
