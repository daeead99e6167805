-- `zero_bytes` meets its contract: the first i bytes are written.
use mathlib.Core.Path.{◌≡◌}
use Prim.Native.Nat.{ℕ, ◌-◌, ◌≤◌}
use lib.ListN.{length}
use Rattle.sector_rules.specs.Geometry.{image_bytes}
use Rattle.files.specs.Laws.Writing.Stored.{patched}
use Rattle.file_rules.specs.Disk.{disk_of, image_of}
use Rattle.files.proofs.store.zero_bytes.Given as goal

abbrev pub invariant-loop-i : goal.invariant-loop-i
invariant-loop-i l = (l.i ≤ l.n) × (length l.image ≡ image_bytes) × (l.image ≡ image_of (patched (disk_of l.initial.image) l.b l.o l.i (λ (k : ℕ). 0)))

abbrev pub decreases-loop-i : goal.decreases-loop-i
decreases-loop-i l = l.n - l.i
