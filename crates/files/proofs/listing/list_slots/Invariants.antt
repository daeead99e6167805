-- `list_slots` meets its contract: the slots below k are listed, and the next goes to c.
use mathlib.Core.Path.{◌≡◌}
use Prim.Native.Nat.{◌-◌, ◌≤◌}
use lib.ListN.{length}
use Rattle.laws.specs.Changes.{put}
use Rattle.file_rules.specs.Disk.{disk_of}
use Rattle.file_rules.specs.Calls.{entries}
use Rattle.files.proofs.listing.list_slots.Given as goal

abbrev pub invariant-loop-k : goal.invariant-loop-k
invariant-loop-k l = (l.k ≤ l.end) × (length l.out ≡ length l.initial.out) × (l.c ≡ length (entries (disk_of l.dir.disk.now.image.now) l.k)) ×
    (l.out ≡ put l.initial.out 0 (entries (disk_of l.dir.disk.now.image.now) l.k))

abbrev pub decreases-loop-k : goal.decreases-loop-k
decreases-loop-k l = l.end - l.k
