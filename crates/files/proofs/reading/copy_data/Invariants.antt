-- `copy_data` meets its contract: the first i bytes are copied.
use mathlib.Core.Path.{◌≡◌}
use Prim.Native.Nat.{ℕ, ◌-◌, ◌≤◌, ◌+◌}
use lib.ListN.{length}
use Rattle.laws.specs.Changes.{overlay}
use Rattle.file_rules.specs.Disk.{disk_of}
use Rattle.file_rules.specs.Map.{file_byte}
use Rattle.file_rules.specs.Sizes.{slot_bytes}
use Rattle.files.proofs.reading.copy_data.Given as goal

abbrev pub invariant-loop-i : goal.invariant-loop-i
invariant-loop-i l = (l.i ≤ l.n) × (length l.out ≡ length l.initial.out)
    × (l.out ≡ overlay l.initial.out 0 l.i (λ (j : ℕ). file_byte (disk_of l.disk.image.now) l.k
    (slot_bytes + j)))

abbrev pub decreases-loop-i : goal.decreases-loop-i
decreases-loop-i l = l.n - l.i
