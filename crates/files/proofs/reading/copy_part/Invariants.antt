-- `copy_part` meets its contract: the first i bytes are copied.
use mathlib.Core.Path.{◌≡◌}
use Prim.Native.Nat.{ℕ, ◌+◌, ◌-◌, ◌≤◌}
use lib.ListN.{length}
use Rattle.laws.specs.Changes.{overlay}
use Rattle.file_rules.specs.Disk.{disk_of}
use Rattle.files.proofs.reading.copy_part.Given as goal

abbrev pub invariant-loop-i : goal.invariant-loop-i
invariant-loop-i l = (l.i ≤ l.n) × (length l.out ≡ length l.initial.out) × (l.out ≡ overlay l.initial.out l.c l.i (λ (j : ℕ). disk_of l.image l.b (l.o + j)))

abbrev pub decreases-loop-i : goal.decreases-loop-i
decreases-loop-i l = l.n - l.i
