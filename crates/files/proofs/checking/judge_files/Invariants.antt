-- `judge_files` meets its contract: the files below f are sound.
use Rattle.files.specs.Laws.Loading.NameHashes.{HashesNoted}
use mathlib.Core.Path.{◌≡◌}
use mathlib.Core.Bool.{false, not}
use Prim.Native.Nat.{ℕ, ◌-◌, ◌≤◌, ◌<◌}
use Rattle.file_rules.specs.Sizes.{slot_count}
use Rattle.file_rules.specs.Disk.{disk_of}
use Rattle.file_rules.specs.Check.{file_right}
use Rattle.files.proofs.checking.judge_files.Given as goal

abbrev pub invariant-loop-f : goal.invariant-loop-f
invariant-loop-f l =
    (l.f ≤ slot_count) × ((j : ℕ) → j < l.f → not (file_right (disk_of l.dir.disk.now.image.now) j) ≡ false)
    × HashesNoted l.noted (disk_of l.dir.disk.now.image.now) l.f

abbrev pub decreases-loop-f : goal.decreases-loop-f
decreases-loop-f l = slot_count - l.f
