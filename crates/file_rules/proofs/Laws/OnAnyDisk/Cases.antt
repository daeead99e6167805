-- Add and remove on a sound disk by their cases: a refusal with one of their own numbers, which leaves the disk, or what is done.
-- Rests on the definitions alone.
use Rattle.std.specs.Prelude.{List, ℕ, ◌≤◌, leb, ltb, length}
use native.Mathlib.Omega.{arith}
use Rattle.laws.specs.Laws.Cases.{by_cond}
use Rattle.sector_rules.specs.Replies.{done}
use Rattle.sector_rules.specs.declared.Reply.{Reply}
use Rattle.file_rules.specs.Calls.{DiskChanged, disk_kept, needed, add_at, add_sound, remove_at, remove_sound}
use Rattle.file_rules.specs.Directory.{name_right, entry_for, dir_end, find_name, vacant_slot}
use Rattle.file_rules.specs.Disk.{Disk}
use Rattle.file_rules.specs.Map.{free_count}

-- the numbers that a call on a sound disk refuses with are 12 to 15
abbrev pub OwnRefusal : Reply → Type 0
OwnRefusal r = (12 ≤ r.number) × (r.number ≤ 15)

module _ (P : DiskChanged → Type 0) (d : Disk) where
  -- what holds of each refusal, and of the disk with the file added, holds of an add
  pub add_cases : (name : List ℕ) (date : ℕ) (content : List ℕ) → ((r : Reply) → OwnRefusal r → P (disk_kept d r))
      → P (record { answer = done; disk_after = add_at d (vacant_slot d) (entry_for name date (length content)) content }) → P (add_sound d name date content)
  unfolding add_sound
  add_cases name date content f g =
      by_cond P (name_right name) _ _
      (λ t. by_cond P (ltb (find_name d name) (dir_end d)) _ _ (λ u. f _ (omega arith, omega arith))
      (λ u. by_cond P (leb (needed d (vacant_slot d) (length content)) (free_count d)) _ _ (λ r. g) (λ r. f _ (omega arith, omega arith))))
      (λ t. f _ (omega arith, omega arith))

  -- what holds of each refusal, and of the disk with the file removed, holds of a remove
  pub remove_cases : (name : List ℕ) → ((r : Reply) → OwnRefusal r → P (disk_kept d r))
      → P (record { answer = done; disk_after = remove_at d (find_name d name) }) → P (remove_sound d name)
  unfolding remove_sound
  remove_cases name f g =
      by_cond P (name_right name) _ _
      (λ t. by_cond P (ltb (find_name d name) (dir_end d)) _ _ (λ u. g) (λ u. f _ (omega arith, omega arith)))
      (λ t. f _ (omega arith, omega arith))
