-- `list_sound` meets its contract.
-- Rests on: the laws in Calling/Delivered; the contracts of directory, dir_end, count_held and list_slots.
-- Assumes nothing.
use mathlib.Core.Path.{ap, ◌∙◌}
use Prim.Native.Nat.{ℕ, ◌*◌}
use Rattle.laws.specs.Changes.{put}
use Rattle.laws.specs.Below.{count}
use Rattle.file_rules.specs.Disk.{disk_of}
use Rattle.file_rules.specs.Sizes.{slot_bytes}
use Rattle.file_rules.specs.Directory.{held, dir_end}
use Rattle.file_rules.specs.Calls.{entries, list_sound}
use Rattle.files.specs.Laws.Calling.Delivered.{entries_length, fits_answer, fits_buffer, misses_answer, misses_buffer}
use native.Mathlib.Omega.{arith}
use Rattle.files.proofs.listing.list_sound.Goals as goal

pub count_held-needed-requires : goal.count_held-needed-requires
count_held-needed-requires c = c.dir_end-end.ensures.1

pub returns-then-out-needed : goal.returns-then-out-needed
unfolding list_sound
returns-then-out-needed c = let disk = disk_of c.args.sound.now.disk.image.now in
    let size = ap (λ (x : ℕ). slot_bytes * x) ((rw c.directory-dir.ensures at c.count_held-needed.ensures.0)
    ∙ ap (λ (x : ℕ). count x (held disk)) c.dir_end-end.ensures.0) ∙
    entries_length disk (dir_end disk) in (
      misses_answer _ _ _
          size
          c.if-out-needed.true,
      misses_buffer _ _ _
          size
          c.if-out-needed.true,
    )

pub list_slots-requires : goal.list_slots-requires
list_slots-requires c = (
  c.dir_end-end.ensures.1,
  omega (
    arith,
    c.if-out-needed.false,
    c.count_held-needed.ensures.0,
    entries_length (disk_of c.directory-dir.result.disk.now.image.now)
        c.dir_end-end.result,
  ),
)

pub returns : goal.returns
unfolding list_sound
returns c = let disk = disk_of c.args.sound.now.disk.image.now in
    let size = ap (λ (x : ℕ). slot_bytes * x) ((rw c.directory-dir.ensures at c.count_held-needed.ensures.0)
    ∙ ap (λ (x : ℕ). count x (held disk)) c.dir_end-end.ensures.0) ∙
    entries_length disk (dir_end disk) in (
      fits_answer _ c.args.out.now _
          size
          c.if-out-needed.false,
      (rw c.directory-dir.ensures at c.list_slots.ensures) ∙ ap (λ (x : ℕ). put c.args.out.now 0 (entries disk x)) c.dir_end-end.ensures.0 ∙
          fits_buffer _ c.args.out.now _
          size
          c.if-out-needed.false,
    )
