-- `list_slots` meets its contract: the slots below k are listed, and the next goes to c.
-- Rests on: the laws in Calling/Delivered; the contract of list_slot.
-- Assumes nothing.
use mathlib.Core.Path.{◌≡◌, refl, ap, ◌∙◌}
use native.Mathlib.Omega.{arith}
use lib.ListN.{length}
use Rattle.file_rules.specs.Disk.{disk_of}
use Rattle.file_rules.specs.Calls.{entries}
use Rattle.files.specs.Laws.Calling.Delivered.{entries_room, next_place, next_put, put_length, entries_none}
use Rattle.files.proofs.listing.list_slots.Goals as goal

pub loop-k-init : goal.loop-k-init
unfolding entries
loop-k-init c = (omega arith, refl, refl, entries_none (disk_of c.args.dir.now.disk.now.image.now) _)

pub list_slot-c-requires : goal.list_slot-c-requires
list_slot-c-requires c = (
  omega arith,
  omega (
    arith,
    c.requires.1,
    c.loop-k.invariant.2,
    entries_room (disk_of c.args.dir.now.disk.now.image.now) c.args.end c.loop-k.k
        (omega arith),
  ),
)

pub loop-k-preserved : goal.loop-k-preserved
loop-k-preserved c = (
  omega arith,
  ap length c.list_slot-c.ensures.1 ∙ put_length _ _ _ ∙ c.loop-k.invariant.1,
  next_place _ _ _ c.loop-k.invariant.2 _
      c.list_slot-c.ensures.0,
  next_put _ _ _ c.loop-k.invariant.2 _ _ _ c.loop-k.invariant.3 c.list_slot-c.ensures.1,
)

pub returns : goal.returns
returns c = let e : c.loop-k.k ≡ c.args.end = omega arith in rw e at c.loop-k.invariant.3
