-- `note_bad` meets its contract: the entries before this one are noted.
-- Rests on: the laws in Calling/BadNoted.
-- Assumes nothing.
use mathlib.Core.Path.{◌≡◌}
use native.Mathlib.Omega.{arith}
use lib.ListN.{length}
use Rattle.files.specs.Laws.Calling.BadNoted.{entry_block, noted_start, noted_next}
use Rattle.files.proofs.formatting.note_bad.Goals as goal

pub loop-b-init : goal.loop-b-init
loop-b-init c = noted_start _

pub loop-b-preserved : goal.loop-b-preserved
loop-b-preserved c = noted_next _ c.args.bad.now _ _ c.loop-b.invariant c.from.ensures
    (omega (arith, c.from.ensures, entry_block c.args.bad.now c.requires c.loop-b.b-index (omega arith)))

pub returns : goal.returns
returns c = let e : c.loop-b.b-index ≡ length c.args.bad.now = omega arith in rw e at c.loop-b.invariant

pub bounds-noted-from : goal.bounds-noted-from
bounds-noted-from c = omega (arith, c.from.ensures, entry_block c.args.bad.now c.requires c.loop-b.b-index (omega arith))
