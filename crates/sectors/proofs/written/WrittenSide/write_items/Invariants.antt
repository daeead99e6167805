-- `write_items` meets its contract: the items below i are written, and the bit before item i is known.
use mathlib.Core.Path.{◌≡◌}
use Prim.Native.Nat.{◌+◌, ◌-◌, ◌*◌, ◌≤◌}
use lib.ListN.{length}
use Rattle.laws.specs.Changes.{overlay}
use Rattle.cells.specs.Written.{bit_before}
use Rattle.sector_rules.specs.Packed.{image_side}
use Rattle.sectors.specs.Laws.Packing.Runs.{items_byte}
use Rattle.sectors.proofs.written.WrittenSide.write_items.Given as goal

abbrev pub invariant-loop-i : goal.invariant-loop-i
invariant-loop-i l = (l.i ≤ l.n) × (length l.hfe ≡ length l.initial.hfe)
    × (l.before ≡ bit_before (image_side l.self.image.now l.self.track l.self.head) (l.first + l.i)) ×
    (l.hfe ≡ overlay l.initial.hfe l.at (2 * l.i) (items_byte (image_side l.self.image.now l.self.track l.self.head) l.first))

abbrev pub decreases-loop-i : goal.decreases-loop-i
decreases-loop-i l = l.n - l.i
