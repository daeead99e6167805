-- `call_items` meets its contract: the items before the list that is left are done and left the image; no item is wrong, and item n begins it.
use Rattle.std.specs.Prelude.{None}
use mathlib.Core.Path.{◌≡◌}
use Prim.Native.Nat.{◌+◌, ◌≤◌}
use lib.ListN.{length}
use Rattle.file_rules.specs.Items.{read_items, items_from}
use Rattle.file_rules.specs.Batch.{batch_of}
use Rattle.files.specs.Laws.Calling.Items.{list_fault, in_turn}
use Rattle.files.proofs.batching.call_items.Given as goal

abbrev pub invariant-loop-item : goal.invariant-loop-item
invariant-loop-item l = (l.n + length l.rest ≤ length l.list + 1) × (length l.image ≡ length l.initial.image)
    × (list_fault (items_from l.n 0 l.rest) ≡ None) × (batch_of l.initial.image (read_items l.list) ≡ in_turn l.image l.n (items_from l.n 0 l.rest))

abbrev pub decreases-loop-item : goal.decreases-loop-item
decreases-loop-item l = length l.rest
