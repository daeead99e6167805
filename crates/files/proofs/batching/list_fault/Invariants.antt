-- `list_fault` meets its contract: no item before the list that is left is wrong, and item n begins it.
use mathlib.Core.Path.{◌≡◌}
use Prim.Native.Nat.{◌+◌, ◌≤◌}
use lib.ListN.{length}
use Rattle.file_rules.specs.Items.{read_items, items_from}
use Rattle.files.specs.Laws.Calling.Items.{list_fault}
use Rattle.files.proofs.batching.list_fault.Given as goal

abbrev pub invariant-loop-rest : goal.invariant-loop-rest
invariant-loop-rest l = (l.n + length l.rest ≤ length l.list + 1) × (list_fault (read_items l.list) ≡ list_fault (items_from l.n 0 l.rest))

abbrev pub decreases-loop-rest : goal.decreases-loop-rest
decreases-loop-rest l = length l.rest
