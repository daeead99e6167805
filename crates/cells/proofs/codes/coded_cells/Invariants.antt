-- `coded_cells` meets its contract: the first k bytes are read, their n cells stand in the buffer, and x is expected.
use mathlib.Core.Path.{◌≡◌}
use Prim.Native.Nat.{◌-◌, ◌*◌, ◌≤◌, ◌<◌}
use lib.ListN.{length, drop}
use Rattle.cells.specs.Stream.{stream}
use Rattle.cells.specs.Codes.{stored_bytes, cells_before, coded_from, coded}
use Rattle.cells.specs.Stream.{buffer_side}
use Rattle.cells.proofs.codes.coded_cells.Given as goal

abbrev pub invariant-loop-k : goal.invariant-loop-k
invariant-loop-k l = (l.k ≤ l.bytes) × (l.n ≤ 8 * l.k) × (l.bytes < length l.buffer) × (length l.buffer ≡ length l.initial.buffer) ×
    (coded (stored_bytes l.part l.side) ≡ cells_before (stream l.buffer (buffer_side l.n)) (coded_from l.x l.k (drop l.k (stored_bytes l.part l.side))))

abbrev pub decreases-loop-k : goal.decreases-loop-k
decreases-loop-k l = l.bytes - l.k
