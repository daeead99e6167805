-- `byte_after` meets its contract: v has the first j cells.
use mathlib.Core.Path.{◌≡◌}
use Prim.Native.Nat.{◌-◌, ◌*◌, ◌^◌, ◌≤◌, ◌<◌}
use Rattle.cells.specs.Stream.{packed_bits}
use Rattle.sector_rules.specs.Rewritten.{cell_after}
use Rattle.sectors.proofs.new_cells.byte_after.Given as goal

abbrev pub invariant-loop-j : goal.invariant-loop-j
invariant-loop-j l = (l.j ≤ 8) × (l.v < 2 ^ l.j) × (l.v ≡ packed_bits (cell_after l.cells l.p l.row) (8 * l.b) l.j)

abbrev pub decreases-loop-j : goal.decreases-loop-j
decreases-loop-j l = 8 - l.j
