-- `bytes_after` meets its contract: the first j bytes are made.
use Rattle.std.proofs.Common.{◌≡◌, ◌+◌, ◌<◌, length, ℕ, get_or}
use Rattle.cells.specs.Stream.{packed}
use Rattle.sector_rules.specs.Rewritten.{cell_after}
use Rattle.sectors.proofs.new_cells.bytes_after.Given as goal

abbrev pub invariant-loop-j : goal.invariant-loop-j
invariant-loop-j l = (length l.byte-items ≡ l.w.count)
    × ((i : ℕ) → i < l.j → get_or l.byte-items i 0 ≡ packed (cell_after l.cells l.p l.row) (l.w.first + i))
