-- `take_bytes` meets its contract: the first j bytes are taken.
use Rattle.std.proofs.Common.{◌≡◌, ◌+◌, ◌<◌, length, ℕ, get_or}
use Rattle.sectors.specs.Laws.Rewriting.Changed.{stored_place}
use Rattle.sectors.proofs.SideBytes.take_bytes.Given as goal

abbrev pub invariant-loop-j : goal.invariant-loop-j
invariant-loop-j l = (length l.byte-items ≡ l.self.count)
    × ((i : ℕ) → i < l.j → get_or l.byte-items i 0 ≡ get_or l.hfe (stored_place l.self.start l.self.side (l.self.first + i)) 0)
