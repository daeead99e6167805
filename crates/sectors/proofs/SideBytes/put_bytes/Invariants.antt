-- `put_bytes` meets its contract: the first j bytes are written.
use mathlib.Core.Path.{◌≡◌}
use Prim.Native.Nat.{ℕ, ◌+◌, ◌-◌}
use lib.ListN.{get_or}
use Rattle.sector_rules.specs.Rewritten.{with_side_bytes}
use Rattle.sectors.proofs.SideBytes.put_bytes.Given as goal

abbrev pub invariant-loop-j : goal.invariant-loop-j
invariant-loop-j l =
    l.hfe ≡ with_side_bytes l.initial.hfe l.self.start (l.self.first + l.j) l.self.side l.self.first l.j (λ (b : ℕ). get_or l.bytes (b - l.self.first) 0)
