-- `write_sector` meets its contract: the first k bytes are written.
use Rattle.std.proofs.Common.{◌≡◌, ◌<◌, length, ℕ, get_or}
use Rattle.sector_rules.specs.Search.{sector_byte}
use Rattle.sectors.proofs.sides.write_sector.Given as goal

abbrev pub invariant-loop-k : goal.invariant-loop-k
invariant-loop-k l = (length l.byte-items ≡ 512) × ((i : ℕ) → i < l.k → get_or l.byte-items i 0 ≡ sector_byte l.cells l.p i)
