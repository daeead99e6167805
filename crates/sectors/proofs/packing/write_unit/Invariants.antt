-- `write_unit` meets its contract: the halves below `head` are written.
use Rattle.std.proofs.Common.{◌≡◌, ◌*◌, length}
use Rattle.laws.specs.Changes.{overlay}
use Rattle.sector_rules.specs.Packed.{hfe_bytes}
use Rattle.sectors.specs.Laws.Packing.Runs.{run_bytes, unit_place, unit_byte}
use Rattle.sectors.proofs.packing.write_unit.Given as goal

abbrev pub invariant-loop-head : goal.invariant-loop-head
invariant-loop-head l = (length l.hfe ≡ hfe_bytes)
    × (l.hfe ≡ overlay l.initial.hfe (unit_place l.track l.u) (run_bytes * l.head) (unit_byte l.image l.track l.u))
