-- `track_unit_bytes` meets its contract.
-- Rests on: the contract of track_length.
-- Assumes nothing.
use native.Mathlib.Omega.{arith}
use Rattle.std.specs.Prelude.{◌≡◌, ◌+◌, ◌/◌, ◌%◌, min}
use Rattle.laws.specs.Numbers.{quotient_up}
use Rattle.sector_rules.specs.Hfe.{track_unit_bytes}
use Rattle.sectors.proofs.hfe.track_unit_bytes.Goals as goal

pub returns : goal.returns
unfolding track_unit_bytes quotient_up
returns c =
    let up : c.div_ceil.result ≡ c.from.result / 512 + min 1 (c.from.result % 512) = c.div_ceil.ensures in
    (rw (← c.track_length.ensures, ← c.from.ensures) (omega (arith, up)), omega (arith, up, c.from.ensures))
