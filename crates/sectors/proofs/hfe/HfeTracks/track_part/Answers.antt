-- `track_part` meets its contract: the units end within the image.
-- Rests on: the laws in sector_rules::Base/Faults; the contracts of track_start and track_unit_bytes.
-- Assumes nothing.
use mathlib.Core.Path.{◌≡◌}
use Prim.Native.Nat.{◌+◌, ◌-◌, ◌≤◌}
use native.Mathlib.Omega.{arith}
use lib.ListN.{length}
use Rattle.sector_rules.specs.Hfe.{track_part, track_start, track_unit_bytes}
use Rattle.sector_rules.proofs.Laws.Base.Faults.{table_good, track_within}
use Rattle.sectors.proofs.hfe.HfeTracks.track_part.Goals as goal

pub slice_bounds-result-end : goal.slice_bounds-result-end
slice_bounds-result-end c =
    let w : track_start c.args.self.now.bytes.now c.args.t + track_unit_bytes c.args.self.now.bytes.now c.args.t ≤ length c.args.self.now.bytes.now =
    track_within _ _ (table_good _ c.args.self.now.good _ c.requires) in
    omega arith

pub returns : goal.returns
unfolding track_part
returns c = let e : c.track_start-start.result + c.track_unit_bytes.result -
    c.track_start-start.result ≡ c.track_unit_bytes.result = omega arith in
    rw (e, ← c.track_start-start.ensures.0, ← c.track_unit_bytes.ensures.0)
