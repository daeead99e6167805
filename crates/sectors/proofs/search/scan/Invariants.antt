-- `scan` meets its contract: the answers are those of the places below i.
use mathlib.Core.Path.{◌≡◌}
use Prim.Native.Nat.{ℕ, ◌+◌, ◌-◌, ◌≤◌, ◌<◌}
use lib.ListN.{length, get_or}
use Rattle.sector_rules.specs.declared.Found.TheVariants.{Nothing}
use Rattle.sector_rules.specs.Geometry.{sectors}
use Rattle.sector_rules.specs.Search.{header_at, places_below, found_of}
use Rattle.sectors.proofs.search.scan.Given as goal

abbrev pub invariant-loop-i : goal.invariant-loop-i
invariant-loop-i l = (l.i ≤ l.places) × (l.places ≡ length l.cells) × (length l.found ≡ sectors)
    × ((k : ℕ) → k < sectors → get_or l.found k Nothing ≡ found_of (places_below (header_at l.cells l.track l.head (k + 1)) l.i))

abbrev pub decreases-loop-i : goal.decreases-loop-i
decreases-loop-i l = l.places - l.i
