-- `Geometry::side_place_table` meets its contract.
-- Rests on: the laws in Made and in Reading/Placement; the contract of Geometry::track_place.
-- Assumes nothing.
use Prim.Native.Nat.{ℕ, ◌/◌, ◌%◌}
use Rattle.std.proofs.Common.{rules}
use Rattle.sector_rules.specs.Geometry.{block_sectors, side_place_byte}
use Rattle.laws.specs.Laws.Made.{made_each}
use Rattle.sectors.specs.Laws.Reading.Placement.{side_place_is}
use Rattle.sectors.proofs.Geometry.side_place_table.Goals as goal

pub returns : goal.returns
returns c =
    side_place_is _ c.from_fn.ensures.items.long
    (made_each _ _ (λ (m : ℕ). side_place_byte (m / block_sectors) (m % block_sectors)) (λ k y q h. search rules) _ _ c.from_fn.ensures.items)
