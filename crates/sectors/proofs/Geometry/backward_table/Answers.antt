-- `Geometry::backward_table` meets its contract.
-- Rests on: the laws in Made and in Reading/Placement; the contract of Geometry::remainder_at.
-- Assumes nothing.
use Prim.Native.Nat.{ℕ, ◌/◌, ◌%◌}
use Rattle.std.proofs.Common.{rules}
use Rattle.sector_rules.specs.Geometry.{sectors, remainder_at}
use Rattle.laws.specs.Laws.Made.{made_each}
use Rattle.sectors.specs.Laws.Reading.Placement.{backward_is}
use Rattle.sectors.proofs.Geometry.backward_table.Goals as goal

pub returns : goal.returns
returns c =
    backward_is _ c.from_fn.ensures.items.long
    (made_each _ _ (λ (m : ℕ). remainder_at (m / sectors) (m % sectors)) (λ k y q h. search rules) _ _ c.from_fn.ensures.items)
