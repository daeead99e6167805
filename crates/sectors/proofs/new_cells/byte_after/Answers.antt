-- `byte_after` meets its contract: v has the first j cells.
-- Rests on: the laws in cells::Packed and sector_rules::Rewrite.After; the contract of cell_after.
-- Assumes nothing.
use mathlib.Core.Path.{ap, ◌∙◌}
use native.Mathlib.Omega.{arith}
use Rattle.cells.specs.Stream.{packed_bits, packed}
use Rattle.cells.proofs.Laws.Packed.{packed_less, packed_fits, packed_step}
use borrow.Author.Rules.{rules}
use Rattle.sectors.proofs.new_cells.byte_after.Goals as goal

pub loop-j-init : goal.loop-j-init
unfolding packed_bits
loop-j-init c = search rules

pub overflow_add-v : goal.overflow_add-v
overflow_add-v c = record { fits = packed_fits (λ i. i) 0 _ _ _ (omega arith) c.cell_after.ensures.1 c.loop-j.invariant.1 }

pub loop-j-preserved : goal.loop-j-preserved
loop-j-preserved c = (
  omega arith,
  packed_less (λ i. i) 0 _ _ _ (omega arith) c.cell_after.ensures.1 c.loop-j.invariant.1,
  packed_step _ _ _ _ _ (omega arith) c.cell_after.ensures.1 c.loop-j.invariant.1 c.cell_after.ensures.0 c.loop-j.invariant.2,
)

pub returns : goal.returns
unfolding packed
returns c = c.loop-j.invariant.2 ∙ ap (packed_bits _ _) (omega arith)
