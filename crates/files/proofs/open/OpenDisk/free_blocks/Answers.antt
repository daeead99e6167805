-- `free_blocks` meets its contract: the blocks below b are freed.
-- Rests on: the laws in Writing/Given and Writing/InStep; the contract of free_block.
-- Assumes nothing.
use mathlib.Core.Path.{◌≡◌, refl, ◌∙◌}
use Rattle.sector_rules.specs.Geometry.{blocks}
use Rattle.files.specs.Laws.Writing.Given.{freed_none, freed_more}
use native.Mathlib.Omega.{arith}
use Rattle.files.proofs.open.OpenDisk.free_blocks.Goals as goal

pub loop-b-init : goal.loop-b-init
loop-b-init c = (omega arith, refl, freed_none _ _ c.args.self.now.in_step.long)

pub free_block-requires : goal.free_block-requires
free_block-requires c = omega arith

pub loop-b-preserved : goal.loop-b-preserved
loop-b-preserved c = (
  omega arith,
  c.free_block.ensures.same_image ∙ c.loop-b.invariant.1,
  freed_more _ _ _ _ _ (omega arith) c.loop-b.invariant.2 c.free_block.ensures.written,
)

pub returns-clause-same_image : goal.returns-clause-same_image
returns-clause-same_image c = c.loop-b.invariant.1

pub returns-clause-written : goal.returns-clause-written
returns-clause-written c = let e : c.loop-b.b ≡ blocks = omega arith in rw e at c.loop-b.invariant.2
