-- `put_part` meets its contract: the first p sectors are written.
-- Rests on: the laws in Writing/Stored, Writing/Steps and Writing/Rows; the contract of put_sector.
-- Assumes nothing.
use mathlib.Core.Path.{◌≡◌, ◌∙◌}
use native.Mathlib.Omega.{arith}
use Rattle.sector_rules.specs.Geometry.{block_sectors}
use Rattle.files.specs.Laws.Writing.Stored.{patched_none}
use Rattle.files.specs.Laws.Writing.Steps.{stored_row, part_written}
use Rattle.files.specs.Laws.Writing.Rows.{sector_next}
use Rattle.files.proofs.steps.put_part.Goals as goal

pub loop-p-init : goal.loop-p-init
loop-p-init c = (omega arith, c.requires.0, patched_none _ _ _ _ c.requires.0)

pub loop-p-preserved : goal.loop-p-preserved
loop-p-preserved c = (
  omega arith,
  c.put_sector.auto.image ∙ c.loop-p.invariant.1,
  sector_next _ _ c.args.s
      (stored_row c.args.file.now.head.now c.args.file.now.content.now) c.loop-p.p _ _ c.loop-p.invariant.2 c.put_sector.ensures,
)

pub returns : goal.returns
returns c = let e : c.loop-p.p ≡ block_sectors = omega arith in (rw e at c.loop-p.invariant.2) ∙ part_written _ _ _ _
