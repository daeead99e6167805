-- `write_map` meets its contract: the records below b are written.
-- Rests on: the laws in Writing/Steps and Calling/Fresh; the contracts of fresh_record and set_record.
-- Assumes nothing.
use mathlib.Core.Path.{◌≡◌, sym, ◌∙◌, subst}
use native.Mathlib.Omega.{arith}
use Rattle.sector_rules.specs.Geometry.{blocks}
use Rattle.files.specs.Laws.Writing.Steps.{FitsRecord}
use Rattle.files.specs.Laws.Calling.Fresh.{records_none, records_more, fresh_fits}
use Rattle.files.proofs.formatting.write_map.Goals as goal

pub loop-b-init : goal.loop-b-init
loop-b-init c = (omega arith, c.requires, records_none _ _ c.requires)

pub set_record-requires : goal.set_record-requires
set_record-requires c = (c.loop-b.invariant.1, omega arith, subst FitsRecord (sym c.fresh_record.ensures) (fresh_fits _ _))

pub loop-b-preserved : goal.loop-b-preserved
loop-b-preserved c = (
  omega arith,
  c.set_record.auto.image ∙ c.loop-b.invariant.1,
  records_more _ _ _ _ _ _ c.loop-b.invariant.2 c.set_record.ensures
      c.fresh_record.ensures,
)

pub returns : goal.returns
returns c = let e : c.loop-b.b ≡ blocks = omega arith in rw e at c.loop-b.invariant.2
