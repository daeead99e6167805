-- `file_blocks` meets its contract: the blocks from b on are placed.
-- Rests on: the laws in Loading/Parts; the contracts of loaded_record and part_of.
-- Assumes nothing.
use Rattle.std.proofs.Common.{◌≡◌, arith, sym, ◌∙◌, ap}
use Rattle.files.specs.Laws.Loading.Parts.{part_of, from_none, from_part, from_far, from_absent, from_all}
use Rattle.files.proofs.parts.file_blocks.Goals as goal

pub loop-b-init : goal.loop-b-init
loop-b-init c = (omega arith, rw c.none-row.ensures (from_none _ _))

pub loop-b-preserved-then-s-lt-BLOCKS : goal.loop-b-preserved-then-s-lt-BLOCKS
loop-b-preserved-then-s-lt-BLOCKS c = (
  omega arith,
  rw c.put.ensures
      (from_part _ _ _ _ _ (omega arith) (omega arith) c.loop-b.invariant.1 _
      (ap (part_of c.args.f) (sym c.loaded_record.ensures) ∙ sym c.in-Some.ensures) c.if-s-lt-BLOCKS.true),
)

pub loop-b-preserved-else-s-lt-BLOCKS : goal.loop-b-preserved-else-s-lt-BLOCKS
loop-b-preserved-else-s-lt-BLOCKS c = (
  omega arith,
  from_far _ _ _ _ _ (omega arith) (omega arith) c.loop-b.invariant.1 _
      (ap (part_of c.args.f) (sym c.loaded_record.ensures) ∙ sym c.in-Some.ensures) c.if-s-lt-BLOCKS.false,
)

pub loop-b-preserved : goal.loop-b-preserved
loop-b-preserved c = (
  omega arith,
  from_absent _ _ _ _ _ (omega arith) (omega arith) c.loop-b.invariant.1
      (ap (part_of c.args.f) (sym c.loaded_record.ensures) ∙ sym c.part_of.ensures ∙ c.in_default.is),
)

pub returns : goal.returns
returns c = let e : c.loop-b.b ≡ 0 = omega arith in from_all _ _ _ (rw e at c.loop-b.invariant.1)
