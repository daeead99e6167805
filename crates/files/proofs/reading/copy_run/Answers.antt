-- `copy_run` meets its contract.
-- Rests on: the laws in Writing/Rows; the contracts of fields::fill, byte_place and fields::copy_into.
-- Assumes nothing.
use mathlib.Core.Path.{◌∙◌, refl}
use native.Mathlib.Omega.{arith}
use Rattle.files.specs.Laws.Writing.Rows.{row_within, row_read, row_far}
use Rattle.files.proofs.reading.copy_run.Goals as goal

pub returns-then-b-ge-BLOCKS : goal.returns-then-b-ge-BLOCKS
returns-then-b-ge-BLOCKS c = c.fill.ensures ∙
    row_far c.args.image.now c.args.b c.args.o c.args.n c.requires.0 c.requires.1
    c.requires.2 c.if-b-ge-BLOCKS.true _ _

pub returns : goal.returns
returns c = c.copy_into.ensures ∙
    row_read c.args.image.now c.args.b c.args.o c.args.n c.requires.0 c.requires.1
    c.requires.2 c.if-b-ge-BLOCKS.false _ _ _ _ c.byte_place-at.ensures.0 refl

pub slice_bounds-copy_into-end : goal.slice_bounds-copy_into-end
slice_bounds-copy_into-end c =
    omega (
      arith,
      c.byte_place-at.ensures.0,
      row_within c.args.image.now c.args.b c.args.o c.args.n c.requires.0 c.requires.1 c.requires.2 c.if-b-ge-BLOCKS.false,
    )
