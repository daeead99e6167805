-- `coded_cells` meets its contract: the first k bytes are read, their n cells stand in the buffer, and x is expected.
-- Rests on: the laws in Codes; the contracts of Side::byte, append_given, expected_after, cells_at_end and buffer_side.
-- Assumes nothing.
use mathlib.Core.Path.{refl, sym, ap, ◌∙◌}
use native.Mathlib.Omega.{arith}
use Rattle.laws.specs.Lists.{tab}
use Rattle.laws.specs.Laws.Tests.{lt_true, lt_false, cond_true, cond_false}
use Rattle.cells.specs.Stream.{stream}
use Rattle.cells.specs.Codes.{cells_of}
use Rattle.cells.proofs.Laws.Codes.{coded_start, cells_more, cells_end}
use Rattle.cells.proofs.codes.coded_cells.Goals as goal

pub returns-then-buffer-bytes : goal.returns-then-buffer-bytes
unfolding stream tab
returns-then-buffer-bytes c = (rw c.buffer_side.ensures (sym (cond_false _ _ (lt_false c.if-buffer-bytes.true))), refl)

pub loop-k-init : goal.loop-k-init
unfolding stream tab
loop-k-init c = (omega arith, omega arith, c.if-buffer-bytes.false, refl, coded_start _)

pub loop-k-preserved : goal.loop-k-preserved
loop-k-preserved c = (
  omega arith,
  omega arith,
  rw c.append_given-n.ensures.1 c.loop-k.invariant.2,
  c.append_given-n.ensures.1 ∙ c.loop-k.invariant.3,
  rw (c.append_given-n.ensures.0, c.expected_after-x.ensures)
      (cells_more _ _ _ _ _ _ c.byte-b.ensures (omega arith) c.loop-k.invariant.4),
)

pub returns : goal.returns
returns c = (
  rw c.buffer_side-2.ensures
      (c.cells_at_end.ensures.0 _ ∙ ap cells_of (sym (cells_end _ _ _ _ _ (omega arith) c.loop-k.invariant.4))
      ∙ sym (cond_true _ _ (lt_true c.if-buffer-bytes.false))),
  c.loop-k.invariant.3,
)
