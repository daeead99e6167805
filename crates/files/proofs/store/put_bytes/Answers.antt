-- `put_bytes` meets its contract: the first i bytes are written.
-- Rests on: the laws in Writing/Stored and Writing/Rows; the contracts of run_length and put_run.
-- Assumes nothing.
use mathlib.Core.Path.{◌≡◌, ◌∙◌}
use native.Mathlib.Omega.{arith}
use lib.ListN.{length}
use Rattle.files.specs.Laws.Writing.Stored.{patched_none}
use Rattle.files.specs.Laws.Writing.Rows.{rows_part}
use Rattle.files.proofs.store.put_bytes.Goals as goal

pub loop-i-init : goal.loop-i-init
loop-i-init c = (omega arith, c.requires.0, patched_none _ _ _ _ c.requires.0)

pub loop-i-preserved : goal.loop-i-preserved
loop-i-preserved c = (
  omega arith,
  c.put_run.auto.image ∙ c.loop-i.invariant.1,
  rows_part _ _ _ _ _ _ _ _ c.loop-i.invariant.2 (omega arith) (omega arith)
      c.put_run.ensures,
)

pub returns : goal.returns
returns c = let e : c.loop-i.i ≡ length c.args.src.now = omega arith in rw e at c.loop-i.invariant.2
