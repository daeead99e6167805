-- `zero_bytes` meets its contract: the first i bytes are written.
-- Rests on: the laws in Writing/Stored and Writing/Rows; the contracts of run_length and zero_run.
-- Assumes nothing.
use mathlib.Core.Path.{◌≡◌, refl, ◌∙◌}
use native.Mathlib.Omega.{arith}
use Rattle.files.specs.Laws.Writing.Stored.{patched_none}
use Rattle.files.specs.Laws.Writing.Rows.{rows_next}
use Rattle.files.proofs.store.zero_bytes.Goals as goal

pub loop-i-init : goal.loop-i-init
loop-i-init c = (omega arith, c.requires.0, patched_none _ _ _ _ c.requires.0)

pub loop-i-preserved : goal.loop-i-preserved
loop-i-preserved c = (
  omega arith,
  c.zero_run.auto.image ∙ c.loop-i.invariant.1,
  rows_next _ _ _ _ _ _ _ _ _ c.loop-i.invariant.2 c.zero_run.ensures
      (λ i h. refl),
)

pub returns : goal.returns
returns c = let e : c.loop-i.i ≡ c.args.n = omega arith in rw e at c.loop-i.invariant.2
