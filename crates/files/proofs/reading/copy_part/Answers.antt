-- `copy_part` meets its contract: the first i bytes are copied.
-- Rests on: the laws in laws::Overlay; the contracts of run_length and copy_run.
-- Assumes nothing.
use mathlib.Core.Path.{◌≡◌, refl, ap, ◌∙◌}
use Prim.Native.Nat.{ℕ, ◌+◌}
use native.Mathlib.Nat.{add_assoc}
use native.Mathlib.Omega.{arith}
use lib.ListN.{length}
use Rattle.laws.specs.Laws.Overlay.{overlay_none, overlay_length}
use Rattle.file_rules.specs.Disk.{disk_of}
use Rattle.laws.specs.Laws.Overlay.{overlay_on}
use Rattle.files.proofs.reading.copy_part.Goals as goal

pub loop-i-init : goal.loop-i-init
loop-i-init c = (omega arith, refl, overlay_none _ _ _)

pub loop-i-preserved : goal.loop-i-preserved
loop-i-preserved c = (
  omega arith,
  ap length c.copy_run.ensures ∙ overlay_length _ _ _ _ ∙ c.loop-i.invariant.1,
  c.copy_run.ensures ∙ overlay_on _ _ _
      _ _ (λ (j : ℕ). disk_of c.args.image.now c.args.b (c.args.o + j)) _ c.loop-i.invariant.2 (λ j h. ap (disk_of c.args.image.now c.args.b)
      (add_assoc c.args.o c.loop-i.i j)),
)

pub returns : goal.returns
returns c = let e : c.loop-i.i ≡ c.args.n = omega arith in rw e at c.loop-i.invariant.2
