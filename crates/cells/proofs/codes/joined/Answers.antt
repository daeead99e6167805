-- `joined` meets its contract.
-- Rests on: the laws in CodesAppended.
-- Assumes nothing.
use Prim.Native.Nat.{ℕ, ◌+◌, ◌*◌, ◌%◌, ◌^◌, ◌<◌}
use native.Mathlib.Omega.{arith}
use Rattle.cells.proofs.Laws.CodesAppended.{joined_fits, joined_shifted}
use Rattle.cells.proofs.codes.joined.Goals as goal

small : (old v k : ℕ) → v < 256 → k < 8 → old % (1 * 2 ^ k % 2 ^ 32) + v * 2 ^ k % 2 ^ 32 < 2 ^ 16
small old v k h l = rw (joined_shifted old v k h l) (joined_fits old v k h l)

pub overflow_add-result : goal.overflow_add-result
overflow_add-result c = omega (arith, small c.from.result c.from-2.result c.args.k (omega arith) c.requires)

pub returns : goal.returns
returns c = (
  rw (← c.from.ensures, ← c.from-2.ensures) (joined_shifted _ _ _ (omega arith) c.requires),
  small c.from.result c.from-2.result c.args.k (omega arith) c.requires,
)
