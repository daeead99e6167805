-- `reversed_bits` meets its contract.
-- Rests on: the laws in CodesRead.
-- Assumes nothing.
use mathlib.Core.Path.{◌∙◌}
use native.Mathlib.Omega.{arith}
use Rattle.cells.proofs.Laws.CodesRead.{reversed_steps}
use Rattle.cells.proofs.codes.reversed_bits.Goals as goal

pub returns : goal.returns
returns c = c.reverse_bits.ensures ∙ reversed_steps _ (omega arith)
