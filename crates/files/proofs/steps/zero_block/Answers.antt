-- `zero_block` meets its contract.
-- Rests on: the laws in Writing/Steps; the contract of zero_bytes.
-- Assumes nothing.
use mathlib.Core.Path.{◌∙◌}
use Rattle.files.specs.Laws.Writing.Steps.{zeros_written}
use Rattle.files.proofs.steps.zero_block.Goals as goal

pub returns : goal.returns
returns c = c.zero_bytes.ensures ∙ zeros_written _ _
