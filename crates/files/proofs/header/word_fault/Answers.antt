-- `word_fault` meets its contract.
-- Rests on: the contracts of head_word and sectors::wrong_at.
-- Assumes nothing.
use mathlib.Core.Path.{◌∙◌}
use Rattle.files.proofs.header.word_fault.Goals as goal

pub returns : goal.returns
returns c = c.wrong_at.ensures ∙ rw c.head_word.ensures.0
