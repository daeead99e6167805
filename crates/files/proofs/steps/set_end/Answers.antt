-- `set_end` meets its contract.
-- Rests on: the laws in Writing/Steps; the contract of put_word.
-- Assumes nothing.
use Rattle.files.specs.Laws.Writing.Steps.{end_written}
use Rattle.file_rules.specs.Written.{set_word}
use Rattle.files.proofs.steps.set_end.Goals as goal

pub returns : goal.returns
unfolding set_word
returns c = end_written _ _ _ _ c.put_word.ensures c.put_word-2.ensures
