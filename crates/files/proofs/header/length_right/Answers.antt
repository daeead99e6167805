-- `length_right` meets its contract.
-- Rests on: the contracts of dir_bytes and head_word.
-- Assumes nothing.
use Rattle.file_rules.specs.Check.{length_right}
use Rattle.files.proofs.header.length_right.Goals as goal

pub returns : goal.returns
unfolding length_right
returns c = rw (c.dir_bytes-bytes.ensures.0, c.head_word-over.ensures.0)
