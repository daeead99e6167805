-- `new_by_hash` meets its contract.
-- Rests on: the laws in Loading/NameHashes; the contract of new_name.
-- Assumes nothing.
use mathlib.Core.Path.{◌∙◌}
use Rattle.files.specs.Laws.Loading.NameHashes.{new_so}
use Rattle.files.proofs.names.new_by_hash.Goals as goal

pub returns-then-unnoted : goal.returns-then-unnoted
returns-then-unnoted c = c.if-unnoted.true ∙ new_so _ _ _ c.requires.2 (c.requires.1 c.if-unnoted.true)
