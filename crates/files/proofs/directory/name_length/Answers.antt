-- `name_length` meets its contract.
-- Rests on: the laws in Loading/Slots; the contract of fields::high2.
-- Assumes nothing.
use mathlib.Core.Path.{ap, ◌∙◌}
use Prim.Native.Nat.{ℕ, min}
use Rattle.file_rules.specs.Sizes.{name_most}
use Rattle.files.specs.Laws.Loading.Slots.{word2_row}
use Rattle.files.proofs.directory.name_length.Goals as goal

pub returns : goal.returns
returns c = c.min.ensures ∙ ap (λ (n : ℕ). min n name_most) (c.from.ensures ∙ c.high2.ensures ∙ word2_row _ _ 14)
