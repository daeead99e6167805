-- `name_of` meets its contract: past its 36 bytes there are none.
-- Rests on: the laws in Loading/Slots; std's `min`.
-- Assumes nothing.
use mathlib.Core.Path.{ap, ◌∙◌}
use Prim.Native.Nat.{ℕ, min}
use lib.ListN.{take}
use Rattle.file_rules.specs.Sizes.{name_most}
use Rattle.std.proofs.Common.{rules, tests}
use Rattle.file_rules.specs.Directory.{name_of}
use Rattle.files.specs.Laws.Loading.Slots.{first_bytes}
use Rattle.files.proofs.directory.name_of.Goals as goal

pub returns : goal.returns
unfolding name_of
returns c = ap (λ (k : ℕ). take k c.args.entry.now.name) (c.min-n.ensures ∙ ap (λ (k : ℕ). min k name_most) c.from.ensures)
    ∙ first_bytes c.args.entry.now.name c.args.entry.now.namelen (search (rules, tests))
