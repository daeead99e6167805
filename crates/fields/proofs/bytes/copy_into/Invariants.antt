-- `fields::copy_into` meets its contract: the first i bytes are written.
use mathlib.Core.Path.{◌≡◌}
use Rattle.laws.specs.Lists.{element_at}
use Rattle.laws.specs.Changes.{overlay}
use Rattle.fields.proofs.bytes.copy_into.Given as goal

abbrev pub invariant-loop-i : goal.invariant-loop-i
invariant-loop-i l = l.dst ≡ overlay l.initial.dst l.at l.i (element_at l.src 0)
