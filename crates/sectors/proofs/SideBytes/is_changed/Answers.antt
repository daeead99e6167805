-- `is_changed` meets its contract.
-- Rests on: the laws in Rewriting/Skipped.
-- Assumes nothing.
use mathlib.Core.Path.{sym, ◌∙◌}
use native.Mathlib.Omega.{arith}
use Rattle.std.proofs.lemmas.Bool.{lt-leb}
use Rattle.sectors.specs.Laws.Rewriting.Skipped.{among_before, among_other, among_low, among_high}
use Rattle.sectors.proofs.SideBytes.is_changed.Goals as goal

pub returns-then-k-self : goal.returns-then-k-self
returns-then-k-self c = sym (among_before _ _ _ _ _ c.if-k-self.true)

pub returns-then-o-self : goal.returns-then-o-self
returns-then-o-self c = sym (among_other _ _ _ _ _ c.if-o-self.true)

pub returns-then-self-b : goal.returns-then-self-b
returns-then-self-b c = among_high _ _ _ _ _ (omega arith) c.if-o-self.false c.if-self-b.true

pub returns-else-self-b : goal.returns-else-self-b
returns-else-self-b c = lt-leb c.args.self.first _ (omega arith) ∙ sym (among_low _ _ _ _ _ (omega arith))
