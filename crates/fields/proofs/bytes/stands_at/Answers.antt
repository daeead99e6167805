-- `fields::stands_at` meets its contract.
-- Rests on: the laws in laws::Same and Parts.
-- Assumes nothing.
use Rattle.std.proofs.Common.{arith, ◌∙◌, sym}
use borrow.Author.Tests.{lt-leb}
use Rattle.laws.specs.Laws.Same.{stands_past}
use Rattle.fields.proofs.Parts.{starts_there}
use Rattle.fields.proofs.bytes.stands_at.Goals as goal

pub returns-then-at-s : goal.returns-then-at-s
returns-then-at-s c = c.starts_with.ensures.value ∙ starts_there c.args.s.now c.args.at c.args.t.now (omega arith)

pub returns-else-at-s : goal.returns-else-at-s
returns-else-at-s c = lt-leb _ _ c.if-at-s.false ∙ sym (stands_past _ _ _ (omega arith))
