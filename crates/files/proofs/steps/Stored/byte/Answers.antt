-- `byte` meets its contract.
-- Rests on: the laws in Writing/Steps; the contract of fields::byte.
-- Assumes nothing.
use Rattle.std.proofs.Common.{◌∙◌}
use Rattle.files.specs.Laws.Writing.Steps.{stored_head, stored_rest}
use Rattle.files.proofs.steps.Stored.byte.Goals as goal

pub returns-then-i-lt-SLOT_BYTES : goal.returns-then-i-lt-SLOT_BYTES
returns-then-i-lt-SLOT_BYTES c = c.byte.ensures ∙ stored_head _ _ _ c.if-i-lt-SLOT_BYTES.true

pub returns-else-i-lt-SLOT_BYTES : goal.returns-else-i-lt-SLOT_BYTES
returns-else-i-lt-SLOT_BYTES c = c.byte-else-i-lt-SLOT_BYTES.ensures ∙ stored_rest _ _ _ c.if-i-lt-SLOT_BYTES.false
