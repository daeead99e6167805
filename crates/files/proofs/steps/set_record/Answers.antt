-- `set_record` meets its contract.
-- Rests on: the laws in Writing/Stored; the contracts of encoded_record and put_bytes.
-- Assumes nothing.
use mathlib.Core.Path.{◌∙◌}
use Rattle.files.specs.Laws.Writing.Stored.{patched_row}
use Rattle.file_rules.specs.Map.{encode}
use Rattle.file_rules.specs.Written.{set_record}
use Rattle.files.proofs.steps.set_record.Goals as goal

pub returns : goal.returns
unfolding set_record
returns c = c.put_bytes.ensures ∙
    patched_row _ _ _ _ 3 (encode c.args.r) c.encoded_record-bytes.ensures
