-- `is_listed` meets its contract.
-- Rests on: the laws in laws::Tests; the contract of held_slot.
-- Assumes nothing.
use mathlib.Core.Path.{sym, ap, ◌∙◌}
use mathlib.Core.Bool.{Bool, ◌&&◌}
use Rattle.laws.specs.Laws.Tests.{lt_true, lt_false}
use Rattle.file_rules.specs.Disk.{disk_of}
use Rattle.file_rules.specs.Directory.{held}
use Rattle.files.proofs.checking.is_listed.Goals as goal

pub returns-then-f-end : goal.returns-then-f-end
returns-then-f-end c = c.held_slot.ensures ∙
    sym (ap
    (λ (b : Bool). b && held (disk_of c.args.dir.now.disk.now.image.now) c.args.f)
    (lt_true c.if-f-end.true))

pub returns-else-f-end : goal.returns-else-f-end
returns-else-f-end c = let e = lt_false c.if-f-end.false in e ∙ sym (ap (λ (b : Bool). b && held (disk_of c.args.dir.now.disk.now.image.now) c.args.f) e)
