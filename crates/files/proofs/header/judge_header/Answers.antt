-- `judge_header` meets its contract.
-- Rests on: the laws in Judging/Header; the contract of disk_header_fault.
-- Assumes nothing.
use mathlib.Core.Path.{sym, ◌∙◌}
use Rattle.files.specs.Laws.Judging.Header.{refused_header, passed_header}
use Rattle.files.proofs.header.judge_header.Goals as goal

pub returns-in-Some : goal.returns-in-Some
returns-in-Some c = refused_header _ _ (sym c.in-Some.is ∙ c.disk_header_fault.ensures)

pub returns-in-None : goal.returns-in-None
returns-in-None c = passed_header _ (sym c.in-None.is ∙ c.disk_header_fault.ensures)
