-- `field_fault` meets its contract.
-- Rests on: the laws in Reading/Faults; the contracts of flag_fault, fields::low2, wrong_at and format_fault.
-- Assumes nothing.
use mathlib.Core.Path.{◌∙◌}
use Rattle.sectors.specs.Laws.Reading.Faults.{first_of_five}
use Rattle.sector_rules.specs.Hfe.{field_fault}
use Rattle.sectors.proofs.hfe.field_fault.Goals as goal

pub returns : goal.returns
unfolding field_fault
returns c = rw (c.or-4.ensures, c.or-3.ensures, c.or-2.ensures, c.or.ensures)
    (first_of_five c.wrong_at.result c.format_fault.result c.wrong_at-2.result c.flag_fault.result c.flag_fault-2.result ∙
    rw (c.wrong_at.ensures, c.format_fault.ensures, c.wrong_at-2.ensures, c.low2.ensures, c.flag_fault.ensures, c.flag_fault-2.ensures))
