-- `format_fault` meets its contract.
-- Rests on: the laws in Reading/Faults; the contracts of fields::low2, wrong_at and fields::byte.
-- Assumes nothing.
use mathlib.Core.Path.{◌∙◌}
use Rattle.sectors.specs.Laws.Reading.Faults.{first_of_five}
use Rattle.sector_rules.specs.Hfe.{format_fault}
use Rattle.sectors.proofs.hfe.format_fault.Goals as goal

pub returns : goal.returns
unfolding format_fault
returns c = rw (c.or-4.ensures, c.or-3.ensures, c.or-2.ensures, c.or.ensures)
    (first_of_five c.wrong_at.result c.wrong_at-2.result c.wrong_at-3.result c.wrong_at-4.result c.wrong_at-5.result ∙
    rw (
      c.wrong_at.ensures,
      c.wrong_at-2.ensures,
      c.wrong_at-3.ensures,
      c.wrong_at-4.ensures,
      c.wrong_at-5.ensures,
      c.from.ensures,
      c.from-2.ensures,
      c.byte.ensures,
      c.byte-2.ensures,
      c.byte-3.ensures,
      c.byte-4.ensures,
      c.low2.ensures,
    ))
