-- `flag_fault` meets its contract.
-- Rests on: the laws in Reading/Faults; the contracts of fields::byte and wrong_at.
-- Assumes nothing.
use mathlib.Core.Path.{◌∙◌}
use Rattle.sectors.specs.Laws.Reading.Faults.{first_of_two}
use native.Mathlib.Nat.{add-zero}
use Rattle.sector_rules.specs.Hfe.{flag_fault}
use Rattle.sectors.proofs.hfe.flag_fault.Goals as goal

pub returns : goal.returns
unfolding flag_fault
returns c = c.or.ensures ∙ first_of_two c.wrong_at.result c.wrong_at-2.result ∙
    rw (c.wrong_at.ensures, c.wrong_at-2.ensures, c.byte-flag.ensures, c.byte-after.ensures, add-zero)
