-- `dimensions_fault` meets its contract.
-- Rests on: the laws in sectors::Reading/Faults; the contracts of word_fault and or.
-- Assumes nothing.
use mathlib.Core.Path.{◌∙◌}
use Rattle.sectors.specs.Laws.Reading.Faults.{first_of_five}
use Rattle.file_rules.specs.Check.{dimensions_fault}
use Rattle.files.proofs.header.dimensions_fault.Goals as goal

pub returns : goal.returns
unfolding dimensions_fault
returns c = rw (c.or-4.ensures, c.or-3.ensures, c.or-2.ensures, c.or.ensures)
    (first_of_five c.word_fault.result c.word_fault-2.result c.word_fault-3.result c.word_fault-4.result c.word_fault-5.result ∙
    rw (c.word_fault.ensures, c.word_fault-2.ensures, c.word_fault-3.ensures, c.word_fault-4.ensures, c.word_fault-5.ensures))
