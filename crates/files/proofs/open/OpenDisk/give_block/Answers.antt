-- `give_block` meets its contract.
-- Rests on: the laws in Writing/Given and Writing/InStep; the contracts of put_part and place_record.
-- Assumes nothing.
use Rattle.files.specs.Laws.Writing.Given.{given_written}
use Rattle.files.specs.Laws.Writing.InStep.{step_block}
use Rattle.files.proofs.open.OpenDisk.give_block.Goals as goal

pub invariant_of-self : goal.invariant_of-self
invariant_of-self c = record { in_step = step_block _ _ c.args.self.now.in_step _ _ _ c.put_part.ensures c.requires.0 }

pub returns-clause-written : goal.returns-clause-written
returns-clause-written c = given_written _ _ _ _ _ _ c.put_part.ensures c.place_record.ensures.written
