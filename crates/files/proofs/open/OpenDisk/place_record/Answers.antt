-- `place_record` meets its contract.
-- Rests on: the laws in Writing/InStep; the contracts of set_record and number_of.
-- Assumes nothing.
use Rattle.files.specs.Laws.Writing.InStep.{step_record}
use Rattle.files.proofs.open.OpenDisk.place_record.Goals as goal

pub invariant_of-self : goal.invariant_of-self
invariant_of-self c = record {
  in_step = rw c.number_of.ensures
      (step_record _ _ c.args.self.now.in_step _ _ _ c.set_record.ensures c.requires.0 c.requires.1 c.requires.2);
}
