-- `update_counts` meets its contract.
-- Rests on: the laws in Writing/Given; the contracts of set_free and step_update.
-- Assumes nothing.
use Rattle.files.specs.Laws.Writing.Given.{settled_written}
use native.Mathlib.Omega.{arith}
use Rattle.file_rules.specs.Written.{step_update}
use Rattle.files.specs.Laws.Writing.InStep.{step_row}
use Rattle.files.proofs.open.OpenDisk.update_counts.Goals as goal

pub invariant_of-self : goal.invariant_of-self
unfolding step_update
invariant_of-self c = record { in_step = step_row _ _ c.set_free.new.self.in_step _ _ _ _ _ c.step_update.ensures (λ e. omega arith) }

pub returns-clause-written : goal.returns-clause-written
returns-clause-written c = settled_written _ _ _ c.set_free.ensures.written c.step_update.ensures
