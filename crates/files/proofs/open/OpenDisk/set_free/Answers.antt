-- `set_free` meets its contract.
-- Rests on: the laws in Loading/Loaded; the contracts of count_free and put_word.
-- Assumes nothing.
use mathlib.Core.Path.{◌∙◌}
use Rattle.file_rules.specs.Written.{set_free, set_word}
use Rattle.files.specs.Laws.Loading.Loaded.{free_loaded}
use borrow.Author.Rules.{rules}
use native.Mathlib.Omega.{arith}
use Rattle.files.specs.Laws.Writing.InStep.{step_row}
use Rattle.files.proofs.open.OpenDisk.set_free.Goals as goal

pub put_word-requires : goal.put_word-requires
put_word-requires c = (c.args.self.now.in_step.long, search rules, search rules)

pub returns-clause-written : goal.returns-clause-written
unfolding set_free set_word
returns-clause-written c = rw (c.count_free-free.ensures.0 ∙ free_loaded _ _ c.args.self.now.in_step.loaded_map) at
    c.put_word.ensures

pub invariant_of-self : goal.invariant_of-self
invariant_of-self c = record { in_step = step_row _ _ c.args.self.now.in_step _ _ _ _ _ c.put_word.ensures (λ e. omega arith) }
