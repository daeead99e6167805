-- `zero_slot` meets its contract.
-- Rests on: the laws in Loading/Loaded, Writing/Given and laws::FirstBelow; the contracts of part_block and zero_bytes.
-- Assumes nothing.
use Rattle.std.proofs.Common.{◌∙◌, ◌/◌, sym, arith, rules}
use Rattle.laws.specs.Laws.FirstBelow.{first_lowest, none_lowest}
use Rattle.file_rules.specs.Sizes.{block_slots}
use Rattle.file_rules.specs.Written.{zeros}
use Rattle.files.specs.Laws.Loading.Loaded.{part_loaded}
use Rattle.files.specs.Laws.Writing.Given.{slot_written, slot_nowhere}
use Rattle.files.specs.Laws.Writing.InStep.{step_slot}
use Rattle.files.proofs.open.OpenDisk.zero_slot.Goals as goal

pub zero_bytes-requires : goal.zero_bytes-requires
zero_bytes-requires c = (c.args.self.now.in_step.long, search rules)

pub returns-in-Some-clause-written : goal.returns-in-Some-clause-written
unfolding zeros
returns-in-Some-clause-written c =
    slot_written _ _ _ _ _
    (sym (first_lowest _ _ _ (sym c.part_block.ensures ∙ c.in-Some.is)).1 ∙ part_loaded _ _ c.args.self.now.in_step.loaded_map 0 (c.args.k / block_slots))
    c.zero_bytes.ensures

pub returns-in_default-clause-written : goal.returns-in_default-clause-written
returns-in_default-clause-written c =
    let e = none_lowest _ _ (sym c.part_block.ensures ∙ c.in_default.is) in
    slot_nowhere _ _ _ c.args.self.now.in_step.long (omega (arith, e, part_loaded _ _ c.args.self.now.in_step.loaded_map 0 (c.args.k / block_slots)))

pub invariant_of-self : goal.invariant_of-self
unfolding zeros
invariant_of-self c = record {
  in_step = step_slot _ _ c.args.self.now.in_step _ _ _
      (slot_written _ _ _ _ _
      (sym (first_lowest _ _ _ (sym c.part_block.ensures ∙ c.in-Some.is)).1 ∙ part_loaded _ _ c.args.self.now.in_step.loaded_map 0 (c.args.k / block_slots))
      c.zero_bytes.ensures);
}
