-- `free_block` meets its contract.
-- Rests on: the laws in Loading/Loaded, Writing/Given, Writing/InStep and laws::Tests; the contracts of
-- loaded_record, bears_file, zero_block and place_record.
-- Assumes nothing.
use mathlib.Core.Path.{refl, sym, ap, ◌∙◌}
use Rattle.file_rules.specs.Map.{bears}
use Rattle.files.specs.Laws.Loading.Loaded.{record_loaded}
use Rattle.files.specs.Laws.Writing.Given.{freed_not, freed_yes}
use Rattle.files.specs.Laws.Writing.InStep.{not_first, step_block}
use Rattle.files.proofs.open.OpenDisk.free_block.Goals as goal

pub zero_block-requires : goal.zero_block-requires
zero_block-requires c = c.args.self.now.in_step.long

pub returns-then-not-bears_file-clause-written : goal.returns-then-not-bears_file-clause-written
returns-then-not-bears_file-clause-written c = freed_not _ _ _ c.args.self.now.in_step.long
    (ap (bears c.args.f) (sym (record_loaded _ _ c.args.self.now.in_step.loaded_map _ c.requires)) ∙
    ap (bears c.args.f) (sym c.loaded_record.ensures) ∙
    sym c.bears_file.ensures ∙ c.if-not-bears_file.true)

pub place_record-requires : goal.place_record-requires
unfolding bears
place_record-requires c = (
  not_first _ _ c.args.self.now.in_step (bears c.args.f) refl c.args.b
      (ap (bears c.args.f) (sym c.loaded_record.ensures) ∙ sym c.bears_file.ensures ∙ c.if-not-bears_file.false),
  c.requires,
  tt,
)

pub invariant_of-self : goal.invariant_of-self
unfolding bears
invariant_of-self c = record {
  in_step = step_block _ _ c.args.self.now.in_step _ _ _ c.zero_block.ensures
      (not_first _ _ c.args.self.now.in_step (bears c.args.f) refl c.args.b
      (ap (bears c.args.f) (sym c.loaded_record.ensures) ∙ sym c.bears_file.ensures ∙ c.if-not-bears_file.false));
}

pub returns-clause-written : goal.returns-clause-written
returns-clause-written c = freed_yes _ _ _ _ _ (ap (bears c.args.f) (sym (record_loaded _ _ c.args.self.now.in_step.loaded_map _ c.requires)) ∙
    ap (bears c.args.f) (sym c.loaded_record.ensures) ∙
    sym c.bears_file.ensures ∙ c.if-not-bears_file.false)
    c.zero_block.ensures c.place_record.ensures.written
