-- `slot_has_name` meets its contract.
-- Rests on: the laws in Loading/Slots; the contracts of slot_place, entry_has_name and held_slot.
-- Assumes nothing.
use mathlib.Core.Path.{◌∙◌}
use Rattle.files.specs.Laws.Loading.Slots.{held_named, not_named}
use Rattle.files.proofs.directory.Directory.slot_has_name.Goals as goal

pub returns-then-entry_has_name : goal.returns-then-entry_has_name
returns-then-entry_has_name c = held_named _ _ _ c.args.self.now.whole c.requires c.args.self.now.located _ _ c.slot_place.ensures.0 _
    c.entry_has_name.ensures _ c.held_slot.ensures c.if-entry_has_name.true

pub returns-else-entry_has_name : goal.returns-else-entry_has_name
returns-else-entry_has_name c = c.if-entry_has_name.false
    ∙ not_named _ _ _ c.args.self.now.whole c.requires c.args.self.now.located _ _ c.slot_place.ensures.0 _
    c.entry_has_name.ensures c.if-entry_has_name.false
