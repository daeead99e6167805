-- `read_entry` meets its contract: the entry at the slot's place is the slot's.
-- Rests on: the laws in Loading/Slots; the contracts of slot_place and read_entry.
-- Assumes nothing.
use mathlib.Core.Path.{sym, ap, ◌∙◌}
use Prim.Native.Nat.{ℕ}
use Rattle.laws.specs.Lists.{element_at}
use Rattle.file_rules.specs.Directory.{entry_of}
use Rattle.files.specs.Laws.Loading.Slots.{slot_entry_row}
use Rattle.files.proofs.directory.Directory.read_entry.Goals as goal

pub returns : goal.returns
returns c = c.read_entry.ensures ∙ ap (λ (x : ℕ). entry_of (element_at c.args.self.now.disk.now.image.now x)) c.slot_place.ensures.0
    ∙ sym (slot_entry_row _ _ _ c.args.self.now.whole c.requires c.args.self.now.located)
