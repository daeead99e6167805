-- `slot_row` meets its contract: the bytes of a slot stand in a row.
-- Rests on: the laws in laws::Tab and Loading/Slots; the contracts of slot_place and fields::bytes_at.
-- Assumes nothing.
use mathlib.Core.Path.{sym, ap, ◌∙◌}
use Prim.Native.Nat.{ℕ}
use Rattle.laws.specs.Lists.{tab, window, element_at}
use Rattle.laws.specs.Laws.Tab.{tab_ext}
use Rattle.file_rules.specs.Disk.{disk_of}
use Rattle.file_rules.specs.Directory.{slot_byte}
use Rattle.file_rules.specs.Sizes.{slot_bytes}
use Rattle.files.specs.Laws.Loading.Slots.{slot_row, slot_place}
use Rattle.files.proofs.directory.Directory.slot_row.Goals as goal

pub returns : goal.returns
unfolding window
returns c =
    let dir = c.args.self.now in
    c.bytes_at.ensures ∙ ap (λ (p : ℕ). tab (element_at dir.disk.now.image.now p) slot_bytes) c.slot_place.ensures.0
    ∙ sym (tab_ext (slot_byte (disk_of dir.disk.now.image.now) c.args.k) (element_at dir.disk.now.image.now (slot_place dir.blocks c.args.k)) slot_bytes
    (slot_row dir.disk.now.image.now dir.blocks c.args.k dir.whole c.requires dir.located))
