-- `entry_right` meets its contract.
-- Rests on: the laws in Loading/Slots and Judging/Sound; the contracts of new_by_hash, blocks_of and parts_right.
-- Assumes nothing.
use mathlib.Core.Path.{sym, ap, ◌∙◌}
use Rattle.file_rules.specs.Disk.{disk_of}
use Rattle.file_rules.specs.Check.{parts_right}
use Rattle.files.specs.Laws.Judging.Sound.{parts_loaded, entry_sizes_wrong, entry_name_wrong, entry_parts, entry_name}
use Rattle.files.proofs.checking.entry_right.Goals as goal

pub new_by_hash-requires : goal.new_by_hash-requires
new_by_hash-requires c = (c.requires.1, c.requires.3, entry_name _ _ _ c.requires.2)

pub parts_right-requires : goal.parts_right-requires
parts_right-requires c = c.requires.0.loaded_chains

pub returns-then-new_by_hash : goal.returns-then-new_by_hash
returns-then-new_by_hash c = entry_parts _ _ c.args.e.now c.requires.2
    c.if-length-namelen.true (sym c.new_by_hash.ensures ∙ c.if-new_by_hash.true) _
    (c.parts_right.ensures ∙ parts_loaded _ _ c.requires.0.loaded_map _ _ ∙
    ap (parts_right (disk_of c.args.dir.now.disk.now.image.now) c.args.k) c.blocks_of.ensures.0)

pub returns-else-new_by_hash : goal.returns-else-new_by_hash
returns-else-new_by_hash c = entry_name_wrong _ _ c.args.e.now c.requires.2
    c.if-length-namelen.true (sym c.new_by_hash.ensures ∙ c.if-new_by_hash.false)

pub returns-else-length-namelen : goal.returns-else-length-namelen
returns-else-length-namelen c = entry_sizes_wrong _ _ c.args.e.now c.requires.2
    c.if-length-namelen.false
