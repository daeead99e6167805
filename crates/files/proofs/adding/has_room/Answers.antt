-- `has_room` meets its contract.
-- Rests on: the laws in Loading/Loaded and Calling/SoundDisk; the contracts of count_free, blocks_for and
-- opens_block.
-- Assumes nothing.
use mathlib.Core.Path.{sym, ◌∙◌}
use Rattle.files.specs.Laws.Calling.SoundDisk.{room_none, room_opens, room_keeps}
use Rattle.files.proofs.adding.has_room.Goals as goal

pub returns-then-size-gt-IMAGE_BYTES : goal.returns-then-size-gt-IMAGE_BYTES
returns-then-size-gt-IMAGE_BYTES c = room_none _ _ _ c.if-size-gt-IMAGE_BYTES.true

pub returns-then-opens_block : goal.returns-then-opens_block
returns-then-opens_block c = room_opens _ _ _ _ _ (sym c.opens_block.ensures ∙ c.if-opens_block.true) c.blocks_for-wanted.ensures.0
    c.count_free-free.ensures.0

pub returns : goal.returns
returns c = room_keeps _ _ _ _ _ (sym c.opens_block.ensures ∙ c.if-opens_block.false) c.blocks_for-wanted.ensures.0
    c.count_free-free.ensures.0
