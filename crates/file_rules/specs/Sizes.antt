-- The numbers of the file layer, each once (docs/RULES.md, section 6); those of the disk kind are the sector layer's.
-- Assumes nothing: these are definitions.
use Rattle.std.specs.Prelude.{ℕ, ◌-◌, ◌*◌, ◌/◌, ◌%◌}
use Rattle.laws.specs.Numbers.{quotient_up}
use Rattle.sector_rules.specs.Geometry.{sector_bytes, block_sectors, track_sectors, all_sectors, blocks}

-- bytes of a block (§1.1)
abbrev pub block_bytes : ℕ
block_bytes = block_sectors * sector_bytes

-- blocks that so many bytes take (§6.17)
abbrev pub blocks_of : ℕ → ℕ
blocks_of bytes = quotient_up bytes block_bytes

-- bytes of a track (§1.1)
abbrev pub first_track_bytes : ℕ
first_track_bytes = track_sectors * sector_bytes

-- bytes of a directory slot (§6.11)
abbrev pub slot_bytes : ℕ
slot_bytes = 64

-- slots of a block of the directory (§6.11)
abbrev pub block_slots : ℕ
block_slots = block_bytes / slot_bytes

-- the length of a directory of so many slots, as the header has it: how many whole blocks (§6.6)
abbrev pub whole_blocks : ℕ → ℕ
whole_blocks slots = slots * slot_bytes / block_bytes

-- the same: how many bytes more (§6.6)
abbrev pub bytes_over : ℕ → ℕ
bytes_over slots = slots * slot_bytes % block_bytes

-- slots of a directory that has every block: file numbers below it are judged (§7.22)
abbrev pub slot_count : ℕ
slot_count = blocks * block_slots

-- the free word for so many free blocks (§6.4)
abbrev pub free_sectors : ℕ → ℕ
free_sectors n = block_sectors * n

-- the good word for so many bad blocks (§6.18)
abbrev pub good_sectors : ℕ → ℕ
good_sectors n = all_sectors - block_sectors * n

-- where the map begins in block 0 (§6.8)
abbrev pub map_start : ℕ
map_start = 96

-- bytes of a record of the map (§6.8)
abbrev pub record_bytes : ℕ
record_bytes = 3

-- the most bytes of a file's name (§6.15)
abbrev pub name_most : ℕ
name_most = 36

-- the most bytes of a disk's name (§6.15)
abbrev pub title_most : ℕ
title_most = 10
