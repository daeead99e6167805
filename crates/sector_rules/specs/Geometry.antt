-- The disk kind and the place of a block (docs/RULES.md, section 1).
-- Assumes nothing: these are definitions.
use Rattle.std.specs.Prelude.{cond, ◌&&◌, List, ℕ, ◌+◌, ◌-◌, ◌*◌, ◌/◌, ◌%◌, ltb, get_or}
use Rattle.laws.specs.Lists.{tab}
use Rattle.sector_rules.specs.declared.Reply.{Reply}
use Rattle.sector_rules.specs.Replies.{reply_with, refusal}

-- tracks of a disk (§1.1)
abbrev pub tracks : ℕ
tracks = 80

-- sides of a track (§1.1)
abbrev pub sides : ℕ
sides = 2

-- sectors of a side (§1.1)
abbrev pub sectors : ℕ
sectors = 9

-- bytes of a sector (§1.1)
abbrev pub sector_bytes : ℕ
sector_bytes = 512

-- sectors of a block (§1.1)
abbrev pub block_sectors : ℕ
block_sectors = 3

-- how far a track's places are moved against those of the track before it (§1.5)
abbrev pub track_offset : ℕ
track_offset = 5

-- sectors of a track: 18 (§1.1)
abbrev pub track_sectors : ℕ
track_sectors = sides * sectors

-- sectors of a disk: 1,440 (§1.1)
abbrev pub all_sectors : ℕ
all_sectors = tracks * track_sectors

-- blocks of a disk: 480 (§1.1)
abbrev pub blocks : ℕ
blocks = all_sectors / block_sectors

-- bytes of a block image: 737,280 (§1.1)
abbrev pub image_bytes : ℕ
image_bytes = all_sectors * sector_bytes

-- ---- the rule of a track, by its six blocks j, three on each side

-- blocks on a side of a track, which are its block pairs: 3 (§1.4)
abbrev pub side_blocks : ℕ
side_blocks = sectors / block_sectors

-- the block pair of block j of a track: an even block and the odd one after it (§1.4)
abbrev pub block_pair : ℕ → ℕ
block_pair j = j / sides

-- the side of block j of a track: its parity (§1.4)
abbrev pub block_side : ℕ → ℕ
block_side j = j % sides

-- the place, on its side, of sector s of a block of this pair: first sector 0 of the side's three blocks, then sector 1 of each, then sector 2 (§1.4)
abbrev pub sector_place : ℕ → ℕ → ℕ
sector_place s pair = side_blocks * s + pair

-- back: the block of a track that is on this side and of this pair (§1.6)
abbrev pub pair_block : ℕ → ℕ → ℕ
pair_block side pair = sides * pair + side

-- what is added to a place on side 1: 80 (hex) (§1.4)
abbrev pub side_bit : ℕ
side_bit = 0x80

-- side and place of sector s of block j of a track, as a byte (§1.4)
abbrev pub side_place_byte : ℕ → ℕ → ℕ
side_place_byte j s = side_bit * block_side j + sector_place s (block_pair j)

-- the remainder at this side and place: there stands sector place / 3 of this side's block of pair place mod 3 (§1.6)
abbrev pub remainder_at : ℕ → ℕ → ℕ
remainder_at side place = block_sectors * pair_block side (place % side_blocks) + place / side_blocks

-- ---- the two tables that the disk header has

-- side and place by the remainder l of a running sector by 18, which is sector l mod 3 of the track's block l / 3 (§1.4)
unfoldable pub side_place : List ℕ
side_place = tab (λ (l : ℕ). side_place_byte (l / block_sectors) (l % block_sectors)) track_sectors

-- the backward table: the remainder by 9 x side + place (§1.6)
unfoldable pub backward : List ℕ
backward = tab (λ (i : ℕ). remainder_at (i / sectors) (i % sectors)) track_sectors

-- ---- the placement

-- the running sector of sector s of block b (§1.3)
abbrev pub running : ℕ → ℕ → ℕ
running b s = block_sectors * b + s

-- the image sector, on track t, of an entry of the first table: side 1 comes after side 0, and places are moved by the track offset (§1.5)
abbrev pub on_track : ℕ → ℕ → ℕ
on_track t value = track_sectors * t + sectors * (value / side_bit) + (value % side_bit + track_offset * t) % sectors

-- the image sector of a running sector (§1.5)
unfoldable pub to_image_sector : ℕ → ℕ
to_image_sector n = on_track (n / track_sectors) (get_or side_place (n % track_sectors) 0)

-- the running sector of an image sector: places are moved back by 9 - 5 = 4 a track, and the backward table is read (§1.6)
unfoldable pub to_running_sector : ℕ → ℕ
to_running_sector m =
    track_sectors * (m / track_sectors)
    + get_or backward (sectors * (m % track_sectors / sectors) + (m % sectors + (sectors - track_offset) * (m / track_sectors)) % sectors) 0

-- the reply of place: the image sector of sector s of block b, or 12 where either is out of range (§8.3 §7.12)
abbrev pub place_reply : ℕ → ℕ → Reply
place_reply b s = cond (ltb b blocks && ltb s block_sectors) (reply_with 0 (to_image_sector (running b s)) 0 0) (refusal 12)
