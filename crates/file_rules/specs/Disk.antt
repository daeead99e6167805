-- The disk in block order, and the block image that it is stored in (docs/RULES.md, section 1).
-- Every rule on header, map, directory and files is stated on the disk; only this file places blocks in the image. The header repeats the placement's
-- numbers and tables as bytes (Check, Written).
-- Assumes nothing: these are definitions.
use Rattle.std.specs.Prelude.{cond, ◌&&◌, List, ℕ, ◌+◌, ◌*◌, ◌/◌, ◌%◌, ltb, get_or}
use Rattle.laws.specs.Lists.{tab}
use Rattle.laws.specs.Changes.{upd}
use Rattle.sector_rules.specs.Geometry.{sector_bytes, block_sectors, blocks, image_bytes, running, to_image_sector, to_running_sector}
use Rattle.file_rules.specs.Sizes.{block_bytes}

-- a disk in block order: by block b and offset o the byte there (§1.3)
abbrev pub Disk : Type 0
Disk = ℕ → ℕ → ℕ

-- where byte o of block b is in the image (§1.3 §1.5)
unfoldable pub image_place : ℕ → ℕ → ℕ
image_place b o = to_image_sector (running b (o / sector_bytes)) * sector_bytes + o % sector_bytes

-- the block that byte i of the image belongs to (§1.6)
unfoldable pub block_of : ℕ → ℕ
block_of i = to_running_sector (i / sector_bytes) / block_sectors

-- the offset of byte i of the image in its block (§1.6)
unfoldable pub offset_of : ℕ → ℕ
offset_of i = to_running_sector (i / sector_bytes) % block_sectors * sector_bytes + i % sector_bytes

-- the disk in block order that an image holds; 0 outside the blocks (§1.3)
unfoldable pub disk_of : List ℕ → Disk
disk_of image b o = cond (ltb b blocks && ltb o block_bytes) (get_or image (image_place b o) 0) 0

-- the image of a disk in block order (§1.3)
unfoldable pub image_of : Disk → List ℕ
image_of d = tab (λ (i : ℕ). d (block_of i) (offset_of i)) image_bytes

-- a disk with one byte of it written (§1.3)
unfoldable pub set_byte : Disk → ℕ → ℕ → ℕ → Disk
set_byte d b o v = upd d b (upd (d b) o v)
