-- The placement by value (docs/RULES.md, §1.4 to §1.6): the two tables, the image sectors of eleven sectors, and those of all blocks in one line of numbers.
-- The statements on them stand in proofs/Values.antt.
-- Assumes nothing.
use Rattle.std.specs.Prelude.{List, [], ◌∷◌, map, ℕ, ◌+◌, ◌*◌, ◌/◌, ◌%◌}
use Rattle.sector_rules.specs.Geometry.{running, to_image_sector}

-- ---- the two tables

-- the bytes 40 to 57 of a disk header: side and place by remainder, 80 (hex) added on side 1 (§1.4)
unfoldable pub side_place_bytes : List ℕ
side_place_bytes =
    0x00 ∷ 0x03 ∷ 0x06 ∷ 0x80 ∷ 0x83 ∷ 0x86 ∷ 0x01 ∷ 0x04 ∷ 0x07 ∷ 0x81 ∷ 0x84 ∷ 0x87 ∷ 0x02 ∷ 0x05 ∷ 0x08 ∷ 0x82 ∷ 0x85 ∷ 0x88 ∷ []

-- its bytes 58 to 75: the remainder by side and place (§1.6)
unfoldable pub backward_bytes : List ℕ
backward_bytes =
    0x00 ∷ 0x06 ∷ 0x0C ∷ 0x01 ∷ 0x07 ∷ 0x0D ∷ 0x02 ∷ 0x08 ∷ 0x0E ∷ 0x03 ∷ 0x09 ∷ 0x0F ∷ 0x04 ∷ 0x0A ∷ 0x10 ∷ 0x05 ∷ 0x0B ∷ 0x11 ∷ []

-- ---- eleven sectors

-- a block, a sector of it, and the image sector that it has (§1.5)
pub record Placement : Type 0 where
  pub block : ℕ
  pub sector : ℕ
  pub image : ℕ

-- a row of the table: block, sector, image sector (§1.5)
unfoldable pub placed_at : ℕ → ℕ → ℕ → Placement
placed_at b s i = record { block = b; sector = s; image = i }

-- the eleven rows of the table (§1.5)
unfoldable pub placements : List Placement
placements =
    placed_at 0 0 0
    ∷ placed_at 2 0 1
    ∷ placed_at 1 0 9
    ∷ placed_at 1 1 12
    ∷ placed_at 1 2 15
    ∷ placed_at 6 0 23
    ∷ placed_at 6 1 26
    ∷ placed_at 6 2 20
    ∷ placed_at 7 0 32
    ∷ placed_at 474 0 1430
    ∷ placed_at 479 2 1438
    ∷ []

-- the image sectors that the definition gives for the rows (§1.5)
unfoldable pub defined_sectors : List Placement → List ℕ
defined_sectors ps = map (λ (p : Placement). to_image_sector (running p.block p.sector)) ps

-- the image sectors that the rows have (§1.5)
unfoldable pub table_sectors : List Placement → List ℕ
table_sectors ps = map (λ (p : Placement). p.image) ps

-- ---- all blocks

-- the image sector of sector s of block b: track b / 6, side b mod 2, place 3s + pair with the block pair b / 2 mod 3, moved by 5 a track (§1.4 §1.5)
unfoldable pub sector_by_block : ℕ → ℕ → ℕ
sector_by_block b s = 18 * (b / 6) + 9 * (b % 2) + (3 * s + b / 2 % 3 + 5 * (b / 6)) % 9
