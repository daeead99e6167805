-- written_values: by value, the items of a written side beside headers and data (§5.1, §5.2): its beginning and end, the parts of a sector; and, of a packed
-- image, the track table (§5.3) and the bytes that no track uses (§5.5).
-- Assumes nothing: these are definitions. The proof is `written_values` in Laws/Values/WrittenValues.antt.
use Rattle.std.specs.Prelude.{List, [], ◌∷◌, ◌++◌, ◌≡◌, ℕ, ◌+◌, ◌-◌, length, replicate}
use Rattle.laws.specs.Lists.{tab, window}
use Rattle.cells.specs.declared.Item.{Item}
use Rattle.cells.specs.declared.Item.TheVariants.{Plain, Sync, Index}
use Rattle.sector_rules.specs.Geometry.{image_bytes}
use Rattle.sector_rules.specs.Packed.{field_start, field_items, lead_items, side_items, hfe_bytes}
use Rattle.sector_rules.specs.Packed.{side_item, pack_hfe}

-- an item as a number: a byte, or a mark, which is 100 (hex) more than its byte (§3.5)
abbrev pub item_number : Item → ℕ
item_number (Plain x) = x
item_number Sync = 0x1A1
item_number Index = 0x1C2

-- n items from q on of a side whose sector R has the data d R (§5.2)
unfoldable pub side_row : ℕ → ℕ → (ℕ → List ℕ) → ℕ → ℕ → List ℕ
side_row t s d q n = tab (λ (k : ℕ). item_number (side_item t s d (q + k))) n

-- ---- what is promised

-- by value: items of a written side, the track table and the unused bytes of a packed image (§5.1 §5.2 §5.3 §5.5)
pub record WrittenValues : Type 0 where
  -- a side begins with 146 bytes and marks before its first sector
  pub side_begins : (t s : ℕ) (d : ℕ → List ℕ)
      → side_row t s d 0 lead_items ≡ replicate 80 0x4E ++ (replicate 12 0x00 ++ (replicate 3 0x1C2 ++ (0xFC ∷ replicate 50 0x4E)))
  -- sector 1 of track 0, side 0, up to the mark of its data field
  pub sector_begins : (d : ℕ → List ℕ)
      → side_row 0 0 d lead_items (field_start + 1) ≡ replicate 12 0x00 ++ (replicate 3 0x1A1 ++ (0xFE ∷ 0x00 ∷ 0x00 ∷ 0x01 ∷ 0x02 ∷ 0xCA ∷ 0x6F
      ∷ (replicate 22 0x4E ++ (replicate 12 0x00 ++ (replicate 3 0x1A1 ++ (0xFB ∷ []))))))
  -- after 512 bytes and a CRC it ends with 84 bytes, and the next one begins
  pub sector_ends : (d : ℕ → List ℕ)
      → side_row 0 0 d (lead_items + (field_start + field_items)) 104
      ≡ replicate 84 0x4E ++ (replicate 12 0x00 ++ (replicate 3 0x1A1 ++ (0xFE ∷ 0x00 ∷ 0x00 ∷ 0x02 ∷ 0x02 ∷ [])))
  -- the ninth sector's last bytes and the 182 after it
  pub side_ends : (t s : ℕ) (d : ℕ → List ℕ) → side_row t s d 5984 (side_items - 5984) ≡ replicate 266 0x4E
  -- the track table: tracks 0, 1 and 79, each 49 units after the one before it and 25,000 bytes long; then FF
  pub table_written : (image hfe : List ℕ) → length image ≡ image_bytes → length hfe ≡ hfe_bytes
      → (window (pack_hfe image hfe) 512 8 ≡ 0x02 ∷ 0x00 ∷ 0xA8 ∷ 0x61 ∷ 0x33 ∷ 0x00 ∷ 0xA8 ∷ 0x61 ∷ [])
      × (window (pack_hfe image hfe) 828 196 ≡ 0x21 ∷ 0x0F ∷ 0xA8 ∷ 0x61 ∷ replicate 192 0xFF)
  -- the last unit of track 0 has 212 bytes of each side, then 44 that are unused
  pub ends_unused : (image hfe : List ℕ) → length image ≡ image_bytes → length hfe ≡ hfe_bytes
      → (window (pack_hfe image hfe) 25812 44 ≡ replicate 44 0xFF) × (window (pack_hfe image hfe) 26068 44 ≡ replicate 44 0xFF)
