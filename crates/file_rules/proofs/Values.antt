-- values_to_check: the placements of the table of docs/RULES.md, §1.5, which is the sector layer's, and the record that §6.8 has as its example.
-- record_values: the kinds of map record by their bytes (§6.9). entry_values: a directory entry by its bytes (§6.13).
-- Rests on computation alone.
use Rattle.std.specs.Prelude.{◌≡◌, refl, [], ◌∷◌, ℕ, get_or}
use Rattle.laws.specs.Changes.{patch}
use Rattle.laws.specs.Lists.{tab, element_at}
use Rattle.laws.specs.Numbers.{at16, at32, big_endian, high_first, high_byte}
use Rattle.sector_rules.specs.Values.{placements, defined_sectors, table_sectors}
use Rattle.sector_rules.proofs.Values.{placement_values}
use Rattle.file_rules.specs.declared.Record.TheVariants.{Free, Bad, System, File, Other}
use Rattle.file_rules.specs.Directory.{entry_of, entry_byte, name_of, entry_for}
use Rattle.file_rules.specs.Map.{decode, number_of, encode}
use Rattle.file_rules.specs.Sizes.{slot_bytes, record_bytes}
use Rattle.file_rules.specs.Values.{entry_row}

-- values_to_check: the definition gives the image sector of each row, and the record is that of file 2A5, sequence 013 (hex)
pub values_to_check : (defined_sectors placements ≡ table_sectors placements)
    × (decode (high_first (0x2A ∷ 0x50 ∷ 0x13 ∷ []) 0 record_bytes) ≡ File 0x2A5 0x013)
unfolding decode high_first big_endian element_at
values_to_check = (placement_values, refl)

-- record_values: a record of each kind by its three bytes, as it is read, free with three tails, bad, and of no kind beside them, and as it is written
pub record_values :
    (decode (high_first (0xFD ∷ 0xFF ∷ 0xFF ∷ []) 0 record_bytes) ≡ Free)
    × (decode (high_first (0xF8 ∷ 0x00 ∷ 0x00 ∷ []) 0 record_bytes) ≡ System)
    × (decode (high_first (0xF7 ∷ 0xFF ∷ 0xFF ∷ []) 0 record_bytes) ≡ File 0xF7F 0xFFF)
    × (decode (high_first (0xF8 ∷ 0x00 ∷ 0x01 ∷ []) 0 record_bytes) ≡ Other)
    × (decode (high_first (0xFD ∷ 0xFF ∷ 0xFE ∷ []) 0 record_bytes) ≡ Free)
    × (decode (high_first (0xFD ∷ 0x00 ∷ 0x00 ∷ []) 0 record_bytes) ≡ Free)
    × (decode (high_first (0xFC ∷ 0xFF ∷ 0xFF ∷ []) 0 record_bytes) ≡ Other)
    × (decode (high_first (0xFE ∷ 0xFF ∷ 0xFF ∷ []) 0 record_bytes) ≡ Bad)
    × (decode (high_first (0xFE ∷ 0xFF ∷ 0xFE ∷ []) 0 record_bytes) ≡ Other)
    × (decode (high_first (0xFE ∷ 0x00 ∷ 0x00 ∷ []) 0 record_bytes) ≡ Other)
    × (decode (high_first (0xFB ∷ 0x00 ∷ 0x00 ∷ []) 0 record_bytes) ≡ Other)
    × (decode (high_first (0xFF ∷ 0x00 ∷ 0x00 ∷ []) 0 record_bytes) ≡ Other)
    × (decode (high_first (0xFF ∷ 0xFF ∷ 0xFF ∷ []) 0 record_bytes) ≡ Other)
    × (tab (encode Free) record_bytes ≡ 0xFD ∷ 0xFF ∷ 0xFF ∷ [])
    × (tab (encode Bad) record_bytes ≡ 0xFE ∷ 0xFF ∷ 0xFF ∷ [])
    × (tab (encode System) record_bytes ≡ 0xF8 ∷ 0x00 ∷ 0x00 ∷ [])
    × (tab (encode (File 0x2A5 0x013)) record_bytes ≡ 0x2A ∷ 0x50 ∷ 0x13 ∷ [])
unfolding decode encode number_of high_first high_byte big_endian element_at tab
record_values = (refl, refl, refl, refl, refl, refl, refl, refl, refl, refl, refl, refl, refl, refl, refl, refl, refl)

-- entry_values: as it is written, and as it is read
pub entry_values :
    (tab (entry_byte (entry_for (0x61 ∷ 0x62 ∷ []) 0x01020304 256)) slot_bytes ≡ entry_row)
    × (entry_of (λ (i : ℕ). get_or entry_row i 0) ≡ entry_for (0x61 ∷ 0x62 ∷ []) 0x01020304 256)
    × (name_of (entry_of (λ (i : ℕ). get_or entry_row i 0)) ≡ 0x61 ∷ 0x62 ∷ [])
unfolding tab entry_byte entry_for entry_of name_of entry_row patch high_byte at16 at32 big_endian
entry_values = (refl, refl, refl)
