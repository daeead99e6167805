-- The written side and the written HFE image (docs/RULES.md, section 5), and the call pack (section 8).
-- Assumes nothing: these are definitions.
use Rattle.std.specs.Prelude.{cond, List, [], ◌∷◌, ◌++◌, ℕ, ◌+◌, ◌-◌, ◌*◌, ◌/◌, ◌%◌, ltb, eqb, length, get_or}
use Rattle.laws.specs.Lists.{tab, window}
use Rattle.laws.specs.Numbers.{high_byte, low_byte}
use Rattle.cells.specs.Stream.{packed}
use Rattle.cells.specs.Crc.{crc}
use Rattle.cells.specs.Written.{written_cell}
use Rattle.cells.specs.declared.Item.{Item}
use Rattle.cells.specs.declared.Item.TheVariants.{Plain, Sync, Index}
use Rattle.sector_rules.specs.declared.Reply.{Reply}
use Rattle.sector_rules.specs.Replies.{done, wrong_hfe, wrong_length}
use Rattle.sector_rules.specs.Geometry.{tracks, sides, sectors, track_sectors, sector_bytes, image_bytes}
use Rattle.sector_rules.specs.Search.{header_mark, data_mark, size_code}
use Rattle.sector_rules.specs.Hfe.{hfe_signature, unit_bytes}

-- ---- a side

-- n items as f has them, and after them those of g (§5.2)
unfoldable pub span : ℕ → (ℕ → Item) → (ℕ → Item) → ℕ → Item
span n f g q = cond (ltb q n) (f q) (g (q - n))

-- the same item over and over (§5.2)
abbrev pub each : Item → ℕ → Item
each a q = a

-- the bytes of a list (§5.2)
abbrev pub plain_items : List ℕ → ℕ → Item
plain_items xs q = Plain (get_or xs q 0)

-- the CRC over the three A1 of a run and the bytes after them (§3.9)
unfoldable pub field_crc : List ℕ → ℕ
field_crc xs = crc (0xA1 ∷ (0xA1 ∷ (0xA1 ∷ xs)))

-- bytes that follow a run, and after them their CRC, high byte first (§3.9)
unfoldable pub with_crc : List ℕ → List ℕ
with_crc xs = xs ++ tab (high_byte 2 (field_crc xs)) 2

-- the bytes of a header after its run: FE C H R N (§5.1)
abbrev pub header_row : ℕ → ℕ → ℕ → List ℕ
header_row t s r = header_mark ∷ (t ∷ (s ∷ (r ∷ (size_code ∷ []))))

-- the byte of all gaps (§5.1 §5.2)
abbrev pub gap_byte : ℕ
gap_byte = 0x4E

-- the items of a header after its run: FE, four bytes and the CRC (§5.1)
abbrev pub header_items : ℕ
header_items = 1 + 4 + 2

-- the items of a data field after its run: FB, the data and the CRC (§5.1)
abbrev pub field_items : ℕ
field_items = 1 + sector_bytes + 2

-- item by item a sector with the data d: 12 of 00, run, FE C H R N and CRC, 22 of 4E, 12 of 00, run, FB, the data and CRC, then 4E (§5.1)
unfoldable pub sector_item : ℕ → ℕ → ℕ → List ℕ → ℕ → Item
sector_item t s r d =
    span 12 (each (Plain 0))
    (span 3 (each Sync)
    (span header_items (plain_items (with_crc (header_row t s r)))
    (span 22 (each (Plain gap_byte))
    (span 12 (each (Plain 0))
    (span 3 (each Sync)
    (span field_items (plain_items (with_crc (data_mark ∷ d)))
    (each (Plain gap_byte))))))))

-- the items of a sector up to its data field's FB: 59 (§5.1)
abbrev pub field_start : ℕ
field_start = 12 + 3 + header_items + 22 + 12 + 3

-- the items of a sector: 658, so that 84 of 4E are its last (§5.1)
abbrev pub sector_items : ℕ
sector_items = field_start + field_items + 84

-- item by item a side whose sector R has the data d R: 80 of 4E, 12 of 00, three index marks, FC, 50 of 4E, nine sectors, then 4E (§5.2)
unfoldable pub side_item : ℕ → ℕ → (ℕ → List ℕ) → ℕ → Item
side_item t s d =
    span 80 (each (Plain gap_byte))
    (span 12 (each (Plain 0))
    (span 3 (each Index)
    (span 1 (each (Plain 0xFC))
    (span 50 (each (Plain gap_byte))
    (span (sectors * sector_items) (λ (o : ℕ). sector_item t s (o / sector_items + 1) (d (o / sector_items + 1)) (o % sector_items))
    (each (Plain gap_byte)))))))

-- the items of a side before its first sector: 146 (§5.2)
abbrev pub lead_items : ℕ
lead_items = 80 + 12 + 3 + 1 + 50

-- the items of a side (§5.2)
abbrev pub side_items : ℕ
side_items = 6250

-- the bytes that the cells of a side take: 12,500 (§5.2)
abbrev pub side_bytes : ℕ
side_bytes = 2 * side_items

-- the image sector of sector R of this track and side (§1.2)
abbrev pub image_sector_of : ℕ → ℕ → ℕ → ℕ
image_sector_of t s r = track_sectors * t + sectors * s + (r - 1)

-- the bytes that the block image has for this sector (§1.2 §5.2)
unfoldable pub sector_data : List ℕ → ℕ → ℕ → ℕ → List ℕ
sector_data image t s r = window image (sector_bytes * image_sector_of t s r) sector_bytes

-- the items of a side of the block image (§5.2)
unfoldable pub image_side : List ℕ → ℕ → ℕ → ℕ → Item
image_side image t s = side_item t s (sector_data image t s)

-- ---- the image

-- units of a track (§5.3)
abbrev pub track_units : ℕ
track_units = 49

-- the unit of track 0: header and table take one each (§5.3)
abbrev pub first_unit : ℕ
first_unit = 2

-- the length of a track in its entry: 25,000 (§5.3)
abbrev pub written_length : ℕ
written_length = sides * side_bytes

-- the bytes of a written image: 2,008,064 (§5.3)
abbrev pub hfe_bytes : ℕ
hfe_bytes = unit_bytes * (first_unit + track_units * tracks)

-- the byte wherever no rule names another (§5.5)
abbrev pub fill_byte : ℕ
fill_byte = 0xFF

-- the header after its letters: revision 0, 80 tracks, 2 sides, encoding 0, bit rate 250, turns a minute 300, interface mode 7, a byte FF,
-- the table's unit 1 (§5.4 §5.5)
unfoldable pub hfe_header_rest : List ℕ
hfe_header_rest = 0 ∷ tracks ∷ sides ∷ 0 ∷ low_byte 250 0 ∷ low_byte 250 1 ∷ low_byte 300 0 ∷ low_byte 300 1 ∷ 7 ∷ fill_byte ∷ low_byte 1 0 ∷ low_byte 1 1 ∷ []

-- byte k of the header's unit; after these fields it is FF (§5.4 §5.5)
unfoldable pub hfe_header_byte : ℕ → ℕ
hfe_header_byte k = get_or (hfe_signature ++ hfe_header_rest) k fill_byte

-- byte j of the table's unit: track t at unit 2 + 49t, length 25,000, low byte first; after track 79 it is FF (§2.1 §5.3 §5.5)
unfoldable pub hfe_table_byte : ℕ → ℕ
hfe_table_byte j =
    cond (ltb j (4 * tracks))
    (cond (ltb (j % 4) 2) (low_byte (first_unit + track_units * (j / 4)) (j % 4)) (low_byte written_length (j % 4 - 2)))
    fill_byte

-- byte o of the units of track t, in each unit first the half of side 0 and then that of side 1; past a side's end it is FF (§2.6 §5.5)
unfoldable pub hfe_track_byte : List ℕ → ℕ → ℕ → ℕ
hfe_track_byte image t o =
    cond (ltb (256 * (o / unit_bytes) + o % 256) side_bytes)
    (packed (written_cell (image_side image t (o % unit_bytes / 256))) (256 * (o / unit_bytes) + o % 256))
    fill_byte

-- byte k of the written image: header, table, tracks (§5.3)
unfoldable pub hfe_byte : List ℕ → ℕ → ℕ
hfe_byte image k =
    cond (ltb k unit_bytes) (hfe_header_byte k)
    (cond (ltb k (first_unit * unit_bytes)) (hfe_table_byte (k - unit_bytes))
    (hfe_track_byte image ((k - first_unit * unit_bytes) / (track_units * unit_bytes)) ((k - first_unit * unit_bytes) % (track_units * unit_bytes))))

-- the reply of pack for a block image of n bytes and an HFE image of m; the HFE image is judged first (§8.2 §7.1)
unfoldable pub pack_reply : ℕ → ℕ → Reply
pack_reply n m = cond (eqb m hfe_bytes) (cond (eqb n image_bytes) done wrong_length) wrong_hfe

-- the lent HFE image after pack: as it was on a refusal (§8.2 §7.19)
unfoldable pub pack_hfe : List ℕ → List ℕ → List ℕ
pack_hfe image h = cond (eqb (pack_reply (length image) (length h)).number 0) (tab (hfe_byte image) hfe_bytes) h
