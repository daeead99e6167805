-- What is written: the header, whole disks, files, and the single steps of add and remove (docs/RULES.md, sections 6 and 8).
-- Assumes nothing: these are definitions.
use Rattle.std.specs.Prelude.{cond, ◌&&◌, List, [], ◌∷◌, ℕ, zero, suc, ◌+◌, ◌-◌, ◌*◌, ◌/◌, ◌%◌, ltb, eqb, get_or}
use Rattle.laws.specs.Changes.{upd, patch}
use Rattle.laws.specs.Numbers.{high_byte, at32}
use Rattle.sector_rules.specs.Geometry.{tracks, sectors, block_sectors, track_offset, track_sectors, all_sectors, blocks, side_place, backward}
use Rattle.file_rules.specs.declared.Record.{Record}
use Rattle.file_rules.specs.declared.Record.TheVariants.{Free, File}
use Rattle.file_rules.specs.declared.Entry.{Entry}
use Rattle.file_rules.specs.Arguments.{FormatArguments, count_listed}
use Rattle.file_rules.specs.Sizes.{block_bytes, slot_bytes, block_slots, map_start, record_bytes, title_most, blocks_of, free_sectors, good_sectors}
use Rattle.file_rules.specs.Sizes.{whole_blocks, bytes_over}
use Rattle.file_rules.specs.Disk.{Disk}
use Rattle.file_rules.specs.Map.{encode, record_at, bears, free_count, part_block}
use Rattle.file_rules.specs.Directory.{entry_byte}
use Rattle.file_rules.specs.Check.{disk_signature}

-- ---- the header

-- byte o of the header but for update count, free word and length of the directory: the letters (§6.1), the disk's name filled with spaces, its number and
-- the bytes FF (§6.2), the good word by the list of bad blocks (§6.18), the sizes (§6.5), the track offset and the two tables (§6.7)
unfoldable pub fixed_byte : FormatArguments → ℕ → ℕ
fixed_byte args =
    let f₀ : ℕ → ℕ = patch (λ (o : ℕ). 0xFF) 0 4 (λ (i : ℕ). get_or disk_signature i 0) in
    let f₁ : ℕ → ℕ = patch (patch f₀ 4 title_most (λ (i : ℕ). get_or args.title i 32)) 14 2 (high_byte 2 args.number) in
    let f₂ : ℕ → ℕ = patch (patch f₁ 22 2 (high_byte 2 (good_sectors (count_listed args.bad)))) 24 2 (high_byte 2 all_sectors) in
    let f₃ : ℕ → ℕ = patch (patch f₂ 26 2 (high_byte 2 sectors)) 28 2 (high_byte 2 track_sectors) in
    let f₄ : ℕ → ℕ = patch (patch f₃ 30 2 (high_byte 2 tracks)) 32 2 (high_byte 2 block_sectors) in
    let f₅ : ℕ → ℕ = patch f₄ 38 2 (high_byte 2 track_offset) in
    patch (patch f₅ 40 track_sectors (λ (i : ℕ). get_or side_place i 0)) 58 track_sectors (λ (i : ℕ). get_or backward i 0)

-- byte o of the header, with this update count, free word and end of the directory in slots (§6.3 §6.4 §6.6)
unfoldable pub disk_header_byte : FormatArguments → ℕ → ℕ → ℕ → ℕ → ℕ
disk_header_byte args updates word end =
    patch (patch (patch (patch (fixed_byte args)
    16 4 (high_byte 4 updates))
    20 2 (high_byte 2 word))
    34 2 (high_byte 2 (whole_blocks end)))
    36 2 (high_byte 2 (bytes_over end))

-- ---- a whole disk

-- the disk with this header, these records, and in each block what its record says (§8.4 §9.5)
unfoldable pub disk_with : (ℕ → ℕ) → (ℕ → Record) → (Record → ℕ → ℕ) → Disk
disk_with header owner content b o =
    cond (ltb b blocks && ltb o block_bytes)
    (cond (eqb b 0)
    (cond (ltb o map_start) (header o) (encode (owner ((o - map_start) / record_bytes)) ((o - map_start) % record_bytes)))
    (content (owner b) o))
    0

-- ---- a file's bytes

-- byte i of a file as written: its entry, its data, and then zeros (§6.16)
unfoldable pub stored_byte : Entry → List ℕ → ℕ → ℕ
stored_byte e content i = cond (ltb i slot_bytes) (entry_byte e i) (get_or content (i - slot_bytes) 0)

-- byte o of block s of a row of bytes (§6.16)
unfoldable pub part : (ℕ → ℕ) → ℕ → ℕ → ℕ
part c s o = cond (ltb o block_bytes) (c (s * block_bytes + o)) 0

-- the blocks of a file with so many bytes of data (§6.17)
unfoldable pub blocks_for : ℕ → ℕ
blocks_for size = blocks_of (slot_bytes + size)

-- a row of zero bytes (§8.13)
unfoldable pub zeros : ℕ → ℕ
zeros o = 0

-- ---- single steps

-- the disk, with the bytes f in block b (§8.12)
unfoldable pub set_block : Disk → ℕ → (ℕ → ℕ) → Disk
set_block d b f = upd d b f

-- the disk, with r as the record of block b (§8.12)
unfoldable pub set_record : Disk → ℕ → Record → Disk
set_record d b r = upd d 0 (patch (d 0) (map_start + record_bytes * b) record_bytes (encode r))

-- the disk, with the 64 bytes e in slot k (§8.12)
unfoldable pub set_slot : Disk → ℕ → (ℕ → ℕ) → Disk
set_slot d k e =
    upd d (part_block d 0 (k / block_slots))
    (patch (d (part_block d 0 (k / block_slots))) (k % block_slots * slot_bytes) slot_bytes e)

-- the disk, with the number v in the two bytes at o of the header (§8.12)
unfoldable pub set_word : Disk → ℕ → ℕ → Disk
set_word d o v = upd d 0 (patch (d 0) o 2 (high_byte 2 v))

-- the disk, with 3 x its free records as the free word (§6.4)
unfoldable pub set_free : Disk → Disk
set_free d = set_word d 20 (free_sectors (free_count d))

-- the disk, with a directory that has the length of k slots (§6.6)
unfoldable pub set_end : Disk → ℕ → Disk
set_end d k = set_word (set_word d 34 (whole_blocks k)) 36 (bytes_over k)

-- the disk, with an update count that is one more; 0 follows 2^32 - 1 (§6.3)
unfoldable pub step_update : Disk → Disk
step_update d = upd d 0 (patch (d 0) 16 4 (high_byte 4 (at32 (d 0) 16 + 1)))

-- the disk, with these blocks given to file f in this order, from sequence s on, and in them the bytes c of the file (§8.11)
unfoldable pub give_blocks : Disk → ℕ → (ℕ → ℕ) → ℕ → List ℕ → Disk
give_blocks d f c s [] = d
give_blocks d f c s (b ∷ bs) = give_blocks (set_record (set_block d b (part c s)) b (File f s)) f c (suc s) bs

-- the disk, with block b filled with zeros and its record free if it bears the number of file f (§8.13)
unfoldable pub free_block : Disk → ℕ → ℕ → Disk
free_block d f b = cond (bears f (record_at d b)) (set_record (set_block d b zeros) b Free) d

-- the disk, with this done for the blocks below n (§8.13)
unfoldable pub free_blocks : ℕ → Disk → ℕ → Disk
free_blocks zero d f = d
free_blocks (suc n) d f = free_block (free_blocks n d f) f n
