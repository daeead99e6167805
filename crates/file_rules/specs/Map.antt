-- Map records (docs/RULES.md, section 6).
-- Assumes nothing: these are definitions.
use Rattle.std.specs.Prelude.{Bool, true, false, cond, ◌&&◌, ℕ, ◌+◌, ◌*◌, ◌/◌, ◌%◌, ltb, eqb}
use Rattle.laws.specs.Below.{lowest, count}
use Rattle.laws.specs.Numbers.{big_endian, high_byte}
use Rattle.sector_rules.specs.Geometry.{blocks}
use Rattle.file_rules.specs.declared.Record.{Record}
use Rattle.file_rules.specs.declared.Record.TheVariants.{Free, Bad, System, File, Other}
use Rattle.file_rules.specs.Sizes.{block_bytes, map_start, record_bytes}
use Rattle.file_rules.specs.Disk.{Disk}

-- ---- a record's number: its three bytes, highest first

-- the numbers below it, whose first byte is below F8, are files' records (§6.9)
abbrev pub file_bound : ℕ
file_bound = 0xF80000

-- the first byte of a free record: FD (§6.9)
abbrev pub free_byte : ℕ
free_byte = 0xFD

-- how many numbers have the same first byte: the other two, the tail of a free record, have 16 bits (§6.9)
abbrev pub tail_count : ℕ
tail_count = 65536

-- the number of a free record as written: FD FF FF (§6.9)
abbrev pub free_number : ℕ
free_number = 0xFDFFFF

-- the number of a bad record: FE FF FF (§6.9)
abbrev pub bad_number : ℕ
bad_number = 0xFEFFFF

-- the number of the system's record: F8 00 00 (§6.9)
abbrev pub system_number : ℕ
system_number = 0xF80000

-- how many sequences, and file numbers, 12 bits have (§6.8)
abbrev pub sequences : ℕ
sequences = 4096

-- the record of a number: a file's with 12 bits of file number and 12 of sequence, free by its first byte, the system's, bad, or of no kind (§6.8 §6.9)
unfoldable pub decode : ℕ → Record
decode n =
    cond (ltb n file_bound) (File (n / sequences) (n % sequences))
    (cond (eqb (n / tail_count) free_byte) Free
    (cond (eqb n system_number) System
    (cond (eqb n bad_number) Bad Other)))

-- the number of a record as written; one of no kind never is (§6.8 §6.9)
unfoldable pub number_of : Record → ℕ
number_of Free = free_number
number_of Bad = bad_number
number_of System = system_number
number_of (File f s) = f * sequences + s
number_of Other = 0xFFFFFF

-- byte i of a record as written, high byte first (§6.8)
unfoldable pub encode : Record → ℕ → ℕ
encode r = high_byte record_bytes (number_of r)

-- byte i of block b's record (§6.8)
abbrev pub record_byte : Disk → ℕ → ℕ → ℕ
record_byte d b i = d 0 (map_start + record_bytes * b + i)

-- the number of block b's record (§6.8)
unfoldable pub number_at : Disk → ℕ → ℕ
number_at d b = big_endian (record_byte d b) record_bytes

-- the record of block b (§6.8)
unfoldable pub record_at : Disk → ℕ → Record
record_at d b = decode (number_at d b)

-- ---- what a record is asked

-- whether a record is free (§6.9)
unfoldable pub is_free : Record → Bool
is_free Free = true
is_free Bad = false
is_free System = false
is_free (File f s) = false
is_free Other = false

-- whether a record is bad (§6.9)
unfoldable pub is_bad_record : Record → Bool
is_bad_record Free = false
is_bad_record Bad = true
is_bad_record System = false
is_bad_record (File f s) = false
is_bad_record Other = false

-- whether a record is the system's (§6.9)
unfoldable pub is_system : Record → Bool
is_system Free = false
is_system Bad = false
is_system System = true
is_system (File f s) = false
is_system Other = false

-- whether a record is of no kind (§6.9)
unfoldable pub is_other : Record → Bool
is_other Free = false
is_other Bad = false
is_other System = false
is_other (File f s) = false
is_other Other = true

-- whether a record bears the number of file f (§6.8)
unfoldable pub bears : ℕ → Record → Bool
bears f Free = false
bears f Bad = false
bears f System = false
bears f (File g s) = eqb g f
bears f Other = false

-- whether a record is sequence s of file f (§6.10)
unfoldable pub is_part : ℕ → ℕ → Record → Bool
is_part f s Free = false
is_part f s Bad = false
is_part f s System = false
is_part f s (File g t) = eqb g f && eqb t s
is_part f s Other = false

-- whether a record, if it bears the number of file f, has a sequence below n (§7.20)
unfoldable pub within : ℕ → ℕ → Record → Bool
within f n Free = true
within f n Bad = true
within f n System = true
within f n (File g t) = cond (eqb g f) (ltb t n) true
within f n Other = true

-- ---- the whole map

-- whether block b's record is free (§6.4)
unfoldable pub free_at : Disk → ℕ → Bool
free_at d b = is_free (record_at d b)

-- how many records of the map are free (§6.4)
unfoldable pub free_count : Disk → ℕ
free_count d = count blocks (free_at d)

-- whether block b's record is bad (§6.18)
unfoldable pub bad_at : Disk → ℕ → Bool
bad_at d b = is_bad_record (record_at d b)

-- how many records of the map are bad (§6.18)
unfoldable pub bad_count : Disk → ℕ
bad_count d = count blocks (bad_at d)

-- the block whose record is sequence s of file f, the lowest if there are several (§6.10); a disk with several is refused with 10 (§7.20)
unfoldable pub part_block : Disk → ℕ → ℕ → ℕ
part_block d f s = lowest (λ (b : ℕ). is_part f s (record_at d b)) blocks

-- byte i of file f, by the sequence of its blocks; where there is no such block it is read past the last block, where a disk has 0 (§6.10)
unfoldable pub file_byte : Disk → ℕ → ℕ → ℕ
file_byte d f i = d (part_block d f (i / block_bytes)) (i % block_bytes)
