-- What check, list, read, add and remove judge after 1 and before their own refusals: 8, 9, 19, 10 and 11 (docs/RULES.md, sections 6 and 7).
-- Assumes nothing: these are definitions.
use Rattle.std.specs.Prelude.{Bool, not, cond, ◌&&◌, ◌||◌, List, [], ◌∷◌, ℕ, ◌%◌, leb, ltb, eqb}
use Rattle.std.proofs.Math.Option.{Option, none, some}
use Rattle.laws.specs.Lists.{bytes_are}
use Rattle.laws.specs.Below.{all, lowest, count}
use Rattle.laws.specs.Numbers.{at16}
use Rattle.laws.specs.Options.{or_else}
use Rattle.sector_rules.specs.Faults.{Fault}
use Rattle.sector_rules.specs.declared.Reply.{Reply}
use Rattle.sector_rules.specs.Replies.{refusal}
use Rattle.sector_rules.specs.Faults.{wrong_at, or_fault, fault_below, refusal_at}
use Rattle.sector_rules.specs.Geometry.{tracks, sectors, block_sectors, track_offset, track_sectors, all_sectors, blocks, side_place, backward}
use Rattle.file_rules.specs.declared.Record.{Record}
use Rattle.file_rules.specs.Sizes.{block_bytes, slot_bytes, slot_count, name_most, blocks_of, free_sectors, good_sectors}
use Rattle.file_rules.specs.Disk.{Disk}
use Rattle.file_rules.specs.Map.{record_at, is_system, is_other, bears, is_part, within, free_count, bad_count}
use Rattle.file_rules.specs.Directory.{name_eq, slot_entry, slot_name, held, dir_bytes, dir_end}

-- ---- 8: the header

-- the letters of bytes 0 to 3: QL5A (§6.1)
unfoldable pub disk_signature : List ℕ
disk_signature = 0x51 ∷ 0x4C ∷ 0x35 ∷ 0x41 ∷ []

-- field 34: the length of the directory is a multiple of 64 and at least 64, and the bytes more are fewer than those of a block (§6.6)
unfoldable pub length_right : Disk → Bool
length_right d = ltb (at16 (d 0) 36) block_bytes && (eqb (dir_bytes d % slot_bytes) 0 && leb slot_bytes (dir_bytes d))

-- fields 24 to 32: all sectors, 9, 18, 80, 3 (§6.5)
unfoldable pub dimensions_fault : Disk → Fault
dimensions_fault d =
    or_fault (wrong_at 24 (eqb (at16 (d 0) 24) all_sectors))
    (or_fault (wrong_at 26 (eqb (at16 (d 0) 26) sectors))
    (or_fault (wrong_at 28 (eqb (at16 (d 0) 28) track_sectors))
    (or_fault (wrong_at 30 (eqb (at16 (d 0) 30) tracks)) (wrong_at 32 (eqb (at16 (d 0) 32) block_sectors)))))

-- the lowest wrong field; bytes 4 to 23 and 76 to 95 are not judged here (§6.1 §6.2 §6.7 §7.8)
unfoldable pub disk_header_fault : Disk → Fault
disk_header_fault d =
    or_fault (wrong_at 0 (bytes_are (d 0) 0 disk_signature))
    (or_fault (dimensions_fault d)
    (or_fault (wrong_at 34 (length_right d))
    (or_fault (wrong_at 38 (eqb (at16 (d 0) 38) track_offset))
    (or_fault (wrong_at 40 (bytes_are (d 0) 40 side_place)) (wrong_at 58 (bytes_are (d 0) 58 backward))))))

-- ---- 9: the map

-- whether this record is wrong for block b: block 0 has the system's and no other block has it, and each is of a kind (§7.9)
unfoldable pub record_fault : ℕ → Record → Bool
record_fault b r = cond (eqb b 0) (not (is_system r)) (is_system r || is_other r)

-- the lowest block whose record is wrong, or the number of blocks (§7.9)
unfoldable pub map_fault : Disk → ℕ
map_fault d = lowest (λ (b : ℕ). record_fault b (record_at d b)) blocks

-- ---- 19: the good word

-- the good word is 1440 - 3 x the bad records (§6.18 §7.26)
unfoldable pub good_right : Disk → Bool
good_right d = eqb (at16 (d 0) 22) (good_sectors (bad_count d))

-- ---- 10: the directory

-- the records of file f have the sequences 0 to n - 1, each once, and no other (§7.20)
unfoldable pub parts_right : Disk → ℕ → ℕ → Bool
parts_right d f n =
    all (λ (b : ℕ). within f n (record_at d b)) blocks
    && all (λ (s : ℕ). eqb (count blocks (λ (b : ℕ). is_part f s (record_at d b))) 1) n

-- no record bears the number of file f (§7.22)
unfoldable pub no_record_bears : Disk → ℕ → Bool
no_record_bears d f = all (λ (b : ℕ). not (bears f (record_at d b))) blocks

-- no lower held slot has the name of slot k (§7.21)
unfoldable pub new_name : Disk → ℕ → Bool
new_name d k = all (λ (j : ℕ). not (held d j && name_eq (slot_name d j) (slot_name d k))) k

-- the entry of a held slot is right: the file's length is 64 or more, the name's 1 to 36, no lower slot has its name, and the blocks are those
-- of its length (§7.20 §7.21)
unfoldable pub entry_right : Disk → ℕ → Bool
entry_right d k =
    leb slot_bytes (slot_entry d k).length
    && (leb 1 (slot_entry d k).namelen
    && (leb (slot_entry d k).namelen name_most
    && (new_name d k && parts_right d k (blocks_of (slot_entry d k).length))))

-- file f is sound: the directory, a held slot, or a number that no record may bear (§7.20 §7.21 §7.22)
unfoldable pub file_right : Disk → ℕ → Bool
file_right d f =
    cond (eqb f 0) (parts_right d 0 (blocks_of (dir_bytes d)))
    (cond (ltb f (dir_end d) && held d f) (entry_right d f) (no_record_bears d f))

-- the lowest file number that is not sound, or the number of slots judged; a directory longer than the disk is itself not sound (§7.10 §7.22)
unfoldable pub file_fault : Disk → ℕ
file_fault d = lowest (λ (f : ℕ). not (file_right d f)) slot_count

-- ---- 11: the free word

-- the free word is 3 x the free records (§6.4 §7.11)
unfoldable pub free_right : Disk → Bool
free_right d = eqb (at16 (d 0) 20) (free_sectors (free_count d))

-- ---- the refusals, in order

-- 8 with the lowest wrong field, if there is one (§7.8)
unfoldable pub refusal8 : Disk → Option Reply
refusal8 d = refusal_at 8 (disk_header_fault d)

-- 9 with the lowest block whose record is wrong, if there is one (§7.9)
unfoldable pub refusal9 : Disk → Option Reply
refusal9 d = refusal_at 9 (fault_below blocks (map_fault d))

-- 19 with no place, if the good word is wrong (§7.26)
unfoldable pub refusal19 : Disk → Option Reply
refusal19 d = cond (good_right d) none (some (refusal 19))

-- 10 with the lowest file number that is not sound, if there is one (§7.10)
unfoldable pub refusal10 : Disk → Option Reply
refusal10 d = refusal_at 10 (fault_below slot_count (file_fault d))

-- 11 with no place, if the free word is wrong (§7.11)
unfoldable pub refusal11 : Disk → Option Reply
refusal11 d = cond (free_right d) none (some (refusal 11))

-- the first refusal of 8, 9 and 19, if there is one: with these the calls and the first track begin alike (§7.18 §7.26 §8.5 §8.14)
unfoldable pub start_refusal : Disk → Option Reply
start_refusal d = or_else (refusal8 d) (or_else (refusal9 d) (refusal19 d))

-- the first refusal of 8, 9, 19, 10 and 11, if there is one; nothing else of a disk is judged (§7.18 §7.23)
unfoldable pub disk_refusal : Disk → Option Reply
disk_refusal d = or_else (start_refusal d) (or_else (refusal10 d) (refusal11 d))
