-- Directory entries, slots and names (docs/RULES.md, section 6).
-- Assumes nothing: these are definitions.
use Rattle.std.specs.Prelude.{Bool, not, cond, ◌&&◌, List, map, ℕ, ◌+◌, ◌*◌, ◌/◌, ◌%◌, leb, ltb, eqb, length, get_or, take}
use Rattle.laws.specs.Lists.{tab, same}
use Rattle.laws.specs.Changes.{patch}
use Rattle.laws.specs.Below.{all, lowest}
use Rattle.laws.specs.Numbers.{high_byte, at16, at32}
use Rattle.file_rules.specs.declared.Entry.{Entry}
use Rattle.file_rules.specs.Sizes.{block_bytes, slot_bytes, block_slots, name_most}
use Rattle.file_rules.specs.Disk.{Disk}
use Rattle.file_rules.specs.Map.{part_block}

-- ---- names

-- a byte of a name as it is compared: A to Z, 41 to 5A (hex), are read as a to z, 61 to 7A, and every other byte as it is (§6.14)
unfoldable pub lowered : ℕ → ℕ
lowered x = cond (leb 0x41 x && leb x 0x5A) (x + 0x20) x

-- whether two names are equal: so read, they have the same bytes in the same order, and so the same length (§6.14)
unfoldable pub name_eq : List ℕ → List ℕ → Bool
name_eq a b = same (map lowered a) (map lowered b)

-- whether a file's name has 1 to 36 bytes (§6.15)
unfoldable pub name_right : List ℕ → Bool
name_right name = leb 1 (length name) && leb (length name) name_most

-- ---- entries

-- the entry in 64 bytes: 0-3 the file's length, 14-15 the name's length, 16-51 the name, 52-55 the date (§6.13)
unfoldable pub entry_of : (ℕ → ℕ) → Entry
entry_of f = record { name = tab (λ (i : ℕ). f (16 + i)) name_most; length = at32 f 0; namelen = at16 f 14; date = at32 f 52 }

-- byte i of an entry as written: all else is zero (§6.13)
unfoldable pub entry_byte : Entry → ℕ → ℕ
entry_byte e =
    patch (patch (patch (patch (λ (i : ℕ). 0)
    0 4 (high_byte 4 e.length))
    14 2 (high_byte 2 e.namelen))
    16 name_most (λ (i : ℕ). get_or e.name i 0))
    52 4 (high_byte 4 e.date)

-- the name in an entry: as many of the 36 bytes as its length says (§6.13)
unfoldable pub name_of : Entry → List ℕ
name_of e = take e.namelen e.name

-- the entry of a file with this name and date and so many bytes of data (§6.13)
unfoldable pub entry_for : List ℕ → ℕ → ℕ → Entry
entry_for name date size =
    record { name = tab (λ (i : ℕ). get_or name i 0) name_most; length = slot_bytes + size; namelen = length name; date = date }

-- ---- slots

-- byte i of slot k, by the sequence of the directory's blocks (§6.11)
unfoldable pub slot_byte : Disk → ℕ → ℕ → ℕ
slot_byte d k i = d (part_block d 0 (k / block_slots)) (k % block_slots * slot_bytes + i)

-- the entry in slot k (§6.13)
unfoldable pub slot_entry : Disk → ℕ → Entry
slot_entry d k = entry_of (slot_byte d k)

-- the name of the entry in slot k (§6.13)
unfoldable pub slot_name : Disk → ℕ → List ℕ
slot_name d k = name_of (slot_entry d k)

-- whether slot k is held: its 64 bytes are not all zero; slot 0 never is (§6.12)
unfoldable pub held : Disk → ℕ → Bool
held d k = ltb 0 k && not (all (λ (i : ℕ). eqb (slot_byte d k i) 0) slot_bytes)

-- the length of the directory in bytes, from whole blocks and bytes more (§6.6)
unfoldable pub dir_bytes : Disk → ℕ
dir_bytes d = at16 (d 0) 34 * block_bytes + at16 (d 0) 36

-- the directory's end: the number of the first slot that it does not have (§6.11)
unfoldable pub dir_end : Disk → ℕ
dir_end d = dir_bytes d / slot_bytes

-- the lowest held slot that has this name, or the directory's end (§6.12 §7.13 §7.14)
unfoldable pub find_name : Disk → List ℕ → ℕ
find_name d name = lowest (λ (k : ℕ). held d k && name_eq (slot_name d k) name) (dir_end d)

-- the lowest vacant slot from 1 on, since slot 0 is not taken, or the directory's end (§6.12 §8.9)
unfoldable pub vacant_slot : Disk → ℕ
vacant_slot d = lowest (λ (k : ℕ). ltb 0 k && not (held d k)) (dir_end d)
