-- Format, check, list, read, add and remove (docs/RULES.md, section 8): the reply, and what is left of the lent image or buffer, for any image.
-- Assumes nothing: these are definitions.
use Rattle.std.specs.Prelude.{Bool, cond, ◌&&◌, List, [], ◌++◌, ℕ, zero, suc, ◌+◌, ◌-◌, ◌/◌, ◌%◌, leb, ltb, eqb, length}
use Rattle.laws.specs.Lists.{tab}
use Rattle.laws.specs.Changes.{put}
use Rattle.laws.specs.Below.{firsts}
use Rattle.sector_rules.specs.declared.Reply.{Reply}
use Rattle.sector_rules.specs.Replies.{reply_with, done, refusal}
pub use Rattle.sector_rules.specs.Replies.{wrong_length}
unfoldable pub use Rattle.sector_rules.specs.Replies.{unless}
use Rattle.sector_rules.specs.Geometry.{blocks, image_bytes}
use Rattle.file_rules.specs.declared.Record.{Record}
use Rattle.file_rules.specs.declared.Record.TheVariants.{Free, Bad, System, File}
use Rattle.file_rules.specs.declared.Entry.{Entry}
use Rattle.file_rules.specs.Arguments.{FormatArguments, listed, bad_list_right, count_listed}
use Rattle.file_rules.specs.Sizes.{slot_bytes, block_slots, title_most, free_sectors}
use Rattle.file_rules.specs.Disk.{Disk, disk_of, image_of}
use Rattle.file_rules.specs.Map.{free_at, free_count, file_byte}
use Rattle.file_rules.specs.Directory.{name_right, entry_byte, entry_for, slot_byte, slot_entry, held, dir_end, find_name, vacant_slot}
use Rattle.file_rules.specs.Check.{disk_refusal}
use Rattle.file_rules.specs.Written.{disk_header_byte, disk_with, stored_byte, blocks_for, zeros, set_slot, set_free, set_end, step_update, give_blocks}
use Rattle.file_rules.specs.Written.{free_blocks}

-- what a call that reads leaves: its reply and the buffer (§8.8)
pub record Outcome : Type 0 where
  pub answer : Reply
  pub buffer : List ℕ

-- what a call that writes leaves: its reply and the disk (§7.17)
pub record DiskChanged : Type 0 where
  pub answer : Reply
  pub disk_after : Disk

-- what a call that writes leaves: its reply and the image (§7.17)
pub record ImageChanged : Type 0 where
  pub answer : Reply
  pub image : List ℕ

-- a refusal leaves the buffer as it was (§7.19)
unfoldable pub buffer_kept : List ℕ → Reply → Outcome
buffer_kept buf r = record { answer = r; buffer = buf }

-- a refusal leaves the disk as it was (§7.19)
unfoldable pub disk_kept : Disk → Reply → DiskChanged
disk_kept d r = record { answer = r; disk_after = d }

-- a refusal leaves the image as it was (§7.19)
unfoldable pub image_kept : List ℕ → Reply → ImageChanged
image_kept image r = record { answer = r; image = image }

-- ---- 1: the block image has another length

-- the block image has 737,280 bytes (§7.1)
unfoldable pub image_right : List ℕ → Bool
image_right image = eqb (length image) image_bytes

-- ---- the calls that judge a disk first

-- 1 (§7.1), then 8, 9, 19, 10 and 11, refused in the way of the call; what the call does on a sound disk comes after (§8.5)
unfoldable pub on_sound : {A : Type 0} → List ℕ → (Reply → A) → (Disk → A) → A
on_sound image refuse act = cond (image_right image) (unless (disk_refusal (disk_of image)) refuse (act (disk_of image))) (refuse wrong_length)

-- ---- format

-- the records of a fresh disk: block 0 is the system's, block 1 is file 0 with sequence 0, those of the list are bad (§8.4)
unfoldable pub fresh_owner : FormatArguments → ℕ → Record
fresh_owner args zero = System
fresh_owner args (suc zero) = File 0 0
fresh_owner args (suc (suc b)) = cond (listed (suc (suc b)) args.bad) Bad Free

-- the header of a fresh disk: update count 0, free word 3 x (480 - 2 - B), a directory of one slot (§8.4)
abbrev pub fresh_header : FormatArguments → ℕ → ℕ
fresh_header args = disk_header_byte args 0 (free_sectors (blocks - 2 - count_listed args.bad)) 1

-- a fresh disk: this header, these records, and zero in all other bytes (§8.4)
unfoldable pub format_disk : FormatArguments → Disk
format_disk args = disk_with (fresh_header args) (fresh_owner args) (λ (r : Record) (o : ℕ). 0)

-- the call format: 1, 12 where the disk's name is too long (§6.15) or the list has a number that cannot be a bad block's (§7.12), or the image of a
-- fresh disk (§8.4 §7.1)
unfoldable pub format : List ℕ → FormatArguments → ImageChanged
format image args =
    cond (image_right image)
    (cond (leb (length args.title) title_most && bad_list_right args.bad) (record { answer = done; image = image_of (format_disk args) })
    (image_kept image (refusal 12)))
    (image_kept image wrong_length)

-- ---- check

-- the call check: 1, 8, 9, 19, 10 and 11 alone (§8.5)
unfoldable pub check : List ℕ → Reply
check image = on_sound image (λ (r : Reply). r) (λ (d : Disk). done)

-- ---- list and read

-- the bytes at the beginning of the buffer if they fit, else 16 with how many there are (§8.8 §7.16)
unfoldable pub deliver : List ℕ → List ℕ → Outcome
deliver bytes buf =
    cond (leb (length bytes) (length buf))
    (record { answer = reply_with 0 (length bytes) 0 0; buffer = put buf 0 bytes })
    (buffer_kept buf (reply_with 16 (length bytes) 0 0))

-- the 64 bytes of each held slot below n, unchanged, in the order of the slots (§8.6)
unfoldable pub entries : Disk → ℕ → List ℕ
entries d zero = []
entries d (suc n) = entries d n ++ cond (held d n) (tab (slot_byte d n) slot_bytes) []

-- the call list on a sound disk: 16, or the entries (§8.6 §7.16)
unfoldable pub list_sound : Disk → List ℕ → Outcome
list_sound d buf = deliver (entries d (dir_end d)) buf

-- the call list: 1 and the judgement of the disk first (§8.6 §8.5)
unfoldable pub list : List ℕ → List ℕ → Outcome
list image buf = on_sound image (buffer_kept buf) (λ (d : Disk). list_sound d buf)

-- the data of file k: its bytes from 64 up to its length (§8.7 §6.16)
unfoldable pub data_of : Disk → ℕ → List ℕ
data_of d k = tab (λ (i : ℕ). file_byte d k (slot_bytes + i)) ((slot_entry d k).length - slot_bytes)

-- the call read on a sound disk: 12, 14, 16, or the data (§8.7 §7.12 §7.14 §7.16)
unfoldable pub read_sound : Disk → List ℕ → List ℕ → Outcome
read_sound d name buf =
    cond (name_right name)
    (cond (ltb (find_name d name) (dir_end d)) (deliver (data_of d (find_name d name)) buf) (buffer_kept buf (refusal 14)))
    (buffer_kept buf (refusal 12))

-- the call read: 1 and the judgement of the disk first (§8.7 §8.5)
unfoldable pub read : List ℕ → List ℕ → List ℕ → Outcome
read image name buf = on_sound image (buffer_kept buf) (λ (d : Disk). read_sound d name buf)

-- ---- add

-- whether slot k needs a new block of the directory: it is the slot at the end, and its number is a multiple of 24 (§8.10)
unfoldable pub opens_block : Disk → ℕ → Bool
opens_block d k = eqb k (dir_end d) && eqb (k % block_slots) 0

-- the disk, with that new block given to the directory: the lowest free one, as the next sequence (§8.10)
unfoldable pub grow_dir : Disk → ℕ → Disk
grow_dir d k = cond (opens_block d k) (give_blocks d 0 zeros (k / block_slots) (firsts blocks 1 (free_at d))) d

-- the disk, with a directory longer by slot k, if k was its end (§8.9)
unfoldable pub end_after : ℕ → ℕ → Disk → Disk
end_after k end d = cond (eqb k end) (set_end d (suc k)) d

-- the disk after an add: a new block of the directory (§8.10); then the file's blocks, the lowest free, in ascending order, with sequences from 0 (§8.11);
-- slot, length of the directory, free word and update count; no other byte (§8.12)
unfoldable pub add_at : Disk → ℕ → Entry → List ℕ → Disk
add_at d k e content =
    let d₁ : Disk = grow_dir d k in
    let d₂ : Disk = give_blocks d₁ k (stored_byte e content) 0 (firsts blocks (blocks_for (length content)) (free_at d₁)) in
    step_update (set_free (end_after k (dir_end d) (set_slot d₂ k (entry_byte e))))

-- the blocks that an add needs for a file with so many bytes of data in slot k (§8.10 §7.15)
unfoldable pub needed : Disk → ℕ → ℕ → ℕ
needed d k size = cond (opens_block d k) (suc (blocks_for size)) (blocks_for size)

-- the call add on a sound disk: 12, 13 with the slot that has the name, 15, or the file is added (§8.9 §7.12 §7.13 §7.15)
unfoldable pub add_sound : Disk → List ℕ → ℕ → List ℕ → DiskChanged
add_sound d name date content =
    cond (name_right name)
    (cond (ltb (find_name d name) (dir_end d)) (disk_kept d (reply_with 13 (find_name d name) 0 0))
    (cond (leb (needed d (vacant_slot d) (length content)) (free_count d))
    (record { answer = done; disk_after = add_at d (vacant_slot d) (entry_for name date (length content)) content })
    (disk_kept d (refusal 15))))
    (disk_kept d (refusal 12))

-- the same change, as the image of the disk (§1.3)
unfoldable pub imaged : DiskChanged → ImageChanged
imaged c = record { answer = c.answer; image = image_of c.disk_after }

-- the call add: 1 and the judgement of the disk first (§8.9 §8.5)
unfoldable pub add : List ℕ → List ℕ → ℕ → List ℕ → ImageChanged
add image name date content = on_sound image (image_kept image) (λ (d : Disk). imaged (add_sound d name date content))

-- ---- remove

-- the disk after a remove: the file's blocks zero and free, its slot zero, free word and update count; the directory keeps its length (§8.13)
unfoldable pub remove_at : Disk → ℕ → Disk
remove_at d k = step_update (set_free (set_slot (free_blocks blocks d k) k zeros))

-- the call remove on a sound disk: 12, 14, or the file is removed (§8.13 §7.12 §7.14)
unfoldable pub remove_sound : Disk → List ℕ → DiskChanged
remove_sound d name =
    cond (name_right name)
    (cond (ltb (find_name d name) (dir_end d)) (record { answer = done; disk_after = remove_at d (find_name d name) })
    (disk_kept d (refusal 14)))
    (disk_kept d (refusal 12))

-- the call remove: 1 and the judgement of the disk first (§8.13 §8.5)
unfoldable pub remove : List ℕ → List ℕ → ImageChanged
remove image name = on_sound image (image_kept image) (λ (d : Disk). imaged (remove_sound d name))
