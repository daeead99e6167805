-- The model (docs/RULES.md, section 9). What the caller gives to format and calls is all that it knows; it never sees an image.
-- It shares with the calls the sizes, what an Outcome is, and the layout: header, entry, record and file bytes (disk_header_byte, entry_for, entry_byte,
-- disk_with, stored_byte, part), is_free of a record, whether a block is in the list of bad ones, blocks_for as the number of blocks of a file (§6.17),
-- equality of names, and how the list of a batch is read. The good word stands among the header's bytes. The decisions are its own.
-- Assumes nothing: these are definitions.
use Rattle.std.specs.Prelude.{Bool, false, not, cond, ◌&&◌, List, [], ◌∷◌, ◌++◌, ℕ, zero, suc, ◌+◌, ◌-◌, ◌*◌, ◌/◌, ◌%◌, max, leb, ltb, eqb, length, drop}
use Rattle.std.proofs.Math.Option.{Option, none, some}
use Rattle.laws.specs.Lists.{tab}
use Rattle.laws.specs.Changes.{upd}
use Rattle.laws.specs.Below.{count, sum, firsts, lowest}
use Rattle.laws.specs.Options.{is_some}
use Rattle.sector_rules.specs.Geometry.{block_sectors, blocks}
use Rattle.sector_rules.specs.Replies.{reply_with, done, refusal}
use Rattle.sector_rules.specs.declared.Reply.{Reply}
use Rattle.file_rules.specs.declared.Entry.{Entry}
use Rattle.file_rules.specs.declared.Record.{Record}
use Rattle.file_rules.specs.declared.Record.TheVariants.{Free, Bad, System, File, Other}
use Rattle.file_rules.specs.Arguments.{FormatArguments, listed}
pub use Rattle.file_rules.specs.Arguments.{NamedFile}
use Rattle.file_rules.specs.Calls.{Outcome}
use Rattle.file_rules.specs.Directory.{name_eq, entry_byte, entry_for}
use Rattle.file_rules.specs.Disk.{Disk}
use Rattle.file_rules.specs.Items.{Item, removing, adding, ItemList, Items, WrongItem}
use Rattle.file_rules.specs.Map.{is_free}
use Rattle.file_rules.specs.Sizes.{slot_bytes, block_slots}
use Rattle.file_rules.specs.Written.{disk_header_byte, disk_with, stored_byte, part, blocks_for}

-- ---- slots

-- what a slot holds: a file, or none (§9.2)
abbrev pub HeldFile : Type 0
HeldFile = Option NamedFile

-- a filled slot: a file and its blocks, in sequence (§9.2)
pub record FilledSlot : Type 0 where
  pub file : NamedFile
  pub taken : List ℕ

-- the model's state (§9.2)
pub record Model : Type 0 where
  -- given at format
  pub arguments : FormatArguments
  -- accepted adds and removes, wrapping at 32 bits
  pub updates : ℕ
  -- P: the greatest number of files present at once
  pub peak : ℕ
  -- the slots from 1 up, by their number; slot 0 stays empty
  pub slots : ℕ → Option FilledSlot
  -- the directory's blocks, in sequence
  pub dir : List ℕ

-- the file of a slot (§9.2)
unfoldable pub file_of : Option FilledSlot → HeldFile
file_of none = none
file_of (some h) = some h.file

-- the blocks of the file of a slot (§9.2)
unfoldable pub taken_by : Option FilledSlot → List ℕ
taken_by none = []
taken_by (some h) = h.taken

-- the entry that add writes for a file (§6.13)
abbrev pub entry_from : NamedFile → Entry
entry_from x = entry_for x.name x.date (length x.content)

-- ---- blocks of files and of the directory, and the free word

-- how many blocks the file of a slot takes: (64 + length of data) / 1,536, rounded up (§9.7)
unfoldable pub held_blocks : HeldFile → ℕ
held_blocks none = 0
held_blocks (some x) = blocks_for (length x.content)

-- how many files are present (§9.6)
unfoldable pub present_in : Model → ℕ
present_in m = count (suc m.peak) (λ (k : ℕ). is_some (file_of (m.slots k)))

-- S: the blocks of all files present (§9.7)
unfoldable pub blocks_present : Model → ℕ
blocks_present m = sum (suc m.peak) (λ (k : ℕ). held_blocks (file_of (m.slots k)))

-- D: 1 + P / 24, rounded down (§9.7)
unfoldable pub dir_blocks : ℕ → ℕ
dir_blocks peak = suc (peak / block_slots)

-- B: how many different blocks a list has; one that stands there again later is not counted before (§9.7)
unfoldable pub different_blocks : List ℕ → ℕ
different_blocks [] = 0
different_blocks (x ∷ xs) = cond (listed x xs) (different_blocks xs) (suc (different_blocks xs))

-- blocks that bad blocks, directory and files can have: all but block 0 (§9.7)
abbrev pub usable : ℕ
usable = blocks - 1

-- the free word: 3 x (479 - B - D - S) (§9.7)
unfoldable pub free_word : ℕ → ℕ → ℕ → ℕ
free_word bad peak taken = block_sectors * (usable - (bad + (dir_blocks peak + taken)))

-- ---- the model's image

-- byte i of a slot: its entry, or zero (§9.5)
unfoldable pub slot_of : HeldFile → ℕ → ℕ
slot_of none i = 0
slot_of (some x) i = entry_byte (entry_from x) i

-- byte i of the file of a slot: its entry and its data (§9.5)
unfoldable pub held_bytes : HeldFile → ℕ → ℕ
held_bytes none i = 0
held_bytes (some x) i = stored_byte (entry_from x) x.content i

-- byte o of block s of the directory: entries in their slots (§9.5)
unfoldable pub dir_byte : (ℕ → HeldFile) → ℕ → ℕ → ℕ
dir_byte entries s o = slot_of (entries (s * block_slots + o / slot_bytes)) (o % slot_bytes)

-- byte o of a block with this record, where the directory has these entries and the files are these (§9.5)
unfoldable pub content : (ℕ → HeldFile) → (ℕ → HeldFile) → Record → ℕ → ℕ
content entries files Free o = 0
content entries files Bad o = 0
content entries files System o = 0
content entries files Other o = 0
content entries files (File zero s) o = dir_byte entries s o
content entries files (File (suc f) s) o = part (held_bytes (files (suc f))) s o

-- the place of b in a list of blocks, counted from i, if it is there (§9.5)
unfoldable pub position : ℕ → ℕ → List ℕ → Option ℕ
position b i [] = none
position b i (x ∷ xs) = cond (eqb x b) (some i) (position b (suc i) xs)

-- the record of file k with this sequence, or the other record where there is none (§9.5)
unfoldable pub or_record : ℕ → Option ℕ → Record → Record
or_record k none r = r
or_record k (some s) r = File k s

-- the record of block b by the slots below n: the slot that has it, and its place there (§9.5)
unfoldable pub slot_record : (ℕ → Option FilledSlot) → ℕ → ℕ → Record
slot_record slots zero b = Free
slot_record slots (suc k) b = or_record k (position b 0 (taken_by (slots k))) (slot_record slots k b)

-- the record of block b: that of block 0 is the system's, those of the list are bad, the directory's have file 0 (§9.5)
unfoldable pub model_record : List ℕ → (ℕ → Option FilledSlot) → List ℕ → ℕ → ℕ → Record
model_record bad slots dir peak b =
    cond (eqb b 0) System (cond (listed b bad) Bad (or_record 0 (position b 0 dir) (slot_record slots (suc peak) b)))

-- B of the format that the model began with (§9.7)
abbrev pub model_bad : Model → ℕ
model_bad m = different_blocks m.arguments.bad

-- byte o of the header, with the free word by the files present (§9.5)
unfoldable pub model_header : Model → ℕ → ℕ
model_header m = disk_header_byte m.arguments m.updates (free_word (model_bad m) m.peak (blocks_present m)) (suc m.peak)

-- the disk of the model's image: header and map, each slot's entry, each file at its blocks (§9.5)
unfoldable pub model_disk : Model → Disk
model_disk m =
    disk_with (model_header m) (model_record m.arguments.bad m.slots m.dir m.peak)
    (content (λ (k : ℕ). file_of (m.slots k)) (λ (k : ℕ). file_of (m.slots k)))

-- ---- format

-- the model after a format: no file, and block 1 for the directory (§9.2)
unfoldable pub model_format : FormatArguments → Model
model_format args = record { arguments = args; updates = 0; peak = 0; slots = λ (k : ℕ). none; dir = 1 ∷ [] }

-- ---- names and result buffers

-- whether a name has 1 to 36 bytes; written out, as a decision of the model's own (§6.15)
unfoldable pub acceptable : List ℕ → Bool
acceptable name = leb 1 (length name) && leb (length name) 36

-- the number of bytes, and the buffer with them first and the rest as it was; or 16 with that number, and the buffer as it was (§8.8 §9.3)
unfoldable pub result_of : List ℕ → List ℕ → Outcome
result_of bytes buf =
    cond (leb (length bytes) (length buf))
    (record { answer = reply_with 0 (length bytes) 0 0; buffer = bytes ++ drop (length bytes) buf })
    (record { answer = reply_with 16 (length bytes) 0 0; buffer = buf })

-- ---- which slot

-- whether a slot has the file of that name (§9.3)
unfoldable pub has_name : List ℕ → HeldFile → Bool
has_name name none = false
has_name name (some x) = name_eq x.name name

-- the slot with the file of that name, or the first past the peak (§9.3)
unfoldable pub slot_named : Model → List ℕ → ℕ
slot_named m name = lowest (λ (k : ℕ). has_name name (file_of (m.slots k))) (suc m.peak)

-- the lowest empty slot from 1 on, or the first past the peak (§8.9 §9.4)
unfoldable pub slot_vacant : Model → ℕ
slot_vacant m = lowest (λ (k : ℕ). ltb 0 k && not (is_some (file_of (m.slots k)))) (suc m.peak)

-- ---- list and read

-- the 64 bytes of the entry of a slot with a file (§9.3)
unfoldable pub held_entry : HeldFile → List ℕ
held_entry none = []
held_entry (some x) = tab (entry_byte (entry_from x)) slot_bytes

-- the entries of the filled slots below n, in order (§9.3)
unfoldable pub held_entries : (ℕ → HeldFile) → ℕ → List ℕ
held_entries slots zero = []
held_entries slots (suc n) = held_entries slots n ++ held_entry (slots n)

-- the call list in the model: 16, or the entries (§9.3)
unfoldable pub model_list : Model → List ℕ → Outcome
model_list m buf = result_of (held_entries (λ (k : ℕ). file_of (m.slots k)) (suc m.peak)) buf

-- the data of the file of a slot (§9.3)
unfoldable pub held_data : HeldFile → List ℕ
held_data none = []
held_data (some x) = x.content

-- the call read in the model: 12, 14, 16, or the data (§9.3)
unfoldable pub model_read : Model → List ℕ → List ℕ → Outcome
model_read m name buf =
    cond (acceptable name)
    (cond (ltb (slot_named m name) (suc m.peak)) (result_of (held_data (file_of (m.slots (slot_named m name)))) buf)
    (record { answer = refusal 14; buffer = buf }))
    (record { answer = refusal 12; buffer = buf })

-- ---- add and remove

-- a number of 32 bits: 0 follows 2^32 - 1 (§6.3)
unfoldable pub wrap : ℕ → ℕ
wrap n = n % 4294967296

-- the peak once a file more is present (§9.6)
unfoldable pub peak_then : Model → ℕ
peak_then m = max m.peak (suc (present_in m))

-- whether bad blocks, directory and files, with this file counted, are no more than the usable blocks (§9.7)
unfoldable pub fits : Model → NamedFile → Bool
fits m x = leb (model_bad m + (dir_blocks (peak_then m) + (blocks_present m + blocks_for (length x.content)))) usable

-- whether no slot and not the directory has block b, and it is not bad (§8.11 §9.4)
unfoldable pub free_in : List ℕ → (ℕ → Option FilledSlot) → List ℕ → ℕ → ℕ → Bool
free_in bad slots dir peak b = is_free (model_record bad slots dir peak b)

-- the directory's blocks once a file more is present: a new one is the lowest free (§8.10 §9.4)
unfoldable pub dir_then : Model → List ℕ
dir_then m =
    cond (ltb (dir_blocks m.peak) (dir_blocks (peak_then m)))
    (m.dir ++ firsts blocks 1 (free_in m.arguments.bad m.slots m.dir m.peak)) m.dir

-- the model with the file x in slot k; its blocks are the lowest free, in sequence (§8.11 §9.4)
unfoldable pub fill : Model → ℕ → NamedFile → Model
fill m k x =
    record {
      arguments = m.arguments;
      updates = wrap (m.updates + 1);
      peak = peak_then m;
      slots =
          upd m.slots k
          (some (record { file = x; taken = firsts blocks (blocks_for (length x.content)) (free_in m.arguments.bad m.slots (dir_then m) m.peak) }));
      dir = dir_then m;
    }

-- the model with slot k empty; the directory keeps its blocks (§9.4)
unfoldable pub clear : Model → ℕ → Model
clear m k =
    record {
      arguments = m.arguments;
      updates = wrap (m.updates + 1);
      peak = m.peak;
      slots = upd m.slots k none;
      dir = m.dir;
    }

-- what a call that writes leaves: its reply and the model (§9.4)
pub record ModelChanged : Type 0 where
  pub answer : Reply
  pub model_after : Model

-- the call add in the model: 12, 13 with the slot, 15, or done (§9.4)
unfoldable pub model_add : Model → NamedFile → ModelChanged
model_add m x =
    cond (acceptable x.name)
    (cond (ltb (slot_named m x.name) (suc m.peak)) (record { answer = reply_with 13 (slot_named m x.name) 0 0; model_after = m })
    (cond (fits m x) (record { answer = done; model_after = fill m (slot_vacant m) x }) (record { answer = refusal 15; model_after = m })))
    (record { answer = refusal 12; model_after = m })

-- the call remove in the model: 12, 14, or done (§9.4)
unfoldable pub model_remove : Model → List ℕ → ModelChanged
model_remove m name =
    cond (acceptable name)
    (cond (ltb (slot_named m name) (suc m.peak)) (record { answer = done; model_after = clear m (slot_named m name) })
    (record { answer = refusal 14; model_after = m }))
    (record { answer = refusal 12; model_after = m })

-- ---- batch

-- an item in the model (§9.9)
unfoldable pub model_item : Model → Item → ModelChanged
model_item m (removing name) = model_remove m name
model_item m (adding x) = model_add m x

-- the items from number n on in the model: as adds and removes in turn, up to the first refusal, which has the item's number as its third place (§9.9)
unfoldable pub model_items : Model → ℕ → List Item → ModelChanged
model_items m n [] = record { answer = done; model_after = m }
model_items m n (x ∷ xs) =
    let one : ModelChanged = model_item m x in
    cond (eqb one.answer.number 0) (model_items one.model_after (suc n) xs)
    (record { answer = reply_with one.answer.number one.answer.first one.answer.second n; model_after = m })

-- the call batch in the model: 20, which names the first wrong item, or the items (§9.9)
unfoldable pub model_batch : Model → ItemList → ModelChanged
model_batch m (Items xs) = model_items m 1 xs
model_batch m (WrongItem n) = record { answer = reply_with 20 0 0 n; model_after = m }
