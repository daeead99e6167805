-- history (docs/PROMISES.md; docs/RULES.md, section 9): one statement, for every format that is accepted, whatever the image held, and every list of calls.
-- Beside it history_check: the check passes after every history; calls_made: what the calls of a history are; and every_byte: blocks and offsets reach every
-- byte of an image.
-- Assumes nothing: these are definitions. The proofs are `history`, `history_check`, `calls_made` and `every_byte` in Laws/Theorem/History.antt.
use Rattle.std.specs.Prelude.{◌≡◌, true, cond, List, [], ℕ, suc, ◌+◌, ◌*◌, ◌/◌, ◌%◌, ◌≤◌, ◌<◌, max, leb, length, get_or}
use Rattle.std.proofs.Math.Option.{Option, none, some}
use Rattle.laws.specs.Numbers.{at16, at32}
use Rattle.sector_rules.specs.Geometry.{blocks, image_bytes}
use Rattle.sector_rules.specs.Replies.{done, refusal}
use Rattle.file_rules.specs.declared.Record.TheVariants.{File}
use Rattle.file_rules.specs.Arguments.{FormatArguments, EachCanBeBad}
use Rattle.file_rules.specs.Batch.{batch}
use Rattle.file_rules.specs.Calls.{Outcome, format, check, list, read, add, remove}
use Rattle.file_rules.specs.Directory.{entry_byte, slot_byte, held, dir_end}
use Rattle.file_rules.specs.Disk.{Disk, block_of, offset_of, disk_of, image_of}
use Rattle.file_rules.specs.Histories.{Call, image_outs, image_end, model_outs, model_end, changes, files_left, most_present, blocks_of_files, file_named}
use Rattle.file_rules.specs.Histories.{IsPresent, to_add, to_remove, to_list, to_read, to_batch, image_out, image_step}
use Rattle.file_rules.specs.Map.{record_at}
use Rattle.file_rules.specs.Model.{NamedFile, entry_from, dir_blocks, different_blocks, usable, free_word, model_disk, model_format, result_of}
use Rattle.file_rules.specs.Sizes.{block_bytes, slot_bytes, block_slots, title_most}
use Rattle.file_rules.specs.Written.{blocks_for}

-- what a read gives of the file that was found: its data and then the buffer's rest, or 16; where none was found 14, and the buffer as it was (§9.6)
unfoldable pub data_found : Option NamedFile → List ℕ → Outcome
data_found none buf = record { answer = refusal 14; buffer = buf }
data_found (some x) buf = result_of x.content buf

-- slot k has the entry of file x (§9.6)
abbrev pub HasEntry : Disk → ℕ → NamedFile → Type 0
HasEntry d k x = (i : ℕ) → i < slot_bytes → slot_byte d k i ≡ entry_byte (entry_from x) i

-- byte o of block b is in the header or the map, in the slot of a file present, or in the entry and data of such a file in its blocks (§9.8)
pub data Belongs (d : Disk) (files : List NamedFile) : ℕ → ℕ → Type 0 where
  in_head : (o : ℕ) → Belongs d files 0 o
  in_slot : (b o k : ℕ) (x : NamedFile) → IsPresent x files → 0 < k → k < dir_end d → HasEntry d k x
      → record_at d b ≡ File 0 (k / block_slots) → o / slot_bytes ≡ k % block_slots → Belongs d files b o
  in_file : (b o k s : ℕ) (x : NamedFile) → IsPresent x files → 0 < k → k < dir_end d → HasEntry d k x
      → record_at d b ≡ File k s → o < block_bytes → s * block_bytes + o < slot_bytes + length x.content → Belongs d files b o

-- what holds after a history: `image` is the image at the end, `outs` the replies and buffers in order, `files` those that the accepted adds and removes leave,
-- `most` the greatest number of them present at once (§9.5 §9.6 §9.7 §9.8)
pub record Holds (args : FormatArguments) (calls : List Call)
    (image : List ℕ) (outs : List Outcome) (files : List NamedFile) (most : ℕ) : Type 0 where
  -- each reply, the whole buffer after each list and read, and the whole image at the end are the model's
  pub same_outs : outs ≡ model_outs (model_format args) calls
  pub same_image : image ≡ image_of (model_disk (model_end (model_format args) calls))
  pub whole : length image ≡ image_bytes
  -- the files present are those that the accepted adds and removes leave, with their bytes: a read of any name of 1 to 36 bytes gives theirs, or 16 or 14,
  -- each has its entry in a slot, and each held slot has the entry of one
  pub read_gives : (name buf : List ℕ) → 1 ≤ length name → length name ≤ 36 → read image name buf ≡ data_found (file_named name files) buf
  pub has_slot : (x : NamedFile) → IsPresent x files → (k : ℕ) × (0 < k) × (k < dir_end (disk_of image)) × HasEntry (disk_of image) k x
  pub slot_has : (k : ℕ) → k < dir_end (disk_of image) → held (disk_of image) k ≡ true
      → (x : NamedFile) × IsPresent x files × HasEntry (disk_of image) k x
  -- P, which the model counts as its peak, is the greatest number of them present at once
  pub peak_is : (model_end (model_format args) calls).peak ≡ most
  -- the update count is the number of accepted adds and removes, those of batches among them, in 32 bits (§6.3 §9.9)
  pub updates_are : at32 (disk_of image 0) 16 ≡ length (changes calls outs) % 4294967296
  -- the free word is 3 x (479 - B - D - S), and B + D + S is at most 479
  pub free_word_lem : at16 (disk_of image 0) 20 ≡ free_word (different_blocks args.bad) most (blocks_of_files files)
  pub no_less : different_blocks args.bad + (dir_blocks most + blocks_of_files files) ≤ usable
  -- an add with a new name of 1 to 36 bytes is refused, with 15, exactly when with its file counted the word would fall below zero
  pub add_gives : (x : NamedFile) → 1 ≤ length x.name → length x.name ≤ 36 → file_named x.name files ≡ none
      → (add image x.name x.date x.content).answer
      ≡ cond
      (leb (different_blocks args.bad + (dir_blocks (max most (suc (length files))) + (blocks_of_files files + blocks_for (length x.content)))) usable)
      done (refusal 15)
  -- every byte outside header, map, directory slots of present files and those files is zero (§9.8). Blocks and offsets reach every byte of the image: its byte
  -- i is the disk's byte at block `block_of i`, offset `offset_of i` (EveryByte, below; the law image_disk says it of whole images)
  pub zero_else : (b o : ℕ) → (Belongs (disk_of image) files b o → ⊥) → disk_of image b o ≡ 0

-- the image after the format, with which a history begins (§9.1)
abbrev pub formatted : List ℕ → FormatArguments → List ℕ
formatted old args = (format old args).image

-- history: an accepted format of an image that held anything, then the calls, each on the image that the one before left (§9.1)
abbrev pub EveryHistory : Type 0
EveryHistory =
    (old : List ℕ) (args : FormatArguments) (calls : List Call) → length old ≡ image_bytes → length args.title ≤ title_most → EachCanBeBad args.bad
    → ((format old args).answer ≡ done)
    × Holds args calls
    (image_end (formatted old args) calls)
    (image_outs (formatted old args) calls)
    (files_left [] calls (image_outs (formatted old args) calls))
    (most_present [] calls (image_outs (formatted old args) calls))

-- history_check: after every history check accepts the image, so that nothing is found that it judges (§9.5)
abbrev pub HistoryCheck : Type 0
HistoryCheck =
    (old : List ℕ) (args : FormatArguments) (calls : List Call) → length old ≡ image_bytes → length args.title ≤ title_most → EachCanBeBad args.bad
    → check (image_end (formatted old args) calls) ≡ done

-- calls_made: each call of a history is the call of its name in Calls.antt and Batch.antt, for any image: reply, buffer and the image after it (§9.1)
pub record CallsMade : Type 0 where
  pub made_add : (image : List ℕ) (x : NamedFile)
      → (image_out image (to_add x) ≡ record { answer = (add image x.name x.date x.content).answer; buffer = [] })
      × (image_step image (to_add x) ≡ (add image x.name x.date x.content).image)
  pub made_remove : (image name : List ℕ) → (image_out image (to_remove name) ≡ record { answer = (remove image name).answer; buffer = [] })
      × (image_step image (to_remove name) ≡ (remove image name).image)
  pub made_list : (image buffer : List ℕ) → (image_out image (to_list buffer) ≡ list image buffer) × (image_step image (to_list buffer) ≡ image)
  pub made_read : (image name buffer : List ℕ) → (image_out image (to_read name buffer) ≡ read image name buffer)
      × (image_step image (to_read name buffer) ≡ image)
  pub made_batch : (image items : List ℕ) → (image_out image (to_batch items) ≡ record { answer = (batch image items).answer; buffer = [] })
      × (image_step image (to_batch items) ≡ (batch image items).image)

-- every_byte: byte i of an image is the byte of its disk at the block and offset that i belongs to (§1.3 §1.6)
abbrev pub EveryByte : Type 0
EveryByte =
    (image : List ℕ) (i : ℕ) → i < image_bytes
    → (block_of i < blocks) × (offset_of i < block_bytes) × (get_or image i 0 ≡ disk_of image (block_of i) (offset_of i))
