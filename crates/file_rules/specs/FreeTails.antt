-- free_tails and tails_unread (§6.9): a record is free by its first byte, FD; the two bytes after it, its tail, may be anything.
-- free_tails: what is counted as free, what 9 and 15 say of it, what add and remove write into records and free word, which records and free blocks they leave
-- byte for byte, tails among them; and that no history makes another tail than FF FF.
-- tails_unread: no answer depends on a tail. Disks that differ at most in tails of free records get the same answers, and differ at most in tails afterwards.
-- Assumes nothing: these are definitions. The proofs are `free_tails` in Laws/Theorem/FreeTails.antt and `tails_unread` in TailsUnread.antt there.
use Rattle.std.specs.Prelude.{◌≡◌, ◌≢◌, Bool, true, false, cond, ◌&&◌, List, ℕ, suc, ◌-◌, ◌*◌, ◌/◌, ◌%◌, ◌≤◌, ◌<◌, leb, eqb, length, take}
use Rattle.std.proofs.Math.Option.{none}
use Rattle.laws.specs.Below.{count}
use Rattle.laws.specs.Numbers.{at16}
use Rattle.sector_rules.specs.Geometry.{blocks, image_bytes}
use Rattle.sector_rules.specs.Replies.{reply_with, done, refusal}
use Rattle.file_rules.specs.declared.Record.{Record}
use Rattle.file_rules.specs.declared.Record.TheVariants.{File}
use Rattle.file_rules.specs.Arguments.{FormatArguments, EachCanBeBad}
use Rattle.file_rules.specs.Batch.{batch}
use Rattle.file_rules.specs.Calls.{ImageChanged, check, list, read, add, remove}
use Rattle.file_rules.specs.Check.{refusal8}
use Rattle.file_rules.specs.Directory.{dir_end, find_name, vacant_slot}
use Rattle.file_rules.specs.Disk.{Disk, disk_of}
use Rattle.file_rules.specs.FirstTrack.{first_track_result}
use Rattle.file_rules.specs.Histories.{Call, image_end}
use Rattle.file_rules.specs.History.{formatted}
use Rattle.file_rules.specs.Map.{encode, record_byte, record_at, bears, free_at}
use Rattle.file_rules.specs.Sizes.{map_start, record_bytes, title_most}
use Rattle.file_rules.specs.Written.{blocks_for}

-- ---- a record's bytes

-- the record of block b has the same three bytes on both disks (§6.8)
abbrev pub SameRecord : Disk → Disk → ℕ → Type 0
SameRecord d e b = (i : ℕ) → i < record_bytes → record_byte d b i ≡ record_byte e b i

-- the numbers in the record of block b are bytes, as those of every lent image are (§6.8)
abbrev pub InBytes : Disk → ℕ → Type 0
InBytes d b = (i : ℕ) → i < record_bytes → record_byte d b i < 256

-- the record of block b is FD FF FF (§6.9)
abbrev pub IsWrittenFree : Disk → ℕ → Type 0
IsWrittenFree d b = (record_byte d b 0 ≡ 0xFD) × (record_byte d b 1 ≡ 0xFF) × (record_byte d b 2 ≡ 0xFF)

-- every record is in bytes (§6.8)
abbrev pub MapInBytes : Disk → Type 0
MapInBytes d = (b : ℕ) → b < blocks → InBytes d b

-- how many records begin with FD (§6.9)
unfoldable pub free_by_first : Disk → ℕ
free_by_first d = count blocks (λ (b : ℕ). eqb (record_byte d b 0) 0xFD)

-- whether the directory takes a block for slot k: k is its end, and a multiple of 24 (§8.10)
unfoldable pub takes_block : Disk → ℕ → Bool
takes_block d k = eqb k (dir_end d) && eqb (k % 24) 0

-- how many blocks an add takes for slot k and so many bytes of data: the file's, and the directory's (§8.10 §8.11)
unfoldable pub blocks_taken : Disk → ℕ → ℕ → ℕ
blocks_taken d k size = cond (takes_block d k) (suc (blocks_for size)) (blocks_for size)

-- the record that an add for slot k gives to the free block below which r others are free: where the directory takes a block, the first is the directory's, as
-- its next sequence, and those after it are the file's; else all are the file's, whose sequences begin with 0 (§8.10 §8.11)
unfoldable pub taken_record : Disk → ℕ → ℕ → Record
taken_record d k r = cond (takes_block d k) (cond (eqb r 0) (File 0 (k / 24)) (File k (r - 1))) (File k r)

-- ---- what is promised: free by the first byte, and records that stay

-- free_tails (§6.4 §6.9 §7.9 §7.11 §7.15 §8.10 §8.11 §8.12 §8.13 §8.14)
pub record FreeTails : Type 0 where
  -- a record is free if and only if its first byte is FD
  pub first_byte : (d : Disk) (b : ℕ) → InBytes d b → free_at d b ≡ eqb (record_byte d b 0) 0xFD
  -- 9 names a record that begins with FD at block 0 alone, and there it does where 1 and 8 are not given (§7.9)
  pub nine_names : (image : List ℕ) (b : ℕ) → check image ≡ reply_with 9 b 0 0 → InBytes (disk_of image) b → record_byte (disk_of image) b 0 ≡ 0xFD → b ≡ 0
  pub nine_zero : (image : List ℕ) → length image ≡ image_bytes → refusal8 (disk_of image) ≡ none
      → InBytes (disk_of image) 0 → record_byte (disk_of image) 0 0 ≡ 0xFD → check image ≡ reply_with 9 0 0 0
  -- on a disk that check accepts the free word is 3 x the records that begin with FD; where it gives 11, it is another number (§6.4 §7.11)
  pub word_counts : (image : List ℕ) → MapInBytes (disk_of image) → check image ≡ done → at16 (disk_of image 0) 20 ≡ 3 * free_by_first (disk_of image)
  pub word_wrong : (image : List ℕ) → MapInBytes (disk_of image) → check image ≡ refusal 11 → at16 (disk_of image 0) 20 ≢ 3 * free_by_first (disk_of image)
  -- of an accepted first track so is its first count; the second is the header's good word, the third all other records (§8.14)
  pub track_counts : (image : List ℕ) → length image ≡ image_bytes → MapInBytes (disk_of image) → (first_track_result (take 9216 image)).reply ≡ done
      → first_track_result (take 9216 image)
      ≡ record { reply = done; free = 3 * free_by_first (disk_of image); good = at16 (disk_of image 0) 22; held = blocks - free_by_first (disk_of image) }
  -- an add of a new name of 1 to 36 bytes to an accepted disk is refused, with 15, exactly where it takes more blocks than begin with FD (§7.15)
  pub add_room : (image name : List ℕ) (date : ℕ) (content : List ℕ) → MapInBytes (disk_of image) → check image ≡ done
      → 1 ≤ length name → length name ≤ 36 → find_name (disk_of image) name ≡ dir_end (disk_of image)
      → (add image name date content).answer
      ≡ cond (leb (blocks_taken (disk_of image) (vacant_slot (disk_of image)) (length content)) (free_by_first (disk_of image))) done (refusal 15)
  -- an add, whatever its reply, leaves each record that is not free
  pub add_others : (image name : List ℕ) (date : ℕ) (content : List ℕ) (b : ℕ) → b < blocks → free_at (disk_of image) b ≡ false
      → SameRecord (disk_of image) (disk_of (add image name date content).image) b
  -- and each below which as many are free as it takes: it takes the lowest (§8.11 §8.12)
  pub add_free : (image name : List ℕ) (date : ℕ) (content : List ℕ) (b : ℕ) → b < blocks
      → blocks_taken (disk_of image) (vacant_slot (disk_of image)) (length content) ≤ count b (free_at (disk_of image))
      → SameRecord (disk_of image) (disk_of (add image name date content).image) b
  -- of such a block that is free every byte stays, whatever it was (§8.12)
  pub add_bytes_stay : (image name : List ℕ) (date : ℕ) (content : List ℕ) (b : ℕ) → b < blocks → free_at (disk_of image) b ≡ true
      → blocks_taken (disk_of image) (vacant_slot (disk_of image)) (length content) ≤ count b (free_at (disk_of image))
      → (o : ℕ) → disk_of image b o ≡ disk_of (add image name date content).image b o
  -- a done add has taken every other free block, with the record of its rank (§8.10 §8.11)
  pub add_taken : (image name : List ℕ) (date : ℕ) (content : List ℕ) (b : ℕ) → b < blocks → (add image name date content).answer ≡ done
      → free_at (disk_of image) b ≡ true → count b (free_at (disk_of image)) < blocks_taken (disk_of image) (vacant_slot (disk_of image)) (length content)
      → (i : ℕ) → i < record_bytes → record_byte (disk_of (add image name date content).image) b i
      ≡ encode (taken_record (disk_of image) (vacant_slot (disk_of image)) (count b (free_at (disk_of image)))) i
  -- and has written 3 x the records that begin with FD as the free word (§6.4)
  pub add_word : (image name : List ℕ) (date : ℕ) (content : List ℕ) → (add image name date content).answer ≡ done
      → MapInBytes (disk_of (add image name date content).image)
      → at16 (disk_of (add image name date content).image 0) 20 ≡ 3 * free_by_first (disk_of (add image name date content).image)
  -- a remove, whatever its reply, leaves each record that does not bear the number of the file, every free one among them (§8.13)
  pub remove_others : (image name : List ℕ) (b : ℕ) → b < blocks → bears (find_name (disk_of image) name) (record_at (disk_of image) b) ≡ false
      → SameRecord (disk_of image) (disk_of (remove image name).image) b
  -- a remove that is done leaves FD FF FF as each that does, and zeros in its block (§6.9 §8.13)
  pub remove_own : (image name : List ℕ) (b : ℕ) → b < blocks → (remove image name).answer ≡ done
      → bears (find_name (disk_of image) name) (record_at (disk_of image) b) ≡ true
      → IsWrittenFree (disk_of (remove image name).image) b × ((o : ℕ) → disk_of (remove image name).image b o ≡ 0)
  -- every byte of a block that was free stays, whatever it was (§8.13)
  pub remove_bytes_stay : (image name : List ℕ) (b : ℕ) → b < blocks → free_at (disk_of image) b ≡ true
      → (o : ℕ) → disk_of image b o ≡ disk_of (remove image name).image b o
  -- and the free word is written as by an add (§6.4)
  pub remove_word : (image name : List ℕ) → (remove image name).answer ≡ done → MapInBytes (disk_of (remove image name).image)
      → at16 (disk_of (remove image name).image 0) 20 ≡ 3 * free_by_first (disk_of (remove image name).image)
  -- after every history each free record is FD FF FF (§6.9 §9.5)
  pub history_free : (old : List ℕ) (args : FormatArguments) (calls : List Call) → length old ≡ image_bytes → length args.title ≤ title_most
      → EachCanBeBad args.bad → (b : ℕ) → b < blocks → free_at (disk_of (image_end (formatted old args) calls)) b ≡ true
      → IsWrittenFree (disk_of (image_end (formatted old args) calls)) b

-- ---- what is promised: tails that are not read

-- the record of block b has the same bytes on both disks, or begins with FD on both, its tails being bytes (§6.9)
pub data SameOrBothFree (d e : Disk) (b : ℕ) : Type 0 where
  same_bytes : SameRecord d e b → SameOrBothFree d e b
  both_free : InBytes d b → InBytes e b → record_byte d b 0 ≡ 0xFD → record_byte e b 0 ≡ 0xFD → SameOrBothFree d e b

-- two disks differ at most in tails of free records: header, every block but block 0, and every record that is not free have the same bytes (§6.9)
pub record SameButTails (d e : Disk) : Type 0 where
  pub header : (o : ℕ) → o < map_start → d 0 o ≡ e 0 o
  pub records : (b : ℕ) → b < blocks → SameOrBothFree d e b
  pub contents : (b o : ℕ) → b ≢ 0 → d b o ≡ e b o

-- two block images differ at most in tails of free records (§6.9)
abbrev pub ImagesSameButTails : List ℕ → List ℕ → Type 0
ImagesSameButTails x y = (length x ≡ image_bytes) × (length y ≡ image_bytes) × SameButTails (disk_of x) (disk_of y)

-- what two calls left: the same reply, and images that differ at most in tails, to which the next call can be made (§6.9)
pub record ChangedAlike (x y : ImageChanged) : Type 0 where
  pub answers : x.answer ≡ y.answer
  pub images : ImagesSameButTails x.image y.image

-- tails_unread: what each call gives of two such images, and leaves of them (§6.9)
pub record TailsUnread : Type 0 where
  pub check_alike : (x y : List ℕ) → ImagesSameButTails x y → check x ≡ check y
  pub list_alike : (x y buffer : List ℕ) → ImagesSameButTails x y → list x buffer ≡ list y buffer
  pub read_alike : (x y name buffer : List ℕ) → ImagesSameButTails x y → read x name buffer ≡ read y name buffer
  pub track_alike : (x y : List ℕ) → ImagesSameButTails x y → first_track_result (take 9216 x) ≡ first_track_result (take 9216 y)
  pub add_alike : (x y name : List ℕ) (date : ℕ) (content : List ℕ) → ImagesSameButTails x y → ChangedAlike (add x name date content) (add y name date content)
  pub remove_alike : (x y name : List ℕ) → ImagesSameButTails x y → ChangedAlike (remove x name) (remove y name)
  pub batch_alike : (x y items : List ℕ) → ImagesSameButTails x y → ChangedAlike (batch x items) (batch y items)
