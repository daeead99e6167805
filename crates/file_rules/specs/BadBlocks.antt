-- bad_blocks (§6.9 §6.18 §7.9 §7.26 §8.4): which records are bad, what 8, 9 and 19 say of them and of the good word, what a format makes of its list, and what
-- the calls leave of bad blocks. Of every image, and not only of those that histories leave, where it does not say otherwise.
-- Assumes nothing: these are definitions. The proof is `bad_blocks` in Laws/Theorem/BadBlocks.antt.
use Rattle.std.specs.Prelude.{◌≡◌, ◌≢◌, Bool, true, false, cond, not, ◌&&◌, List, [], ◌∷◌, ◌++◌, ℕ, ◌+◌, ◌*◌, ◌/◌, ◌≤◌, ◌<◌, leb, eqb, length, take}
use Rattle.std.proofs.Math.Option.{none, some}
use Rattle.laws.specs.Below.{count}
use Rattle.laws.specs.Lists.{bytes_are}
use Rattle.laws.specs.Numbers.{at16}
use Rattle.sector_rules.specs.declared.Reply.{Reply}
use Rattle.sector_rules.specs.Geometry.{blocks, image_bytes}
use Rattle.sector_rules.specs.Replies.{reply_with, done, refusal}
use Rattle.file_rules.specs.declared.Record.TheVariants.{Bad}
use Rattle.file_rules.specs.Arguments.{FormatArguments, listed, EachCanBeBad}
use Rattle.file_rules.specs.Calls.{format, check, list, read, add, remove}
use Rattle.file_rules.specs.Check.{refusal8, refusal9}
use Rattle.file_rules.specs.Disk.{Disk, disk_of}
use Rattle.file_rules.specs.FirstTrack.{refused_track, first_track_result}
use Rattle.file_rules.specs.FreeTails.{SameRecord, InBytes, MapInBytes, IsWrittenFree}
use Rattle.file_rules.specs.Histories.{Call, image_end}
use Rattle.file_rules.specs.History.{formatted}
use Rattle.file_rules.specs.Map.{record_byte, bears, is_part, within, bad_at}
use Rattle.file_rules.specs.Model.{different_blocks}
use Rattle.file_rules.specs.Sizes.{map_start, title_most}

-- whether the record of block b is FE FF FF (§6.9)
unfoldable pub has_bad_bytes : Disk → ℕ → Bool
has_bad_bytes d b = eqb (record_byte d b 0) 0xFE && (eqb (record_byte d b 1) 0xFF && eqb (record_byte d b 2) 0xFF)

-- how many records are FE FF FF (§6.18)
unfoldable pub bad_by_bytes : Disk → ℕ
bad_by_bytes d = count blocks (has_bad_bytes d)

-- the three bytes of block b's record as one number, high byte first (§6.8)
unfoldable pub three_bytes : Disk → ℕ → ℕ
three_bytes d b = (record_byte d b 0 * 256 + record_byte d b 1) * 256 + record_byte d b 2

-- whether these three bytes are wrong for block b: right are at block 0 F8 00 00, and at another those below F8 00 00, those that begin with FD, and
-- FE FF FF (§6.9 §7.9)
unfoldable pub is_wrong : ℕ → ℕ → Bool
is_wrong b n = cond (eqb b 0) (not (eqb n 0xF80000)) (leb 0xF80000 n && (not (eqb (n / 0x10000) 0xFD) && not (eqb n 0xFEFFFF)))

-- a format, accepted, and calls: the disk at the end (§9.1)
abbrev pub disk_at_end : List ℕ → FormatArguments → List Call → Disk
disk_at_end old args calls = disk_of (image_end (formatted old args) calls)

-- bytes of the header that a remove never writes: all but update count and free word (§8.13)
abbrev pub Unwritten : ℕ → Type 0
Unwritten o = (o < map_start) × (16 ≤ o → 22 ≤ o)

-- the calls that judge a disk first answer as check does, where it is not done (§8.5)
pub record AnswersAs (image : List ℕ) (r : Reply) : Type 0 where
  pub list_answers : (buffer : List ℕ) → (list image buffer).answer ≡ r
  pub read_answers : (name buffer : List ℕ) → (read image name buffer).answer ≡ r
  pub add_answers : (name : List ℕ) (date : ℕ) (content : List ℕ) → (add image name date content).answer ≡ r
  pub remove_answers : (name : List ℕ) → (remove image name).answer ≡ r

-- bad_blocks (§6.9 §6.18 §7.8 §7.9 §7.26 §8.4 §8.12 §8.13)
pub record BadBlocks : Type 0 where
  -- ---- records and the good word
  -- a record is bad if and only if it is FE FF FF
  pub three_bytes_lem : (d : Disk) (b : ℕ) → InBytes d b → bad_at d b ≡ has_bad_bytes d b
  -- it is part of no file
  pub no_part : (f s n : ℕ) → (bears f Bad ≡ false) × (is_part f s Bad ≡ false) × (within f n Bad ≡ true)
  -- where 1 and 8 are not given, 9 names the lowest block whose three bytes are wrong, in check and for the first track; where none
  -- is wrong 9 is not found (§7.9)
  pub nine_lowest : (image : List ℕ) (b : ℕ) → length image ≡ image_bytes → refusal8 (disk_of image) ≡ none → b < blocks
      → is_wrong b (three_bytes (disk_of image) b) ≡ true → ((j : ℕ) → j < b → is_wrong j (three_bytes (disk_of image) j) ≡ false)
      → (check image ≡ reply_with 9 b 0 0) × (first_track_result (take 9216 image) ≡ refused_track (reply_with 9 b 0 0))
  pub nine_none : (d : Disk) → ((b : ℕ) → b < blocks → is_wrong b (three_bytes d b) ≡ false) → refusal9 d ≡ none
  -- 9 names a record FE FF FF at block 0 alone
  pub nine_names : (image : List ℕ) (b : ℕ) → check image ≡ reply_with 9 b 0 0 → InBytes (disk_of image) b → has_bad_bytes (disk_of image) b ≡ true → b ≡ 0
  -- 8 does not read the good word: it goes by bytes 0 to 3 and 24 to 75 (§7.8)
  pub eight_unread : (d e : Disk) → ((o : ℕ) → o < 4 → d 0 o ≡ e 0 o) → ((o : ℕ) → 24 ≤ o → o < 76 → d 0 o ≡ e 0 o) → refusal8 d ≡ refusal8 e
  -- where the letters are right and the word of all sectors is not 1440, 8 names it, whatever records are bad (§6.5 §7.8)
  pub total_eight : (image : List ℕ) → length image ≡ image_bytes → bytes_are (disk_of image 0) 0 (0x51 ∷ 0x4C ∷ 0x35 ∷ 0x41 ∷ []) ≡ true
      → at16 (disk_of image 0) 24 ≢ 1440 → check image ≡ reply_with 8 24 0 0
  -- the good word of an accepted disk and 3 x its records FE FF FF are 1440; where 19 is given they are another number (§6.18 §7.26)
  pub word_counts : (image : List ℕ) → MapInBytes (disk_of image) → check image ≡ done → at16 (disk_of image 0) 22 + 3 * bad_by_bytes (disk_of image) ≡ 1440
  pub word_wrong : (image : List ℕ) → MapInBytes (disk_of image) → check image ≡ refusal 19 → at16 (disk_of image 0) 22 + 3 * bad_by_bytes
      (disk_of image) ≢ 1440
  -- so are those of an accepted first track
  pub track_counts : (image : List ℕ) → length image ≡ image_bytes → MapInBytes (disk_of image) → (first_track_result (take 9216 image)).reply ≡ done
      → (first_track_result (take 9216 image)).good + 3 * bad_by_bytes (disk_of image) ≡ 1440
  -- and where neither 8 nor 9 is found and they are another number, 19 is given, whatever else is wrong, by check and for the first track
  pub nineteen_check : (image : List ℕ) → length image ≡ image_bytes → MapInBytes (disk_of image) → refusal8 (disk_of image) ≡ none
      → refusal9 (disk_of image) ≡ none
      → at16 (disk_of image 0) 22 + 3 * bad_by_bytes (disk_of image) ≢ 1440 → check image ≡ refusal 19
  pub nineteen_track : (image : List ℕ) → length image ≡ image_bytes → MapInBytes (disk_of image) → refusal8 (disk_of image) ≡ none
      → refusal9 (disk_of image) ≡ none
      → at16 (disk_of image 0) 22 + 3 * bad_by_bytes (disk_of image) ≢ 1440 → first_track_result (take 9216 image) ≡ refused_track (refusal 19)
  -- 8 comes before it, and 9
  pub eight_first : (image : List ℕ) (r : Reply) → length image ≡ image_bytes → refusal8 (disk_of image) ≡ some r
      → (check image ≡ r) × (first_track_result (take 9216 image) ≡ refused_track r)
  pub nine_first : (image : List ℕ) (r : Reply) → length image ≡ image_bytes → refusal8 (disk_of image) ≡ none → refusal9 (disk_of image) ≡ some r
      → (check image ≡ r) × (first_track_result (take 9216 image) ≡ refused_track r)
  -- the first track of an image of the right length has check's reply, where that is not 10, which the first track does not judge (§8.14)
  pub track_as_check : (image : List ℕ) → length image ≡ image_bytes → (check image).number ≢ 10 → (first_track_result (take 9216 image)).reply ≡ check image
  -- list, read, add and remove answer as check does, where that is not done
  pub answers_as : (image : List ℕ) → (check image).number ≢ 0 → AnswersAs image (check image)
  -- ---- a format, and histories
  -- a list has a block if and only if the block stands somewhere in it
  pub stands_listed : (b : ℕ) (xs ys : List ℕ) → listed b (xs ++ (b ∷ ys)) ≡ true
  pub listed_stands : (b : ℕ) (bad : List ℕ) → listed b bad ≡ true → (xs : List ℕ) × (ys : List ℕ) × (bad ≡ xs ++ (b ∷ ys))
  -- after a format each other record from block 2 on is FD FF FF (§8.4)
  pub format_free : (old : List ℕ) (args : FormatArguments) → length old ≡ image_bytes → length args.title ≤ title_most → EachCanBeBad args.bad
      → (b : ℕ) → 2 ≤ b → b < blocks → listed b args.bad ≡ false → IsWrittenFree (disk_of (format old args).image) b
  -- after every history the records FE FF FF are those of the blocks in the list, whose bytes are zero (§9.5 §9.8)
  pub history_bad : (old : List ℕ) (args : FormatArguments) (calls : List Call) → length old ≡ image_bytes → length args.title ≤ title_most
      → EachCanBeBad args.bad → (b : ℕ) → b < blocks → has_bad_bytes (disk_at_end old args calls) b ≡ listed b args.bad
  pub history_zero : (old : List ℕ) (args : FormatArguments) (calls : List Call) → length old ≡ image_bytes → length args.title ≤ title_most
      → EachCanBeBad args.bad → (b o : ℕ) → listed b args.bad ≡ true → disk_at_end old args calls b o ≡ 0
  -- and the good word is 1440 less 3 x B (§6.18)
  pub history_good : (old : List ℕ) (args : FormatArguments) (calls : List Call) → length old ≡ image_bytes → length args.title ≤ title_most
      → EachCanBeBad args.bad → at16 (disk_at_end old args calls 0) 22 + 3 * different_blocks args.bad ≡ 1440
  -- ---- what stays
  -- an add or remove, whatever its reply, leaves record and bytes of each bad block, and of the header every byte but those of update count and free word,
  -- 16 to 21, and for an add those of the length of the directory, 34 to 37: so the good word (§8.12 §8.13)
  pub add_keeps : (image name : List ℕ) (date : ℕ) (content : List ℕ) (b : ℕ) → b < blocks → bad_at (disk_of image) b ≡ true
      → SameRecord (disk_of image) (disk_of (add image name date content).image) b
      × ((o : ℕ) → disk_of image b o ≡ disk_of (add image name date content).image b o)
  pub remove_keeps : (image name : List ℕ) (b : ℕ) → b < blocks → bad_at (disk_of image) b ≡ true
      → SameRecord (disk_of image) (disk_of (remove image name).image) b × ((o : ℕ) → disk_of image b o ≡ disk_of (remove image name).image b o)
  pub add_header : (image name : List ℕ) (date : ℕ) (content : List ℕ) (o : ℕ) → Unwritten o → (34 ≤ o → 38 ≤ o)
      → disk_of image 0 o ≡ disk_of (add image name date content).image 0 o
  pub remove_header : (image name : List ℕ) (o : ℕ) → Unwritten o → disk_of image 0 o ≡ disk_of (remove image name).image 0 o
