-- check_values: the places that 9 and 10 name (§7.9, §7.10), and when 19 is given (§7.26), by value: what the check says of a formatted disk of which one
-- record of the map, or the good word, is another, and of a disk with two spellings of one name.
-- Assumes nothing: these are definitions. The proof is `check_values` in Laws/Values/CheckValues.antt.
use Rattle.std.specs.Prelude.{true, List, [], ◌∷◌, ◌≡◌, ℕ, ◌≤◌, length, set}
use Rattle.std.proofs.Math.Option.{none, some}
use Rattle.laws.specs.Changes.{upd}
use Rattle.sector_rules.specs.Geometry.{image_bytes}
use Rattle.sector_rules.specs.Replies.{reply_with}
use Rattle.file_rules.specs.Arguments.{FormatArguments, arguments_of}
use Rattle.file_rules.specs.Calls.{format, check}
use Rattle.file_rules.specs.Check.{file_right}
use Rattle.file_rules.specs.Disk.{image_of}
use Rattle.file_rules.specs.Model.{Model, FilledSlot, model_disk}
use Rattle.file_rules.specs.NamesEqual.{reel_one, reel_capitals, reel_other}
use Rattle.file_rules.specs.Sizes.{title_most}

-- ---- what is promised

-- what check says of an image of which one record, or the good word, is another, where the record of block b is at byte 96 + 3b (§7.9 §7.10 §7.26)
pub record RecordsJudged (image : List ℕ) : Type 0 where
  -- 9: the record of block 0 is of no kind, FD 00 00 or FE FF FF, that of block 1 is the system's, and that of block 100 is of no kind, FE FF FE too
  pub first_record : check (set image 96 0xF9) ≡ reply_with 9 0 0 0
  pub first_free : check (set image 96 0xFD) ≡ reply_with 9 0 0 0
  pub first_bad_lem : check (set (set (set image 96 0xFE) 97 0xFF) 98 0xFF) ≡ reply_with 9 0 0 0
  pub system_record : check (set image 99 0xF8) ≡ reply_with 9 1 0 0
  pub other_record : check (set image 396 0xFC) ≡ reply_with 9 100 0 0
  pub other_tail : check (set (set image 396 0xFE) 398 0xFE) ≡ reply_with 9 100 0 0
  -- 19: block 100 is bad, or the directory's block 1, and the good word is 1440; the good word is one less, or 1184, and no block is bad
  pub bad_record : check (set image 396 0xFE) ≡ reply_with 19 0 0 0
  pub bad_directory : check (set (set (set image 99 0xFE) 100 0xFF) 101 0xFF) ≡ reply_with 19 0 0 0
  pub good_less : check (set image 23 0x9F) ≡ reply_with 19 0 0 0
  pub good_high_byte : check (set image 22 0x04) ≡ reply_with 19 0 0 0
  -- 9 comes before it; 10 and 11 come after it
  pub nine_first : check (set (set image 396 0xFC) 23 0x9F) ≡ reply_with 9 100 0 0
  pub ten_after : check (set (set image 101 1) 23 0x9F) ≡ reply_with 19 0 0 0
  pub eleven_after : check (set (set image 21 0x9B) 23 0x9F) ≡ reply_with 19 0 0 0
  -- 10: block 1 is the directory's second, and there is no first; block 2 is that of file 5, which has no slot
  pub directory_part : check (set image 101 1) ≡ reply_with 10 0 0 0
  pub no_slot : check (set (set (set image 102 0x00) 103 0x50) 104 0x00) ≡ reply_with 10 5 0 0

-- a slot with a file of this name, without data, in block b (§9.2)
unfoldable pub empty_file : List ℕ → ℕ → FilledSlot
empty_file name b = record { file = record { name = name; date = 0; content = [] }; taken = b ∷ [] }

-- a disk with a file in slot 1 and one in slot 2; no history makes it if their names are equal (§9.2)
unfoldable pub two_files : FormatArguments → List ℕ → List ℕ → Model
two_files args a b =
    record { arguments = args; updates = 2; peak = 2; slots = upd (upd (λ (k : ℕ). none) 1 (some (empty_file a 2))) 2 (some (empty_file b 3)); dir = 1 ∷ [] }

-- check_values (§7.9 §7.10 §7.21 §7.26)
pub record CheckValues : Type 0 where
  -- records are judged so on every disk that is formatted without bad blocks
  pub records_judged : (old title : List ℕ) (number : ℕ) → length old ≡ image_bytes → length title ≤ title_most
      → RecordsJudged (format old (arguments_of title number [])).image
  -- 10 at slot 2, where slot 1 has Reel_one and slot 2 REEL_ONE; with another name there file 2 is sound
  pub spellings_judged : (title : List ℕ) (number : ℕ)
      → check (image_of (model_disk (two_files (arguments_of title number []) reel_one reel_capitals))) ≡ reply_with 10 2 0 0
  pub other_sound : (title : List ℕ) (number : ℕ) → file_right (model_disk (two_files (arguments_of title number []) reel_one reel_other)) 2 ≡ true
