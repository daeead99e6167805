-- disk_header_values: the 96 header bytes of a formatted disk (§6.1 to §6.7, §6.18),
-- and what the check says of an image in whose header one byte is one more or one less (§7.8).
-- Computed, so that each number of the header and each offset that 8 names is stated twice: in the definitions by rule, here by value.
-- Assumes nothing: these are definitions. The proof is `disk_header_values` in Laws/Values/HeaderValues.antt.
use Rattle.std.specs.Prelude.{true, List, [], ◌∷◌, ◌++◌, ◌≡◌, ◌≢◌, ℕ, ◌+◌, ◌≤◌, length, set, take, drop, replicate}
use Rattle.laws.specs.Lists.{tab}
use Rattle.sector_rules.specs.Geometry.{image_bytes}
use Rattle.sector_rules.specs.HeaderValues.{place_named, one_more, one_less, changed_at, changed_from}
use Rattle.sector_rules.specs.Replies.{reply_with, done, refusal}
use Rattle.file_rules.specs.Arguments.{FormatArguments, arguments_of, listed, EachCanBeBad}
use Rattle.file_rules.specs.Calls.{format, check}

-- a disk's name of nine bytes (§6.2)
unfoldable pub title : List ℕ
title = 0x51 ∷ 0x4C ∷ 0x20 ∷ 0x64 ∷ 0x69 ∷ 0x73 ∷ 0x6B ∷ 0x20 ∷ 0x31 ∷ []

-- the header of a disk that is formatted with that name and the number 1234 (hex): QL5A; the name and a space, the number; update count, free word, good
-- word; sizes; the directory's length, the track offset; the two tables; FF (§6.1 §6.2 §6.3 §6.4 §6.5 §6.6 §6.7 §6.18)
unfoldable pub disk_header : List ℕ
disk_header =
    0x51 ∷ 0x4C ∷ 0x35 ∷ 0x41 ∷ 0x51 ∷ 0x4C ∷ 0x20 ∷ 0x64 ∷ 0x69 ∷ 0x73 ∷ 0x6B ∷ 0x20 ∷ 0x31 ∷ 0x20 ∷ 0x12 ∷ 0x34
    ∷ 0x00 ∷ 0x00 ∷ 0x00 ∷ 0x00 ∷ 0x05 ∷ 0x9A ∷ 0x05 ∷ 0xA0 ∷ 0x05 ∷ 0xA0 ∷ 0x00 ∷ 0x09 ∷ 0x00 ∷ 0x12 ∷ 0x00 ∷ 0x50
    ∷ 0x00 ∷ 0x03 ∷ 0x00 ∷ 0x00 ∷ 0x00 ∷ 0x40 ∷ 0x00 ∷ 0x05 ∷ 0x00 ∷ 0x03 ∷ 0x06 ∷ 0x80 ∷ 0x83 ∷ 0x86 ∷ 0x01 ∷ 0x04
    ∷ 0x07 ∷ 0x81 ∷ 0x84 ∷ 0x87 ∷ 0x02 ∷ 0x05 ∷ 0x08 ∷ 0x82 ∷ 0x85 ∷ 0x88 ∷ 0x00 ∷ 0x06 ∷ 0x0C ∷ 0x01 ∷ 0x07 ∷ 0x0D
    ∷ 0x02 ∷ 0x08 ∷ 0x0E ∷ 0x03 ∷ 0x09 ∷ 0x0F ∷ 0x04 ∷ 0x0A ∷ 0x10 ∷ 0x05 ∷ 0x0B ∷ 0x11 ∷ 0xFF ∷ 0xFF ∷ 0xFF ∷ 0xFF
    ∷ 0xFF ∷ 0xFF ∷ 0xFF ∷ 0xFF ∷ 0xFF ∷ 0xFF ∷ 0xFF ∷ 0xFF ∷ 0xFF ∷ 0xFF ∷ 0xFF ∷ 0xFF ∷ 0xFF ∷ 0xFF ∷ 0xFF ∷ 0xFF ∷ []

-- what check names with 8 in an image that begins with these bytes, or 96 (§7.8)
unfoldable pub disk_field_named : List ℕ → List ℕ → ℕ
disk_field_named start rest = place_named 8 96 (check (start ++ rest))

-- ---- what is promised

-- by value: the header that format writes, what 8 names where bytes of it are one more or one less, and the names and lists that 12
-- refuses (§6.7 §7.1 §7.8 §7.12 §8.4)
pub record DiskHeaderValues : Type 0 where
  -- what format writes: the header, and then the records of blocks 0, 1 and 2: the system's, file 0 with sequence 0, free
  pub format_header : (old : List ℕ) → length old ≡ image_bytes
      → take 105 (format old (arguments_of title 0x1234 [])).image ≡ disk_header ++ (0xF8 ∷ 0x00 ∷ 0x00 ∷ 0x00 ∷ 0x00 ∷ 0x00 ∷ 0xFD ∷ 0xFF ∷ 0xFF ∷ [])
  -- with three bad blocks, of which one stands in the list twice: free word 1425, good word 1431; then block 2 is bad, and block 3 free (§6.18 §8.4)
  pub format_bad : (old : List ℕ) → length old ≡ image_bytes
      → take 108 (format old (arguments_of title 0x1234 (100 ∷ 2 ∷ 479 ∷ 2 ∷ []))).image
      ≡ set (set disk_header 21 0x91) 23 0x97 ++ (0xF8 ∷ 0x00 ∷ 0x00 ∷ 0x00 ∷ 0x00 ∷ 0x00 ∷ 0xFE ∷ 0xFF ∷ 0xFF ∷ 0xFD ∷ 0xFF ∷ 0xFF ∷ [])
  -- the list changes no byte of the header but those of the two words (§8.4)
  pub list_elsewhere : (old title bad : List ℕ) (number : ℕ) → length old ≡ image_bytes → length title ≤ 10 → EachCanBeBad bad
      → (take 20 (format old (arguments_of title number bad)).image ≡ take 20 (format old (arguments_of title number [])).image)
      × (drop 24 (take 96 (format old (arguments_of title number bad)).image) ≡ drop 24 (take 96 (format old (arguments_of title number [])).image))
  -- the check of an image that begins with the header, one byte of which is one more: the offset that 8 names, or 96. It accepts the lengths of a directory
  -- with 256 blocks more or one more (34, 35), and with five slots (36), and judges neither 4 to 23 nor 76 to 95
  pub one_more_lem : (rest : List ℕ) → 96 + length rest ≡ image_bytes → tab (λ (o : ℕ). disk_field_named (changed_at one_more disk_header o) rest) 96
      ≡ replicate 4 0 ++ (replicate 20 96 ++ ((24 ∷ 24 ∷ 26 ∷ 26 ∷ 28 ∷ 28 ∷ 30 ∷ 30 ∷ 32 ∷ 32 ∷ 96 ∷ 96 ∷ 96 ∷ 34 ∷ 38 ∷ 38 ∷ [])
      ++ (replicate 18 40 ++ (replicate 18 58 ++ replicate 20 96))))
  -- one less
  pub one_less_lem : (rest : List ℕ) → 96 + length rest ≡ image_bytes → tab (λ (o : ℕ). disk_field_named (changed_at one_less disk_header o) rest) 96
      ≡ replicate 4 0 ++ (replicate 20 96 ++ ((24 ∷ 24 ∷ 26 ∷ 26 ∷ 28 ∷ 28 ∷ 30 ∷ 30 ∷ 32 ∷ 32 ∷ 96 ∷ 96 ∷ 34 ∷ 34 ∷ 38 ∷ 38 ∷ [])
      ++ (replicate 18 40 ++ (replicate 18 58 ++ replicate 20 96))))
  -- each byte from o on one less: the lowest wrong field is named
  pub all_less : (rest : List ℕ) → 96 + length rest ≡ image_bytes → tab (λ (o : ℕ). disk_field_named (changed_from one_less disk_header o) rest) 96
      ≡ replicate 4 0 ++ (replicate 20 24 ++ ((24 ∷ 24 ∷ 26 ∷ 26 ∷ 28 ∷ 28 ∷ 30 ∷ 30 ∷ 32 ∷ 32 ∷ 34 ∷ 34 ∷ 34 ∷ 34 ∷ 38 ∷ 38 ∷ [])
      ++ (replicate 18 40 ++ (replicate 18 58 ++ replicate 20 96))))
  -- accepted are the header as it is, and with a directory of 23 slots, or of one block; refused is one of no slot, and one of 24 or 25 slots as bytes over
  pub accepted : (rest : List ℕ) → 96 + length rest ≡ image_bytes
      → (disk_field_named disk_header rest ≡ 96) × (disk_field_named (set (set disk_header 36 0x05) 37 0xC0) rest ≡ 96)
      × (disk_field_named (set (set disk_header 35 1) 37 0) rest ≡ 96)
  pub length_refused : (rest : List ℕ) → 96 + length rest ≡ image_bytes
      → (disk_field_named (set disk_header 37 0) rest ≡ 34) × (disk_field_named (set (set disk_header 36 0x06) 37 0) rest ≡ 34)
      × (disk_field_named (set disk_header 36 0x06) rest ≡ 34)
  -- an image of another length is refused first; a disk's name has ten bytes at most, and bad blocks are blocks 2 to 479 (§7.1 §7.12)
  pub short_refused : (old : List ℕ) (args : FormatArguments) → length old ≢ image_bytes → (format old args).answer ≡ reply_with 1 2 0 0
  pub format_accepted : (old : List ℕ) (args : FormatArguments) → length old ≡ image_bytes → length args.title ≤ 10 → EachCanBeBad args.bad
      → (format old args).answer ≡ done
  pub title_refused : (old : List ℕ) (args : FormatArguments) → length old ≡ image_bytes → 11 ≤ length args.title → (format old args).answer ≡ refusal 12
  pub low_refused : (old : List ℕ) (args : FormatArguments) (b : ℕ) → length old ≡ image_bytes → listed b args.bad ≡ true → b ≤ 1
      → (format old args).answer ≡ refusal 12
  pub high_refused : (old : List ℕ) (args : FormatArguments) (b : ℕ) → length old ≡ image_bytes → listed b args.bad ≡ true → 480 ≤ b
      → (format old args).answer ≡ refusal 12
