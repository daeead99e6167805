-- The disk header by value: the proof of disk_header_values (HeaderValues.antt).
-- Rests on: that a format is accepted (OnImages/Run), the beginning of block 0 (Base/Disk), disks that are judged alike (Base/Header); all else is computed.
use Rattle.std.specs.Prelude.{Some, None, Bool, true, false, cond, ◌&&◌, List, [], ◌∷◌, ◌++◌, ◌≢◌, ◌≡◌, ℕ, ◌+◌, ◌≤◌, ◌<◌, leb, length, get_or, set, take, drop}
use Rattle.std.proofs.Math.Option.{none, some}
use Rattle.std.proofs.Math.Path.{refl, ap}
use Rattle.std.proofs.Common.{sym, ap₂, ◌∙◌, arith, lit≤, length-append}
use Rattle.std.proofs.Math.ListN.{get_or-append}
use Rattle.laws.specs.Laws.Tests.{eq_true, eq_false, le_false, cond_true, cond_false, and_false_left, and_false_right}
use Rattle.laws.specs.Laws.Tab.{tab_ext, take_tab}
use Rattle.laws.specs.Lists.{same, bytes_are, tab}
use Rattle.laws.specs.Numbers.{at16, big_endian, high_byte}
use Rattle.laws.specs.Below.{count}
use Rattle.laws.specs.Changes.{patch}
use Rattle.laws.specs.Options.{or_else}
use Rattle.sector_rules.specs.Faults.{Fault}
use Rattle.sector_rules.specs.declared.Reply.{Reply}
use Rattle.sector_rules.specs.Faults.{refusal_at, fault_below}
use Rattle.sector_rules.specs.Geometry.{sector_bytes, blocks, image_bytes, side_place, backward}
use Rattle.sector_rules.specs.HeaderValues.{place_named, one_more, one_less, changed_at, changed_from}
use Rattle.sector_rules.proofs.Laws.Values.HeaderValues.{changed_length, changed_from_length}
use Rattle.sector_rules.specs.Replies.{reply_with, done, refusal}
use Rattle.file_rules.specs.Arguments.{FormatArguments, arguments_of, listed, bad_list_right, count_listed, EachCanBeBad}
use Rattle.file_rules.specs.Calls.{ImageChanged, image_kept, unless, image_right, on_sound, fresh_owner, format_disk, format, check}
use Rattle.file_rules.specs.Check.{disk_signature, length_right, dimensions_fault, disk_header_fault}
use Rattle.file_rules.specs.Check.{map_fault, file_fault, good_right, free_right, refusal8, refusal9, refusal19, start_refusal, refusal10, refusal11}
use Rattle.file_rules.specs.Check.{disk_refusal}
use Rattle.file_rules.specs.Directory.{dir_bytes}
use Rattle.file_rules.specs.Disk.{Disk, block_of, offset_of, disk_of, image_of}
use Rattle.file_rules.proofs.Laws.Base.BadList.{right_each, none_bad, wrong_listed}
use Rattle.file_rules.proofs.Laws.Base.Disk.{first_byte, first_block, first_offset}
use Rattle.file_rules.proofs.Laws.Base.Header.{judged_alike}
use Rattle.file_rules.proofs.Laws.OnImages.Run.{format_done}
use Rattle.file_rules.specs.Map.{number_of, encode}
use Rattle.file_rules.specs.Sizes.{slot_count, title_most}
use Rattle.file_rules.specs.Written.{fixed_byte, disk_header_byte, disk_with}
use Rattle.file_rules.specs.HeaderValues.{title, disk_header, disk_field_named, DiskHeaderValues}

abbrev fault_place : Fault → ℕ
fault_place (Some o) = o
fault_place None = 96

by_fault : (f g h : Fault) (a b : Bool)
    → place_named 8 96 (unless (or_else (or_else (refusal_at 8 f) (or_else (refusal_at 9 g) (cond a none (some (refusal 19)))))
    (or_else (refusal_at 10 h) (cond b none (some (refusal 11))))) (λ (r : Reply). r) done) ≡ fault_place f
unfolding place_named unless or_else
by_fault (Some o) g h a b = refl
by_fault None (Some o) h a b = refl
by_fault None None h false b = refl
by_fault None None (Some o) true b = refl
by_fault None None None true true = refl
by_fault None None None true false = refl

named_is : (image : List ℕ) → length image ≡ image_bytes → place_named 8 96 (check image) ≡ fault_place (disk_header_fault (disk_of image))
unfolding check on_sound image_right disk_refusal start_refusal refusal8 refusal9 refusal19 refusal10 refusal11
named_is image long =
    ap (place_named 8 96) (cond_true _ _ (eq_true long))
    ∙ by_fault (disk_header_fault (disk_of image)) (fault_below blocks (map_fault (disk_of image))) (fault_below slot_count (file_fault (disk_of image)))
    (good_right (disk_of image)) (free_right (disk_of image))

-- a disk that has these bytes in each block
abbrev alone : List ℕ → Disk
alone start b o = get_or start o 0

module _ (rest : List ℕ) (long : 96 + length rest ≡ image_bytes) where
  begins : (start : List ℕ) → length start ≡ 96 → disk_field_named start rest ≡ fault_place (disk_header_fault (alone start))
  unfolding disk_field_named
  begins start n =
      named_is (start ++ rest) (length-append start rest ∙ rw n long)
      ∙ ap fault_place (judged_alike (disk_of (start ++ rest)) (alone start) (λ o l. same_byte o (omega arith)) (λ o k l. same_byte o (omega arith)))
    where
      same_byte : (o : ℕ) → o < 96 → disk_of (start ++ rest) 0 o ≡ alone start 0 o
      same_byte o l = first_byte (start ++ rest) o (omega arith) ∙ get_or-append start rest 0 o (omega arith)

  rows : (start : ℕ → List ℕ) → ((o : ℕ) → o < 96 → length (start o) ≡ 96)
      → tab (λ (o : ℕ). disk_field_named (start o) rest) 96 ≡ tab (λ (o : ℕ). fault_place (disk_header_fault (alone (start o)))) 96
  rows start n = tab_ext _ _ 96 (λ o l. begins (start o) (n o l))

header_length : length disk_header ≡ 96
unfolding disk_header
header_length = refl

-- ---- the proof: format

-- what an image of an accepted format begins with
formatted_begins : (old : List ℕ) (args : FormatArguments) (n : ℕ) → n ≤ sector_bytes → length old ≡ image_bytes → length args.title ≤ title_most
    → EachCanBeBad args.bad → take n (format old args).image ≡ tab (format_disk args 0) n
unfolding image_of
formatted_begins old args n l long short each =
    let fresh : Disk = format_disk args in
    ap (λ (w : ImageChanged). take n w.image) (format_done old args long short each)
    ∙ take_tab (λ (i : ℕ). fresh (block_of i) (offset_of i)) n image_bytes (omega arith)
    ∙ tab_ext (λ (i : ℕ). fresh (block_of i) (offset_of i)) (fresh 0) n
    (λ i h. ap₂ fresh (first_block i (omega arith)) (first_offset i (omega arith)))

abbrev three_bad : List ℕ
three_bad = 100 ∷ 2 ∷ 479 ∷ 2 ∷ []

three_each : EachCanBeBad three_bad
unfolding bad_list_right
three_each = right_each three_bad refl

format_is : (old : List ℕ) → length old ≡ image_bytes
    → take 105 (format old (arguments_of title 0x1234 [])).image ≡ disk_header ++ (0xF8 ∷ 0x00 ∷ 0x00 ∷ 0x00 ∷ 0x00 ∷ 0x00 ∷ 0xFD ∷ 0xFF ∷ 0xFF ∷ [])
unfolding tab format_disk disk_with disk_header_byte fixed_byte patch high_byte disk_signature side_place backward title disk_header encode number_of
    fresh_owner
    count_listed count listed
format_is old long = formatted_begins old (arguments_of title 0x1234 []) 105 (lit≤ tt) long (lit≤ tt) none_bad ∙ refl

bad_is : (old : List ℕ) → length old ≡ image_bytes
    → take 108 (format old (arguments_of title 0x1234 three_bad)).image
    ≡ set (set disk_header 21 0x91) 23 0x97 ++ (0xF8 ∷ 0x00 ∷ 0x00 ∷ 0x00 ∷ 0x00 ∷ 0x00 ∷ 0xFE ∷ 0xFF ∷ 0xFF ∷ 0xFD ∷ 0xFF ∷ 0xFF ∷ [])
unfolding tab format_disk disk_with disk_header_byte fixed_byte patch high_byte disk_signature side_place backward title disk_header encode number_of
    fresh_owner
    count_listed count listed
bad_is old long = formatted_begins old (arguments_of title 0x1234 three_bad) 108 (lit≤ tt) long (lit≤ tt) three_each ∙ refl

module _ (title bad : List ℕ) (number : ℕ) where
  same_start : tab (format_disk (arguments_of title number bad) 0) 20 ≡ tab (format_disk (arguments_of title number []) 0) 20
  unfolding tab format_disk disk_with disk_header_byte fixed_byte patch
  same_start = refl

  same_rest : drop 24 (tab (format_disk (arguments_of title number bad) 0) 96) ≡ drop 24 (tab (format_disk (arguments_of title number []) 0) 96)
  unfolding tab format_disk disk_with disk_header_byte fixed_byte patch
  same_rest = refl

elsewhere_is : (old title bad : List ℕ) (number : ℕ) → length old ≡ image_bytes → length title ≤ title_most → EachCanBeBad bad
    → (take 20 (format old (arguments_of title number bad)).image ≡ take 20 (format old (arguments_of title number [])).image)
    × (drop 24 (take 96 (format old (arguments_of title number bad)).image) ≡ drop 24 (take 96 (format old (arguments_of title number [])).image))
elsewhere_is old title bad number long short each =
    let begins-with : (n : ℕ) → n ≤ sector_bytes → take n (format old (arguments_of title number bad)).image
    ≡ tab (format_disk (arguments_of title number bad) 0) n =
    λ n l. formatted_begins old (arguments_of title number bad) n l long short each in
    let plain : (n : ℕ) → n ≤ sector_bytes → take n (format old (arguments_of title number [])).image ≡ tab (format_disk (arguments_of title number []) 0) n =
    λ n l. formatted_begins old (arguments_of title number []) n l long short none_bad in (
      begins-with 20 (lit≤ tt) ∙ same_start title bad number ∙ sym (plain 20 (lit≤ tt)),
      ap (drop 24) (begins-with 96 (lit≤ tt)) ∙ same_rest title bad number ∙ sym (ap (drop 24) (plain 96 (lit≤ tt))),
    )

module _ (old : List ℕ) (args : FormatArguments) (long : length old ≡ image_bytes) where
  refused_is : (leb (length args.title) title_most && bad_list_right args.bad) ≡ false → (format old args).answer ≡ refusal 12
  unfolding format image_right image_kept
  refused_is wrong = ap (λ (w : ImageChanged). w.answer) (cond_true _ _ (eq_true long) ∙ cond_false _ _ wrong)

  title_is : 11 ≤ length args.title → (format old args).answer ≡ refusal 12
  title_is h = refused_is (and_false_left (bad_list_right args.bad) (le_false h))

  list_is : (b : ℕ) → listed b args.bad ≡ true → (2 ≤ b → 480 ≤ b) → (format old args).answer ≡ refusal 12
  list_is b e w = refused_is (and_false_right (leb (length args.title) title_most) (wrong_listed args.bad b e w))

short_is : (old : List ℕ) (args : FormatArguments) → length old ≢ image_bytes → (format old args).answer ≡ reply_with 1 2 0 0
unfolding format image_right image_kept
short_is old args n = ap (λ (w : ImageChanged). w.answer) (cond_false _ _ (eq_false {a = length old} {b = image_bytes} n))

-- disk_header_values: all of these hold
pub disk_header_values : DiskHeaderValues
unfolding tab disk_header_fault dimensions_fault length_right dir_bytes at16 big_endian bytes_are same disk_signature side_place backward disk_header
    changed_at changed_from one_more one_less
disk_header_values =
    record {
      format_header = format_is;
      format_bad = bad_is;
      list_elsewhere = elsewhere_is;
      one_more_lem = λ rest long. rows rest long (changed_at one_more disk_header) (λ o l. changed_length one_more disk_header o) ∙ refl;
      one_less_lem = λ rest long. rows rest long (changed_at one_less disk_header) (λ o l. changed_length one_less disk_header o) ∙ refl;
      all_less = λ rest long. rows rest long (changed_from one_less disk_header) (λ o l. changed_from_length one_less disk_header o l) ∙ refl;
      accepted = λ rest long. (begins rest long _ refl, begins rest long _ refl, begins rest long _ refl);
      length_refused = λ rest long. (begins rest long _ refl, begins rest long _ refl, begins rest long _ refl);
      format_accepted = λ old args long h each. ap (λ (w : ImageChanged). w.answer) (format_done old args long h each);
      short_refused = short_is;
      title_refused = title_is;
      low_refused = λ old args b long e h. list_is old args long b e (λ k. omega arith);
      high_refused = λ old args b long e h. list_is old args long b e (λ k. h);
    }
