-- The disk header by its bytes: disks that agree in those that 8 judges are judged alike, and a header that is written passes 8.
-- Rests on the laws of numbers in bytes (laws, Numbers) and on the lengths of the placement's tables (sector_rules, Laws.Base.Geometry).
use Rattle.std.specs.Prelude.{None, ◌≡◌, true, length, get_or}
use Rattle.std.proofs.Math.Path.{refl, ap, ap₂}
use Rattle.std.proofs.Common.{sym, ◌∙◌, lit<, lit≤}
use mathlib.Core.List.{List}
use Rattle.std.proofs.Math.Option.{none}
use Prim.Native.Nat.{ℕ, ◌+◌, ◌*◌, ◌%◌, ◌≤◌, ◌<◌}
use native.Mathlib.Omega.{arith}
use Rattle.laws.specs.Lists.{same, bytes_are, tab}
use Rattle.laws.specs.Changes.{patch}
use Rattle.laws.specs.Numbers.{at16, at32, big_endian, high_byte}
use Rattle.laws.specs.Laws.Numbers.{high2_at, high4_at}
use Rattle.laws.specs.Laws.Same.{eq_same}
use Rattle.laws.specs.Laws.Tab.{tab_ext, tab_self}
use Rattle.laws.specs.Laws.Tests.{lt_true, le_true, eq_true, and_true}
use Rattle.sector_rules.specs.Faults.{refusal_at}
use Rattle.sector_rules.specs.Geometry.{track_offset, track_sectors, side_place, backward}
use Rattle.sector_rules.proofs.Laws.Base.Geometry.{side_place_length, backward_length}
use Rattle.file_rules.specs.Arguments.{FormatArguments, count_listed}
use Rattle.file_rules.specs.Check.{disk_signature, length_right, dimensions_fault, disk_header_fault, refusal8}
use Rattle.file_rules.specs.Directory.{dir_bytes}
use Rattle.file_rules.specs.Disk.{Disk}
use Rattle.file_rules.specs.Sizes.{block_bytes, slot_bytes, good_sectors, whole_blocks, bytes_over}
use Rattle.file_rules.specs.Written.{fixed_byte, disk_header_byte}

-- a header without fault is not refused
pub header_none : (d : Disk) → disk_header_fault d ≡ None → refusal8 d ≡ none
unfolding refusal8
header_none d e = ap (refusal_at 8) e

-- ---- disks that agree in the bytes that are judged

module _ (d g : Disk) (letters : (o : ℕ) → o < 4 → d 0 o ≡ g 0 o) (fields : (o : ℕ) → 24 ≤ o → o < 76 → d 0 o ≡ g 0 o) where
  bytes_alike : (o : ℕ) (t : List ℕ) → 24 ≤ o → o + length t ≤ 76 → bytes_are (d 0) o t ≡ bytes_are (g 0) o t
  unfolding bytes_are
  bytes_alike o t a l =
      ap (λ (x : List ℕ). same x t)
      (tab_ext (λ (i : ℕ). d 0 (o + i)) (λ (i : ℕ). g 0 (o + i)) (length t) (λ k h. fields (o + k) (omega arith) (omega arith)))

  word_alike : (o : ℕ) → 24 ≤ o → o + 1 < 76 → at16 (d 0) o ≡ at16 (g 0) o
  unfolding at16 big_endian
  word_alike o a l =
      ap₂ (λ (x y : ℕ). (0 * 256 + x) * 256 + y) (fields (o + 0) (omega arith) (omega arith)) (fields (o + 1) (omega arith) (omega arith))

  length_alike : dir_bytes d ≡ dir_bytes g
  unfolding dir_bytes
  length_alike = rw (word_alike 34 (lit≤ tt) (lit< tt), word_alike 36 (lit≤ tt) (lit< tt))

  signature_alike : bytes_are (d 0) 0 disk_signature ≡ bytes_are (g 0) 0 disk_signature
  unfolding bytes_are disk_signature
  signature_alike =
      ap (λ (x : List ℕ). same x disk_signature)
      (tab_ext (λ (i : ℕ). d 0 (0 + i)) (λ (i : ℕ). g 0 (0 + i)) 4 (λ k h. letters (0 + k) (omega arith)))

  tables_alike : (bytes_are (d 0) 40 side_place ≡ bytes_are (g 0) 40 side_place) × (bytes_are (d 0) 58 backward ≡ bytes_are (g 0) 58 backward)
  tables_alike =
      (bytes_alike 40 side_place (lit≤ tt) (omega (arith, side_place_length)), bytes_alike 58 backward (lit≤ tt) (omega (arith, backward_length)))

  -- they have the same lowest wrong field
  pub judged_alike : disk_header_fault d ≡ disk_header_fault g
  unfolding disk_header_fault dimensions_fault length_right
  judged_alike =
      rw (signature_alike, word_alike 24 (lit≤ tt) (lit< tt), word_alike 26 (lit≤ tt) (lit< tt))
      (rw (word_alike 28 (lit≤ tt) (lit< tt), word_alike 30 (lit≤ tt) (lit< tt), word_alike 32 (lit≤ tt) (lit< tt), word_alike 36 (lit≤ tt) (lit< tt))
      (rw (word_alike 38 (lit≤ tt) (lit< tt), length_alike, tables_alike.0, tables_alike.1)))

-- ---- the header that is written

-- bytes that are, one by one, those of a list are the list's
row_stands : (f : ℕ → ℕ) (o : ℕ) (t : List ℕ) (n : ℕ) → length t ≡ n → tab (λ (i : ℕ). f (o + i)) n ≡ tab (λ (i : ℕ). get_or t i 0) n → bytes_are f o t ≡ true
unfolding bytes_are
row_stands f o t n long e =
    eq_same (tab (λ (i : ℕ). f (o + i)) (length t)) t
    (ap (tab (λ (i : ℕ). f (o + i))) long ∙ e ∙ ap (tab (λ (i : ℕ). get_or t i 0)) (sym long) ∙ tab_self t)

module _ (args : FormatArguments) (updates word end : ℕ) where
  abbrev written : ℕ → ℕ
  written = disk_header_byte args updates word end

  -- its update count
  pub at_16 : updates < 4294967296 → at32 written 16 ≡ updates
  unfolding at32 big_endian disk_header_byte patch
  at_16 h = high4_at updates h

  -- its free word
  pub at_20 : word < 65536 → at16 written 20 ≡ word
  unfolding at16 big_endian disk_header_byte patch
  at_20 h = high2_at word h

  -- its good word
  pub at_22 : at16 written 22 ≡ good_sectors (count_listed args.bad)
  unfolding at16 big_endian disk_header_byte fixed_byte patch
  at_22 = high2_at (good_sectors (count_listed args.bad)) (omega arith)

  -- its word of whole directory blocks; a directory of 1,572,863 slots is the longest that the word holds
  pub at_34 : end < 1572864 → at16 written 34 ≡ whole_blocks end
  unfolding at16 big_endian disk_header_byte patch
  at_34 h = high2_at (whole_blocks end) (omega arith)

  -- its word of directory bytes over whole blocks
  pub at_36 : at16 written 36 ≡ bytes_over end
  unfolding at16 big_endian disk_header_byte patch
  at_36 = high2_at (bytes_over end) (omega arith)

  signature_at : bytes_are written 0 disk_signature ≡ true
  unfolding bytes_are tab disk_signature disk_header_byte fixed_byte patch same
  signature_at = refl

  dimensions_at : dimensions_fault (λ (b : ℕ). written) ≡ None
  unfolding dimensions_fault at16 big_endian disk_header_byte fixed_byte patch high_byte
  dimensions_at = refl

  offset_at : at16 written 38 ≡ track_offset
  unfolding at16 big_endian disk_header_byte fixed_byte patch
  offset_at = high2_at track_offset (lit< tt)

  first_at : bytes_are written 40 side_place ≡ true
  unfolding tab disk_header_byte fixed_byte patch
  first_at = row_stands written 40 side_place track_sectors side_place_length refl

  second_at : bytes_are written 58 backward ≡ true
  unfolding tab disk_header_byte fixed_byte patch
  second_at = row_stands written 58 backward track_sectors backward_length refl

  length_at : 1 ≤ end → end < 1572864 → length_right (λ (b : ℕ). written) ≡ true
  unfolding length_right dir_bytes
  length_at a b =
      let bytes : ℕ = at16 written 34 * block_bytes + at16 written 36 in
      let is : bytes ≡ end * slot_bytes = ap₂ (λ (x y : ℕ). x * block_bytes + y) (at_34 b) at_36 ∙ omega arith in
      and_true (lt_true {a = at16 written 36} {b = block_bytes} (omega (arith, at_36)))
      (and_true (eq_true {a = bytes % slot_bytes} {b = 0} (ap (λ (x : ℕ). x % slot_bytes) is ∙ omega arith)) (le_true {a = slot_bytes} {b =
      bytes} (omega arith)))

  -- a disk that has its letters, and its bytes 24 to 75, passes 8, whatever stands in the others
  pub header_passes : 1 ≤ end → end < 1572864 → (d : Disk) → ((o : ℕ) → o < 4 → d 0 o ≡ written o) → ((o : ℕ) → 24 ≤ o → o < 76 → d 0 o ≡ written o)
      → disk_header_fault d ≡ None
  unfolding disk_header_fault
  header_passes a b d letters fields =
      judged_alike d (λ (b : ℕ). written) letters fields
      ∙ rw (signature_at, dimensions_at, length_at a b, offset_at, first_at, second_at) refl
