-- The directory's blocks as the code holds them, and the slots as rows of 64 bytes in the image.
-- Rests on the disk's bytes (Blocks), on the loaded map (Loaded), on the parts of files (Parts) and on when names are equal (file_rules, Names).
use Rattle.std.specs.Prelude.{◌≡◌, refl, Bool, true, false, ◌&&◌, List, Option, Some, None, ℕ, ◌+◌, ◌*◌, ◌/◌, ◌%◌, ◌≤◌, ◌<◌, min, ltb, length}
use Rattle.std.proofs.Math.Path.{sym, ap, ap₂}
use Rattle.std.proofs.Common.{◌∙◌, add-zero, add_assoc, take_all}
use Rattle.std.proofs.Math.Bool.{not}
use native.Mathlib.Omega.{arith}
use Rattle.std.proofs.Math.Dec.{eqb}
use Rattle.std.specs.Option.{unwrap_or}
use Rattle.std.specs.Coded.{Coded-set, coded_ℕ, coded_option}
use Rattle.std.proofs.Math.ListN.{get_or, take}
use Rattle.laws.specs.Lists.{tab, element_at}
use Rattle.laws.specs.Below.{all, first_below}
use Rattle.laws.specs.Found.{below}
use Rattle.laws.specs.Numbers.{at16, at32, big_endian, high_first}
use Rattle.laws.specs.Laws.Cases.{by_order, by_test}
use Rattle.laws.specs.Laws.Tests.{lt_true, eq_true, true_eq, true≢false, and_false_right}
use Rattle.laws.specs.Laws.All.{all_is, all_at}
use Rattle.laws.specs.Laws.Found.{first_is_below, below_there, below_absent}
use Rattle.laws.specs.Laws.FirstBelow.{first_lowest, none_lowest, first_or}
use Rattle.laws.specs.Laws.Tab.{take_tab, tab_length, tab_in, tab_ext, get_d_past}
use Rattle.laws.specs.Laws.Numbers.{high_row}
use Rattle.sector_rules.specs.Geometry.{sector_bytes, blocks, image_bytes, running, to_image_sector}
use Rattle.file_rules.specs.declared.Entry.{Entry}
use Rattle.file_rules.specs.Sizes.{slot_bytes, block_slots, slot_count, name_most}
use Rattle.file_rules.specs.Disk.{Disk, image_place, disk_of}
use Rattle.file_rules.specs.Map.{is_part, part_block}
use Rattle.file_rules.specs.Directory.{lowered, name_eq, entry_of, name_of, slot_byte, slot_entry, slot_name, held, dir_end, find_name, vacant_slot}
use Rattle.file_rules.proofs.Laws.Base.Names.{equal_length, equal_byte, bytes_equal}
use Rattle.files.specs.Laws.Loading.Blocks.{disk_in, disk_far}
use Rattle.files.specs.Laws.Loading.Loaded.{loaded_record, MapLoaded, part_loaded}
use Rattle.files.specs.Laws.Loading.Loops.{all_cong}
use Rattle.files.specs.Laws.Loading.Parts.{PartsAt}

-- the directory's blocks in sequence, as a row of numbers
pub record Located (dir : List (Option ℕ)) (d : Disk) : Type 0 where
  pub long : length dir ≡ blocks
  pub parts : (s : ℕ) → s < blocks → get_or dir s None ≡ below blocks (part_block d 0 s)
  deriving IsProp as located_parts

-- the directory's blocks stand in one way
pub located_prop : (dir : List (Option ℕ)) (d : Disk) → IsProp (Located dir d)
located_prop dir d = located_parts (Prim.hlevel (Coded-set coded_ℕ)) (Prim.hlevel (Coded-set (coded_option coded_ℕ)))

-- the blocks of file 0 by the loaded map are the directory's
pub located_directory : (dir : List (Option ℕ)) (map : List ℕ) (d : Disk) → MapLoaded map d → PartsAt dir map 0 → Located dir d
located_directory dir map d m l =
    record {
      long = l.long;
      parts = λ s h.
          l.parts s h ∙ first_is_below (λ (b : ℕ). is_part 0 s (loaded_record map b)) blocks ∙ ap (below blocks) (part_loaded map d m 0 s);
    }

-- where byte o of a block stands in the image; its end, where there is no block
unfoldable pub place_in : Option ℕ → ℕ → ℕ
place_in None o = image_bytes
place_in (Some b) o = image_place b o

-- where slot k stands in the image; its end, where the slot has no block
unfoldable pub slot_place : List (Option ℕ) → ℕ → ℕ
slot_place dir k = place_in (get_or dir (k / block_slots) None) (k % block_slots * slot_bytes)

-- ---- a slot lies in one sector

module _ (b o i : ℕ) (h : o % sector_bytes + i < sector_bytes) where
  -- bytes of a block in one sector stand in a row in the image
  pub byte_along : image_place b (o + i) ≡ image_place b o + i
  unfolding image_place
  byte_along =
      let e : (o + i) / sector_bytes ≡ o / sector_bytes = omega arith in
      let g : (o + i) % sector_bytes ≡ o % sector_bytes + i = omega arith in
      ap₂ (λ (x y : ℕ). to_image_sector (running b x) * sector_bytes + y) e g ∙ omega arith

module _ (image : List ℕ) (dir : List (Option ℕ)) (k : ℕ) (long : length image ≡ image_bytes) (hk : k < slot_count) (l : Located dir (disk_of image)) where
  abbrev block : ℕ
  block = part_block (disk_of image) 0 (k / block_slots)

  block_is : get_or dir (k / block_slots) None ≡ below blocks block
  block_is = l.parts (k / block_slots) (omega arith)

  inside : (i : ℕ) → i < slot_bytes → block < blocks → disk_of image block (k % block_slots * slot_bytes + i) ≡ element_at image (slot_place dir k) i
  unfolding slot_place place_in element_at
  inside i h q =
      rw (block_is ∙ below_there blocks block q)
      (disk_in image block (k % block_slots * slot_bytes + i) q (omega arith)
      ∙ ap (λ (x : ℕ). get_or image x 0) (byte_along block (k % block_slots * slot_bytes) i (omega arith)))

  outside : (i : ℕ) → blocks ≤ block → disk_of image block (k % block_slots * slot_bytes + i) ≡ element_at image (slot_place dir k) i
  unfolding slot_place place_in element_at
  outside i q =
      rw (block_is ∙ below_absent blocks block q)
      (disk_far image block (k % block_slots * slot_bytes + i) q ∙ sym (get_d_past image (image_bytes + i) (omega arith)))

  -- the bytes of a slot stand in a row in the image
  pub slot_row : (i : ℕ) → i < slot_bytes → slot_byte (disk_of image) k i ≡ element_at image (slot_place dir k) i
  unfolding slot_byte
  slot_row i h = by_order block blocks (λ q. inside i h q) (λ q. outside i q)

-- ---- what is read of a slot is read of its row

-- an entry is read from 64 bytes alone
pub entry_cong : (f g : ℕ → ℕ) → ((i : ℕ) → i < slot_bytes → f i ≡ g i) → entry_of f ≡ entry_of g
unfolding entry_of at16 at32 big_endian
entry_cong f g e =
    let n : tab (λ (i : ℕ). f (16 + i)) name_most ≡ tab (λ (i : ℕ). g (16 + i)) name_most =
    tab_ext (λ (i : ℕ). f (16 + i)) (λ (i : ℕ). g (16 + i)) name_most (λ i h. e (16 + i) (omega arith)) in
    rw (
      n,
      e 0 (omega arith),
      e 1 (omega arith),
      e 2 (omega arith),
      e 3 (omega arith),
      e 14 (omega arith),
      e 15 (omega arith),
      e 52 (omega arith),
      e 53 (omega arith),
      e 54 (omega arith),
      e 55 (omega arith),
    )

module _ (image : List ℕ) (dir : List (Option ℕ)) (k : ℕ) (long : length image ≡ image_bytes) (hk : k < slot_count) (l : Located dir (disk_of image)) where
  -- the entry of a slot is read from its row
  pub slot_entry_row : slot_entry (disk_of image) k ≡ entry_of (element_at image (slot_place dir k))
  unfolding slot_entry
  slot_entry_row = entry_cong (slot_byte (disk_of image) k) (element_at image (slot_place dir k)) (slot_row image dir k long hk l)

  -- the name of a slot is read from its row
  pub name_row : slot_name (disk_of image) k ≡ name_of (entry_of (element_at image (slot_place dir k)))
  unfolding slot_name
  name_row = ap name_of slot_entry_row

  -- a slot is held if its row is not all zeros
  pub held_row : 0 < k → not (all (λ (i : ℕ). eqb (element_at image (slot_place dir k) i) 0) slot_bytes) ≡ held (disk_of image) k
  unfolding held
  held_row h =
      ap₂ (λ (x y : Bool). x && not y) (sym (lt_true h))
      (all_cong (λ (i : ℕ). eqb (element_at image (slot_place dir k) i) 0) (λ (i : ℕ). eqb (slot_byte (disk_of image) k i) 0) slot_bytes
      (λ i q. ap (λ (x : ℕ). eqb x 0) (sym (slot_row image dir k long hk l i q))))

-- slot 0 is not held
pub held_zero : (d : Disk) → false ≡ held d 0
unfolding held
held_zero d = refl

-- ---- words and names of a row

-- a word of two bytes in a row is read from the list
pub word2_row : (s : List ℕ) (at o : ℕ) → high_first s (at + o) 2 ≡ at16 (element_at s at) o
unfolding at16
word2_row s at o = high_row s at o 2

-- a word of four bytes in a row is read from the list
pub word4_row : (s : List ℕ) (at o : ℕ) → high_first s (at + o) 4 ≡ at32 (element_at s at) o
unfolding at32
word4_row s at o = high_row s at o 4

-- the bytes of a row from 16 on are those of the list there
pub row_along : (s : List ℕ) (at n : ℕ) → tab (element_at s (at + 16)) n ≡ tab (λ (i : ℕ). element_at s at (16 + i)) n
unfolding element_at
row_along s at n =
    tab_ext (λ (i : ℕ). get_or s (at + 16 + i) 0) (λ (i : ℕ). get_or s (at + (16 + i)) 0) n (λ i h. ap (λ (x : ℕ). get_or s x 0) (add_assoc at 16 i))

-- the name in an entry: the first of its 36 bytes, as many as its length says
pub name_first : (f : ℕ → ℕ) → name_of (entry_of f) ≡ tab (λ (i : ℕ). f (16 + i)) (min (at16 f 14) name_most)
unfolding name_of entry_of
name_first f =
    by_order (at16 f 14) name_most
    (λ h.
    let e : min (at16 f 14) name_most ≡ at16 f 14 = omega arith in
    take_tab (λ (i : ℕ). f (16 + i)) (at16 f 14) name_most (omega arith) ∙ ap (λ (n : ℕ). tab (λ (i : ℕ). f (16 + i)) n) (sym e))
    (λ h.
    let e : min (at16 f 14) name_most ≡ name_most = omega arith in
    let t : length (tab (λ (i : ℕ). f (16 + i)) name_most) ≤ at16 f 14 = omega (arith, tab_length (λ (i : ℕ). f (16 + i)) name_most) in
    take_all (at16 f 14) (tab (λ (i : ℕ). f (16 + i)) name_most) t ∙ ap (λ (n : ℕ). tab (λ (i : ℕ). f (16 + i)) n) (sym e))

-- a name of 36 bytes has no more of them
pub first_bytes : (name : List ℕ) (n : ℕ) → length name ≡ name_most → take (min n name_most) name ≡ take n name
first_bytes name n e =
    by_order n name_most
    (λ h. ap (λ (k : ℕ). take k name) (omega arith))
    (λ h.
    let m : min n name_most ≡ name_most = omega arith in
    ap (λ (k : ℕ). take k name) m ∙ take_all name_most name (omega arith) ∙ sym (take_all n name (omega arith)))

-- a name compared byte by byte
module _ (s : List ℕ) (at : ℕ) (name : List ℕ) where
  abbrev row : ℕ → ℕ
  row = element_at s at

  -- a name of another length is not equal
  pub name_other_length : (min (at16 row 14) name_most ≡ length name → ⊥) → false ≡ name_eq (name_of (entry_of row)) name
  name_other_length h =
      sym (by_test (name_eq (name_of (entry_of row)) name)
      (λ t.
      absurd (h (sym (tab_length (λ (i : ℕ). row (16 + i)) (min (at16 row 14) name_most)) ∙ ap length (sym (name_first row))
      ∙ equal_length (name_of (entry_of row)) name t)))
      (λ t. t))

  module _ (q : min (at16 row 14) name_most ≡ length name) where
    name_of_lem : name_of (entry_of row) ≡ tab (element_at s (at + 16)) (length name)
    name_of_lem = name_first row ∙ ap (λ (n : ℕ). tab (λ (i : ℕ). row (16 + i)) n) q ∙ sym (row_along s at (length name))

    length_of : length (name_of (entry_of row)) ≡ length name
    length_of = ap length name_of_lem ∙ tab_length (element_at s (at + 16)) (length name)

    byte_of : (i : ℕ) → i < length name → get_or (name_of (entry_of row)) i 0 ≡ element_at s (at + 16) i
    byte_of i l = ap (λ (m : List ℕ). get_or m i 0) name_of_lem ∙ tab_in (element_at s (at + 16)) (length name) i l

    abbrev agree : ℕ → Bool
    agree i = eqb (lowered (element_at s (at + 16) i)) (lowered (get_or name i 0))

    -- a name of the same length is equal if its bytes agree once they are lowered
    pub name_compared : all agree (length name) ≡ name_eq (name_of (entry_of row)) name
    name_compared =
        by_test (name_eq (name_of (entry_of row)) name)
        (λ t. all_is agree (length name)
        (λ i l. eq_true (ap lowered (sym (byte_of i l)) ∙ equal_byte (name_of (entry_of row)) name t i (rw length_of l))) ∙ sym t)
        (λ f. by_test (all agree (length name))
        (λ t. absurd (true≢false (name_eq (name_of (entry_of row)) name)
        (bytes_equal (name_of (entry_of row)) name length_of
        (λ i l. let l' : i < length name = rw length_of at l in ap lowered (byte_of i l') ∙ true_eq (all_at agree (length name) t i l'))) f))
        (λ g. g ∙ sym f))

-- two tests of which the second, looked at first, passes
pub and_swap_true : (a b : Bool) → b ≡ true → a ≡ (a && b)
and_swap_true true b e = sym e
and_swap_true false b e = refl

-- two tests of which the second, looked at first, fails
pub and_swap_false : (a b : Bool) → b ≡ false → false ≡ (a && b)
and_swap_false a b e = sym (and_false_right a e)

-- ---- what the code reads of a row, put together

module _ (s : List ℕ) (at : ℕ) where
  -- an entry read field by field is that of the row
  pub entry_read : (n : List ℕ) (l m t : ℕ) → n ≡ tab (element_at s (at + 16)) name_most
      → l ≡ high_first s at 4 → m ≡ high_first s (at + 14) 2 → t ≡ high_first s (at + 52) 4
      → ◌≡◌ {A = Entry} (record { name = n; length = l; namelen = m; date = t }) (entry_of (element_at s at))
  unfolding entry_of
  entry_read n l m t en el em et =
      let fl : high_first s at 4 ≡ at32 (element_at s at) 0 = ap (λ (x : ℕ). high_first s x 4) (sym (add-zero at)) ∙ word4_row s at 0 in
      rw (en, el, em, et, row_along s at name_most, fl, word2_row s at 14, word4_row s at 52)

module _ (image : List ℕ) (dir : List (Option ℕ)) (k : ℕ) (long : length image ≡ image_bytes) (hk : k < slot_count) (l : Located dir (disk_of image))
    (name : List ℕ) (at : ℕ) (e : at ≡ slot_place dir k) (r : Bool) (q : r ≡ name_eq (name_of (entry_of (element_at image at))) name) where
  name_asked : name_eq (slot_name (disk_of image) k) name ≡ r
  name_asked =
      ap (λ (x : List ℕ). name_eq x name) (name_row image dir k long hk l)
      ∙ ap (λ (x : ℕ). name_eq (name_of (entry_of (element_at image x))) name) (sym e) ∙ sym q

  -- if the name is equal, the slot is the one looked for if it is held
  pub held_named : (h : Bool) → h ≡ held (disk_of image) k → r ≡ true → h ≡ (held (disk_of image) k && name_eq (slot_name (disk_of image) k) name)
  held_named h p t = p ∙ and_swap_true (held (disk_of image) k) (name_eq (slot_name (disk_of image) k) name) (name_asked ∙ t)

  -- if the name is not equal, the slot is not the one looked for
  pub not_named : r ≡ false → false ≡ (held (disk_of image) k && name_eq (slot_name (disk_of image) k) name)
  not_named t = and_swap_false (held (disk_of image) k) (name_eq (slot_name (disk_of image) k) name) (name_asked ∙ t)

-- ---- the searches

module _ (d : Disk) where
  module _ (name : List ℕ) where
    abbrev named : ℕ → Bool
    named k = held d k && name_eq (slot_name d k) name

    -- the slot of a name, where there is one
    abbrev pub named_slot : Option ℕ
    named_slot = first_below named (dir_end d)

    -- a slot that has the name is the one that is found
    pub searched_slot : (k : ℕ) → named_slot ≡ Some k → (k < dir_end d) × (find_name d name ≡ k)
    unfolding find_name
    searched_slot k e = first_lowest named (dir_end d) k e

    -- if no slot has the name, the directory's end is found
    pub found_none : named_slot ≡ None → find_name d name ≡ dir_end d
    unfolding find_name
    found_none e = none_lowest named (dir_end d) e

  abbrev vacant : ℕ → Bool
  vacant k = ltb 0 k && not (held d k)

  -- the first slot that is vacant, or else the directory's end, is the vacant slot
  pub vacant_or_end : (r : Option ℕ) (end k : ℕ) → r ≡ first_below vacant (dir_end d) → end ≡ dir_end d → k ≡ unwrap_or r end → k ≡ vacant_slot d
  unfolding vacant_slot
  vacant_or_end r end k e q h = h ∙ ap₂ unwrap_or e q ∙ first_or vacant (dir_end d)
