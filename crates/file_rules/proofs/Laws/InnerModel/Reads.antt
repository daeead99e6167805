-- What is read of the inner model's disk: the header, the map, the directory, a file's content; so list and read give what the inner model gives.
-- Rests on the fields of records, entries and the header (Fields), and on how a whole disk is read (Base.Whole).
use Rattle.std.specs.Prelude.{◌≡◌, ◌≢◌, Bool, true, false, ◌&&◌, ltb}
use Rattle.std.proofs.Math.Path.{refl, sym, ap, ap₂}
use Rattle.std.proofs.Common.{◌∙◌}
use Rattle.std.proofs.Math.Bool.{not, cond}
use mathlib.Core.List.{List, [], ◌++◌}
use Rattle.std.proofs.Math.Option.{none, some}
use Prim.Native.Nat.{ℕ, zero, suc, ◌+◌, ◌-◌, ◌*◌, ◌/◌, ◌%◌, ◌≤◌, ◌<◌}
use native.Mathlib.Omega.{arith}
use Rattle.std.proofs.Math.Dec.{eqb}
use Rattle.std.proofs.Math.ListN.{length, get_or, take}
use Rattle.laws.specs.Lists.{tab}
use Rattle.laws.specs.Below.{count, lowest}
use Rattle.laws.specs.Numbers.{at16, at32, quotient_up, big_endian}
use Rattle.laws.specs.Options.{is_some}
use Rattle.laws.specs.Laws.Cases.{by_order, by_equal}
use Rattle.laws.specs.Laws.Tests.{lt_true, lt_false, eq_true, eq_false, true≢false, cond_true, cond_false, and_true, and_false_left, and_false_right}
use Rattle.laws.specs.Laws.All.{all_is, all_false}
use Rattle.laws.specs.Laws.Lowest.{lowest_hit, lowest_only, lowest_cong}
use Rattle.laws.specs.Laws.Tab.{tab_self, take_tab, tab_ext}
use Rattle.laws.specs.Laws.Count.{count_cong, sum_at}
use Rattle.laws.specs.Laws.Numbers.{at16_is}
use Rattle.sector_rules.specs.Geometry.{blocks}
use Rattle.sector_rules.specs.Replies.{refusal}
use Rattle.file_rules.specs.declared.Record.{Record}
use Rattle.file_rules.specs.declared.Record.TheVariants.{File}
use Rattle.file_rules.specs.Arguments.{listed, count_listed}
use Rattle.file_rules.specs.Calls.{Outcome, buffer_kept, deliver, entries, list_sound, data_of, read_sound}
use Rattle.file_rules.specs.Directory.{name_eq, name_right, entry_of, entry_byte, name_of, entry_for, slot_byte, slot_entry, slot_name, held, dir_bytes}
use Rattle.file_rules.specs.Directory.{dir_end, find_name, vacant_slot}
use Rattle.file_rules.specs.Disk.{Disk}
use Rattle.file_rules.proofs.Laws.InnerModel.Inner.{Inner, file_blocks, inner_bad, header, render, inner_find, empty_slot, free_of, inner_list, inner_read}
use Rattle.file_rules.proofs.Laws.InnerModel.Invariant.{parts_of, Inv}
use Rattle.file_rules.proofs.Laws.Base.Header.{at_16, at_20, at_22, at_34, at_36}
use Rattle.file_rules.proofs.Laws.Base.Whole.{With, with_is, record_is, free_count_is, bad_count_is, part_block_is}
use Rattle.file_rules.specs.Map.{record_at, is_bad_record, is_system, is_part, free_count, bad_count, part_block, file_byte}
use Rattle.file_rules.specs.Model.{NamedFile, HeldFile, held_blocks, dir_blocks, usable, free_word, slot_of, held_bytes, dir_byte, content, has_name}
use Rattle.file_rules.specs.Model.{held_entry, held_entries, held_data}
use Rattle.file_rules.specs.Sizes.{block_bytes, slot_bytes, block_slots, map_start, name_most, good_sectors, whole_blocks, bytes_over}
use Rattle.file_rules.specs.Written.{stored_byte, part, blocks_for}
use Rattle.file_rules.proofs.Laws.InnerModel.Fields.{is_part_true, true_is_part, entry_length, entry_name_length, entry_name_byte, entry_low}

module _ (m : Inner) (v : Inv m) where
  abbrev d : Disk
  d = render m

  P : With d (header m) m.owner (content m.slots m.slots)
  unfolding render
  P = with_is (header m) m.owner (content m.slots m.slots)

  -- the map record of a block is its owner
  pub rec : (b : ℕ) → b < blocks → record_at d b ≡ m.owner b
  rec b h = record_is d (header m) m.owner (content m.slots m.slots) P b h (v.own.own_valid b h)

  home_is : (b f s : ℕ) → b < blocks → m.owner b ≡ File f s → part_block d f s ≡ b
  home_is b f s h e =
      part_block_is d (header m) m.owner (content m.slots m.slots) P v.own.own_valid f s
      ∙ lowest_only (λ (j : ℕ). is_part f s (m.owner j)) blocks b h (is_part_true f s (m.owner b) e)
      (λ j k t. v.own.own_once j b f s k h (true_is_part f s (m.owner j) t) e)

  -- ---- the header

  head16 : (o : ℕ) → o + 1 < map_start → at16 (d 0) o ≡ at16 (header m) o
  head16 o h = at16_is (d 0) o ∙ ap₂ (λ (x y : ℕ). x * 256 + y) (P.head o (omega arith)) (P.head (o + 1) h) ∙ sym (at16_is (header m) o)

  -- a byte of the header is read as it was written
  pub head_byte : (o : ℕ) → o < map_start → d 0 o ≡ header m o
  head_byte = P.head

  word34 : at16 (d 0) 34 ≡ whole_blocks (suc m.peak)
  unfolding header
  word34 = head16 34 (omega arith) ∙ at_34 _ _ _ (suc m.peak) (omega (arith, v.peak_most))

  word36 : at16 (d 0) 36 ≡ bytes_over (suc m.peak)
  unfolding header
  word36 = head16 36 (omega arith) ∙ at_36 _ _ _ (suc m.peak)

  -- the directory length that is read is that of all slots up to the peak
  pub dir_bytes_is : dir_bytes d ≡ suc m.peak * slot_bytes
  unfolding dir_bytes
  dir_bytes_is = ap₂ (λ (x y : ℕ). x * block_bytes + y) word34 word36 ∙ omega arith

  -- the end of the directory that is read is the first slot past the peak
  pub dir_end_is : dir_end d ≡ suc m.peak
  unfolding dir_end
  dir_end_is = ap (λ (x : ℕ). x / slot_bytes) dir_bytes_is ∙ omega arith

  -- the update count that is read is the inner model's
  pub word16 : at32 (d 0) 16 ≡ m.updates
  unfolding header at32 big_endian
  word16 =
      rw (P.head 16 (omega arith), P.head 17 (omega arith), P.head 18 (omega arith), P.head 19 (omega arith)) (at_16 _ _ _ _ v.updates_fit)

  -- the free word that is read is the inner model's
  pub word20 : at16 (d 0) 20 ≡ free_word (inner_bad m) m.peak (file_blocks m)
  unfolding header free_word
  word20 = head16 20 (omega arith) ∙ at_20 _ _ (free_word (inner_bad m) m.peak (file_blocks m)) _ (omega arith)

  -- the good word that is read is that of the list of bad blocks
  pub word22 : at16 (d 0) 22 ≡ good_sectors (count_listed m.arguments.bad)
  unfolding header
  word22 = head16 22 (omega arith) ∙ at_22 _ _ _ _

  -- as many blocks are read as bad as the list has
  pub bad_count_at : bad_count d ≡ count_listed m.arguments.bad
  unfolding count_listed
  bad_count_at =
      bad_count_is d (header m) m.owner (content m.slots m.slots) P v.own.own_valid
      ∙ count_cong blocks (λ (b : ℕ). is_bad_record (m.owner b)) (λ (b : ℕ). listed b m.arguments.bad) v.bad_is

  -- as many blocks are read as free as have the free owner
  pub free_count_at : free_count d ≡ count blocks (free_of m.owner)
  unfolding free_of
  free_count_at = free_count_is d (header m) m.owner (content m.slots m.slots) P v.own.own_valid

  -- ---- the directory

  -- a block whose record is not that of the system is not block 0
  pub not_zero : (b : ℕ) (r : Record) → m.owner b ≡ r → is_system r ≡ false → b ≢ 0
  unfolding is_system
  not_zero b r e f z = true≢false (is_system r) (ap is_system (sym e ∙ ap m.owner z ∙ v.own.own_zero)) f

  -- byte o of part s of file f
  part_byte : (f s o : ℕ) → s < parts_of m f → o < block_bytes → d (part_block d f s) o ≡ content m.slots m.slots (File f s) o
  unfolding is_system
  part_byte f s o h l =
      let w : (b : ℕ) × (b < blocks) × (m.owner b ≡ File f s) = v.own.own_part f s h in
      let nz : w.0 ≢ 0 = not_zero w.0 (File f s) w.2 refl in
      ap (λ (x : ℕ). d x o) (home_is w.0 f s w.1 w.2)
      ∙ P.block w.0 o (omega arith) w.1 l
      ∙ ap (λ (r : Record). content m.slots m.slots r o) w.2

  -- the bytes of a slot that are read are those of the inner model's slot
  pub slot_is : (k i : ℕ) → k ≤ m.peak → i < slot_bytes → slot_byte d k i ≡ slot_of (m.slots k) i
  unfolding slot_byte parts_of dir_blocks content dir_byte
  slot_is k i h l =
      let e : k / block_slots * block_slots + (k % block_slots * slot_bytes + i) / slot_bytes ≡ k = omega arith in
      let e' : (k % block_slots * slot_bytes + i) % slot_bytes ≡ i = omega arith in
      part_byte 0 (k / block_slots) (k % block_slots * slot_bytes + i) (omega arith) (omega arith)
      ∙ ap₂ (λ (x y : ℕ). slot_of (m.slots x) y) e e'

  module _ (k : ℕ) (h : k ≤ m.peak) where
    -- a slot is held on the disk if it has a file in the inner model
    pub held_is : (l : HeldFile) → m.slots k ≡ l → held d k ≡ is_some l
    unfolding held is_some slot_of
    held_is none e =
        and_false_right (ltb 0 k)
        (ap not (all_is (λ (i : ℕ). eqb (slot_byte d k i) 0) slot_bytes (λ i g. eq_true (slot_is k i h g ∙ ap (λ (x : HeldFile). slot_of x i) e))))
    held_is (some x) e =
        let b15 : slot_byte d k 15 ≡ length x.name =
        slot_is k 15 h (omega arith) ∙ ap (λ (y : HeldFile). slot_of y 15) e
        ∙ entry_low x.name x.date (length x.content) (v.slot_name_lem k x e).1 in
        let nz : k ≢ 0 = λ z. true≢false (is_some (m.slots k)) (ap is_some e) (ap (λ (j : ℕ). is_some (m.slots j)) z ∙ ap is_some v.slot_zero) in
        and_true (lt_true {a = 0} {b = k} (omega arith))
        (ap not (all_false (λ (i : ℕ). eqb (slot_byte d k i) 0) slot_bytes 15 (omega arith)
        (eq_false {a = slot_byte d k 15} {b = 0} (λ z. omega (arith, (v.slot_name_lem k x e).0)))))

    module _ (x : NamedFile) (e : m.slots k ≡ some x) where
      size_fits : slot_bytes + length x.content ≤ usable * block_bytes
      unfolding file_blocks held_blocks blocks_for quotient_up
      size_fits =
          let one : held_blocks (m.slots k) ≤ file_blocks m = sum_at (suc m.peak) k (λ (j : ℕ). held_blocks (m.slots j)) (omega arith) in
          let it : (slot_bytes + length x.content + (block_bytes - 1)) / block_bytes ≤ usable = omega (arith, v.free_sum, ap held_blocks e) in
          omega arith

      -- the bytes of a filled slot are those of the file's entry
      pub entry_is : (i : ℕ) → i < slot_bytes → slot_byte d k i ≡ entry_byte (entry_for x.name x.date (length x.content)) i
      unfolding slot_of
      entry_is i l = slot_is k i h l ∙ ap (λ (y : HeldFile). slot_of y i) e

      -- the length that is read of a filled slot
      pub slot_length_is : (slot_entry d k).length ≡ slot_bytes + length x.content
      unfolding slot_entry entry_of at32 big_endian
      slot_length_is =
          rw (entry_is 0 (omega arith), entry_is 1 (omega arith), entry_is 2 (omega arith), entry_is 3 (omega arith))
          (entry_length x.name x.date (length x.content) (omega (arith, size_fits)))

      -- the name length that is read of a filled slot
      pub slot_name_length_is : (slot_entry d k).namelen ≡ length x.name
      unfolding slot_entry entry_of at16 big_endian
      slot_name_length_is =
          rw (entry_is 14 (omega arith), entry_is 15 (omega arith))
          (entry_name_length x.name x.date (length x.content) (v.slot_name_lem k x e).1)

      -- the name that is read of a filled slot is the file's name
      pub slot_name_is : slot_name d k ≡ x.name
      unfolding slot_name name_of slot_entry entry_of
      slot_name_is =
          ap (λ (n : ℕ). take n (tab (λ (i : ℕ). slot_byte d k (16 + i)) name_most)) slot_name_length_is
          ∙ take_tab (λ (i : ℕ). slot_byte d k (16 + i)) (length x.name) name_most (v.slot_name_lem k x e).1
          ∙ tab_ext (λ (i : ℕ). slot_byte d k (16 + i)) (λ (i : ℕ). get_or x.name i 0) (length x.name)
          (λ i l. entry_is (16 + i) (omega (arith, (v.slot_name_lem k x e).1))
          ∙ entry_name_byte x.name x.date (length x.content) i (omega (arith, (v.slot_name_lem k x e).1)))
          ∙ tab_self x.name

    named_is : (name : List ℕ) (l : HeldFile) → m.slots k ≡ l → (held d k && name_eq (slot_name d k) name) ≡ has_name name l
    unfolding has_name is_some
    named_is name none e = and_false_left (name_eq (slot_name d k) name) (held_is none e)
    named_is name (some x) e = ap₂ (λ (a b : Bool). a && b) (held_is (some x) e) (ap (λ (n : List ℕ). name_eq n name) (slot_name_is x e))

    entry_list : (l : HeldFile) → m.slots k ≡ l → cond (held d k) (tab (slot_byte d k) slot_bytes) [] ≡ held_entry l
    unfolding held_entry is_some
    entry_list none e = cond_false _ _ (held_is none e)
    entry_list (some x) e =
        cond_true _ _ (held_is (some x) e)
        ∙ tab_ext (slot_byte d k) (entry_byte (entry_for x.name x.date (length x.content))) slot_bytes (entry_is x e)

  -- a name is found on the disk in the slot in which it is found in the inner model
  pub find_name_is : (name : List ℕ) → find_name d name ≡ inner_find m name
  unfolding find_name inner_find
  find_name_is name =
      ap (λ (n : ℕ). lowest (λ (k : ℕ). (held d k && name_eq (slot_name d k) name)) n) dir_end_is
      ∙ lowest_cong (λ (k : ℕ). (held d k && name_eq (slot_name d k) name)) (λ (k : ℕ). has_name name (m.slots k)) (suc m.peak)
      (λ k h. named_is k (omega arith) name (m.slots k) refl)

  -- the lowest vacant slot of the disk is the lowest empty one of the inner model
  pub vacant_slot_is : vacant_slot d ≡ empty_slot m
  unfolding vacant_slot empty_slot
  vacant_slot_is =
      ap (λ (n : ℕ). lowest (λ (k : ℕ). (ltb 0 k && not (held d k))) n) dir_end_is
      ∙ lowest_cong (λ (k : ℕ). (ltb 0 k && not (held d k))) (λ (k : ℕ). (ltb 0 k && not (is_some (m.slots k)))) (suc m.peak)
      (λ k h. ap (λ (b : Bool). (ltb 0 k && not b)) (held_is k (omega arith) (m.slots k) refl))

  entries_below : (n : ℕ) → n ≤ suc m.peak → entries d n ≡ held_entries m.slots n
  unfolding entries held_entries
  entries_below zero h = refl
  entries_below (suc n) h = ap₂ (λ (xs ys : List ℕ). xs ++ ys) (entries_below n (omega arith)) (entry_list n (omega arith) (m.slots n) refl)

  -- the entries that are read are those of the files present
  pub entries_is : entries d (dir_end d) ≡ held_entries m.slots (suc m.peak)
  entries_is = ap (entries d) dir_end_is ∙ entries_below (suc m.peak) (omega arith)

  -- the data that is read of a filled slot is the file's content
  pub read_at_is : (k : ℕ) (x : NamedFile) → suc k ≤ m.peak → m.slots (suc k) ≡ some x → data_of d (suc k) ≡ x.content
  unfolding data_of file_byte parts_of held_blocks blocks_for quotient_up content part held_bytes stored_byte
  read_at_is k x h e =
      let n : ℕ = length x.content in
      let size : held_blocks (m.slots (suc k)) ≡ (slot_bytes + n + (block_bytes - 1)) / block_bytes = ap held_blocks e in
      let long : (slot_entry d (suc k)).length - slot_bytes ≡ n = omega (arith, slot_length_is (suc k) h x e) in
      ap (λ (j : ℕ). tab (λ (i : ℕ). file_byte d (suc k) (slot_bytes + i)) j) long
      ∙ tab_ext (λ (i : ℕ). file_byte d (suc k) (slot_bytes + i)) (λ (i : ℕ). get_or x.content i 0) n
      (λ i l.
      let whole : (slot_bytes + i) / block_bytes * block_bytes + (slot_bytes + i) % block_bytes ≡ slot_bytes + i = omega arith in
      let back : slot_bytes + i - slot_bytes ≡ i = omega arith in
      part_byte (suc k) ((slot_bytes + i) / block_bytes) ((slot_bytes + i) % block_bytes) (omega arith) (omega arith)
      ∙ cond_true _ _ (lt_true {a = (slot_bytes + i) % block_bytes} {b = block_bytes} (omega arith))
      ∙ ap₂ held_bytes e whole
      ∙ cond_false _ _ (lt_false {a = slot_bytes + i} {b = slot_bytes} (omega arith))
      ∙ ap (λ (j : ℕ). get_or x.content j 0) back)
      ∙ tab_self x.content

  -- ---- list and read

  -- a slot in which a name is found holds a file of that name and is not slot 0
  pub found_slot : (name : List ℕ) → inner_find m name < suc m.peak
      → (x : NamedFile) × (m.slots (inner_find m name) ≡ some x) × (name_eq x.name name ≡ true) × (0 < inner_find m name)
  unfolding inner_find has_name is_some
  found_slot name h =
      go (m.slots (inner_find m name)) refl (lowest_hit (λ (k : ℕ). has_name name (m.slots k)) (suc m.peak) h)
    where
      pos : (x : NamedFile) → m.slots (inner_find m name) ≡ some x → 0 < inner_find m name
      pos x e =
          by_equal (inner_find m name) 0
          (λ z. true≢false (is_some (m.slots (inner_find m name))) (ap is_some e) (ap (λ (j : ℕ). is_some (m.slots j)) z ∙ ap is_some v.slot_zero))
          (λ z. omega arith)

      go : (l : HeldFile) → m.slots (inner_find m name) ≡ l → has_name name (m.slots (inner_find m name)) ≡ true
          → (x : NamedFile) × (m.slots (inner_find m name) ≡ some x) × (name_eq x.name name ≡ true) × (0 < inner_find m name)
      go none e t = true≢false (has_name name (m.slots (inner_find m name))) t (ap (has_name name) e)
      go (some x) e t = (x, e, sym (ap (has_name name) e) ∙ t, pos x e)

  -- list gives on the disk what it gives in the inner model
  pub list_is : (buf : List ℕ) → list_sound d buf ≡ inner_list m buf
  unfolding list_sound inner_list
  list_is buf = ap (λ (xs : List ℕ). deliver xs buf) entries_is

  data_is : (k : ℕ) (x : NamedFile) → 0 < k → k ≤ m.peak → m.slots k ≡ some x → data_of d k ≡ held_data (m.slots k)
  unfolding held_data
  data_is zero x p h e = absurd (omega arith)
  data_is (suc k) x p h e = read_at_is k x h e ∙ sym (ap held_data e)

  -- read gives on the disk what it gives in the inner model
  pub read_is : (name buf : List ℕ) → read_sound d name buf ≡ inner_read m name buf
  unfolding read_sound inner_read
  read_is name buf =
      rw (find_name_is name, dir_end_is)
      (ap (λ (o : Outcome). cond (name_right name) o (buffer_kept buf (refusal 12)))
      (by_order (inner_find m name) (suc m.peak)
      (λ h.
      let w : (x : NamedFile) × (m.slots (inner_find m name) ≡ some x) × (name_eq x.name name ≡ true) × (0 < inner_find m name) = found_slot name h in
      ap (λ (xs : List ℕ). cond (ltb (inner_find m name) (suc m.peak)) (deliver xs buf) (buffer_kept buf (refusal 14)))
      (data_is (inner_find m name) w.0 w.3 (omega arith) w.1))
      (λ h. cond_false _ _ (lt_false h) ∙ sym (cond_false _ _ (lt_false h)))))
