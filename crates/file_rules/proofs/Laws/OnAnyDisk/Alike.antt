-- Disks that differ in tails of free records alone: all that is read of them is the same.
-- Rests on records in their bytes (Base.Records, OnAnyDisk.Kept), on the header by its bytes (Base.Header) and on block 0 (Base.Sound).
use Rattle.std.specs.Prelude.{◌≡◌, Bool, ◌&&◌, List}
use Rattle.std.proofs.Math.Path.{refl, ap, ap₂, fun_ext}
use Rattle.std.proofs.Common.{sym, ◌∙◌, arith}
use Rattle.std.proofs.Math.Bool.{not, cond}
use Rattle.std.proofs.Math.Option.{Option, none, some}
use Prim.Native.Nat.{ℕ, zero, suc, ◌+◌, ◌*◌, ◌/◌, ◌%◌, ◌≤◌}
use Rattle.std.proofs.Math.Dec.{ltb, eqb}
use Rattle.laws.specs.Below.{all, lowest, count}
use Rattle.laws.specs.Numbers.{at16, at32}
use Rattle.laws.specs.Options.{or_else}
use Rattle.laws.specs.Laws.Cases.{by_order}
use Rattle.laws.specs.Laws.Numbers.{big_ext}
use Rattle.sector_rules.specs.declared.Reply.{Reply}
use Rattle.sector_rules.specs.Faults.{fault_below, refusal_at}
use Rattle.sector_rules.specs.Geometry.{blocks}
use Rattle.sector_rules.specs.Replies.{done, refusal}
use Rattle.file_rules.specs.declared.Record.{Record}
use Rattle.file_rules.specs.declared.Record.TheVariants.{System}
use Rattle.file_rules.specs.declared.Entry.{Entry}
use Rattle.file_rules.specs.Calls.{opens_block, needed, entries, data_of}
use Rattle.file_rules.specs.Check.{record_fault, map_fault, parts_right, no_record_bears, new_name, entry_right, file_right, file_fault, free_right}
use Rattle.file_rules.specs.Check.{good_right, refusal8, refusal9, refusal19, start_refusal, refusal10, refusal11, disk_refusal}
use Rattle.file_rules.specs.Directory.{name_of, entry_of, slot_byte, slot_entry, slot_name, held, dir_bytes, dir_end, find_name, vacant_slot}
use Rattle.file_rules.specs.Disk.{Disk}
use Rattle.file_rules.specs.FirstTrack.{counted}
use Rattle.file_rules.specs.FreeTails.{SameOrBothFree, same_bytes, both_free, SameButTails}
use Rattle.file_rules.proofs.Laws.Base.Header.{judged_alike}
use Rattle.file_rules.proofs.Laws.Base.Records.{begins_free}
use Rattle.file_rules.proofs.Laws.Base.Sound.{first_passed, start_nine, part_not_first}
use Rattle.file_rules.proofs.Laws.OnAnyDisk.Kept.{record_same}
use Rattle.file_rules.specs.Map.{record_at, is_free, is_bad_record, bears, is_part, within, free_at, free_count, bad_at, bad_count, part_block, file_byte}
use Rattle.file_rules.specs.Sizes.{block_bytes, slot_bytes, block_slots, slot_count, map_start, record_bytes, blocks_of, free_sectors, good_sectors}

-- ---- records

-- like records are the same record
pub like_record : (d e : Disk) (b : ℕ) → SameOrBothFree d e b → record_at d b ≡ record_at e b
like_record d e b (same_bytes s) = record_same d e b s
like_record d e b (both_free p q x y) = begins_free d b p x ∙ sym (begins_free e b q y)

-- disks that differ at most in tails, and past the end of block 0 not at all
pub record Alike (d e : Disk) : Type 0 where
  pub same_but : SameButTails d e
  pub past : (o : ℕ) → block_bytes ≤ o → d 0 o ≡ e 0 o

module _ (d e : Disk) (a : Alike d e) where
  -- they have the same records
  pub records_alike : record_at d ≡ record_at e
  records_alike =
      fun_ext (λ (b : ℕ).
      by_order b blocks (λ l. like_record d e b (a.same_but.records b l))
      (λ h. record_same d e b (λ i k. a.past (map_start + record_bytes * b + i) (omega arith))))

  record_alike : (b : ℕ) → record_at d b ≡ record_at e b
  record_alike b = ap (λ (f : ℕ → Record). f b) records_alike

  -- the same blocks are free
  pub free_alike : free_at d ≡ free_at e
  unfolding free_at
  free_alike = fun_ext (λ (b : ℕ). ap is_free (record_alike b))

  -- as many are
  pub count_alike : free_count d ≡ free_count e
  unfolding free_count
  count_alike = ap (count blocks) free_alike

  -- the part of a file is in the same block
  pub part_alike : (f s : ℕ) → part_block d f s ≡ part_block e f s
  unfolding part_block
  part_alike f s = ap (λ (r : ℕ → Record). lowest (λ (b : ℕ). is_part f s (r b)) blocks) records_alike

  -- a word of the header is the same
  pub word_alike : (o : ℕ) → o + 2 ≤ map_start → at16 (d 0) o ≡ at16 (e 0) o
  unfolding at16
  word_alike o h = big_ext (λ (i : ℕ). d 0 (o + i)) (λ (i : ℕ). e 0 (o + i)) 2 (λ i l. a.same_but.header (o + i) (omega arith))

  -- the update count is the same
  pub updates_alike : at32 (d 0) 16 ≡ at32 (e 0) 16
  unfolding at32
  updates_alike = big_ext (λ (i : ℕ). d 0 (16 + i)) (λ (i : ℕ). e 0 (16 + i)) 4 (λ i l. a.same_but.header (16 + i) (omega arith))

  dir_alike : dir_bytes d ≡ dir_bytes e
  unfolding dir_bytes
  dir_alike = ap₂ (λ (x y : ℕ). x * block_bytes + y) (word_alike 34 (omega arith)) (word_alike 36 (omega arith))

  -- the directory ends at the same slot
  pub end_alike : dir_end d ≡ dir_end e
  unfolding dir_end
  end_alike = ap (λ (n : ℕ). n / slot_bytes) dir_alike

  -- 8 judges alike
  eight_alike : refusal8 d ≡ refusal8 e
  unfolding refusal8
  eight_alike = ap (refusal_at 8) (judged_alike d e (λ o h. a.same_but.header o (omega arith)) (λ o g h. a.same_but.header o (omega arith)))

  -- 9
  nine_alike : refusal9 d ≡ refusal9 e
  unfolding refusal9 map_fault
  nine_alike = ap (λ (r : ℕ → Record). refusal_at 9 (fault_below blocks (lowest (λ (b : ℕ). record_fault b (r b)) blocks))) records_alike

  -- 19
  nineteen_alike : refusal19 d ≡ refusal19 e
  unfolding refusal19 good_right bad_count bad_at
  nineteen_alike =
      ap₂ (λ (x : ℕ) (r : ℕ → Record). cond (eqb x (good_sectors (count blocks (λ (b : ℕ). is_bad_record (r b))))) none (some (refusal 19)))
      (word_alike 22 (omega arith)) records_alike

  -- what a judgement begins with is alike
  pub start_alike : start_refusal d ≡ start_refusal e
  unfolding start_refusal
  start_alike = rw (eight_alike, nine_alike, nineteen_alike)

  -- 11 judges alike
  pub eleven_alike : refusal11 d ≡ refusal11 e
  unfolding refusal11 free_right
  eleven_alike =
      ap₂ (λ (x y : ℕ). cond (eqb x (free_sectors y)) none (some (refusal 11))) (word_alike 20 (omega arith)) count_alike

  -- the counts of the first track are the same
  pub counted_alike : counted d ≡ counted e
  unfolding counted
  counted_alike =
      ap₂ (λ (x y : ℕ). record { reply = done; free = x; good = y; held = count blocks (λ (b : ℕ). not (free_at d b)) })
      (word_alike 20 (omega arith)) (word_alike 22 (omega arith))
      ∙ ap (λ (p : ℕ → Bool). record { reply = done; free = at16 (e 0) 20; good = at16 (e 0) 22; held = count blocks (λ (b : ℕ). not (p b)) }) free_alike

  parts_alike : (f n : ℕ) → parts_right d f n ≡ parts_right e f n
  unfolding parts_right
  parts_alike f n =
      ap (λ (r : ℕ → Record).
      all (λ (b : ℕ). within f n (r b)) blocks && all (λ (s : ℕ). eqb (count blocks (λ (b : ℕ). is_part f s (r b))) 1) n) records_alike

  bears_alike : (f : ℕ) → no_record_bears d f ≡ no_record_bears e f
  unfolding no_record_bears
  bears_alike f = ap (λ (r : ℕ → Record). all (λ (b : ℕ). not (bears f (r b))) blocks) records_alike

  -- ---- slots and files, where block 0 is the system's

  module _ (first : record_at d 0 ≡ System) where
    in_part : (f s o : ℕ) → d (part_block d f s) o ≡ e (part_block e f s) o
    in_part f s o = a.same_but.contents (part_block d f s) o (part_not_first d first f s) ∙ ap (λ (b : ℕ). e b o) (part_alike f s)

    -- slots have the same bytes
    pub slots_alike : slot_byte d ≡ slot_byte e
    unfolding slot_byte
    slots_alike = fun_ext (λ (k : ℕ). fun_ext (λ (i : ℕ). in_part 0 (k / block_slots) (k % block_slots * slot_bytes + i)))

    -- files have the same bytes
    pub files_alike : file_byte d ≡ file_byte e
    unfolding file_byte
    files_alike = fun_ext (λ (f : ℕ). fun_ext (λ (i : ℕ). in_part f (i / block_bytes) (i % block_bytes)))

    -- the same slots are held
    pub held_alike : held d ≡ held e
    unfolding held
    held_alike = fun_ext (λ (k : ℕ). ap (λ (g : ℕ → ℕ → ℕ). ltb 0 k && not (all (λ (i : ℕ). eqb (g k i) 0) slot_bytes)) slots_alike)

    -- with the same entries
    pub entry_alike : slot_entry d ≡ slot_entry e
    unfolding slot_entry
    entry_alike = fun_ext (λ (k : ℕ). ap (λ (g : ℕ → ℕ → ℕ). entry_of (g k)) slots_alike)

    names_alike : slot_name d ≡ slot_name e
    unfolding slot_name
    names_alike = fun_ext (λ (k : ℕ). ap (λ (g : ℕ → Entry). name_of (g k)) entry_alike)

    -- a name is found in the same slot
    pub find_alike : (name : List ℕ) → find_name d name ≡ find_name e name
    unfolding find_name
    find_alike name = rw (held_alike, names_alike, end_alike)

    -- the same slot is the lowest vacant one
    pub vacant_alike : vacant_slot d ≡ vacant_slot e
    unfolding vacant_slot
    vacant_alike = rw (held_alike, end_alike)

    new_alike : (k : ℕ) → new_name d k ≡ new_name e k
    unfolding new_name
    new_alike k = rw (held_alike, names_alike)

    entry_right_alike : (k : ℕ) → entry_right d k ≡ entry_right e k
    unfolding entry_right
    entry_right_alike k = rw (entry_alike, new_alike k, parts_alike k (blocks_of (slot_entry e k).length))

    file_right_alike : (f : ℕ) → file_right d f ≡ file_right e f
    unfolding file_right
    file_right_alike f = rw (dir_alike, end_alike, held_alike, entry_right_alike f, bears_alike f, parts_alike 0 (blocks_of (dir_bytes e)))

    ten_alike : refusal10 d ≡ refusal10 e
    unfolding refusal10 file_fault
    ten_alike =
        ap (λ (g : ℕ → Bool). refusal_at 10 (fault_below slot_count (lowest (λ (f : ℕ). not (g f)) slot_count))) (fun_ext file_right_alike)

    -- the same entries are listed
    pub entries_alike : (n : ℕ) → entries d n ≡ entries e n
    unfolding entries
    entries_alike zero = refl
    entries_alike (suc n) = rw (entries_alike n, held_alike, slots_alike)

    -- a file has the same data
    pub data_alike : (k : ℕ) → data_of d k ≡ data_of e k
    unfolding data_of
    data_alike k = rw (files_alike, entry_alike)

  by_start : (v : Option Reply) → start_refusal e ≡ v
      → or_else (start_refusal d) (or_else (refusal10 d) (refusal11 d)) ≡ or_else (start_refusal e) (or_else (refusal10 e) (refusal11 e))
  unfolding or_else
  by_start none q = rw (start_alike, ten_alike (first_passed d (start_nine d (start_alike ∙ q))), eleven_alike)
  by_start (some r) q = rw (start_alike, q)

  -- the judgement of the disk is alike
  pub refusal_alike : disk_refusal d ≡ disk_refusal e
  unfolding disk_refusal
  refusal_alike = by_start (start_refusal e) refl

  -- an add needs the same blocks
  pub opens_alike : (k : ℕ) → opens_block d k ≡ opens_block e k
  unfolding opens_block
  opens_alike k = rw end_alike

  -- and as many
  pub needed_alike : (k size : ℕ) → needed d k size ≡ needed e k size
  unfolding needed
  needed_alike k size = rw (opens_alike k)
