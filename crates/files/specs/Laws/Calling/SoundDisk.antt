-- A sound disk has a vacant slot that fits a record. Whether there is room; add and remove case by case.
-- Rests on what a sound disk has (file_rules, Base.Ends), on what numbers say (Loading.Records) and on rows that are written (Writing.Steps).
use Rattle.std.specs.Prelude.{◌≡◌, refl, true, ◌&&◌, List, Some, None, leb, eqb, length, get_or}
use Rattle.std.proofs.Common.{sym, ap, ap₂, ◌∙◌, add-one, arith}
use Rattle.std.proofs.Math.Bool.{Bool, false, not}
use Rattle.std.proofs.Math.Option.{none}
use Prim.Native.Nat.{ℕ, suc, ◌+◌, ◌-◌, ◌%◌, ◌≤◌, ◌<◌, ◌/◌}
use Rattle.std.proofs.Math.Dec.{ltb}
use Rattle.std.proofs.lemmas.Bool.{not-false}
use Rattle.laws.specs.Lists.{tab}
use Rattle.laws.specs.Changes.{patch, put}
use Rattle.laws.specs.Below.{all, count, lowest}
use Rattle.laws.specs.Numbers.{quotient_up}
use Rattle.laws.specs.Laws.Cases.{by_order, by_test}
use Rattle.laws.specs.Laws.Tests.{lt_true, lt_false, le_false, true_le, eq_false, true_eq, true≢false, cond_true, cond_false, and_true}
use Rattle.laws.specs.Laws.Tests.{and_false_left, and_left, and_right}
use Rattle.laws.specs.Laws.All.{all_at}
use Rattle.laws.specs.Laws.Lowest.{lowest_all, lowest_le, lowest_low}
use Rattle.laws.specs.Laws.Tab.{tab_ext, get_d_past}
use Rattle.laws.specs.Laws.Changes.{patch_in, patch_above}
use Rattle.laws.specs.Laws.Count.{count_none, count_le}
use Rattle.sector_rules.specs.Geometry.{blocks, image_bytes}
use Rattle.sector_rules.specs.Replies.{reply_with, done, refusal}
use Rattle.sector_rules.specs.declared.Reply.{Reply}
use Rattle.file_rules.specs.Calls.{DiskChanged, ImageChanged, disk_kept, image_kept, opens_block, needed, add_at, add_sound, remove_at, remove_sound, imaged}
use Rattle.file_rules.specs.Check.{parts_right, entry_right, file_right, file_fault, new_name, disk_refusal}
use Rattle.files.specs.Laws.Loading.Slots.{named_slot, searched_slot, found_none}
use Rattle.file_rules.specs.Directory.{name_right, entry_for, slot_entry, held, dir_end, vacant_slot}
use Rattle.file_rules.specs.Disk.{Disk, disk_of, image_of}
use Rattle.file_rules.proofs.Laws.Base.Disk.{image_disk}
use Rattle.files.specs.Laws.Loading.Records.{decode_none}
use Rattle.file_rules.proofs.Laws.Base.Sound.{sound_ten}
use Rattle.file_rules.proofs.Laws.Base.Ends.{files_right, end_within}
use Rattle.files.specs.Laws.Writing.Steps.{overlay_tab, put_row}
use Rattle.file_rules.specs.Map.{decode, record_at, is_part, within, free_at, free_count, file_bound, sequences}
use Rattle.file_rules.specs.Sizes.{slot_bytes, block_slots, slot_count, name_most, blocks_of}
use Rattle.file_rules.specs.Written.{blocks_for}

-- ---- what was passed

-- on a sound disk every file number is sound
pub file_sound : (d : Disk) → disk_refusal d ≡ none → (f : ℕ) → f < slot_count → file_right d f ≡ true
unfolding file_fault
file_sound d passed f h =
    not-false (file_right d f) (lowest_all (λ (k : ℕ). not (file_right d k)) slot_count (files_right d (sound_ten d passed)) f h)

-- a sequence of a sound file has one block
parts_one : (d : Disk) (f n : ℕ) → parts_right d f n ≡ true → (s : ℕ) → s < n → count blocks (λ (b : ℕ). is_part f s (record_at d b)) ≡ 1
unfolding parts_right
parts_one d f n right s h =
    let inside : Bool = all (λ (b : ℕ). within f n (record_at d b)) blocks in
    let once : Bool = all (λ (s : ℕ). eqb (count blocks (λ (b : ℕ). is_part f s (record_at d b))) 1) n in
    true_eq (all_at (λ (s : ℕ). eqb (count blocks (λ (b : ℕ). is_part f s (record_at d b))) 1) n (and_right inside once right) s h)

-- ---- the vacant slot

-- how many file numbers a record can bear: 3,968 (§7.22)
abbrev file_count : ℕ
file_count = file_bound / sequences

no_part : (n k s : ℕ) → file_count ≤ k → is_part k s (decode n) ≡ false
unfolding is_part
no_part n k s hk = decode_none n (is_part k s) refl refl refl refl (λ f t h. and_false_left (eqb t s) (eq_false {a = f} {b = k} (λ e. omega arith)))

-- a held slot that is sound has a block
entry_one : (d : Disk) (k : ℕ) → entry_right d k ≡ true → count blocks (λ (b : ℕ). is_part k 0 (record_at d b)) ≡ 1
unfolding entry_right quotient_up
entry_one d k e =
    let size : ℕ = (slot_entry d k).length in
    let long : Bool = leb slot_bytes size in
    let first : Bool = leb 1 (slot_entry d k).namelen in
    let last : Bool = leb (slot_entry d k).namelen name_most in
    let parts : Bool = parts_right d k (blocks_of size) in
    let after-long : (first && (last && (new_name d k && parts))) ≡ true = and_right long _ e in
    let after-name : (new_name d k && parts) ≡ true = and_right last _ (and_right first _ after-long) in
    let whole : parts ≡ true = and_right (new_name d k) parts after-name in
    let most : slot_bytes ≤ size = true_le (and_left long _ e) in
    parts_one d k (blocks_of size) whole 0 (omega arith)

listed_right : (d : Disk) (k : ℕ) → 0 < k → k < dir_end d → held d k ≡ true → file_right d k ≡ true → entry_right d k ≡ true
unfolding file_right
listed_right d k pos h t e = sym (cond_false _ _ (eq_false {a = k} {b = 0} (omega arith)) ∙ cond_true _ _ (and_true (lt_true h) t)) ∙ e

far_none : (d : Disk) (k : ℕ) → file_count ≤ k → count blocks (λ (b : ℕ). is_part k 0 (record_at d b)) ≡ 0
unfolding record_at
far_none d k hk = count_none blocks (λ (b : ℕ). is_part k 0 (record_at d b)) (λ b h. no_part _ k 0 hk)

module _ (d : Disk) (passed : disk_refusal d ≡ none) where
  -- a held slot whose number no record can bear would have no block
  far_vacant : (k : ℕ) → file_count ≤ k → k < dir_end d → held d k ≡ false
  far_vacant k hk hd =
      by_test (held d k)
      (λ t.
      let right : file_right d k ≡ true = file_sound d passed k (omega (arith, end_within d passed)) in
      let one : count blocks (λ (b : ℕ). is_part k 0 (record_at d b)) ≡ 1 = entry_one d k (listed_right d k (omega arith) hd t right) in
      absurd (omega (arith, far_none d k hk)))
      (λ t. t)

  -- the lowest vacant slot of a sound disk fits a record
  pub vacant_most : vacant_slot d < sequences
  unfolding vacant_slot
  vacant_most =
      let asked : ℕ → Bool = λ (k : ℕ). ltb 0 k && not (held d k) in
      by_order file_count (lowest asked (dir_end d))
      (λ h.
      let e : held d file_count ≡ false = far_vacant file_count (omega arith) (omega (arith, lowest_le asked (dir_end d))) in
      true≢false (asked file_count) (and_true {a = ltb 0 file_count} (lt_true {a = 0} {b = file_count} (omega arith)) (ap not e))
      (lowest_low asked (dir_end d) file_count h))
      (λ h. omega arith)

-- ---- whether there is room

needed_least : (d : Disk) (k size : ℕ) → blocks_for size ≤ needed d k size
unfolding needed
needed_least d k size =
    by_test (opens_block d k)
    (λ t. omega (arith, cond_true {b = opens_block d k} (suc (blocks_for size)) (blocks_for size) t))
    (λ t. omega (arith, cond_false {b = opens_block d k} (suc (blocks_for size)) (blocks_for size) t))

free_most : (d : Disk) → free_count d ≤ blocks
unfolding free_count
free_most d = count_le blocks (free_at d)

-- data for which there is room is no longer than the image
pub room_size : (d : Disk) (k size : ℕ) → leb (needed d k size) (free_count d) ≡ true → size ≤ image_bytes
unfolding blocks_for quotient_up
room_size d k size e = omega (arith, true_le {a = needed d k size} {b = free_count d} e, needed_least d k size, free_most d)

-- for data longer than the image there is no room
pub room_none : (d : Disk) (k size : ℕ) → image_bytes < size → false ≡ leb (needed d k size) (free_count d)
unfolding blocks_for quotient_up
room_none d k size h = sym (le_false {a = needed d k size} {b = free_count d} (omega (arith, needed_least d k size, free_most d)))

-- where the directory takes a block, one more than the file's must be free
pub room_opens : (d : Disk) (k size n free : ℕ) → opens_block d k ≡ true → n ≡ blocks_for size
    → free ≡ free_count d → leb (n + 1) free ≡ leb (needed d k size) (free_count d)
unfolding needed
room_opens d k size n free t e q = ap₂ leb (add-one n ∙ ap suc e ∙ sym (cond_true _ _ t)) q

-- where the directory takes none, as many as the file's must be free
pub room_keeps : (d : Disk) (k size n free : ℕ) → opens_block d k ≡ false
    → n ≡ blocks_for size → free ≡ free_count d → leb n free ≡ leb (needed d k size) (free_count d)
unfolding needed
room_keeps d k size n free t e q = ap₂ leb (e ∙ sym (cond_false _ _ t)) q

-- the directory takes a block if the slot is at its end and the first of a block
pub opens_is : (d : Disk) (k end : ℕ) → end ≡ dir_end d → (eqb k end && eqb (k % block_slots) 0) ≡ opens_block d k
unfolding opens_block
opens_is d k end e = ap (λ (x : ℕ). eqb k x && eqb (k % block_slots) 0) e

-- ---- an entry for a new file

-- a name put into 36 zeros is filled with zeros
pub name_filled : (row₀ row₁ name : List ℕ) → row₀ ≡ tab (λ (i : ℕ). 0) name_most → row₁ ≡ put row₀ 0 name → row₁ ≡ tab (λ (i : ℕ). get_or name i 0) name_most
name_filled row₀ row₁ name e₀ e₁ =
    let g : ℕ → ℕ = λ (i : ℕ). get_or name i 0 in
    e₁
    ∙ put_row row₀ 0 name (length name) refl
    ∙ overlay_tab (λ (i : ℕ). 0) name_most 0 (length name) g row₀ e₀
    ∙ tab_ext (patch (λ (i : ℕ). 0) 0 (length name) g) g name_most
    (λ k h. by_order k (length name)
    (λ l. let q : k - 0 ≡ k = omega arith in patch_in (λ (i : ℕ). 0) 0 (length name) g k (omega arith) (omega arith) ∙ ap g q)
    (λ l. patch_above (λ (i : ℕ). 0) 0 (length name) g k (omega arith) ∙ sym (get_d_past name k l)))

-- the entry of a new file, field by field
pub entry_filled : (row name : List ℕ) (date size : ℕ) → row ≡ tab (λ (i : ℕ). get_or name i 0) name_most
    → record { name = row; length = slot_bytes + size; namelen = length name; date = date } ≡ entry_for name date size
unfolding entry_for
entry_filled row name date size e = ap (λ (r : List ℕ). record { name = r; length = slot_bytes + size; namelen = length name; date = date }) e

-- ---- remove, case by case

-- what a call that writes gave: its reply and the image
pub record Gave (c : DiskChanged) (r : Reply) (l : List ℕ) : Type 0 where
  pub answer : r ≡ c.answer
  pub image : l ≡ image_of c.disk_after

-- a refusal gives its reply and the image as it was
pub gave_refused : (l : List ℕ) (c : DiskChanged) (r q : Reply) → length l ≡ image_bytes → c ≡ disk_kept (disk_of l) q → r ≡ q → Gave c r l
unfolding disk_kept
gave_refused l c r q long e h =
    record {
      answer = h ∙ sym (ap (λ (x : DiskChanged). x.answer) e);
      image = sym (image_disk l long) ∙ sym (ap (λ (x : DiskChanged). image_of x.disk_after) e);
    }

-- a call that is done gives that and the image of the disk after it
pub gave_done : (l : List ℕ) (c : DiskChanged) (r : Reply) (d : Disk) → c ≡ record { answer = done; disk_after = d } → r ≡ done → l ≡ image_of d → Gave c r l
gave_done l c r d e h q =
    record {
      answer = h ∙ sym (ap (λ (x : DiskChanged). x.answer) e);
      image = q ∙ sym (ap (λ (x : DiskChanged). image_of x.disk_after) e);
    }

-- a remove that empties slot k
abbrev pub removed : Disk → ℕ → DiskChanged
removed d k = record { answer = done; disk_after = remove_at d k }

module _ (d : Disk) (name : List ℕ) where
  -- a remove of a name that is not acceptable is refused with 12
  pub remove_name : name_right name ≡ false → remove_sound d name ≡ disk_kept d (refusal 12)
  unfolding remove_sound
  remove_name t = rw t

  module _ (right : name_right name ≡ true) where
    -- a remove of a name that no slot has is refused with 14
    pub remove_none : named_slot d name ≡ None → remove_sound d name ≡ disk_kept d (refusal 14)
    unfolding remove_sound
    remove_none e = rw (right, found_none d name e, lt_false {a = dir_end d} {b = dir_end d} (omega arith))

    -- a remove of a slot's name is done on that slot
    pub remove_done : (k : ℕ) → named_slot d name ≡ Some k → remove_sound d name ≡ removed d k
    unfolding remove_sound
    remove_done k e = let f = searched_slot d name k e in rw (right, f.1, lt_true f.0)

-- ---- add, case by case

-- an add that fills slot k
abbrev pub added : Disk → List ℕ → ℕ → List ℕ → ℕ → DiskChanged
added d name date content k = record { answer = done; disk_after = add_at d k (entry_for name date (length content)) content }

-- a file fits in slot k of a disk, whatever its date: the slot, the name and the data are in range, and the add is done there
pub record FileFits (d : Disk) (name content : List ℕ) (k : ℕ) : Type 0 where
  pub slot : k < sequences
  pub name_short : length name ≤ name_most
  pub data_short : length content ≤ image_bytes
  pub fills : (date : ℕ) → add_sound d name date content ≡ added d name date content k

module _ (d : Disk) (name : List ℕ) (date : ℕ) (content : List ℕ) where
  -- an add of a name that is not acceptable is refused with 12
  pub add_name : name_right name ≡ false → add_sound d name date content ≡ disk_kept d (refusal 12)
  unfolding add_sound
  add_name t = rw t

  module _ (right : name_right name ≡ true) where
    -- an add of a slot's name is refused with 13 and the slot
    pub add_present : (f : ℕ) → named_slot d name ≡ Some f → add_sound d name date content ≡ disk_kept d (reply_with 13 f 0 0)
    unfolding add_sound
    add_present f e = let q = searched_slot d name f e in rw (right, q.1, lt_true q.0)

    module _ (e : named_slot d name ≡ None) (k : ℕ) (ek : k ≡ vacant_slot d) where
      -- an add without room is refused with 15
      pub add_full : leb (needed d k (length content)) (free_count d) ≡ false → add_sound d name date content ≡ disk_kept d (refusal 15)
      unfolding add_sound
      add_full t = rw (right, found_none d name e, lt_false {a = dir_end d} {b = dir_end d} (omega arith), ← ek, t)

      -- any other add is done on the vacant slot
      pub add_done : leb (needed d k (length content)) (free_count d) ≡ true
          → add_sound d name date content ≡ added d name date content k
      unfolding add_sound
      add_done t = rw (right, found_none d name e, lt_false {a = dir_end d} {b = dir_end d} (omega arith), ← ek, t)

-- ---- what a call wrote, by its refusal, by what it did, or by what it gave

-- a refused call gives its reply and the image as it was
pub wrote_refused : (image : List ℕ) (w : ImageChanged) (r q : Reply) → w ≡ image_kept image q → r ≡ q → (r ≡ w.answer) × (image ≡ w.image)
unfolding image_kept
wrote_refused image w r q e h = (h ∙ sym (ap (λ (x : ImageChanged). x.answer) e), sym (ap (λ (x : ImageChanged). x.image) e))

-- a call that is done gives that and the image it wrote
pub wrote_done : (w : ImageChanged) (r : Reply) (l m : List ℕ) → w ≡ record { answer = done; image = m } → r ≡ done → l ≡ m → (r ≡ w.answer) × (l ≡ w.image)
wrote_done w r l m e h q = (h ∙ sym (ap (λ (x : ImageChanged). x.answer) e), q ∙ sym (ap (λ (x : ImageChanged). x.image) e))

-- what the call on the disk gave, the call on the image gives
pub wrote_gave : (w : ImageChanged) (c : DiskChanged) (r : Reply) (l : List ℕ) → w ≡ imaged c → Gave c r l → (r ≡ w.answer) × (l ≡ w.image)
unfolding imaged
wrote_gave w c r l e g = (g.answer ∙ sym (ap (λ (x : ImageChanged). x.answer) e), g.image ∙ sym (ap (λ (x : ImageChanged). x.image) e))

-- the same, where the image is what the call on the disk left of it
pub wrote_left : (w : ImageChanged) (c : DiskChanged) (r : Reply) (l m : List ℕ) → w ≡ imaged c → Gave c r l → m ≡ l → (r ≡ w.answer) × (m ≡ w.image)
wrote_left w c r l m e g h = let k = wrote_gave w c r l e g in (k.0, h ∙ k.1)

-- an acceptable name has 36 bytes at most
pub name_most_lem : (name : List ℕ) → name_right name ≡ true → length name ≤ name_most
unfolding name_right
name_most_lem name e = true_le (and_right (leb 1 (length name)) (leb (length name) name_most) e)
