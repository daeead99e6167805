-- The judgements 9 to 11 as the code makes them, on a loaded map and the other tables.
-- Rests on the tables (Loading).
use Rattle.std.specs.Prelude.{Some, None, ◌≡◌, refl, Bool, true, false, cond, ◌&&◌, List, ◌≢◌, ℕ, ◌+◌, ◌≤◌, ◌<◌, leb, ltb, length}
use Rattle.std.specs.Prelude as Prelude
use Rattle.std.proofs.Math.Path.{sym, ap, ap₂}
use Rattle.std.proofs.Common.{◌∙◌}
use Rattle.std.proofs.Math.Bool.{not}
use Rattle.std.proofs.Math.Option.{Option, none, some}
use Rattle.std.proofs.Math.Dec.{eqb}
use Rattle.std.proofs.Math.ListN.{take}
use Rattle.laws.specs.Below.{all, count, lowest}
use Rattle.laws.specs.Numbers.{at16}
use Rattle.laws.specs.Laws.Tests.{lt_true, lt_false, eq_true, eq_false, cond_true, cond_false, and_false_left, and_false_right}
use Rattle.laws.specs.Laws.Lowest.{lowest_some, lowest_none}
use Rattle.laws.specs.Laws.Count.{count_cong}
use Rattle.sector_rules.specs.Faults.{fault_below, refusal_at}
use Rattle.sector_rules.specs.Geometry.{blocks, image_bytes}
use Rattle.sector_rules.specs.Replies.{reply_with, refusal}
use Rattle.sector_rules.specs.declared.Reply.{Reply}
use Rattle.file_rules.specs.declared.Record.{Record}
use Rattle.file_rules.specs.declared.Entry.{Entry}
use Rattle.file_rules.specs.Sizes.{slot_bytes, slot_count, name_most, blocks_of, free_sectors, good_sectors}
use Rattle.file_rules.specs.Disk.{Disk, disk_of}
use Rattle.file_rules.specs.Map.{free_count, bad_count, record_at, bears, is_part, within}
use Rattle.file_rules.specs.Directory.{name_eq, name_of, slot_entry, slot_name, held, dir_bytes, dir_end}
use Rattle.file_rules.specs.Check.{record_fault, parts_right, no_record_bears, new_name, entry_right, file_right, file_fault}
use Rattle.file_rules.specs.Check.{good_right, free_right, refusal9, refusal19, refusal10, refusal11}
use Rattle.files.specs.Laws.Loading.Loaded.{loaded_record, MapLoaded, record_loaded, fault_loaded}
use Rattle.files.specs.Laws.Loading.Chains.{Chained, no_record_bears_in}
use Rattle.files.specs.Laws.Loading.Slots.{Located}
use Rattle.files.specs.Laws.Loading.Parts.{parts_in}
use Rattle.files.specs.Laws.Loading.Loops.{all_cong}

-- ---- a file's parts

module _ (map : List ℕ) (d : Disk) (m : MapLoaded map d) where
  -- the parts of a file by the loaded map are sound if the disk's are
  pub parts_loaded : (f n : ℕ) → parts_in map f n ≡ parts_right d f n
  unfolding parts_in parts_right
  parts_loaded f n =
      ap₂ (λ (x y : Bool). x && y)
      (all_cong (λ (b : ℕ). within f n (loaded_record map b)) (λ (b : ℕ). within f n (record_at d b)) blocks (λ b h. ap (within f n)
      (record_loaded map d m b h)))
      (all_cong
      (λ (s : ℕ). eqb (count blocks (λ (b : ℕ). is_part f s (loaded_record map b))) 1)
      (λ (s : ℕ). eqb (count blocks (λ (b : ℕ). is_part f s (record_at d b))) 1)
      n
      (λ s l. ap (λ (c : ℕ). eqb c 1)
      (count_cong blocks (λ (b : ℕ). is_part f s (loaded_record map b))
      (λ (b : ℕ). is_part f s (record_at d b)) (λ b h. ap (is_part f s) (record_loaded map d m b h)))))

  -- no record of the loaded map bears a file if none of the disk's does
  pub no_record_loaded : (f : ℕ) → no_record_bears_in map f ≡ no_record_bears d f
  unfolding no_record_bears_in no_record_bears
  no_record_loaded f =
      all_cong (λ (b : ℕ). not (bears f (loaded_record map b))) (λ (b : ℕ). not (bears f (record_at d b))) blocks
      (λ b h. ap (λ (r : Record). not (bears f r)) (record_loaded map d m b h))

-- ---- what is read for the judgement of the files

-- the image is whole, and the tables are those of its disk
pub record Tables (image map : List ℕ) (dir first next : List (Prelude.Option ℕ)) : Type 0 where
  pub long : length image ≡ image_bytes
  pub loaded_map : MapLoaded map (disk_of image)
  pub loaded_directory : Located dir (disk_of image)
  pub loaded_chains : Chained first next map 0

-- refusal 9 by a loaded map
unfoldable pub map_refusal : List ℕ → Option Reply
map_refusal map = refusal_at 9 (fault_below blocks (lowest (λ (b : ℕ). record_fault b (loaded_record map b)) blocks))

-- refusal 9 by the loaded map is the disk's
pub refusal_loaded : (map : List ℕ) (d : Disk) → MapLoaded map d → map_refusal map ≡ refusal9 d
unfolding map_refusal refusal9
refusal_loaded map d m = ap (λ (b : ℕ). refusal_at 9 (fault_below blocks b)) (fault_loaded map d m)

-- ---- a held slot

module _ (d : Disk) (k : ℕ) (e : Entry) (q : e ≡ slot_entry d k) where
  -- the name of an entry is the slot's
  pub entry_name : take e.namelen e.name ≡ slot_name d k
  unfolding slot_name name_of
  entry_name = ap (λ (x : Entry). take x.namelen x.name) q

  abbrev sizes : Bool
  sizes = leb slot_bytes e.length && (leb 1 e.namelen && leb e.namelen name_most)

  abbrev names : Bool
  names = all (λ (j : ℕ). not (held d j && name_eq (slot_name d j) (take e.namelen e.name))) k

  three : (a b c n p : Bool) → (a && (b && (c && (n && p)))) ≡ ((a && (b && c)) && (n && p))
  three true true c n p = refl
  three true false c n p = refl
  three false b c n p = refl

  entry_tests : entry_right d k ≡ (sizes && (names && parts_right d k (blocks_of e.length)))
  unfolding entry_right new_name slot_name name_of
  entry_tests =
      rw q
      (three (leb slot_bytes (slot_entry d k).length) (leb 1 (slot_entry d k).namelen) (leb (slot_entry d k).namelen name_most) (new_name d k)
      (parts_right d k (blocks_of (slot_entry d k).length)))

  -- an entry with a wrong length or name length is not sound
  pub entry_sizes_wrong : sizes ≡ false → false ≡ entry_right d k
  entry_sizes_wrong t = sym (entry_tests ∙ and_false_left (names && parts_right d k (blocks_of e.length)) t)

  -- an entry with the name of a lower held slot is not sound
  pub entry_name_wrong : sizes ≡ true → names ≡ false → false ≡ entry_right d k
  entry_name_wrong t u =
      sym (entry_tests ∙ and_false_right sizes (and_false_left (parts_right d k (blocks_of e.length)) u))

  -- an entry that is right in sizes and name is sound if its parts are
  pub entry_parts : sizes ≡ true → names ≡ true → (p : Bool) → p ≡ parts_right d k (blocks_of e.length) → p ≡ entry_right d k
  entry_parts t u p v =
      v ∙ sym (entry_tests ∙ ap₂ (λ (x y : Bool). x && (y && parts_right d k (blocks_of e.length))) t u)

-- ---- a file

module _ (d : Disk) where
  -- file 0 is sound if the directory's parts are
  pub file_zero : (n : ℕ) → n ≡ dir_bytes d → parts_right d 0 (blocks_of n) ≡ file_right d 0
  unfolding file_right
  file_zero n e = ap (λ (x : ℕ). parts_right d 0 (blocks_of x)) e

  module _ (f : ℕ) (n : f ≢ 0) where
    by_slot : file_right d f ≡ cond (ltb f (dir_end d) && held d f) (entry_right d f) (no_record_bears d f)
    unfolding file_right
    by_slot = cond_false (parts_right d 0 (blocks_of (dir_bytes d))) (cond (ltb f (dir_end d) && held d f) (entry_right d f) (no_record_bears d f)) (eq_false n)

    -- a held slot's file is sound if its entry is
    pub file_listed : (ltb f (dir_end d) && held d f) ≡ true → entry_right d f ≡ file_right d f
    file_listed t = sym (by_slot ∙ cond_true (entry_right d f) (no_record_bears d f) t)

    -- another file number is sound if no record bears it
    pub file_unlisted : (ltb f (dir_end d) && held d f) ≡ false → no_record_bears d f ≡ file_right d f
    file_unlisted t = sym (by_slot ∙ cond_false (entry_right d f) (no_record_bears d f) t)

  -- the first file that is not sound is the one at fault
  pub fault_here : (f : ℕ) → f < slot_count → ((j : ℕ) → j < f → not (file_right d j) ≡ false) → not (file_right d f) ≡ true → f ≡ file_fault d
  unfolding file_fault
  fault_here f h l t = sym (lowest_some (λ (j : ℕ). not (file_right d j)) slot_count f h l t)

  -- if all are sound, no file is at fault
  pub file_fault_none : ((j : ℕ) → j < slot_count → not (file_right d j) ≡ false) → slot_count ≡ file_fault d
  unfolding file_fault
  file_fault_none l = sym (lowest_none (λ (j : ℕ). not (file_right d j)) slot_count l)

-- ---- the refusals

lowest_refused : (b n k : ℕ) → b < n → some (reply_with k b 0 0) ≡ refusal_at k (fault_below n b)
unfolding fault_below
lowest_refused b n k h = ap (refusal_at k) (sym (cond_true (Some b) None (lt_true h)))

lowest_passed : (b n k : ℕ) → n ≤ b → none ≡ refusal_at k (fault_below n b)
unfolding fault_below
lowest_passed b n k h = ap (refusal_at k) (sym (cond_false (Some b) None (lt_false h)))

module _ (map : List ℕ) (b : ℕ) (e : b ≡ lowest (λ (j : ℕ). record_fault j (loaded_record map j)) blocks) where
  -- a bad record is refusal 9 at its block
  pub refused_map : b < blocks → some (reply_with 9 b 0 0) ≡ map_refusal map
  unfolding map_refusal
  refused_map h = rw (← e) (lowest_refused b blocks 9 h)

  -- a map without bad record passes 9
  pub passed_map : blocks ≤ b → none ≡ map_refusal map
  unfolding map_refusal
  passed_map h = rw (← e) (lowest_passed b blocks 9 h)

module _ (d : Disk) (b : ℕ) where
  -- a file at fault is refusal 10 with its number
  pub refused_files : b ≡ file_fault d → b < slot_count → some (reply_with 10 b 0 0) ≡ refusal10 d
  unfolding refusal10
  refused_files e h = rw (← e) (lowest_refused b slot_count 10 h)

  -- without a file at fault the disk passes 10
  pub passed_files : b ≡ file_fault d → slot_count ≤ b → none ≡ refusal10 d
  unfolding refusal10
  passed_files e h = rw (← e) (lowest_passed b slot_count 10 h)

module _ (d : Disk) (w c : ℕ) (ew : w ≡ at16 (d 0) 20) (ec : c ≡ free_count d) where
  free_is : eqb w (free_sectors c) ≡ free_right d
  unfolding free_right
  free_is = rw (ew, ec)

  -- a free word that is 3 times the free records passes 11
  pub passed_free : w ≡ free_sectors c → none ≡ refusal11 d
  unfolding refusal11
  passed_free h = sym (cond_true none (some (refusal 11)) (sym free_is ∙ eq_true h))

  -- another free word is refusal 11
  pub refused_free : w ≢ free_sectors c → some (refusal 11) ≡ refusal11 d
  unfolding refusal11
  refused_free h = sym (cond_false none (some (refusal 11)) (sym free_is ∙ eq_false h))

module _ (d : Disk) (w c : ℕ) (ew : w ≡ at16 (d 0) 22) (ec : c ≡ bad_count d) where
  good_is : eqb w (good_sectors c) ≡ good_right d
  unfolding good_right
  good_is = rw (ew, ec)

  -- a good word that is 1440 less 3 times the bad records passes 19
  pub passed_good : w ≡ good_sectors c → none ≡ refusal19 d
  unfolding refusal19
  passed_good h = sym (cond_true none (some (refusal 19)) (sym good_is ∙ eq_true h))

  -- another good word is refusal 19
  pub refused_good : w ≢ good_sectors c → some (refusal 19) ≡ refusal19 d
  unfolding refusal19
  refused_good h = sym (cond_false none (some (refusal 19)) (sym good_is ∙ eq_false h))
