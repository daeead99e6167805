-- A loaded map that is kept in step with its image while the image is written.
-- Rests on the loaded map (Loading.Loaded), on steps and rows (Steps, Stored), on records in their bytes and on a sound disk's record 0
-- (file_rules, Base.Records and Base.Sound).
use Rattle.std.specs.Prelude.{◌≡◌, refl, ◌≢◌, Bool, true, false, List, ℕ, zero, suc, ◌+◌, ◌*◌, ◌/◌, ◌%◌, ◌≤◌, ◌<◌, set}
use Rattle.std.proofs.Math.Path.{sym, ap}
use Rattle.std.proofs.Common.{◌∙◌, arith}
use Rattle.std.proofs.Math.Option.{none}
use Rattle.std.proofs.Math.ListN.{length, get_or, length-set}
use Rattle.std.proofs.Math.Seq.{get_or-set_same, get_or-set_other}
use Rattle.std.specs.Coded.{Coded-set, coded_ℕ, coded×, code_by}
use Rattle.laws.specs.Changes.{upd, patch}
use Rattle.laws.specs.Numbers.{high_byte}
use Rattle.laws.specs.Laws.Cases.{by_order, by_equal}
use Rattle.laws.specs.Laws.Tests.{eq_true, eq_false, true≢false, cond_true, cond_false}
use Rattle.laws.specs.Laws.Changes.{upd₂_same, upd₂_other, patch_above}
use Rattle.laws.specs.Laws.Numbers.{big_ext, high_is}
use Rattle.sector_rules.specs.Geometry.{blocks, image_bytes}
use Rattle.file_rules.specs.declared.Record.{Record}
use Rattle.file_rules.specs.declared.Record.TheVariants.{Free, Bad, System, File, Other}
use Rattle.file_rules.specs.Calls.{end_after}
use Rattle.file_rules.specs.Check.{disk_refusal}
use Rattle.file_rules.specs.Disk.{Disk, disk_of, image_of}
use Rattle.file_rules.proofs.Laws.Base.Disk.{length_image}
use Rattle.file_rules.proofs.Laws.Base.Records.{record_set, record_beside}
use Rattle.file_rules.proofs.Laws.Base.Sound.{first_system, part_not_first}
use Rattle.file_rules.specs.Map.{decode, number_of, encode, record_byte, number_at, record_at, part_block}
use Rattle.file_rules.specs.Sizes.{block_bytes, slot_bytes, block_slots, map_start, record_bytes, whole_blocks, bytes_over}
use Rattle.file_rules.specs.Written.{set_block, set_record, set_slot, set_word, set_end}
use Rattle.files.specs.Laws.Loading.Loaded.{loaded_record, MapLoaded, map_loaded_prop, number_cong, record_loaded}
use Rattle.files.specs.Laws.Writing.Steps.{FitsRecord}
use Rattle.files.specs.Laws.Writing.Stored.{inside_image, patched}

-- the image is whole, the loaded map is that of its disk, and block 0 is the system's, as on every disk that passed 9
pub record InStep (map image : List ℕ) : Type 0 where
  pub long : length image ≡ image_bytes
  pub loaded_map : MapLoaded map (disk_of image)
  pub system : loaded_record map 0 ≡ System
  deriving IsProp as in_step_parts

-- a record as numbers, and back
abbrev numbers : Record → ℕ × (ℕ × ℕ)
numbers Free = (0, (0, 0))
numbers Bad = (1, (0, 0))
numbers System = (2, (0, 0))
numbers Other = (3, (0, 0))
numbers (File f s) = (4, (f, s))

abbrev recorded : ℕ × (ℕ × ℕ) → Record
recorded (zero, p) = Free
recorded (suc zero, p) = Bad
recorded (suc (suc zero), p) = System
recorded (suc (suc (suc zero)), p) = Other
recorded (suc (suc (suc (suc n))), (f, s)) = File f s

numbers_back : (r : Record) → recorded (numbers r) ≡ r
numbers_back Free = refl
numbers_back Bad = refl
numbers_back System = refl
numbers_back Other = refl
numbers_back (File f s) = refl

-- a map is in step with an image in one way
pub in_step_prop : (map image : List ℕ) → IsProp (InStep map image)
in_step_prop map image =
    in_step_parts (Prim.hlevel (Coded-set coded_ℕ)) (Prim.hlevel (map_loaded_prop map (disk_of image)))
    (Prim.hlevel (Coded-set (code_by (ℕ × (ℕ × ℕ)) (coded× coded_ℕ (coded× coded_ℕ coded_ℕ)) numbers recorded numbers_back)))

-- a map that was just loaded from a sound disk is in step with it
pub in_step : (map image : List ℕ) → length image ≡ image_bytes → MapLoaded map (disk_of image) → disk_refusal (disk_of image) ≡ none → InStep map image
in_step map image long m passed =
    record { long = long; loaded_map = m; system = record_loaded map (disk_of image) m 0 (omega arith) ∙ first_system (disk_of image) passed }

number_fits : (r : Record) → FitsRecord r → number_of r % 0x1000000 ≡ number_of r
unfolding number_of
number_fits Free v = refl
number_fits Bad v = refl
number_fits System v = refl
number_fits (File f s) v = omega (arith, v.0, v.1)
number_fits Other v = refl

-- ---- a record's number after it is written, and after another one is

module _ (d : Disk) (b : ℕ) (r : Record) where
  number_set : FitsRecord r → number_at (set_record d b r) b ≡ number_of r
  unfolding number_at encode
  number_set v = high_is (record_byte (set_record d b r) b) record_bytes (number_of r) (λ i l. record_set d b r i l) ∙ number_fits r v

  number_other : (j : ℕ) → j ≢ b → number_at (set_record d b r) j ≡ number_at d j
  unfolding number_at
  number_other j h = big_ext (record_byte (set_record d b r) j) (record_byte d j) record_bytes (λ i l. record_beside d b r j i h l)

-- ---- the steps

word_beside : (d : Disk) (o v : ℕ) → o + 2 ≤ map_start → (i : ℕ) → map_start ≤ i → set_word d o v 0 i ≡ d 0 i
unfolding set_word
word_beside d o v h i a = upd₂_same d 0 (patch (d 0) o 2 (high_byte 2 v)) 0 i refl ∙ patch_above (d 0) o 2 (high_byte 2 v) i (omega arith)

module _ (map l : List ℕ) (s : InStep map l) where
  -- block 0 passes no test that the system's record fails
  pub not_first : (p : Record → Bool) → p System ≡ false → (b : ℕ) → p (loaded_record map b) ≡ true → 0 < b
  not_first p e b t =
      by_order 0 b (λ h. h)
      (λ h.
      let z : b ≡ 0 = omega arith in
      true≢false (p (loaded_record map b)) t (ap (λ (x : ℕ). p (loaded_record map x)) z ∙ ap p s.system ∙ e))

  module _ (m : List ℕ) (e : Disk) (q : m ≡ image_of e) where
    -- a write that leaves the map's bytes as they were keeps the map in step
    pub step_beside : ((o : ℕ) → map_start ≤ o → o < block_bytes → e 0 o ≡ disk_of l 0 o) → InStep map m
    step_beside h =
        record {
          long = ap length q ∙ length_image e;
          loaded_map = record {
            long = s.loaded_map.long;
            numbers = λ b k.
                s.loaded_map.numbers b k
                ∙ number_cong (disk_of l) (disk_of m) b k (λ o a c. sym (inside_image m e q 0 o (omega arith) c ∙ h o a c));
          };
          system = s.system;
        }

  -- writing another block than block 0 keeps the map in step
  pub step_block : (m : List ℕ) (b : ℕ) (g : ℕ → ℕ) → m ≡ image_of (set_block (disk_of l) b g) → 0 < b → InStep map m
  unfolding set_block
  step_block m b g q h = step_beside m (upd (disk_of l) b g) q (λ o a c. upd₂_other (disk_of l) b g 0 o (λ z. omega arith))

  -- writing a row of a block, in block 0 before the map, keeps the map in step
  pub step_row : (m : List ℕ) (b o n : ℕ) (g : ℕ → ℕ) → m ≡ image_of (patched (disk_of l) b o n g) → (b ≡ 0 → o + n ≤ map_start) → InStep map m
  step_row m b o n g q h =
      let d : Disk = disk_of l in
      step_beside m (patched d b o n g) q
      (λ i a c. by_equal b 0
      (λ z. upd₂_same d b (patch (d b) o n g) 0 i (sym z) ∙ patch_above (d b) o n g i (omega (arith, h z)) ∙ ap (λ (x : ℕ). d x i) z)
      (λ z. upd₂_other d b (patch (d b) o n g) 0 i (λ y. z (sym y))))

  -- writing the directory's length keeps the map in step
  pub step_end : (m : List ℕ) (k : ℕ) → m ≡ image_of (set_end (disk_of l) k) → InStep map m
  unfolding set_end
  step_end m k q =
      let d : Disk = disk_of l in
      step_beside m (set_word (set_word d 34 (whole_blocks k)) 36 (bytes_over k)) q
      (λ i a c. word_beside (set_word d 34 (whole_blocks k)) 36 (bytes_over k) (omega arith) i a ∙ word_beside d 34 (whole_blocks k) (omega arith) i a)

  -- writing a record in the image and in the loaded map keeps them in step
  pub step_record : (m : List ℕ) (b : ℕ) (r : Record) → m ≡ image_of (set_record (disk_of l) b r)
      → 0 < b → b < blocks → FitsRecord r → InStep (set map b (number_of r)) m
  unfolding loaded_record
  step_record m b r q h k v =
      let d : Disk = set_record (disk_of l) b r in
      let read : (j : ℕ) → j < blocks → number_at (disk_of m) j ≡ number_at d j =
      λ j i. number_cong (disk_of m) d j i (λ o a c. inside_image m d q 0 o (omega arith) c) in
      record {
        long = ap length q ∙ length_image d;
        loaded_map = record {
          long = length-set map b (number_of r) ∙ s.loaded_map.long;
          numbers = λ j i. by_equal j b
              (λ z.
              ap (λ (x : ℕ). get_or (set map b (number_of r)) x 0) z
              ∙ get_or-set_same map b (number_of r) 0 (omega (arith, s.loaded_map.long))
              ∙ sym (number_set (disk_of l) b r v)
              ∙ ap (number_at d) (sym z)
              ∙ sym (read j i))
              (λ z. get_or-set_other map b j (number_of r) 0 z ∙ s.loaded_map.numbers j i ∙ sym (number_other (disk_of l) b r j z) ∙ sym (read j i));
        };
        system = rw (get_or-set_other map b 0 (number_of r) 0 (λ z. omega arith)) s.system;
      }

module _ (map l : List ℕ) (s : InStep map l) where
  -- writing a slot keeps the map in step
  pub step_slot : (m : List ℕ) (k : ℕ) (g : ℕ → ℕ) → m ≡ image_of (set_slot (disk_of l) k g) → InStep map m
  unfolding set_slot
  step_slot m k g q =
      let first : record_at (disk_of l) 0 ≡ System = sym (record_loaded map (disk_of l) s.loaded_map 0 (omega arith)) ∙ s.system in
      step_row map l s m (part_block (disk_of l) 0 (k / block_slots)) (k % block_slots * slot_bytes) slot_bytes g q
      (λ z. absurd (part_not_first (disk_of l) first 0 (k / block_slots) z))

  -- writing the directory's end, if it grows, keeps the map in step
  pub step_after : (m : List ℕ) (k end : ℕ) → m ≡ image_of (end_after k end (disk_of l)) → InStep map m
  unfolding end_after
  step_after m k end q =
      by_equal k end
      (λ z. step_end map l s m (suc k) (q ∙ ap image_of (cond_true _ _ (eq_true z))))
      (λ z. step_beside map l s m (disk_of l) (q ∙ ap image_of (cond_false _ _ (eq_false z))) (λ o a c. refl))

-- the records from b + 1 on are as they were before record b was changed
pub rest_more : (map : List ℕ) (d : Disk) (b v : ℕ) → ((j : ℕ) → b ≤ j → j < blocks → loaded_record map j ≡ record_at d j)
    → (j : ℕ) → b + 1 ≤ j → j < blocks → loaded_record (set map b v) j ≡ record_at d j
unfolding loaded_record
rest_more map d b v h j p q = ap decode (get_or-set_other map b j v 0 (λ z. omega arith)) ∙ h j (omega arith) q
