-- The map as the code holds it: a number of 24 bits for each record, read from the image once.
-- Rests on the laws of numbers in bytes (laws, Numbers).
use Rattle.std.specs.Prelude.{◌≡◌, List, ℕ, ◌+◌, ◌*◌, ◌≤◌, ◌<◌, length, get_or, set}
use Rattle.std.proofs.Math.Path.{ap}
use Rattle.std.specs.Coded.{Coded-set, coded_ℕ}
use Rattle.std.proofs.Common.{arith, get_or-set_same, get_or-set_other}
use Rattle.laws.specs.Below.{lowest, count}
use Rattle.laws.specs.Laws.Cases.{by_equal}
use Rattle.laws.specs.Laws.Lowest.{lowest_cong}
use Rattle.laws.specs.Laws.Count.{count_cong}
use Rattle.laws.specs.Laws.Numbers.{big_ext}
use Rattle.sector_rules.specs.Geometry.{blocks}
use Rattle.file_rules.specs.declared.Record.{Record}
use Rattle.file_rules.specs.Disk.{Disk}
use Rattle.file_rules.specs.Map.{decode, record_byte, number_at, record_at, is_free, is_bad_record, is_part, free_at, free_count, bad_at, bad_count, part_block}
use Rattle.file_rules.specs.Check.{record_fault, map_fault}
use Rattle.file_rules.specs.Sizes.{block_bytes, map_start, record_bytes}

-- the record of block b in a loaded map
unfoldable pub loaded_record : List ℕ → ℕ → Record
loaded_record map b = decode (get_or map b 0)

-- a loaded map has the numbers of the disk's records
pub record MapLoaded (map : List ℕ) (d : Disk) : Type 0 where
  pub long : length map ≡ blocks
  pub numbers : (b : ℕ) → b < blocks → get_or map b 0 ≡ number_at d b
  deriving IsProp as loaded_parts

-- a map is loaded from a disk in one way
pub map_loaded_prop : (map : List ℕ) (d : Disk) → IsProp (MapLoaded map d)
map_loaded_prop map d = loaded_parts (Prim.hlevel (Coded-set coded_ℕ)) (Prim.hlevel (Coded-set coded_ℕ))

-- a record's number is read from the map's bytes alone
pub number_cong : (d e : Disk) (b : ℕ) → b < blocks → ((o : ℕ) → map_start ≤ o → o < block_bytes → d 0 o ≡ e 0 o) → number_at d b ≡ number_at e b
unfolding number_at
number_cong d e b k h =
    big_ext (record_byte d b) (record_byte e b) record_bytes
    (λ i l. h (map_start + record_bytes * b + i) (omega arith) (omega arith))

-- ---- the map is loaded

-- one number more is loaded
pub numbers_more : (map : List ℕ) (d : Disk) (k v : ℕ) → k < length map
    → ((b : ℕ) → b < k → get_or map b 0 ≡ number_at d b) → v ≡ number_at d k
    → (b : ℕ) → b < k + 1 → get_or (set map k v) b 0 ≡ number_at d b
numbers_more map d k v l h e b i =
    by_equal b k
    (λ q. rw (q, get_or-set_same map k v 0 l) e)
    (λ q. rw (get_or-set_other map k b v 0 q) (h b (omega arith)))

-- ---- what is asked of a loaded map is asked of the disk's

module _ (map : List ℕ) (d : Disk) (m : MapLoaded map d) where
  -- a record of the loaded map is the disk's
  pub record_loaded : (b : ℕ) → b < blocks → loaded_record map b ≡ record_at d b
  unfolding loaded_record record_at
  record_loaded b h = ap decode (m.numbers b h)

  -- the first bad record of the loaded map is the disk's
  pub fault_loaded : lowest (λ (b : ℕ). record_fault b (loaded_record map b)) blocks ≡ map_fault d
  unfolding map_fault
  fault_loaded =
      lowest_cong (λ (b : ℕ). record_fault b (loaded_record map b)) (λ (b : ℕ). record_fault b (record_at d b)) blocks
      (λ b h. ap (record_fault b) (record_loaded b h))

  -- the loaded map has as many free records as the disk
  pub free_loaded : count blocks (λ (b : ℕ). is_free (loaded_record map b)) ≡ free_count d
  unfolding free_count free_at
  free_loaded = count_cong blocks (λ (b : ℕ). is_free (loaded_record map b)) (λ (b : ℕ). is_free (record_at d b)) (λ b h. ap is_free (record_loaded b h))

  -- and as many bad ones
  pub bad_loaded : count blocks (λ (b : ℕ). is_bad_record (loaded_record map b)) ≡ bad_count d
  unfolding bad_count bad_at
  bad_loaded =
      count_cong blocks (λ (b : ℕ). is_bad_record (loaded_record map b)) (λ (b : ℕ). is_bad_record (record_at d b)) (λ b h. ap is_bad_record
      (record_loaded b h))

  -- the block of a part by the loaded map is the disk's
  pub part_loaded : (f s : ℕ) → lowest (λ (b : ℕ). is_part f s (loaded_record map b)) blocks ≡ part_block d f s
  unfolding part_block
  part_loaded f s =
      lowest_cong (λ (b : ℕ). is_part f s (loaded_record map b)) (λ (b : ℕ). is_part f s (record_at d b)) blocks
      (λ b h. ap (is_part f s) (record_loaded b h))
