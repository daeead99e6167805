-- What stays of an image through an add or a remove, whatever the reply: what the steps of the call leave of a sound disk, since every refusal leaves all.
-- Rests on calls that judge a disk first (Base.OnSound) and on the disk in block order (Base.Disk).
use Rattle.std.specs.Prelude.{◌≡◌, refl, List, ℕ, ◌+◌, ◌*◌, ◌<◌, length}
use Rattle.std.proofs.Common.{sym, ◌∙◌, arith}
use Rattle.laws.specs.Laws.Cases.{by_order}
use Rattle.sector_rules.specs.Geometry.{blocks}
use Rattle.file_rules.specs.declared.Record.TheVariants.{System}
use Rattle.file_rules.specs.declared.Entry.{Entry}
use Rattle.file_rules.specs.Calls.{DiskChanged, ImageChanged, disk_kept, image_kept, add_at, add_sound, imaged, add, remove_at, remove_sound, remove}
use Rattle.file_rules.specs.Directory.{entry_for, find_name, vacant_slot}
use Rattle.file_rules.specs.Disk.{Disk, disk_of, image_of}
use Rattle.file_rules.specs.FreeTails.{SameRecord}
use Rattle.file_rules.proofs.Laws.Base.Disk.{inside_disk, outside_disk}
use Rattle.file_rules.proofs.Laws.OnAnyDisk.Cases.{add_cases, remove_cases}
use Rattle.file_rules.proofs.Laws.Base.OnSound.{by_sound}
use Rattle.file_rules.proofs.Laws.Base.Sound.{first_system}
use Rattle.file_rules.proofs.Laws.OnAnyDisk.BlockBytes.{SameBlock}
use Rattle.file_rules.specs.Map.{record_byte, record_at}
use Rattle.file_rules.specs.Sizes.{block_bytes, map_start, record_bytes}

-- what holds of the disk before, and of that which the steps of a call leave, holds of the disk after the call, whatever its reply
module _ (image : List ℕ) (P : Disk → Type 0) (on_image : (e : Disk) → P e → P (disk_of (image_of e))) (before : P (disk_of image)) where
  abbrev OnDisk : DiskChanged → Type 0
  OnDisk c = P c.disk_after

  abbrev OnImage : ImageChanged → Type 0
  OnImage w = P (disk_of w.image)

  -- of an add
  pub by_add : (name : List ℕ) (date : ℕ) (content : List ℕ)
      → (record_at (disk_of image) 0 ≡ System → (x : Entry) → P (add_at (disk_of image) (vacant_slot (disk_of image)) x content))
      → OnImage (add image name date content)
  unfolding add imaged disk_kept image_kept
  by_add name date content steps =
      let d : Disk = disk_of image in
      by_sound image (image_kept image) (λ (x : Disk). imaged (add_sound x name date content)) OnImage (λ r. before)
      (λ long passed. on_image (add_sound d name date content).disk_after
      (add_cases OnDisk d name date content (λ r o. before) (steps (first_system d passed) (entry_for name date (length content)))))

  -- of a remove
  pub by_remove : (name : List ℕ) → (record_at (disk_of image) 0 ≡ System → P (remove_at (disk_of image) (find_name (disk_of image) name)))
      → OnImage (remove image name)
  unfolding remove imaged disk_kept image_kept
  by_remove name steps =
      let d : Disk = disk_of image in
      by_sound image (image_kept image) (λ (x : Disk). imaged (remove_sound x name)) OnImage (λ r. before)
      (λ long passed. on_image (remove_sound d name).disk_after (remove_cases OnDisk d name (λ r o. before) (steps (first_system d passed))))

module _ (image : List ℕ) (b : ℕ) (l : b < blocks) where
  abbrev d : Disk
  d = disk_of image

  -- the record of a block on the image of a disk is the disk's
  pub record_image : (e : Disk) (i : ℕ) → i < record_bytes → record_byte (disk_of (image_of e)) b i ≡ record_byte e b i
  record_image e i k = inside_disk e 0 (map_start + record_bytes * b + i) (omega arith) (omega arith)

  -- a record that the steps of an add leave, an add leaves
  pub add_kept : (name : List ℕ) (date : ℕ) (content : List ℕ)
      → (record_at d 0 ≡ System → (x : Entry) → SameRecord d (add_at d (vacant_slot d) x content) b)
      → SameRecord d (disk_of (add image name date content).image) b
  add_kept = by_add image (λ (e : Disk). SameRecord d e b) (λ e s i k. s i k ∙ sym (record_image e i k)) (λ i k. refl)

  -- a record that those of a remove leave, a remove leaves
  pub remove_kept : (name : List ℕ) → (record_at d 0 ≡ System → SameRecord d (remove_at d (find_name d name)) b)
      → SameRecord d (disk_of (remove image name).image) b
  remove_kept = by_remove image (λ (e : Disk). SameRecord d e b) (λ e s i k. s i k ∙ sym (record_image e i k)) (λ i k. refl)

  bytes_image : (e : Disk) → SameBlock d e b → SameBlock d (disk_of (image_of e)) b
  bytes_image e s o =
      by_order o block_bytes
      (λ h. s o ∙ sym (inside_disk e b o l h)) (λ h. outside_disk image b o h ∙ sym (outside_disk (image_of e) b o h))

  -- so it is with the bytes of a block
  pub add_stays : (name : List ℕ) (date : ℕ) (content : List ℕ)
      → (record_at d 0 ≡ System → (x : Entry) → SameBlock d (add_at d (vacant_slot d) x content) b)
      → SameBlock d (disk_of (add image name date content).image) b
  add_stays = by_add image (λ (e : Disk). SameBlock d e b) bytes_image (λ o. refl)

  -- and with a remove
  pub remove_stays : (name : List ℕ) → (record_at d 0 ≡ System → SameBlock d (remove_at d (find_name d name)) b)
      → SameBlock d (disk_of (remove image name).image) b
  remove_stays = by_remove image (λ (e : Disk). SameBlock d e b) bytes_image (λ o. refl)
