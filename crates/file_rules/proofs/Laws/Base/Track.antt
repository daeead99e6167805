-- The first track is enough for 8, 9, 19 and 11 and the counts (§8.14): they read block 0 alone, which lies within the first 9,216 bytes.
-- Rests on the disk in block order (Disk).
use Rattle.std.specs.Prelude.{cond, ◌&&◌, List, ◌≡◌, refl, ℕ, ltb, length, take}
use Rattle.std.proofs.Common.{sym, ap, ◌∙◌, arith, length-take, get_or-take}
use Rattle.std.proofs.Math.Path.{fun_ext}
use Rattle.laws.specs.Laws.Cases.{by_order}
use Rattle.laws.specs.Laws.Tests.{eq_true, cond_true}
use Rattle.sector_rules.specs.Geometry.{blocks, image_bytes}
use Rattle.file_rules.specs.Check.{length_right, dimensions_fault, disk_header_fault, map_fault, good_right, free_right, refusal8, refusal9, refusal19}
use Rattle.file_rules.specs.Check.{start_refusal, refusal11}
use Rattle.file_rules.specs.Directory.{dir_bytes}
use Rattle.file_rules.specs.Disk.{Disk, image_place, disk_of}
use Rattle.file_rules.specs.FirstTrack.{counted, first_track_result}
use Rattle.file_rules.proofs.Laws.Base.Disk.{zero_on_track, outside_disk}
use Rattle.file_rules.specs.Map.{number_at, record_at, free_at, free_count, bad_at, bad_count}
use Rattle.file_rules.specs.Sizes.{block_bytes}
use Rattle.file_rules.specs.TrackValues.{judged_first}

-- only block 0 is judged
block_alone : (d : Disk) → judged_first d ≡ judged_first (λ (b : ℕ). d 0)
unfolding judged_first start_refusal refusal8 refusal9 refusal19 refusal11 disk_header_fault dimensions_fault length_right dir_bytes map_fault record_at
    number_at free_right free_count free_at good_right bad_count bad_at counted
block_alone d = refl

zero_alike : (image : List ℕ) → disk_of (take 9216 image) 0 ≡ disk_of image 0
unfolding disk_of
zero_alike image =
    fun_ext (λ (o : ℕ). by_order o block_bytes
    (λ l. ap (λ (v : ℕ). cond (ltb 0 blocks && ltb o block_bytes) v 0) (get_or-take 9216 image (image_place 0 o) 0 (zero_on_track o l)))
    (λ g. outside_disk (take 9216 image) 0 o g ∙ sym (outside_disk image 0 o g)))

-- judging the first track of an image is judging its disk by 8, 9, 19 and 11
pub track_is : (image : List ℕ) → length image ≡ image_bytes → first_track_result (take 9216 image) ≡ judged_first (disk_of image)
track_is image long =
    right
    ∙ block_alone (disk_of (take 9216 image))
    ∙ ap (λ (f : ℕ → ℕ). judged_first (λ (b : ℕ). f)) (zero_alike image)
    ∙ sym (block_alone (disk_of image))
  where
    long_is : length (take 9216 image) ≡ 9216
    long_is = rw length-take (omega arith)

    right : first_track_result (take 9216 image) ≡ judged_first (disk_of (take 9216 image))
    right = unfold first_track_result judged_first in cond_true _ _ (eq_true long_is)
