-- The disk's bytes as they are read from an image: inside the blocks a byte of the image, outside 0.
-- Rests on the definition of `disk_of` alone.
use Rattle.std.specs.Prelude.{◌≡◌, List, ℕ, ◌≤◌, ◌<◌, ltb, get_or}
use Rattle.laws.specs.Laws.Tests.{lt_true, lt_false, cond_true, cond_false, and_true, and_false_left, and_false_right}
use Rattle.sector_rules.specs.Geometry.{blocks}
use Rattle.file_rules.specs.Sizes.{block_bytes}
use Rattle.file_rules.specs.Disk.{image_place, disk_of}

module _ (l : List ℕ) (b o : ℕ) where
  -- a byte of a block is the image's byte at its place
  pub disk_in : b < blocks → o < block_bytes → disk_of l b o ≡ get_or l (image_place b o) 0
  unfolding disk_of
  disk_in hb ho = cond_true (get_or l (image_place b o) 0) 0 (and_true (lt_true hb) (lt_true ho))

  -- past the last block the disk is zero
  pub disk_far : blocks ≤ b → disk_of l b o ≡ 0
  unfolding disk_of
  disk_far h = cond_false (get_or l (image_place b o) 0) 0 (and_false_left (ltb o block_bytes) (lt_false h))

  -- past the end of a block the disk is zero
  pub disk_past : block_bytes ≤ o → disk_of l b o ≡ 0
  unfolding disk_of
  disk_past h = cond_false (get_or l (image_place b o) 0) 0 (and_false_right (ltb b blocks) (lt_false h))
