-- The disk in block order (§1.3): an image and its disk determine each other, and a byte written in the one is written in the other.
-- Rests on the laws of the placement: it is one to one, keeps each sector on its track and begins with 0 (sector_rules, Laws.Base.Geometry).
use Rattle.std.specs.Prelude.{◌≡◌, ◌≢◌, List, ltb, length, get_or, set}
use Rattle.std.proofs.Common.{sym, ◌∙◌, length-set, ext_get_or, get_or-set_same, get_or-set_other}
use Rattle.std.proofs.Math.Path.{ap, ap₂, fun_ext}
use Prim.Native.Nat.{ℕ, ◌+◌, ◌*◌, ◌/◌, ◌%◌, ◌≤◌, ◌<◌}
use native.Mathlib.Omega.{arith}
use Rattle.laws.specs.Lists.{tab}
use Rattle.laws.specs.Changes.{upd}
use Rattle.laws.specs.Laws.Cases.{by_order, by_equal}
use Rattle.laws.specs.Laws.Tests.{lt_true, lt_false, cond_true, cond_false, and_true, and_false_left, and_false_right}
use Rattle.laws.specs.Laws.Tab.{tab_self, tab_length, tab_in, tab_ext}
use Rattle.laws.specs.Laws.Changes.{upd_same, upd_other, upd₂_same, upd₂_other}
use Rattle.sector_rules.specs.Geometry.{sector_bytes, block_sectors, track_sectors, all_sectors, blocks, image_bytes, running, to_image_sector}
use Rattle.sector_rules.specs.Geometry.{to_running_sector}
use Rattle.sector_rules.proofs.Laws.Base.Geometry.{image_lt, running_lt, running_image, image_running, image_track, image_first, running_first}
use Rattle.file_rules.specs.Disk.{Disk, image_place, block_of, offset_of, disk_of, image_of, set_byte}
use Rattle.file_rules.specs.Sizes.{block_bytes}

-- ---- a byte's two places

module _ (b o : ℕ) (hb : b < blocks) (ho : o < block_bytes) where
  abbrev run : ℕ
  run = running b (o / sector_bytes)

  run_lt : run < all_sectors
  run_lt = omega arith

  -- the place of a block's byte is within the image
  pub image_place_lt : image_place b o < image_bytes
  unfolding image_place
  image_place_lt = omega (arith, image_lt run run_lt)

  byte_run : to_running_sector (image_place b o / sector_bytes) ≡ run
  unfolding image_place
  byte_run =
      let e : (to_image_sector run * sector_bytes + o % sector_bytes) / sector_bytes ≡ to_image_sector run = omega arith in
      ap to_running_sector e ∙ running_image run run_lt

  -- the image byte at the place of a block's byte is that block's
  pub block_byte : block_of (image_place b o) ≡ b
  unfolding block_of
  block_byte = ap (λ (x : ℕ). x / block_sectors) byte_run ∙ omega arith

  byte_low : image_place b o % sector_bytes ≡ o % sector_bytes
  unfolding image_place
  byte_low = omega arith

  -- the image byte at the place of a block's byte has that byte's offset
  pub offset_byte : offset_of (image_place b o) ≡ o
  unfolding offset_of
  offset_byte = ap₂ (λ (x y : ℕ). x % block_sectors * sector_bytes + y) byte_run byte_low ∙ omega arith

module _ (i : ℕ) (h : i < image_bytes) where
  -- a byte of the image is in one of the 480 blocks
  pub block_lt : block_of i < blocks
  unfolding block_of
  block_lt = omega (arith, running_lt (i / sector_bytes) (omega arith))

  -- a byte of the image has an offset within a block
  pub offset_lt : offset_of i < block_bytes
  unfolding offset_of
  offset_lt = omega arith

  -- block and offset of an image byte give its place back
  pub byte_is : image_place (block_of i) (offset_of i) ≡ i
  unfolding image_place block_of offset_of
  byte_is =
      let r : ℕ = to_running_sector (i / sector_bytes) in
      let e₁ : running (r / block_sectors) ((r % block_sectors * sector_bytes + i % sector_bytes) / sector_bytes) ≡ r = omega arith in
      let e₂ : (r % block_sectors * sector_bytes + i % sector_bytes) % sector_bytes ≡ i % sector_bytes = omega arith in
      ap₂ (λ (x y : ℕ). to_image_sector x * sector_bytes + y) e₁ e₂
      ∙ ap (λ (x : ℕ). x * sector_bytes + i % sector_bytes) (image_running (i / sector_bytes) (omega arith))
      ∙ omega arith

-- ---- block 0

-- the first sector of block 0 is the image's first
pub first_place : (o : ℕ) → o < sector_bytes → image_place 0 o ≡ o
unfolding image_place
first_place o h =
    let e : running 0 (o / sector_bytes) ≡ 0 = omega arith in
    ap (λ (n : ℕ). to_image_sector n * sector_bytes + o % sector_bytes) e ∙ ap (λ (n : ℕ). n * sector_bytes + o % sector_bytes) image_first ∙ omega arith

-- its bytes are the image's first
pub first_byte : (l : List ℕ) (o : ℕ) → o < sector_bytes → disk_of l 0 o ≡ get_or l o 0
unfolding disk_of
first_byte l o h =
    cond_true (get_or l (image_place 0 o) 0) 0 (and_true (lt_true {a = 0} {b = blocks} (omega arith)) (lt_true {a = o} {b = block_bytes} (omega arith)))
    ∙ ap (λ (i : ℕ). get_or l i 0) (first_place o h)

-- and back: the first bytes of the image are those of block 0
pub first_block : (i : ℕ) → i < sector_bytes → block_of i ≡ 0
unfolding block_of
first_block i h =
    let e : i / sector_bytes ≡ 0 = omega arith in ap (λ (n : ℕ). to_running_sector n / block_sectors) e ∙ ap (λ (n : ℕ). n / block_sectors) running_first

-- and have their offsets
pub first_offset : (i : ℕ) → i < sector_bytes → offset_of i ≡ i
unfolding offset_of
first_offset i h =
    let e : i / sector_bytes ≡ 0 = omega arith in
    ap (λ (n : ℕ). to_running_sector n % block_sectors * sector_bytes + i % sector_bytes) e
    ∙ ap (λ (n : ℕ). n % block_sectors * sector_bytes + i % sector_bytes) running_first
    ∙ omega arith

-- all of block 0 lies on track 0
pub zero_on_track : (o : ℕ) → o < block_bytes → image_place 0 o < track_sectors * sector_bytes
unfolding image_place
zero_on_track o h = omega (arith, image_track (running 0 (o / sector_bytes)) (omega arith))

-- ---- whole disks

-- the image of a disk has 737,280 bytes
pub length_image : (d : Disk) → length (image_of d) ≡ image_bytes
unfolding image_of
length_image d = tab_length (λ (i : ℕ). d (block_of i) (offset_of i)) image_bytes

-- inside the blocks the disk of a disk's image has the disk's bytes
pub inside_disk : (d : Disk) (b o : ℕ) → b < blocks → o < block_bytes → disk_of (image_of d) b o ≡ d b o
unfolding disk_of image_of
inside_disk d b o hb ho =
    cond_true _ _ (and_true (lt_true hb) (lt_true ho))
    ∙ tab_in (λ (i : ℕ). d (block_of i) (offset_of i)) image_bytes (image_place b o) (image_place_lt b o hb ho)
    ∙ ap₂ d (block_byte b o hb ho) (offset_byte b o hb ho)

-- past the end of a block the disk of an image is zero
pub outside_disk : (l : List ℕ) (b o : ℕ) → block_bytes ≤ o → disk_of l b o ≡ 0
unfolding disk_of
outside_disk l b o h = cond_false _ _ (and_false_right (ltb b blocks) (lt_false h))

-- so it is past the last block
pub far_disk : (l : List ℕ) (b o : ℕ) → blocks ≤ b → disk_of l b o ≡ 0
unfolding disk_of
far_disk l b o h = cond_false _ _ (and_false_left (ltb o block_bytes) (lt_false h))

-- a disk that is zero outside its blocks is the disk of its image
pub disk_image : (d : Disk) → ((b o : ℕ) → blocks ≤ b → d b o ≡ 0) → ((b o : ℕ) → block_bytes ≤ o → d b o ≡ 0) → disk_of (image_of d) ≡ d
unfolding disk_of image_of
disk_image d far out =
    fun_ext (λ (b : ℕ). fun_ext (λ (o : ℕ).
    by_order b blocks
    (λ hb. by_order o block_bytes (inside_disk d b o hb) (λ k. outside_disk (image_of d) b o k ∙ sym (out b o k)))
    (λ k. far_disk (image_of d) b o k ∙ sym (far b o k))))

-- an image of the right length is the image of its disk
pub image_disk : (l : List ℕ) → length l ≡ image_bytes → image_of (disk_of l) ≡ l
unfolding disk_of image_of
image_disk l e =
    tab_ext (λ (i : ℕ). disk_of l (block_of i) (offset_of i)) (λ (i : ℕ). get_or l i 0) image_bytes
    (λ i h. cond_true _ _ (and_true (lt_true (block_lt i h)) (lt_true (offset_lt i h))) ∙ ap (λ (x : ℕ). get_or l x 0) (byte_is i h))
    ∙ ap (λ (n : ℕ). tab (λ (i : ℕ). get_or l i 0) n) (sym e)
    ∙ tab_self l

-- ---- one byte written

-- disks with the same bytes in all blocks have one image
pub image_cong : (d d' : Disk) → ((b o : ℕ) → b < blocks → o < block_bytes → d b o ≡ d' b o) → image_of d ≡ image_of d'
unfolding image_of
image_cong d d' e =
    tab_ext (λ (i : ℕ). d (block_of i) (offset_of i)) (λ (i : ℕ). d' (block_of i) (offset_of i)) image_bytes
    (λ i h. e (block_of i) (offset_of i) (block_lt i h) (offset_lt i h))

-- a byte set in the image at the place of block and offset is that byte set on the disk
pub image_set : (d : Disk) (b o v : ℕ) → b < blocks → o < block_bytes → set (image_of d) (image_place b o) v ≡ image_of (set_byte d b o v)
unfolding image_of set_byte
image_set d b o v hb ho =
    let f : ℕ → ℕ = λ (i : ℕ). d (block_of i) (offset_of i) in
    let g : ℕ → ℕ = λ (i : ℕ). set_byte d b o v (block_of i) (offset_of i) in
    let at : ℕ = image_place b o in
    let n : length (tab f image_bytes) ≡ image_bytes = tab_length f image_bytes in
    ext_get_or 0 (set (tab f image_bytes) at v) (tab g image_bytes) (length-set (tab f image_bytes) at v ∙ n ∙ sym (tab_length g image_bytes))
    (λ i h.
    let lt : i < image_bytes = omega (arith, length-set (tab f image_bytes) at v) in
    by_equal i at
    (λ e.
    ap (λ (x : ℕ). get_or (set (tab f image_bytes) at v) x 0) e
    ∙ get_or-set_same (tab f image_bytes) at v 0 (omega (arith, image_place_lt b o hb ho))
    ∙ sym (tab_in g image_bytes i lt
    ∙ upd₂_same d b (upd (d b) o v) (block_of i) (offset_of i) (ap block_of e ∙ block_byte b o hb ho)
    ∙ upd_same (d b) o v (offset_of i) (ap offset_of e ∙ offset_byte b o hb ho)))
    (λ e.
    get_or-set_other (tab f image_bytes) at i v 0 e
    ∙ tab_in f image_bytes i lt
    ∙ sym (tab_in g image_bytes i lt
    ∙ by_equal (block_of i) b
    (λ p.
    let q : offset_of i ≢ o = λ z. e (sym (byte_is i lt) ∙ ap₂ image_place p z) in
    upd₂_same d b (upd (d b) o v) (block_of i) (offset_of i) p ∙ upd_other (d b) o v (offset_of i) q ∙ ap (λ (x : ℕ). d x (offset_of i)) (sym p))
    (λ p. upd₂_other d b (upd (d b) o v) (block_of i) (offset_of i) p))))
