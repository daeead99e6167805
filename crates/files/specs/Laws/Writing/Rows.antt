-- Rows of bytes of a block that lie in one sector, and so in a row in the image: read, and written.
-- Rests on rows of bytes (Stored, Steps) and on bytes of a block in one sector (Loading.Slots).
use Rattle.std.specs.Prelude.{◌≡◌, refl, cond, List, ℕ, zero, suc, ◌+◌, ◌-◌, ◌*◌, ◌/◌, ◌%◌, ◌≤◌, ◌<◌, ltb, length, set, drop}
use Rattle.std.proofs.Math.Path.{sym, ap}
use Rattle.std.proofs.Common.{◌∙◌, zero-add, add_assoc, add-one}
use native.Mathlib.Omega.{arith}
use Rattle.std.proofs.Math.ListN.{get_or, take}
use Rattle.laws.specs.Lists.{tab, element_at, window}
use Rattle.laws.specs.Changes.{upd, patch, overlay, put}
use Rattle.laws.specs.Laws.Cases.{by_order}
use Rattle.laws.specs.Laws.Tests.{lt_true, lt_false, cond_true, cond_false}
use Rattle.laws.specs.Laws.Tab.{tab_ext, window_part}
use Rattle.laws.specs.Laws.Changes.{upd_same, upd_twice, patch_next}
use Rattle.laws.specs.Laws.Overlay.{overlay_none, overlay_more, overlay_cong, overlay_clip}
use Rattle.laws.specs.Laws.Overlay.{overlay_length, put_tab}
use Rattle.sector_rules.specs.Geometry.{sector_bytes, blocks, image_bytes, running}
use Rattle.sector_rules.proofs.Laws.Base.Geometry.{image_lt}
use Rattle.file_rules.specs.Disk.{Disk, image_place, disk_of, image_of}
use Rattle.files.specs.Laws.Loading.Blocks.{disk_in, disk_far}
use Rattle.file_rules.proofs.Laws.Base.Disk.{image_place_lt}
use Rattle.files.specs.Laws.Loading.Slots.{byte_along}
use Rattle.files.specs.Laws.Writing.Steps.{stored_row, inside_patched}
use Rattle.files.specs.Laws.Writing.Stored.{inside_step, set_inside, set_no_block, patched, patched_none, patched_more, patched_row}
use Rattle.file_rules.specs.Sizes.{block_bytes, slot_bytes}

-- where offset o of block b stands in the image; its end, where there is no such block
unfoldable pub run_place : ℕ → ℕ → ℕ
run_place b o = cond (ltb b blocks) (image_place b o) image_bytes

-- ---- one row read

module _ (image : List ℕ) (b o n : ℕ) (long : length image ≡ image_bytes) (ho : o < block_bytes) (h : o % sector_bytes + n ≤ sector_bytes) where
  -- a row of a block ends within the image
  pub row_within : b < blocks → image_place b o + n ≤ image_bytes
  unfolding image_place
  row_within hb = omega (arith, image_lt (running b (o / sector_bytes)) (omega arith))

  -- a row of the image that is copied is that of the block
  pub row_read : b < blocks → (out : List ℕ) (c at e : ℕ) → at ≡ image_place b o → e ≡ at + n
      → put out c (take (e - at) (drop at image)) ≡ overlay out c n (λ (j : ℕ). disk_of image b (o + j))
  unfolding window element_at
  row_read hb out c at e q r =
      let z : e - at ≡ n = omega arith in
      ap (λ (x : ℕ). put out c (take x (drop at image))) z
      ∙ ap (put out c) (window_part image at n (omega (arith, row_within hb)))
      ∙ put_tab out c (λ (j : ℕ). get_or image (at + j) 0) n
      ∙ overlay_cong out c n (λ (j : ℕ). get_or image (at + j) 0) (λ (j : ℕ). disk_of image b (o + j))
      (λ j l.
      ap (λ (x : ℕ). get_or image (x + j) 0) q
      ∙ ap (λ (x : ℕ). get_or image x 0) (sym (byte_along b o j (omega arith)))
      ∙ sym (disk_in image b (o + j) hb (omega arith)))

  -- a row of a block that does not exist is zeros
  pub row_far : blocks ≤ b → (out : List ℕ) (c : ℕ) → overlay out c n (λ (j : ℕ). 0) ≡ overlay out c n (λ (j : ℕ). disk_of image b (o + j))
  row_far hb out c = overlay_cong out c n (λ (j : ℕ). 0) (λ (j : ℕ). disk_of image b (o + j)) (λ j l. sym (disk_far image b (o + j) hb))

-- ---- one row written

module _ (l : List ℕ) (b o : ℕ) (g : ℕ → ℕ) (long : length l ≡ image_bytes) where
  -- in a block
  row_inside : b < blocks → o < block_bytes → (n : ℕ) → o % sector_bytes + n ≤ sector_bytes → overlay l (image_place b o) n g ≡ image_of (patched
      (disk_of l) b o n g)
  row_inside hb ho zero h = sym (overlay_none l (image_place b o) g) ∙ patched_none l b o g long
  row_inside hb ho (suc n) h =
      let m : List ℕ = overlay l (image_place b o) n g in
      let before : m ≡ image_of (patched (disk_of l) b o n g) = row_inside hb ho n (omega arith) in
      let along : image_place b (o + n) ≡ image_place b o + n = byte_along b o n (omega arith) in
      let within : image_place b (o + n) < image_bytes = image_place_lt b (o + n) hb (omega arith) in
      ap (λ (k : ℕ). overlay l (image_place b o) k g) (sym (add-one n))
      ∙ sym (overlay_more l (image_place b o) n g m (g n) (omega arith) refl refl)
      ∙ ap (λ (x : ℕ). set m x (g n)) (sym along)
      ∙ patched_more (disk_of l) b o n g m (set m (image_place b (o + n)) (g n)) (g n) before
      (set_inside m b (o + n) (g n) (overlay_length l (image_place b o) n g ∙ long) hb (omega arith)) refl
      ∙ ap (λ (k : ℕ). image_of (patched (disk_of l) b o k g)) (add-one n)

  -- in none
  pub row_nowhere : blocks ≤ b → (n : ℕ) → l ≡ image_of (patched (disk_of l) b o n g)
  row_nowhere h zero = patched_none l b o g long
  row_nowhere h (suc n) =
      patched_more (disk_of l) b o n g l l (g n) (row_nowhere h n) (set_no_block l b (o + n) (g n) long h) refl
      ∙ ap (λ (k : ℕ). image_of (patched (disk_of l) b o k g)) (add-one n)

  -- a row written at its place in the image is written in the block
  pub row_written : (n at : ℕ) → at ≡ run_place b o → o < block_bytes
      → o % sector_bytes + n ≤ sector_bytes → overlay l at n g ≡ image_of (patched (disk_of l) b o n g)
  unfolding run_place
  row_written n at e ho h =
      by_order b blocks
      (λ hb. ap (λ (x : ℕ). overlay l x n g) (e ∙ cond_true (image_place b o) image_bytes (lt_true hb)) ∙ row_inside hb ho n h)
      (λ hb.
      ap (λ (x : ℕ). overlay l x n g) (e ∙ cond_false (image_place b o) image_bytes (lt_false hb))
      ∙ sym (overlay_none l image_bytes g ∙ overlay_clip l image_bytes 0 n g (omega arith))
      ∙ row_nowhere hb n)

-- ---- rows one after the other

-- a row written after another is one row
pub rows_next : (d : Disk) (b o n k : ℕ) (g h : ℕ → ℕ) (l m : List ℕ) → l ≡ image_of (patched d b o n g) → m ≡ image_of (patched (disk_of l) b (o + n) k h)
    → ((i : ℕ) → i < k → h i ≡ g (n + i)) → m ≡ image_of (patched d b o (n + k) g)
rows_next d b o n k g h l m e q w =
    let p : ℕ → ℕ = patch (d b) o n g in
    inside_step (λ (x : Disk). patched x b (o + n) k h) (λ x y near. inside_patched x y near b (o + n) k h) l m (patched d b o n g) e q
    ∙ ap image_of (upd_twice d b p (patch (upd d b p b) (o + n) k h)
    ∙ ap (upd d b) (ap (λ (f : ℕ → ℕ). patch f (o + n) k h) (upd_same d b p b refl) ∙ patch_next (d b) o n k g h w))

-- the next sector of a block that is written from its beginning
pub sector_next : (d : Disk) (b s : ℕ) (c : ℕ → ℕ) (p : ℕ) (l m : List ℕ) → l ≡ image_of (patched d b 0 (p * sector_bytes) (λ (i : ℕ). c (s * block_bytes + i)))
    → m ≡ image_of (patched (disk_of l) b (p * sector_bytes) sector_bytes (λ (k : ℕ). c (s * block_bytes + p * sector_bytes + k)))
    → m ≡ image_of (patched d b 0 ((p + 1) * sector_bytes) (λ (i : ℕ). c (s * block_bytes + i)))
sector_next d b s c p l m e q =
    let z : p * sector_bytes + sector_bytes ≡ (p + 1) * sector_bytes = omega arith in
    rows_next d b 0 (p * sector_bytes) sector_bytes (λ (i : ℕ). c (s * block_bytes + i)) (λ (k : ℕ). c (s * block_bytes + p * sector_bytes + k)) l m e
    (q ∙ ap (λ (x : ℕ). image_of (patched (disk_of l) b x sector_bytes (λ (k : ℕ). c (s * block_bytes + p * sector_bytes + k)))) (sym (zero-add
    (p * sector_bytes))))
    (λ i h. ap c (add_assoc (s * block_bytes) (p * sector_bytes) i))
    ∙ ap (λ (x : ℕ). image_of (patched d b 0 x (λ (i : ℕ). c (s * block_bytes + i)))) z

-- a part of a list, written after what is written of it
pub rows_part : (d : Disk) (b o n : ℕ) (src : List ℕ) (e : ℕ) (l m : List ℕ) → l ≡ image_of (patched d b o n (λ (i : ℕ). get_or src i 0)) → n ≤ e
    → e ≤ length src
    → m ≡ image_of (patched (disk_of l) b (o + n) (length (take (e - n) (drop n src))) (λ (i : ℕ). get_or (take (e - n) (drop n src)) i 0))
    → m ≡ image_of (patched d b o e (λ (i : ℕ). get_or src i 0))
unfolding window element_at
rows_part d b o n src e l m before h k q =
    let z : n + (e - n) ≡ e = omega arith in
    rows_next d b o n (e - n) (λ (i : ℕ). get_or src i 0) (λ (i : ℕ). get_or src (n + i) 0) l m before
    (q ∙ patched_row (disk_of l) b (o + n) (take (e - n) (drop n src)) (e - n) (λ (i : ℕ). get_or src (n + i) 0) (window_part src n (e - n) (omega arith)))
    (λ i hi. refl)
    ∙ ap (λ (x : ℕ). image_of (patched d b o x (λ (i : ℕ). get_or src i 0))) z

-- ---- the bytes of a file

-- those of a part of its data, where all of them lie there
module _ (content : List ℕ) (i : ℕ) (h : slot_bytes ≤ i) (l : i + sector_bytes - slot_bytes ≤ length content) where
  -- the row of data is the row of the stored file
  pub content_row : (head : List ℕ)
      → take (i + sector_bytes - slot_bytes - (i - slot_bytes)) (drop (i - slot_bytes) content) ≡ tab (λ (k : ℕ). stored_row head content (i + k)) sector_bytes
  unfolding stored_row window element_at
  content_row head =
      let n : i + sector_bytes - slot_bytes - (i - slot_bytes) ≡ sector_bytes = omega arith in
      ap (λ (x : ℕ). take x (drop (i - slot_bytes) content)) n
      ∙ window_part content (i - slot_bytes) sector_bytes (omega arith)
      ∙ tab_ext _ _ sector_bytes
      (λ k hk.
      let z : i - slot_bytes + k ≡ i + k - slot_bytes = omega arith in
      ap (λ (x : ℕ). get_or content x 0) z ∙ sym (cond_false _ _ (lt_false {a = i + k} {b = slot_bytes} (omega arith))))
