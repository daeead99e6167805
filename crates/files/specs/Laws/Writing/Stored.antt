-- Bytes stored into an image, one by one: what is written is a row of bytes of a block. Disks that agree inside their blocks.
-- Rests on the disk and its image (file_rules, Laws.Base.Disk).
use Rattle.std.specs.Prelude.{◌≡◌, ◌≢◌, List, ℕ, ◌+◌, ◌-◌, ◌≤◌, ◌<◌, length, get_or, set}
use Rattle.std.proofs.Math.Path.{refl, sym, ap}
use Rattle.std.proofs.Common.{◌∙◌}
use native.Mathlib.Omega.{arith}
use Rattle.laws.specs.Lists.{tab}
use Rattle.laws.specs.Changes.{upd, patch}
use Rattle.laws.specs.Laws.Cases.{by_equal}
use Rattle.laws.specs.Laws.Tab.{tab_length, tab_in}
use Rattle.laws.specs.Laws.Changes.{upd_same, upd_other, upd₂_same, upd₂_other, patch_in, patch_below, patch_above, by_place}
use Rattle.sector_rules.specs.Geometry.{blocks, image_bytes}
use Rattle.file_rules.specs.Disk.{Disk, image_place, disk_of, image_of, set_byte}
use Rattle.file_rules.proofs.Laws.Base.Disk.{inside_disk, image_disk, image_cong, image_set}
use Rattle.file_rules.specs.Sizes.{block_bytes}

-- ---- disks that agree inside their blocks

-- two disks have the same bytes inside their blocks
abbrev pub EqualInside : Disk → Disk → Type 0
EqualInside d e = (b o : ℕ) → b < blocks → o < block_bytes → d b o ≡ e b o

-- the disk of a list that is a disk's image agrees with the disk inside the blocks
pub inside_image : (l : List ℕ) (d : Disk) → l ≡ image_of d → EqualInside (disk_of l) d
inside_image l d e b o hb ho = ap (λ (x : List ℕ). disk_of x b o) e ∙ inside_disk d b o hb ho

-- a step that keeps the agreement may be taken on the image's disk
pub inside_step : (s : Disk → Disk) → ((d e : Disk) → EqualInside d e → EqualInside (s d) (s e)) → (l m : List ℕ) (d : Disk)
    → l ≡ image_of d → m ≡ image_of (s (disk_of l)) → m ≡ image_of (s d)
inside_step s keep l m d e q = q ∙ image_cong (s (disk_of l)) (s d) (keep (disk_of l) d (inside_image l d e))

-- ---- one byte

module _ (l : List ℕ) (b o v : ℕ) (e : length l ≡ image_bytes) where
  -- a byte set in the image is set on its disk
  pub set_inside : b < blocks → o < block_bytes → set l (image_place b o) v ≡ image_of (set_byte (disk_of l) b o v)
  set_inside hb ho = ap (λ (x : List ℕ). set x (image_place b o) v) (sym (image_disk l e)) ∙ image_set (disk_of l) b o v hb ho

  -- a byte set in no block leaves the image as it is
  pub set_no_block : blocks ≤ b → l ≡ image_of (set_byte (disk_of l) b o v)
  unfolding set_byte
  set_no_block h =
      sym (image_disk l e)
      ∙ image_cong (disk_of l) (set_byte (disk_of l) b o v) (λ b' i hb ho. sym (upd₂_other (disk_of l) b (upd (disk_of l b) o v) b' i (omega arith)))

-- ---- a row of bytes of a block

-- disk d with n bytes of g from offset o of block b on
abbrev pub patched : Disk → ℕ → ℕ → ℕ → (ℕ → ℕ) → Disk
patched d b o n g = upd d b (patch (d b) o n g)

-- no byte written leaves the image as it is
pub patched_none : (l : List ℕ) (b o : ℕ) (g : ℕ → ℕ) → length l ≡ image_bytes → l ≡ image_of (patched (disk_of l) b o 0 g)
patched_none l b o g e =
    sym (image_disk l e)
    ∙ image_cong (disk_of l) (patched (disk_of l) b o 0 g)
    (λ b' i hb ho. by_equal b' b
    (λ q. ap (λ (x : ℕ). disk_of l x i) q
    ∙ sym (upd₂_same (disk_of l) b (patch (disk_of l b) o 0 g) b' i q
    ∙ by_place (disk_of l b) o 0 g i (λ h k. absurd (omega arith)) (patch_below (disk_of l b) o 0 g i) (patch_above (disk_of l b) o 0 g i)))
    (λ q. sym (upd₂_other (disk_of l) b (patch (disk_of l b) o 0 g) b' i q)))

-- the last byte is the new one, the others are as they were
patch_last : (f : ℕ → ℕ) (o n : ℕ) (g : ℕ → ℕ) (i : ℕ) → i ≢ o + n → patch f o n g i ≡ patch f o (n + 1) g i
patch_last f o n g i q =
    by_place f o n g i
    (λ h k. patch_in f o n g i h k ∙ sym (patch_in f o (n + 1) g i h (omega arith)))
    (λ h. patch_below f o n g i h ∙ sym (patch_below f o (n + 1) g i h))
    (λ h. patch_above f o n g i h ∙ sym (patch_above f o (n + 1) g i (omega arith)))

module _ (d : Disk) (b o n : ℕ) (g : ℕ → ℕ) (l m : List ℕ) (v : ℕ) where
  -- one byte more of a row is written
  pub patched_more : l ≡ image_of (patched d b o n g) → m ≡ image_of (set_byte (disk_of l) b (o + n) v) → v ≡ g n → m ≡ image_of (patched d b o (n + 1) g)
  unfolding set_byte
  patched_more e q w =
      q
      ∙ image_cong (set_byte (disk_of l) b (o + n) v) (patched d b o (n + 1) g)
      (λ b' i hb ho. by_equal b' b
      (λ z.
      upd₂_same (disk_of l) b (upd (disk_of l b) (o + n) v) b' i z
      ∙ by_equal i (o + n)
      (λ y.
      let k : i - o ≡ n = omega arith in
      upd_same (disk_of l b) (o + n) v i y ∙ w ∙ ap g (sym k) ∙ sym (patch_in (d b) o (n + 1) g i (omega arith) (omega arith)))
      (λ y.
      upd_other (disk_of l b) (o + n) v i y
      ∙ inside_image l (patched d b o n g) e b i (omega arith) ho
      ∙ upd₂_same d b (patch (d b) o n g) b i refl
      ∙ patch_last (d b) o n g i y)
      ∙ sym (upd₂_same d b (patch (d b) o (n + 1) g) b' i z))
      (λ z.
      upd₂_other (disk_of l) b (upd (disk_of l b) (o + n) v) b' i z
      ∙ inside_image l (patched d b o n g) e b' i hb ho
      ∙ upd₂_other d b (patch (d b) o n g) b' i z
      ∙ sym (upd₂_other d b (patch (d b) o (n + 1) g) b' i z)))

-- a row is written by its bytes alone
pub patched_cong : (d : Disk) (b o n : ℕ) (f g : ℕ → ℕ) → ((i : ℕ) → i < n → f i ≡ g i) → image_of (patched d b o n f) ≡ image_of (patched d b o n g)
patched_cong d b o n f g e =
    image_cong (patched d b o n f) (patched d b o n g)
    (λ b' i hb ho. by_equal b' b
    (λ z.
    upd₂_same d b (patch (d b) o n f) b' i z
    ∙ by_place (d b) o n f i
    (λ h k. patch_in (d b) o n f i h k ∙ e (i - o) (omega arith) ∙ sym (patch_in (d b) o n g i h k))
    (λ h. patch_below (d b) o n f i h ∙ sym (patch_below (d b) o n g i h))
    (λ h. patch_above (d b) o n f i h ∙ sym (patch_above (d b) o n g i h))
    ∙ sym (upd₂_same d b (patch (d b) o n g) b' i z))
    (λ z. upd₂_other d b (patch (d b) o n f) b' i z ∙ sym (upd₂_other d b (patch (d b) o n g) b' i z)))

-- a row as long as a block is the block written whole
pub patched_block : (d : Disk) (b : ℕ) (f g : ℕ → ℕ) → ((i : ℕ) → i < block_bytes → f i ≡ g i) → image_of (patched d b 0 block_bytes f) ≡ image_of (upd d b g)
patched_block d b f g e =
    image_cong (patched d b 0 block_bytes f) (upd d b g)
    (λ b' i hb ho. by_equal b' b
    (λ z.
    let k : i - 0 ≡ i = omega arith in
    upd₂_same d b (patch (d b) 0 block_bytes f) b' i z
    ∙ patch_in (d b) 0 block_bytes f i (omega arith) (omega arith) ∙ ap f k ∙ e i ho ∙ sym (upd₂_same d b g b' i z))
    (λ z. upd₂_other d b (patch (d b) 0 block_bytes f) b' i z ∙ sym (upd₂_other d b g b' i z)))

-- a list that has a row's bytes is written as that row
pub patched_row : (d : Disk) (b o : ℕ) (s : List ℕ) (n : ℕ) (g : ℕ → ℕ) → s ≡ tab g n
    → image_of (patched d b o (length s) (λ (i : ℕ). get_or s i 0)) ≡ image_of (patched d b o n g)
patched_row d b o s n g e =
    ap (λ (r : List ℕ). image_of (patched d b o (length r) (λ (i : ℕ). get_or r i 0))) e
    ∙ ap (λ (k : ℕ). image_of (patched d b o k (λ (i : ℕ). get_or (tab g n) i 0))) (tab_length g n)
    ∙ patched_cong d b o n (λ (i : ℕ). get_or (tab g n) i 0) g (λ i h. tab_in g n i h)
