-- What is promised of rewriting (docs/PROMISES.md): rewrite_reads, rewrite_packs, side_untouched and rewrite_replies.
-- Assumes nothing: these are definitions. The proofs stand in Laws/Rewrite.
use Rattle.std.specs.Prelude.{Some, None, Ok, Err, true, false, List, ◌≡◌, ◌≢◌, ℕ, ◌+◌, ◌*◌, ◌/◌, ◌%◌, ◌≤◌, ◌<◌, length, get_or, take, drop}
use Rattle.std.proofs.Math.Option.{none}
use Rattle.laws.specs.Changes.{put}
use Rattle.laws.specs.Numbers.{quotient_up}
use Rattle.cells.specs.Stream.{stream, hfe_side}
use Rattle.cells.specs.Mfm.{clock}
use Rattle.cells.specs.Written.{bit_before, written_cell}
use Rattle.sector_rules.specs.declared.SectorFault.TheVariants.{Missing, Repeated, NoField, Damaged}
use Rattle.sector_rules.specs.Replies.{reply_with, done}
use Rattle.sector_rules.specs.Geometry.{tracks, sides, sectors, all_sectors, sector_bytes, image_bytes}
use Rattle.sector_rules.specs.Hfe.{unit_bytes, is_version3, version1_fault, table_fault, track_start, track_length, side_stream}
use Rattle.sector_rules.specs.Unpacked.{sector_at, sector_bytes_at, sector_reply}
use Rattle.sector_rules.specs.Packed.{plain_items, field_items, hfe_bytes, pack_hfe, image_sector_of}
use Rattle.sector_rules.specs.Rewritten.{data_place, data_cells, field_row, is_side_byte, rewritten, hfe_refusal, has_field}
use Rattle.sector_rules.specs.Rewritten.{rewrite_arguments, rewrite_reply, rewrite_hfe}

-- the cells of side s of a track that begins at `start` and has so many bytes, whatever the table says: a result is compared where the sides of the image
-- before lay (§2.6 §8.16)
unfoldable pub side_cells_at : List ℕ → ℕ → ℕ → ℕ → List ℕ
side_cells_at h start long s = stream (take (unit_bytes * quotient_up long unit_bytes) (drop start h)) (hfe_side s long)

-- what is asked of the result g where h was the image before and image sector m got the data d (§8.17)
pub record ResultReads (h g : List ℕ) (m : ℕ) (d : List ℕ) : Type 0 where
  -- header and table are right
  pub right : hfe_refusal g ≡ none
  -- this sector is delivered
  pub reply : sector_reply m (sector_at g m) ≡ done
  -- with the data
  pub bytes : sector_bytes_at g m ≡ d
  -- every other sector gets the reply it got
  pub replies : (q : ℕ) → q < all_sectors → q ≢ m → sector_reply q (sector_at g q) ≡ sector_reply q (sector_at h q)
  -- and gives the bytes it gave
  pub others : (q : ℕ) → q < all_sectors → q ≢ m → sector_bytes_at g q ≡ sector_bytes_at h q

-- what holds of a rewrite from the image h to the image g, where p is the cell place of the data (§8.16 §8.17)
pub record Rewrites (h g : List ℕ) (t s r : ℕ) (d : List ℕ) (p : ℕ) : Type 0 where
  -- the result reads as is asked
  pub reads : ResultReads h g (image_sector_of t s r) d
  -- the data stand where the old ones did, if these were delivered
  pub place : (k : ℕ) → sector_at h (image_sector_of t s r) ≡ Ok k → p ≡ k
  -- the image is as long as it was
  pub long : length g ≡ length h
  -- every byte that is not one of this side is as it was
  pub outside : (k : ℕ) → is_side_byte (track_start h t) (track_length h t / 2) s 0 (track_length h t / 2) k ≡ false → get_or g k 0 ≡ get_or h k 0
  -- the 8,224 cells are those of the data and their CRC
  pub written : (i : ℕ) → i < data_cells → get_or (side_cells_at g (track_start h t) (track_length h t) s) (p + i) 0 ≡ written_cell (plain_items
      (field_row d)) (16 + i)
  -- every cell of this side before them is as it was
  pub before : (i : ℕ) → i < p → get_or (side_cells_at g (track_start h t) (track_length h t) s) i 0 ≡ get_or (side_stream h t s) i 0
  -- and every cell after the clock cell that follows them
  pub after : (i : ℕ) → p + data_cells < i → get_or (side_cells_at g (track_start h t) (track_length h t) s) i 0 ≡ get_or (side_stream h t s) i 0
  -- and that clock cell too, where it is the side's last cell
  pub last : length (side_stream h t s) ≡ p + data_cells + 1
      → get_or (side_cells_at g (track_start h t) (track_length h t) s) (p + data_cells) 0 ≡ get_or (side_stream h t s) (p + data_cells) 0
  -- where more cells follow, it is the clock between the last bit of the CRC and the data cell after it
  pub clocked : p + data_cells + 2 ≤ length (side_stream h t s)
      → get_or (side_cells_at g (track_start h t) (track_length h t) s) (p + data_cells) 0
      ≡ clock (bit_before (plain_items (field_row d)) field_items) (get_or (side_stream h t s) (p + data_cells + 1) 0)

-- rewrite_reads: where rewrite answers 0, the result reads the data at this sector and at every other sector what was read before, and no cell but those of
-- the data, their CRC and the clock cell after it is changed (§8.16 §8.17)
abbrev pub RewriteReads : Type 0
RewriteReads =
    (h : List ℕ) (t s r : ℕ) (d : List ℕ) → (rewrite_reply h t s r d).number ≡ 0
    → Rewrites h (rewrite_hfe h t s r d) t s r d (data_place (side_stream h t s) t s r)

-- rewrite_packs: on a packed image every rewrite with right arguments is done, and the result is what pack writes for the block image with that
-- sector replaced (§8.16 §8.2)
abbrev pub RewritePacks : Type 0
RewritePacks =
    (image hfe d : List ℕ) (t s r : ℕ) → length image ≡ image_bytes → ((k : ℕ) → get_or image k 0 < 256) → length hfe ≡ hfe_bytes
    → t < tracks → s < sides → 1 ≤ r → r ≤ sectors → length d ≡ sector_bytes → ((k : ℕ) → get_or d k 0 < 256)
    → (rewrite_reply (pack_hfe image hfe) t s r d ≡ done)
    × (rewrite_hfe (pack_hfe image hfe) t s r d ≡ pack_hfe (put image (sector_bytes * image_sector_of t s r) d) hfe)

-- side_untouched: a side whose table entry says the same in two images of one version, and none of whose bytes differ, has the same cells; what a sector
-- gives is a function of its side's cells (§2.6 §4.6)
abbrev pub SideUntouched : Type 0
SideUntouched =
    (h g : List ℕ) (t s : ℕ) → s < sides → is_version3 g ≡ is_version3 h → track_start g t ≡ track_start h t → track_length g t ≡ track_length h t
    → ((b : ℕ) → b < track_length h t / 2
    → get_or g (track_start h t + 256 * s + 512 * (b / 256) + b % 256) 0 ≡ get_or h (track_start h t + 256 * s + 512 * (b / 256) + b % 256) 0)
    → side_stream g t s ≡ side_stream h t s

-- the arguments of a rewrite: sectors that a disk has and has not, and the length of the data (§7.12 §8.15)
pub record ArgumentLimits : Type 0 where
  pub first : (d : List ℕ) → length d ≡ 512 → rewrite_arguments 0 0 1 d ≡ true
  pub last : (d : List ℕ) → length d ≡ 512 → rewrite_arguments 79 1 9 d ≡ true
  pub track : (d : List ℕ) → rewrite_arguments 80 0 1 d ≡ false
  pub side : (d : List ℕ) → rewrite_arguments 0 2 1 d ≡ false
  pub below : (d : List ℕ) → rewrite_arguments 0 0 0 d ≡ false
  pub above : (d : List ℕ) → rewrite_arguments 0 0 10 d ≡ false
  pub long : (t s r : ℕ) (d : List ℕ) → length d ≢ 512 → rewrite_arguments t s r d ≡ false

-- whether a sector has a data field, by what it gives, judged alone (§8.15)
pub record FieldPresent : Type 0 where
  pub delivered : (p : ℕ) → has_field (Ok p) ≡ true
  pub damaged : has_field (Err Damaged) ≡ true
  pub missing : has_field (Err Missing) ≡ false
  pub repeated : has_field (Err Repeated) ≡ false
  pub absent : has_field (Err NoField) ≡ false

-- rewrite_replies: the replies of rewrite in their order, with number and places; 17 exactly where the result does not read as is asked (§8.15 §7.24)
pub record RewriteReplies : Type 0 where
  pub limits : ArgumentLimits
  pub fields : FieldPresent
  pub short : (h : List ℕ) (t s r : ℕ) (d : List ℕ) → length h < 1024 → rewrite_reply h t s r d ≡ reply_with 1 1 0 0
  pub arguments : (h : List ℕ) (t s r : ℕ) (d : List ℕ) → 1024 ≤ length h → rewrite_arguments t s r d ≡ false → rewrite_reply h t s r d ≡ reply_with 12 0 0 0
  pub header : (h : List ℕ) (t s r : ℕ) (d : List ℕ) → 1024 ≤ length h → rewrite_arguments t s r d ≡ true → (o : ℕ) → version1_fault h ≡ Some o
      → rewrite_reply h t s r d ≡ reply_with 2 o 0 0
  pub table : (h : List ℕ) (t s r : ℕ) (d : List ℕ) → 1024 ≤ length h → rewrite_arguments t s r d ≡ true → version1_fault h ≡ None
      → (k : ℕ) → table_fault h ≡ Some k → rewrite_reply h t s r d ≡ reply_with 3 k 0 0
  pub field : (h : List ℕ) (t s r : ℕ) (d : List ℕ) → 1024 ≤ length h → rewrite_arguments t s r d ≡ true → version1_fault h ≡ None → table_fault h ≡ None
      → has_field (sector_at h (image_sector_of t s r)) ≡ false → rewrite_reply h t s r d ≡ sector_reply (image_sector_of t s r) (sector_at h
      (image_sector_of t s r))
  pub accepted : (h : List ℕ) (t s r : ℕ) (d : List ℕ) → 1024 ≤ length h → rewrite_arguments t s r d ≡ true → version1_fault h ≡ None → table_fault h ≡ None
      → has_field (sector_at h (image_sector_of t s r)) ≡ true → ResultReads h (rewritten h t s r d) (image_sector_of t s r) d
      → rewrite_reply h t s r d ≡ reply_with 0 0 0 0
  pub misread : (h : List ℕ) (t s r : ℕ) (d : List ℕ) → 1024 ≤ length h → rewrite_arguments t s r d ≡ true → version1_fault h ≡ None → table_fault h ≡ None
      → has_field (sector_at h (image_sector_of t s r)) ≡ true → (ResultReads h (rewritten h t s r d) (image_sector_of t s r) d → ⊥)
      → rewrite_reply h t s r d ≡ reply_with 17 0 0 0
