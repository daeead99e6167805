-- One side: what its nine sectors give, and their bytes as they are written into the image.
-- Rests on the laws of the search (Reading.Search) and of what is written into a list.
use Rattle.std.specs.Prelude.{None, Ok, false, List, ◌≡◌, ℕ, ◌+◌, ◌-◌, ◌*◌, ◌/◌, ◌%◌, ◌≤◌, ◌<◌, get_or}
use Rattle.std.proofs.Common.{◌++◌, length, take, drop, min, sym, ap, ◌∙◌}
use Rattle.std.proofs.lemmas.List.{length-take, length-drop, get_or-take, get_or-drop, get_or-append-add}
use Rattle.std.proofs.Math.ListN.{get_or-append}
use borrow.Rule.Slice.PartMut.{put_mid, mid_of, post_of, same_len_mid}
use native.Mathlib.Omega.{arith}
use Rattle.laws.specs.Changes.{overlay}
use Rattle.laws.specs.Laws.Tab.{tab_in}
use Rattle.laws.specs.Laws.Overlay.{overlay_is, overlay_on}
use Rattle.cells.specs.Stream.{stream, hfe_side}
use Rattle.cells.specs.declared.Side.{Side}
use Rattle.sector_rules.specs.declared.Found.{Found}
use Rattle.sector_rules.specs.declared.Found.TheVariants.{Nothing}
use Rattle.sector_rules.specs.Geometry.{tracks, sides, sectors, all_sectors, sector_bytes}
use Rattle.sector_rules.specs.Search.{sector_found, sector_of, sector_byte, delivered_bytes}
use Rattle.sector_rules.specs.Hfe.{is_version3, table_fault, track_length, track_part, side_stream}
use Rattle.sector_rules.specs.Unpacked.{track_of, side_of, sector_bytes_at, sector_at, unpacked_byte}
use Rattle.sector_rules.specs.Rewritten.{data_place_of, data_place}
use Rattle.sector_rules.proofs.Laws.Base.Versions.{plain_stream}
use Rattle.sectors.specs.declared.SectorField.{SectorField}
use Rattle.sectors.specs.Laws.Reading.Search.{Scanned}

-- a field that says nothing
abbrev pub no_field : SectorField
no_field = record { sector = Ok 0; place = 0 }

-- what the nine sectors of a side with the cells c give, R from 1, and the cell places of their data
pub record SideGives (r : List SectorField) (c : List ℕ) (t s : ℕ) : Type 0 where
  pub long : length r ≡ sectors
  pub each : (k : ℕ) → k < sectors → (get_or r k no_field).sector ≡ sector_of c t s (k + 1)
  pub places : (k : ℕ) → k < sectors → (get_or r k no_field).place ≡ data_place c t s (k + 1)

-- the same of the nine sectors of the n-th side of an HFE image
pub record ImageSideGives (r : List SectorField) (h : List ℕ) (n : ℕ) : Type 0 where
  pub long : length r ≡ sectors
  pub each : (k : ℕ) → k < sectors → (get_or r k no_field).sector ≡ sector_at h (sectors * n + k)
  pub places : (k : ℕ) → k < sectors → (get_or r k no_field).place ≡ data_place (side_stream h (n / sides) (n % sides)) (n / sides) (n % sides) (k + 1)

-- byte k of sectors that stand one after another, whose bytes are at the places from at on
unfoldable pub placed_byte : List ℕ → List ℕ → ℕ → ℕ → ℕ
placed_byte c places at k = sector_byte c (get_or places (at + k / sector_bytes) 0) (k % sector_bytes)

-- an image into which the nine sectors of the n-th side of h are written, whose bytes are at these places
abbrev pub with_side : List ℕ → List ℕ → List ℕ → ℕ → List ℕ
with_side d h places n =
    overlay d (sector_bytes * (sectors * n)) (sector_bytes * sectors)
    (placed_byte (side_stream h (n / sides) (n % sides)) places (sectors * n))

-- ---- what the sectors give

-- the search's answer gives what the sector gives
pub found_gives : (found : List Found) (c : List ℕ) (t s k : ℕ) → Scanned found c t s → k < sectors
    → sector_found c (get_or found k Nothing) ≡ sector_of c t s (k + 1)
unfolding sector_of
found_gives found c t s k x h = rw (x.each k h)

-- the search's answer gives the place of the sector's data
pub found_place : (found : List Found) (c : List ℕ) (t s k : ℕ) → Scanned found c t s → k < sectors
    → data_place_of c (get_or found k Nothing) ≡ data_place c t s (k + 1)
unfolding data_place
found_place found c t s k x h = rw (x.each k h)

-- fields that are made of the search's answers one by one are those of the side
pub fields_found : (found : List Found) (r : List SectorField) (c : List ℕ) (t s : ℕ) → Scanned found c t s → length r ≡ sectors
    → ((k : ℕ) → k < sectors → ((get_or r k no_field).sector ≡ sector_found c (get_or found k Nothing))
    × ((get_or r k no_field).place ≡ data_place_of c (get_or found k Nothing)))
    → SideGives r c t s
fields_found found r c t s x l m =
    record { long = l; each = λ k h. (m k h).0 ∙ found_gives found c t s k x h; places = λ k h. (m k h).1 ∙ found_place found c t s k x h }

-- ---- the cells of a side, as the code reads them

-- an HFE image whose sides are read as they are stored: its table is right, and it is not of version 3
pub record PlainImage (h : List ℕ) : Type 0 where
  pub table : table_fault h ≡ None
  pub version : is_version3 h ≡ false

-- the cells of the part and the side that the code hands on are those of the image's side
pub plain_cells : (h : List ℕ) → PlainImage h → (t s : ℕ) (part : List ℕ) (side : Side) → part ≡ track_part h t → side ≡ hfe_side s (track_length h t)
    → stream part side ≡ side_stream h t s
plain_cells h x t s part side is-part is-side = rw (is-part, is-side) (sym (plain_stream h t s x.version))

-- ---- the n-th side of an HFE image, by its cells

module _ (h : List ℕ) (n : ℕ) (c : List ℕ) (is : c ≡ side_stream h (n / sides) (n % sides)) where
  -- its cells are those of each of its nine sectors
  cells_are : (k : ℕ) → k < sectors → c ≡ side_stream h (track_of (sectors * n + k)) (side_of (sectors * n + k))
  cells_are k l =
      let t : track_of (sectors * n + k) ≡ n / sides = omega arith in
      let s : side_of (sectors * n + k) ≡ n % sides = omega arith in
      rw (t, s) is

  sector_is : (k : ℕ) → k < sectors → sector_of c (n / sides) (n % sides) (k + 1) ≡ sector_at h (sectors * n + k)
  unfolding sector_at
  sector_is k l =
      let t : track_of (sectors * n + k) ≡ n / sides = omega arith in
      let s : side_of (sectors * n + k) ≡ n % sides = omega arith in
      let r : (sectors * n + k) % sectors ≡ k = omega arith in
      rw (← cells_are k l, t, s, r)

  -- what the sectors of a side's cells give is what the image sectors of that side give
  pub image_gives : (r : List SectorField) → SideGives r c (n / sides) (n % sides) → ImageSideGives r h n
  image_gives r x = record { long = x.long; each = λ k l. x.each k l ∙ sector_is k l; places = rw is at x.places }

  -- byte k of the side's nine sectors is a byte of the block image
  pub side_byte : (places : List ℕ) → ((m : ℕ) → m < all_sectors → sector_at h m ≡ Ok (get_or places m 0)) → n < tracks * sides
      → (k : ℕ) → k < sector_bytes * sectors → placed_byte c places (sectors * n) k ≡ unpacked_byte h (sector_bytes * (sectors * n) + k)
  unfolding unpacked_byte sector_bytes_at delivered_bytes placed_byte
  side_byte places noted b k l =
      let m : (sector_bytes * (sectors * n) + k) / sector_bytes ≡ sectors * n + k / sector_bytes = omega arith in
      let o : (sector_bytes * (sectors * n) + k) % sector_bytes ≡ k % sector_bytes = omega arith in
      rw (m, o, noted (sectors * n + k / sector_bytes) (omega arith), cells_are (k / sector_bytes) (omega arith))
      (sym
      (tab_in
      (sector_byte (side_stream h (track_of (sectors * n + k / sector_bytes)) (side_of (sectors * n + k / sector_bytes)))
      (get_or places (sectors * n + k / sector_bytes) 0))
      sector_bytes (k % sector_bytes) (omega arith)))

-- ---- bytes in a row in a longer list

module _ (d ys : List ℕ) (a n : ℕ) (h : a + n ≤ length d) (l : length ys ≡ n) where
  front : length (take a d) ≡ a
  front = length-take a d ∙ (let z : min a (length d) ≡ a = omega arith in z)

  middle : length (mid_of a n d) ≡ n
  middle = length-take n (drop a d) ∙ ap (min n) (length-drop a d) ∙ (let z : min n (length d - a) ≡ n = omega arith in z)

  part_new : (k : ℕ) → a ≤ k → k < a + n → get_or (put_mid a n d ys) k 0 ≡ get_or ys (k - a) 0
  part_new k b c =
      let z : k ≡ length (take a d) + (k - a) = omega (arith, front) in
      ap (λ (i : ℕ). get_or (put_mid a n d ys) i 0) z ∙ get_or-append-add (take a d) (ys ++ post_of a n d) (k - a) 0
      ∙ get_or-append ys (post_of a n d) 0 (k - a) (omega arith)

  part_low : (k : ℕ) → k < a → get_or (put_mid a n d ys) k 0 ≡ get_or d k 0
  part_low k c = get_or-append (take a d) (ys ++ post_of a n d) 0 k (omega (arith, front)) ∙ get_or-take a d k 0 c

  part_high : (k : ℕ) → a + n ≤ k → get_or (put_mid a n d ys) k 0 ≡ get_or d k 0
  part_high k b =
      let z : k ≡ length (take a d) + (k - a) = omega (arith, front) in
      let y : k - a ≡ length ys + (k - (a + n)) = omega arith in
      let x : a + (n + (k - (a + n))) ≡ k = omega arith in
      ap (λ (i : ℕ). get_or (put_mid a n d ys) i 0) z ∙ get_or-append-add (take a d) (ys ++ post_of a n d) (k - a) 0
      ∙ ap (λ (i : ℕ). get_or (ys ++ post_of a n d) i 0) y ∙ get_or-append-add ys (post_of a n d) (k - (a + n)) 0
      ∙ get_or-drop n (drop a d) (k - (a + n)) 0 ∙ get_or-drop a d (n + (k - (a + n))) 0 ∙ ap (λ (i : ℕ). get_or d i 0) x

  -- a part of a list that has the bytes g 0, g 1 .. is written over it
  pub part_overlaid : (g : ℕ → ℕ) → ((k : ℕ) → k < n → get_or ys k 0 ≡ g k) → put_mid a (a + n - a) d ys ≡ overlay d a n g
  part_overlaid g e =
      let z : a + n - a ≡ n = omega arith in
      rw z
      (overlay_is d a n g (put_mid a n d ys) (same_len_mid a n d ys (l ∙ sym middle))
      (λ k b c q. part_new k b c ∙ e (k - a) (omega arith)) part_low part_high)

-- ---- one more sector of a side is written

-- the bytes of the next sector, written after those of the sectors before it
pub side_more : (c places d out : List ℕ) (at k : ℕ) → out ≡ overlay d (sector_bytes * at) (sector_bytes * k) (placed_byte c places at)
    → overlay out (sector_bytes * (at + k)) sector_bytes (sector_byte c (get_or places (at + k) 0))
    ≡ overlay d (sector_bytes * at) (sector_bytes * (k + 1)) (placed_byte c places at)
unfolding placed_byte
side_more c places d out at k e =
    let a : sector_bytes * (at + k) ≡ sector_bytes * at + sector_bytes * k = omega arith in
    let b : sector_bytes * (k + 1) ≡ sector_bytes * k + sector_bytes = omega arith in
    rw (a, b)
    (overlay_on d (sector_bytes * at) (sector_bytes * k) sector_bytes (sector_byte c (get_or places (at + k) 0)) (placed_byte c places at) out e
    (λ j l.
    let q : (sector_bytes * k + j) / sector_bytes ≡ k = omega arith in
    let r : (sector_bytes * k + j) % sector_bytes ≡ j = omega arith in
    rw (q, r)))

-- the nine sectors of a side by its cells, as the code writes them
pub side_written : (d h places : List ℕ) (n : ℕ) (c out : List ℕ) → c ≡ side_stream h (n / sides) (n % sides)
    → out ≡ overlay d (sector_bytes * (sectors * n)) (sector_bytes * sectors) (placed_byte c places (sectors * n)) → out ≡ with_side d h places n
side_written d h places n c out is e = e ∙ rw is
