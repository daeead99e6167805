-- The writer: the two stored bytes of an item, the runs of a side's bytes in the units of a track, and the image as these parts in order.
-- Rests on the laws of what is written into a list, and on the written image place by place (Items, and Base.Packed of sector_rules).
use Rattle.std.specs.Prelude.{cond, List, ◌≡◌, refl, ℕ, ◌+◌, ◌-◌, ◌*◌, ◌/◌, ◌%◌, ◌≤◌, ◌<◌, min, ltb, length, set, get_or}
use Rattle.std.proofs.Math.Path.{sym}
use Rattle.std.proofs.Common.{ap, ◌∙◌}
use native.Mathlib.Omega.{arith}
use borrow.Author.Tests.{lt-ltb, le-ltb}
use Rattle.laws.specs.Lists.{tab, element_at}
use Rattle.laws.specs.Changes.{overlay, put}
use Rattle.laws.specs.Below.{all}
use Rattle.laws.specs.Numbers.{low_byte}
use Rattle.laws.specs.Laws.All.{all_eq}
use Rattle.laws.specs.Laws.Overlay.{overlay_more, overlay_cong, overlay_on, overlay_next, overlay_all}
use Rattle.cells.specs.Mfm.{bit_of}
use Rattle.cells.specs.Stream.{packed}
use Rattle.cells.specs.Written.{item_byte, item_cell, bit_before, written_cell}
use Rattle.cells.proofs.Laws.Written.{packed_item, item_before_later}
use Rattle.cells.specs.declared.Item.{Item}
use Rattle.sector_rules.specs.Geometry.{tracks, sides}
use Rattle.sector_rules.specs.Hfe.{hfe_signature, unit_bytes}
use Rattle.sector_rules.specs.Packed.{image_side, side_items, side_bytes, track_units, first_unit, hfe_bytes}
use Rattle.sector_rules.specs.Packed.{fill_byte, hfe_header_rest, hfe_header_byte, hfe_table_byte, hfe_track_byte, hfe_byte}
use Rattle.sector_rules.proofs.Laws.Base.Packed.{hfe_header_lem, hfe_table, hfe_track}
use Rattle.sectors.specs.Laws.Packing.Items.{header_out}

-- the bytes of a unit that belong to one side
abbrev pub run_bytes : ℕ
run_bytes = unit_bytes / sides

-- the items that these bytes spell
abbrev pub run_items : ℕ
run_items = run_bytes / 2

-- byte k of a row of items from item first on, as it is stored
unfoldable pub items_byte : (ℕ → Item) → ℕ → ℕ → ℕ
items_byte items first k = packed (written_cell items) (2 * first + k)

-- byte k of what unit u of a track has of side s
unfoldable pub run_byte : List ℕ → ℕ → ℕ → ℕ → ℕ → ℕ
run_byte image t s u k = cond (ltb (run_bytes * u + k) side_bytes) (packed (written_cell (image_side image t s)) (run_bytes * u + k)) fill_byte

-- byte k of the units of all tracks
unfoldable pub tracks_byte : List ℕ → ℕ → ℕ
tracks_byte image k = hfe_byte image (first_unit * unit_bytes + k)

-- where unit u of track t lies in the image
abbrev pub unit_place : ℕ → ℕ → ℕ
unit_place t u = unit_bytes * (first_unit + track_units * t + u)

-- byte k of the units of all tracks, counted from unit u of track t on
unfoldable pub unit_byte : List ℕ → ℕ → ℕ → ℕ → ℕ
unit_byte image t u k = tracks_byte image (unit_bytes * (track_units * t + u) + k)

-- ---- items

module _ (items : ℕ → Item) (q p : ℕ) (item : Item) (is-bit : p ≡ bit_before items q) (is-item : item ≡ items q) where
  -- a half of the item, as it is stored
  half : (b o : ℕ) → o < 2 → b ≡ 2 * q + o → packed (item_cell p item) o ≡ packed (written_cell items) b
  half b o l e =
      let d : b / 2 ≡ q = omega arith in
      let r : b % 2 ≡ o = omega arith in
      sym (packed_item items b ∙ rw (d, r, is-bit, is-item))

  -- the last bit of an item is the bit before the next one
  pub bit_next : (n : ℕ) → n ≡ q + 1 → bit_of (item_byte item) 7 ≡ bit_before items n
  bit_next n e =
      let z : n - 1 ≡ q = omega arith in
      sym (item_before_later items n (omega arith) ∙ rw (z, is-item))

  -- the two bytes of one more item, written after those of the items before it
  pub items_more : (d out : List ℕ) (at first i x y : ℕ) → q ≡ first + i → at + (2 * i + 1) < length d → out ≡ overlay d at (2 * i) (items_byte items first)
      → x ≡ packed (item_cell p item) 0 → y ≡ packed (item_cell p item) 1
      → set (set out (at + 2 * i) x) (at + 2 * i + 1) y ≡ overlay d at (2 * (i + 1)) (items_byte items first)
  unfolding items_byte
  items_more d out at first i x y eq l e ex ey =
      let a : at + 2 * i + 1 ≡ at + (2 * i + 1) = omega arith in
      let b : 2 * (i + 1) ≡ 2 * i + 1 + 1 = omega arith in
      rw (a, b)
      (overlay_more d at (2 * i + 1) (items_byte items first) (set out (at + 2 * i) x) y l
      (overlay_more d at (2 * i) (items_byte items first) out x (omega arith) e (ex ∙ half (2 * first + 2 * i) 0 (omega arith) (omega arith)))
      (ey ∙ half (2 * first + (2 * i + 1)) 1 (omega arith) (omega arith)))

-- ---- runs

module _ (image : List ℕ) (t s u : ℕ) where
  -- before the side's end, and past it
  run_in : (k : ℕ) → run_bytes * u + k < side_bytes → items_byte (image_side image t s) (run_items * u) k ≡ run_byte image t s u k
  unfolding items_byte run_byte
  run_in k l =
      let a : 2 * (run_items * u) + k ≡ run_bytes * u + k = omega arith in
      rw (a, lt-ltb (run_bytes * u + k) side_bytes l)

  run_out : (k : ℕ) → side_bytes ≤ run_bytes * u + k → run_byte image t s u k ≡ fill_byte
  unfolding run_byte
  run_out k l = rw (le-ltb (run_bytes * u + k) side_bytes l)

  -- the items of a run, and FF after the side's last one, are the run
  pub run_written : (d out : List ℕ) (at n : ℕ) → u < track_units → n ≡ min run_items (side_items - run_items * u)
      → out ≡ overlay d at (2 * n) (items_byte (image_side image t s) (run_items * u))
      → overlay out (at + 2 * n) (run_bytes - 2 * n) (λ (k : ℕ). fill_byte) ≡ overlay d at run_bytes (run_byte image t s u)
  run_written d out at n l m e =
      let z : 2 * n + (run_bytes - 2 * n) ≡ run_bytes = omega arith in
      overlay_on d at (2 * n) (run_bytes - 2 * n) (λ (k : ℕ). fill_byte) (run_byte image t s u) out
      (e ∙ overlay_cong d at (2 * n) (items_byte (image_side image t s) (run_items * u)) (run_byte image t s u) (λ k b. run_in k (omega arith)))
      (λ k b. sym (run_out (2 * n + k) (omega arith)))
      ∙ ap (λ (j : ℕ). overlay d at j (run_byte image t s u)) z

-- ---- the units of the tracks, half by half

-- a row, written after those before it that are as long
pub runs_next : (d out : List ℕ) (at m j : ℕ) (f g : ℕ → ℕ) → out ≡ overlay d at (m * j) g → ((k : ℕ) → k < m → f k ≡ g (m * j + k))
    → overlay out (at + m * j) m f ≡ overlay d at (m * (j + 1)) g
runs_next d out at m j f g e same =
    let z : m * j + m ≡ m * (j + 1) = omega arith in
    overlay_on d at (m * j) m f g out e same ∙ ap (λ (n : ℕ). overlay d at n g) z

module _ (image : List ℕ) where
  -- the two halves of a unit
  pub half_is : (t s u k : ℕ) → s < sides → u < track_units → k < run_bytes → run_byte image t s u k ≡ unit_byte image t u (run_bytes * s + k)
  unfolding unit_byte tracks_byte run_byte hfe_track_byte
  half_is t s u k hs hu l =
      let n : ℕ = unit_bytes * (track_units * t + u) + (run_bytes * s + k) in
      let y : first_unit * unit_bytes + n - first_unit * unit_bytes ≡ n = omega arith in
      let a : n / (track_units * unit_bytes) ≡ t = omega arith in
      let o : n % (track_units * unit_bytes) ≡ unit_bytes * u + run_bytes * s + k = omega arith in
      let b : (unit_bytes * u + run_bytes * s + k) / unit_bytes ≡ u = omega arith in
      let e : (unit_bytes * u + run_bytes * s + k) % unit_bytes / run_bytes ≡ s = omega arith in
      let r : (unit_bytes * u + run_bytes * s + k) % run_bytes ≡ k = omega arith in
      sym (hfe_track image (first_unit * unit_bytes + n) (omega arith) (omega arith) ∙ rw (y, a, o, b, e, r))

  -- the units of a track
  pub unit_is : (t u k : ℕ) → unit_byte image t u k ≡ unit_byte image t 0 (unit_bytes * u + k)
  unfolding unit_byte
  unit_is t u k =
      let z : unit_bytes * (track_units * t + u) + k ≡ unit_bytes * (track_units * t + 0) + (unit_bytes * u + k) = omega arith in
      ap (tracks_byte image) z

  -- the tracks
  pub track_bytes_is : (t k : ℕ) → unit_byte image t 0 k ≡ tracks_byte image (unit_bytes * track_units * t + k)
  unfolding unit_byte
  track_bytes_is t k = let z : unit_bytes * (track_units * t + 0) + k ≡ unit_bytes * track_units * t + k = omega arith in ap (tracks_byte image) z

-- ---- the units of header and table

-- a list whose elements a rule gives, written
pub put_made : (d : List ℕ) (at n : ℕ) (f : ℕ → ℕ) (vs : List ℕ) → length vs ≡ n → ((k : ℕ) → k < n → get_or vs k 0 ≡ f k) → put d at vs ≡ overlay d at n f
unfolding put element_at
put_made d at n f vs e each =
    rw e (overlay_cong d at n (λ (k : ℕ). get_or vs (0 + k) 0) f (λ k l. let z : 0 + k ≡ k = omega arith in rw z (each k l)))

signature_is : (k : ℕ) → k < 8 → element_at hfe_signature 0 k ≡ hfe_header_byte k
unfolding all element_at hfe_signature hfe_header_byte hfe_header_rest low_byte
signature_is = all_eq (λ (k : ℕ). element_at hfe_signature 0 k) hfe_header_byte 8 refl

rest_is : (k : ℕ) → k < 12 → element_at hfe_header_rest 0 k ≡ hfe_header_byte (8 + k)
unfolding all element_at hfe_signature hfe_header_byte hfe_header_rest low_byte
rest_is = all_eq (λ (k : ℕ). element_at hfe_header_rest 0 k) (λ (k : ℕ). hfe_header_byte (8 + k)) 12 refl

put_signature : (d : List ℕ) → put d 0 hfe_signature ≡ overlay d 0 8 (element_at hfe_signature 0)
unfolding put hfe_signature
put_signature d = refl

put_rest : (d : List ℕ) → put d 8 hfe_header_rest ≡ overlay d 8 12 (element_at hfe_header_rest 0)
unfolding put hfe_header_rest
put_rest d = refl

-- signature, the rest of the header as it is named, and FF are the header
pub header_written : (d out next : List ℕ) → out ≡ put d 0 hfe_signature → next ≡ put out 8 hfe_header_rest
    → overlay next 20 (unit_bytes - 20) (λ (k : ℕ). fill_byte) ≡ overlay d 0 unit_bytes hfe_header_byte
header_written d out next e f =
    overlay_next d 20 (unit_bytes - 20) (λ (k : ℕ). fill_byte) hfe_header_byte next
    (f ∙ put_rest out ∙ overlay_next d 8 12 (element_at hfe_header_rest 0) hfe_header_byte out
    (e ∙ put_signature d ∙ overlay_cong d 0 8 (element_at hfe_signature 0) hfe_header_byte signature_is) rest_is)
    (λ k l. sym (header_out (20 + k) (omega arith)))

-- ---- the image: header, table and tracks

-- header, table and tracks, written in order, are the image
pub image_written : (image d h1 h2 h3 : List ℕ) → length d ≡ hfe_bytes → h1 ≡ overlay d 0 unit_bytes hfe_header_byte
    → h2 ≡ overlay h1 unit_bytes unit_bytes hfe_table_byte
    → h3 ≡ overlay h2 (first_unit * unit_bytes) (track_units * tracks * unit_bytes) (tracks_byte image) → h3 ≡ tab (hfe_byte image) hfe_bytes
unfolding tracks_byte
image_written image d h1 h2 h3 long e1 e2 e3 =
    e3
    ∙ overlay_next d (first_unit * unit_bytes) (track_units * tracks * unit_bytes) (tracks_byte image) (hfe_byte image) h2
    (e2 ∙ overlay_next d unit_bytes unit_bytes hfe_table_byte (hfe_byte image) h1
    (e1 ∙ overlay_cong d 0 unit_bytes hfe_header_byte (hfe_byte image) (λ k l. sym (hfe_header_lem image k l)))
    (λ k l.
    let z : unit_bytes + k - unit_bytes ≡ k = omega arith in
    sym (hfe_table image (unit_bytes + k) (omega arith) (omega arith) ∙ rw z)))
    (λ k l. refl)
    ∙ overlay_all d hfe_bytes (hfe_byte image) long
