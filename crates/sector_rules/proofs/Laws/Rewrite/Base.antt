-- The cells of a side byte by byte, and an image in which some bytes of a side are replaced: what is cited in place of the definitions.
-- Rests on the cell layer's laws of streams.
use Rattle.std.specs.Prelude.{true, false, ◌&&◌, List, ◌≡◌, length, take, drop}
use Rattle.std.proofs.Math.Path.{sym, ap}
use Rattle.std.proofs.Common.{◌∙◌, zero-add, ext_get_or}
use Prim.Native.Nat.{ℕ, ◌+◌, ◌-◌, ◌*◌, ◌/◌, ◌%◌, ◌^◌, ◌≤◌, ◌<◌}
use native.Mathlib.Omega.{arith}
use Rattle.std.proofs.Math.Dec.{leb, ltb, eqb}
use Rattle.std.proofs.Math.ListN.{get_or}
use Rattle.std.proofs.Math.Seq.{get_or-take, get_or-drop}
use borrow.Author.Tests.{le-leb, lt-ltb, eq-eqb}
use Rattle.laws.specs.Numbers.{quotient_up}
use Rattle.laws.specs.Laws.Cases.{by_test, by_order}
use Rattle.laws.specs.Laws.Tests.{true_le, true_lt, true_eq, true≢false, and_left, and_right, cond_true, cond_false}
use Rattle.laws.specs.Laws.Tab.{tab_length, tab_in, tab_out, tab_ext, get_d_past}
use Rattle.cells.specs.Stream.{byte_place, cell_at, hfe_side}
use Rattle.cells.specs.Codes.{stored_bytes, coded}
use Rattle.cells.proofs.Laws.Stream.{stream_length, stream_in, stream_bit}
use Rattle.sector_rules.specs.Hfe.{unit_bytes, is_version3, track_start, track_length, track_unit_bytes, track_part, coded_side, side_stream}
use Rattle.sector_rules.specs.Rewritten.{side_byte_of, is_side_byte, with_side_bytes}
use Rattle.sector_rules.specs.Rewriting.{side_cells_at}
use Rattle.sector_rules.proofs.Laws.Base.Versions.{plain_stream}

-- ---- the cells of a side

-- where the image is not of version 3, the cells of a side by the table are those of a track that begins where the entry says and is as long as it says
pub side_cells_at_lem : (h : List ℕ) (t s : ℕ) → is_version3 h ≡ false → side_stream h t s ≡ side_cells_at h (track_start h t) (track_length h t) s
unfolding track_part track_unit_bytes side_cells_at
side_cells_at_lem h t s plain = plain_stream h t s plain

module _ (h : List ℕ) (start long s : ℕ) where
  -- a side has eight cells for each of its bytes, which are half of the track's
  pub cells_length : length (side_cells_at h start long s) ≡ 8 * (long / 2)
  unfolding side_cells_at
  cells_length = stream_length (take (unit_bytes * quotient_up long unit_bytes) (drop start h)) (hfe_side s long)

  -- every cell of a side is 0 or 1
  pub cells_bit : (i : ℕ) → get_or (side_cells_at h start long s) i 0 < 2
  unfolding side_cells_at
  cells_bit i = stream_bit (take (unit_bytes * quotient_up long unit_bytes) (drop start h)) (hfe_side s long) i

  part_byte : (b : ℕ) → s < 2 → b < long / 2
      → get_or (take (unit_bytes * quotient_up long unit_bytes) (drop start h)) (256 * s + 512 * (b / 256) + b % 256) 0
      ≡ get_or h (start + 256 * s + 512 * (b / 256) + b % 256) 0
  unfolding quotient_up
  part_byte b hs l =
      let o : ℕ = 256 * s + 512 * (b / 256) + b % 256 in
      let m : o < 512 * ((long + 511) / 512) = omega arith in
      let z : start + o ≡ start + 256 * s + 512 * (b / 256) + b % 256 = omega arith in
      get_or-take (512 * ((long + 511) / 512)) (drop start h) o 0 m ∙ get_or-drop start h o 0 ∙ ap (λ (k : ℕ). get_or h k 0) z

  -- cell i of a side is bit i % 8, lowest first, of byte i / 8 of the side
  pub cells_in : (i : ℕ) → s < 2 → i < 8 * (long / 2)
      → get_or (side_cells_at h start long s) i 0 ≡ get_or h (start + 256 * s + 512 * (i / 8 / 256) + i / 8 % 256) 0 / 2 ^ (i % 8) % 2
  unfolding side_cells_at cell_at byte_place
  cells_in i hs l =
      stream_in (take (unit_bytes * quotient_up long unit_bytes) (drop start h)) (hfe_side s long) i l
      ∙ ap (λ (v : ℕ). v / 2 ^ (i % 8) % 2) (part_byte (i / 8) hs (omega arith))

-- two images that have the same bytes on a side have the same cells on it
pub cells_same : (h g : List ℕ) (start long s : ℕ) → s < 2
    → ((b : ℕ) → b < long / 2
    → get_or g (start + 256 * s + 512 * (b / 256) + b % 256) 0 ≡ get_or h (start + 256 * s + 512 * (b / 256) + b % 256) 0)
    → side_cells_at g start long s ≡ side_cells_at h start long s
cells_same h g start long s hs same =
    ext_get_or 0 (side_cells_at g start long s) (side_cells_at h start long s) (cells_length g start long s ∙ sym (cells_length h start long s))
    (λ i l.
    let m : i < 8 * (long / 2) = rw (cells_length g start long s) at l in
    cells_in g start long s i hs m ∙ ap (λ (v : ℕ). v / 2 ^ (i % 8) % 2) (same (i / 8) (omega arith)) ∙ sym (cells_in h start long s i hs m))

-- two images that have the same bytes on a side give the same in version 3
pub coded_same : (h g : List ℕ) (t s : ℕ) → s < 2 → track_start g t ≡ track_start h t → track_length g t ≡ track_length h t
    → ((b : ℕ) → b < track_length h t / 2
    → get_or g (track_start h t + 256 * s + 512 * (b / 256) + b % 256) 0 ≡ get_or h (track_start h t + 256 * s + 512 * (b / 256) + b % 256) 0)
    → coded_side g t s ≡ coded_side h t s
unfolding coded_side track_part track_unit_bytes stored_bytes byte_place
coded_same h g t s hs e f same =
    rw (e, f)
    (ap coded
    (tab_ext _ _ (8 * (track_length h t / 2) / 8)
    (λ b l.
    part_byte g (track_start h t) (track_length h t) s b hs (omega arith)
    ∙ same b (omega arith)
    ∙ sym (part_byte h (track_start h t) (track_length h t) s b hs (omega arith)))))

-- ---- the bytes of a side

module _ (start size s b n k : ℕ) where
  -- a byte at or after `start`, in a half of side s, whose number on its side is of the n from b on and below `size`, is one of those bytes
  pub in_side_is : start ≤ k → (k - start) % 512 / 256 ≡ s → b ≤ side_byte_of (k - start) → side_byte_of (k - start) < b + n → side_byte_of (k - start) < size
      → is_side_byte start size s b n k ≡ true
  unfolding is_side_byte
  in_side_is a e l m f =
      rw (le-leb start k a, eq-eqb ((k - start) % 512 / 256) s e, le-leb b (side_byte_of (k - start)) l, lt-ltb (side_byte_of (k - start)) (b + n) m)
      (lt-ltb (side_byte_of (k - start)) size f)

  -- one of those bytes is at or after `start`, in a half of side s, and its number on its side is of the n from b on and below `size`
  pub in_side_parts : is_side_byte start size s b n k ≡ true
      → (start ≤ k) × ((k - start) % 512 / 256 ≡ s) × (b ≤ side_byte_of (k - start)) × (side_byte_of (k - start) < b + n) × (side_byte_of (k - start) < size)
  unfolding is_side_byte
  in_side_parts e =
      let o : ℕ = side_byte_of (k - start) in
      let e₄ = and_left (leb start k && eqb ((k - start) % 512 / 256) s && leb b o && ltb o (b + n)) (ltb o size) e in
      let e₃ = and_left (leb start k && eqb ((k - start) % 512 / 256) s && leb b o) (ltb o (b + n)) e₄ in
      let e₂ = and_left (leb start k && eqb ((k - start) % 512 / 256) s) (leb b o) e₃ in (
        true_le (and_left (leb start k) (eqb ((k - start) % 512 / 256) s) e₂),
        true_eq (and_right (leb start k) (eqb ((k - start) % 512 / 256) s) e₂),
        true_le (and_right (leb start k && eqb ((k - start) % 512 / 256) s) (leb b o) e₃),
        true_lt (and_right (leb start k && eqb ((k - start) % 512 / 256) s && leb b o) (ltb o (b + n)) e₄),
        true_lt (and_right (leb start k && eqb ((k - start) % 512 / 256) s && leb b o && ltb o (b + n)) (ltb o size) e),
      )

  -- one of those bytes is byte x of side s, for an x of the n from b on and below `size`
  pub in_side_told : is_side_byte start size s b n k ≡ true
      → (x : ℕ) × (b ≤ x) × (x < b + n) × (x < size) × (k ≡ start + 256 * s + 512 * (x / 256) + x % 256) × (start ≤ k)
  in_side_told e =
      let w = in_side_parts e in
      let a : start ≤ k = w.0 in
      let f : (k - start) % 512 / 256 ≡ s = w.1 in
      let z : k ≡ start + 256 * s + 512 * (side_byte_of (k - start) / 256) + side_byte_of (k - start) % 256 = omega arith in
      (side_byte_of (k - start), w.2, w.3, w.4, z, a)

-- byte x of side s of a track that begins at `start`
module _ (start s x : ℕ) (hs : s < 2) where
  -- its number on its side is x
  pub side_place_lem : side_byte_of (start + 256 * s + 512 * (x / 256) + x % 256 - start) ≡ x
  side_place_lem = omega arith

  -- it lies in a half of side s
  side_half : (start + 256 * s + 512 * (x / 256) + x % 256 - start) % 512 / 256 ≡ s
  side_half = omega arith

  module _ (size b n : ℕ) where
    -- byte x of side s is one of the n bytes from b on below `size`, where x is
    pub in_side_at : b ≤ x → x < b + n → x < size → is_side_byte start size s b n (start + 256 * s + 512 * (x / 256) + x % 256) ≡ true
    in_side_at l m f =
        in_side_is start size s b n (start + 256 * s + 512 * (x / 256) + x % 256) (omega arith) side_half (rw side_place_lem l) (rw side_place_lem m)
        (rw side_place_lem f)

    number_in : is_side_byte start size s b n (start + 256 * s + 512 * (x / 256) + x % 256) ≡ true → (b ≤ x) × (x < b + n)
    number_in e =
        let w = in_side_parts start size s b n (start + 256 * s + 512 * (x / 256) + x % 256) e in
        (rw side_place_lem at w.2, rw side_place_lem at w.3)

    -- and is not, where x is not among them
    pub not_in_side_at : ((b ≤ x) × (x < b + n) → ⊥) → is_side_byte start size s b n (start + 256 * s + 512 * (x / 256) + x % 256) ≡ false
    not_in_side_at out =
        by_test (is_side_byte start size s b n (start + 256 * s + 512 * (x / 256) + x % 256)) (λ e. absurd (out (number_in e))) (λ e. e)

-- byte b + j of side s is one of the n bytes from b on, and that is its number on its side
pub in_side_place : (start size s b n j : ℕ) → s < 2 → b + j < size → j < n
    → (is_side_byte start size s b n (start + 256 * s + 512 * ((b + j) / 256) + (b + j) % 256) ≡ true)
    × (side_byte_of (start + 256 * s + 512 * ((b + j) / 256) + (b + j) % 256 - start) ≡ b + j)
in_side_place start size s b n j hs l m = (in_side_at start s (b + j) hs size b n (omega arith) (omega arith) l, side_place_lem start s (b + j) hs)

-- a byte that is not one of a side's is not one of n bytes of it
pub not_of_side : (start size s b n k : ℕ) → is_side_byte start size s 0 size k ≡ false → is_side_byte start size s b n k ≡ false
not_of_side start size s b n k e =
    by_test (is_side_byte start size s b n k)
    (λ t.
    let w = in_side_parts start size s b n k t in
    true≢false (is_side_byte start size s 0 size k) (in_side_is start size s 0 size k w.0 w.1 (omega arith) (rw zero-add w.4) w.4) e)
    (λ t. t)

-- ---- the image with bytes of a side replaced

module _ (h : List ℕ) (start size s b n : ℕ) (f : ℕ → ℕ) where
  -- the image is as long as it was
  pub with_length : length (with_side_bytes h start size s b n f) ≡ length h
  unfolding with_side_bytes
  with_length = tab_length _ (length h)

  -- one of the bytes that are replaced is what f has for its number on its side
  pub with_in : (k : ℕ) → k < length h → is_side_byte start size s b n k ≡ true → get_or (with_side_bytes h start size s b n f) k 0 ≡ f (side_byte_of
      (k - start))
  unfolding with_side_bytes
  with_in k l e = tab_in _ (length h) k l ∙ cond_true (f (side_byte_of (k - start))) (get_or h k 0) e

  -- every other byte is as it was
  pub with_out : (k : ℕ) → is_side_byte start size s b n k ≡ false → get_or (with_side_bytes h start size s b n f) k 0 ≡ get_or h k 0
  unfolding with_side_bytes
  with_out k e =
      by_order k (length h) (λ l. tab_in _ (length h) k l ∙ cond_false (f (side_byte_of (k - start))) (get_or h k 0) e)
      (λ l. tab_out _ (length h) k l ∙ sym (get_d_past h k l))

  -- byte x of the side, if it is among those that are replaced, is what f has for x
  pub with_byte : (x : ℕ) → s < 2 → b ≤ x → x < b + n → x < size → start + 256 * s + 512 * (x / 256) + x % 256 < length h
      → get_or (with_side_bytes h start size s b n f) (start + 256 * s + 512 * (x / 256) + x % 256) 0 ≡ f x
  with_byte x hs l m r within =
      with_in (start + 256 * s + 512 * (x / 256) + x % 256) within (in_side_at start s x hs size b n l m r) ∙ ap f (side_place_lem start s x hs)

  -- byte x of the side, if it is not among those, is as it was
  pub with_other_byte : (x : ℕ) → s < 2 → ((b ≤ x) × (x < b + n) → ⊥)
      → get_or (with_side_bytes h start size s b n f) (start + 256 * s + 512 * (x / 256) + x % 256) 0
      ≡ get_or h (start + 256 * s + 512 * (x / 256) + x % 256) 0
  with_other_byte x hs out = with_out (start + 256 * s + 512 * (x / 256) + x % 256) (not_in_side_at start s x hs size b n out)
