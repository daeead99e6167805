-- What packing gives is unpacked to the same image: header and table are sound, and each side's stream is the written side.
-- Rests on a written side that is read back (SideTrip, FieldTrip) and on the written image place by place (Base.Packed).
use Rattle.std.specs.Prelude.{None, true, false, List, ◌≡◌, refl, eqb, length, drop}
use Rattle.std.proofs.Math.Bool.{not}
use Rattle.std.proofs.Math.Path.{sym, ap}
use Rattle.std.proofs.Common.{◌∙◌, lit<, ext_get_or, get_or-take}
use Prim.Native.Nat.{ℕ, ◌+◌, ◌-◌, ◌*◌, ◌/◌, ◌%◌, ◌^◌, ◌≤◌, ◌<◌}
use Rattle.std.proofs.Math.Nat.{zero-add}
use native.Mathlib.Omega.{arith}
use Rattle.std.proofs.Math.ListN.{get_or}
use Rattle.std.proofs.Math.Seq.{get_or-drop}
use borrow.Author.Tests.{le-leb}
use Rattle.laws.specs.Lists.{tab, window}
use Rattle.laws.specs.Below.{all}
use Rattle.laws.specs.Numbers.{quotient_up, low_first, low_byte}
use Rattle.laws.specs.Laws.Cases.{by_order}
use Rattle.laws.specs.Laws.All.{all_eq}
use Rattle.laws.specs.Laws.Lowest.{lowest_none}
use Rattle.laws.specs.Laws.Tab.{tab_length, tab_in, eq_tab, get_d_past, window_in, window_length}
use Rattle.laws.specs.Laws.Same.{stands_all}
use Rattle.cells.specs.Stream.{byte_place, cell_at, stream, hfe_side, packed}
use Rattle.cells.specs.Written.{written_cell, written}
use Rattle.cells.proofs.Laws.Stream.{stream_length, stream_in}
use Rattle.cells.proofs.Laws.Packed.{packed_bit}
use Rattle.cells.proofs.Laws.Written.{written_length_lem, written_cell_bit}
use Rattle.sector_rules.specs.Replies.{done}
use Rattle.sector_rules.specs.Geometry.{sector_bytes, all_sectors, image_bytes}
use Rattle.sector_rules.specs.Hfe.{hfe_signature, is_version1, is_version3, field_fault, format_fault, flag_fault, hfe_header_fault, version1_fault}
use Rattle.sector_rules.specs.Hfe.{entry_place, track_start, track_length, track_unit_bytes, track_good, table_fault, track_part, side_stream}
use Rattle.sector_rules.specs.Unpacked.{
  least_hfe,
  track_of,
  side_of,
  r_of,
  is_bad,
  sector_at,
  sector_bytes_at,
  first_bad,
  sectors_reply,
  unpack_reply,
  unpacked_byte,
}
use Rattle.sector_rules.specs.Packed.{hfe_bytes, hfe_header_rest, hfe_header_byte, hfe_table_byte, hfe_track_byte, hfe_byte}
use Rattle.sector_rules.specs.Packed.{pack_hfe, image_sector_of, sector_data, image_side, side_item}
use Rattle.sector_rules.specs.RoundTrip.{RoundTrip}
use Rattle.sector_rules.proofs.Laws.Base.Faults.{fault_none}
use Rattle.sector_rules.proofs.Laws.Base.Packed.{table_0, table_1, table_2, table_3, track_in, hfe_header_lem, hfe_table, hfe_track, pack_done, hfe_after}
use Rattle.sector_rules.proofs.Laws.Base.Unpacked.{sound_reply, image_after_lem}
use Rattle.sector_rules.proofs.Laws.Base.Versions.{version_1_not_3, version1_judged, plain_stream, plain_codes}
use Rattle.sector_rules.proofs.Laws.Trip.SideTrip.{written_side}
use Rattle.sector_rules.proofs.Laws.Trip.FieldTrip.{sector_back, bytes_back}

sign_all : all (λ (k : ℕ). eqb (hfe_header_byte k) (get_or hfe_signature k 0)) 8 ≡ true
unfolding all hfe_header_byte hfe_signature hfe_header_rest low_byte
sign_all = refl

sign_row : (k : ℕ) → k < 8 → hfe_header_byte k ≡ get_or hfe_signature k 0
sign_row = all_eq hfe_header_byte (λ (k : ℕ). get_or hfe_signature k 0) 8 sign_all

module _ (image : List ℕ) where
  -- the written image
  unfoldable pub packed_image : List ℕ
  packed_image = tab (hfe_byte image) hfe_bytes

  -- it has 2,008,064 bytes
  pub size : length packed_image ≡ 2008064
  unfolding packed_image
  size = tab_length (hfe_byte image) hfe_bytes

  -- each byte of it is that of the definition
  pub byte : (k : ℕ) → k < 2008064 → get_or packed_image k 0 ≡ hfe_byte image k
  unfolding packed_image
  byte k h = tab_in (hfe_byte image) hfe_bytes k h

  -- ---- the header

  front : (k : ℕ) → k < 512 → get_or packed_image k 0 ≡ hfe_header_byte k
  front k h = byte k (omega arith) ∙ hfe_header_lem image k h

  signed : is_version1 packed_image ≡ true
  unfolding is_version1 hfe_signature
  signed = stands_all packed_image 0 hfe_signature (rw size (omega arith)) each
    where
      each : (k : ℕ) → k < 8 → get_or packed_image (0 + k) 0 ≡ get_or hfe_signature k 0
      each k h = rw zero-add (front k (omega arith) ∙ sign_row k h)

  table_unit : low_first packed_image 18 2 ≡ 1
  unfolding low_first hfe_header_byte hfe_signature hfe_header_rest low_byte
  table_unit = rw (front 18 (lit< tt), front 19 (lit< tt))

  -- its header is right, with the letters of version 1
  pub version1_sound : version1_fault packed_image ≡ None
  unfolding version1_fault field_fault format_fault flag_fault low_first hfe_header_byte hfe_signature hfe_header_rest low_byte
  version1_sound =
      rw (
        signed,
        front 8 (lit< tt),
        front 9 (lit< tt),
        front 10 (lit< tt),
        front 11 (lit< tt),
        front 12 (lit< tt),
        front 13 (lit< tt),
        front 18 (lit< tt),
        front 19 (lit< tt),
        front 22 (lit< tt),
        front 24 (lit< tt),
      )

  -- so it can be unpacked
  header_sound : hfe_header_fault packed_image ≡ None
  header_sound = version1_judged packed_image signed ∙ version1_sound

  -- it has no codes
  plain : is_version3 packed_image ≡ false
  plain = version_1_not_3 packed_image signed

  -- ---- the table

  module _ (t : ℕ) (ht : t < 80) where
    entry : entry_place packed_image t ≡ 512 + 4 * t
    unfolding entry_place
    entry = rw table_unit

    in_table : (j : ℕ) → j < 4 → get_or packed_image (512 + 4 * t + j) 0 ≡ hfe_table_byte (4 * t + j)
    in_table j h =
        let e : 512 + 4 * t + j - 512 ≡ 4 * t + j = omega arith in
        byte (512 + 4 * t + j) (omega arith) ∙ hfe_table image (512 + 4 * t + j) (omega arith) (omega arith) ∙ rw e

    offset : low_first packed_image (512 + 4 * t) 2 ≡ 2 + 49 * t
    unfolding low_first
    offset =
        let q : (4 * t + 0) / 4 ≡ t = omega arith in
        let q₁ : (4 * t + 1) / 4 ≡ t = omega arith in
        rw (
          in_table 0 (lit< tt),
          in_table 1 (lit< tt),
          table_0 (4 * t + 0) (omega arith) (omega arith),
          table_1 (4 * t + 1) (omega arith)
              (omega arith),
          q,
          q₁,
        )
        (omega arith)

    long : low_first packed_image (512 + 4 * t + 2) 2 ≡ 25000
    unfolding low_first
    long =
        let e : 512 + 4 * t + 2 + 0 ≡ 512 + 4 * t + 2 = omega arith in
        let f : 512 + 4 * t + 2 + 1 ≡ 512 + 4 * t + 3 = omega arith in
        rw (
          e,
          f,
          in_table 2 (lit< tt),
          in_table 3 (lit< tt),
          table_2 (4 * t + 2) (omega arith) (omega arith),
          table_3 (4 * t + 3) (omega arith)
              (omega arith),
        )

    -- where each track begins in it
    pub start : track_start packed_image t ≡ 512 * (2 + 49 * t)
    unfolding track_start
    start = rw (entry, offset)

    -- how long each track is in it
    pub track_long : track_length packed_image t ≡ 25000
    unfolding track_length
    track_long = rw (entry, long)

    track_size : track_unit_bytes packed_image t ≡ 25088
    unfolding track_unit_bytes quotient_up
    track_size = rw track_long

    good : track_good packed_image t ≡ true
    unfolding track_good
    good =
        rw (entry, track_long, start, track_size, size)
        (rw (le-leb (512 + 4 * t + 4) 2008064 (omega arith), le-leb (512 * (2 + 49 * t) + 25088) 2008064 (omega arith)))

  -- its track table is right
  pub table_sound : table_fault packed_image ≡ None
  unfolding table_fault
  table_sound = fault_none (λ (t : ℕ). not (track_good packed_image t)) 80 (λ t h. rw (good t h))

  -- ---- the sides

  module _ (t s : ℕ) (ht : t < 80) (hs : s < 2) where
    -- byte b of a side, where the part has it
    side_byte : (b : ℕ) → b < 12500
        → get_or (track_part packed_image t) (256 * s + 512 * (b / 256) + b % 256) 0 ≡ packed (written_cell (image_side image t s)) b
    unfolding track_part
    side_byte b h =
        let o : ℕ = 256 * s + 512 * (b / 256) + b % 256 in
        let l : o < 25088 = omega arith in
        let k : ℕ = 512 * (2 + 49 * t) + o in
        let a : (k - 1024) / 25088 ≡ t = omega arith in
        let r : (k - 1024) % 25088 ≡ o = omega arith in
        rw (start t ht, track_size t ht)
        (get_or-take 25088 (drop (512 * (2 + 49 * t)) packed_image) o 0 l
        ∙ get_or-drop (512 * (2 + 49 * t)) packed_image o 0
        ∙ byte k (omega arith)
        ∙ hfe_track image k (omega arith) (omega arith)
        ∙ rw (a, r) (in_side o b h (omega arith) (omega arith)))
      where
        in_side : (o b : ℕ) → b < 12500 → o % 512 / 256 ≡ s → 256 * (o / 512) + o % 256 ≡ b
            → hfe_track_byte image t o ≡ packed (written_cell (image_side image t s)) b
        in_side o c l e f = track_in image t o (rw f l) ∙ rw (e, f)

    cell_back : (i : ℕ) → i < 100000
        → get_or (stream (track_part packed_image t) (hfe_side s 25000)) i 0 ≡ get_or (written (side_item t s (sector_data image t s)) 6250) i 0
    unfolding cell_at byte_place written image_side
    cell_back i h =
        stream_in (track_part packed_image t) (hfe_side s 25000) i h
        ∙ ap (λ (v : ℕ). v / 2 ^ (i % 8) % 2) (side_byte (i / 8) (omega arith))
        ∙ packed_bit (written_cell (side_item t s (sector_data image t s))) (written_cell_bit (side_item t s (sector_data image t s))) i
        ∙ sym (tab_in (written_cell (side_item t s (sector_data image t s))) 100000 i h)

    -- each side's stream of the written image is the written side
    pub stream_back : side_stream packed_image t s ≡ written_side t s (sector_data image t s)
    unfolding written_side
    stream_back =
        plain_stream packed_image t s plain
        ∙ rw (track_long t ht)
        (ext_get_or 0 (stream (track_part packed_image t) (hfe_side s 25000)) (written (side_item t s (sector_data image t s)) 6250)
        (stream_length (track_part packed_image t) (hfe_side s 25000) ∙ sym (written_length_lem (side_item t s (sector_data image t s)) 6250))
        (λ i h. cell_back i (rw (stream_length (track_part packed_image t) (hfe_side s 25000)) at h)))

  -- ---- the sectors

  module _ (small : (k : ℕ) → get_or image k 0 < 256) where
    -- the data of each sector of a block image have 512 bytes
    pub data_long : (t s r : ℕ) → length (sector_data image t s r) ≡ sector_bytes
    unfolding sector_data
    data_long t s r = window_length image _ sector_bytes

    window_small : (i j : ℕ) → get_or (window image i sector_bytes) j 0 < 256
    window_small i j =
        by_order j sector_bytes
        (λ l. rw (window_in image i sector_bytes j l) (small _))
        (λ l.
        let b : length (window image i sector_bytes) ≤ j = rw (window_length image i sector_bytes) l in
        rw (get_d_past (window image i sector_bytes) j b) (lit< tt))

    -- and each of them is below 256
    pub data_small : (t s r j : ℕ) → get_or (sector_data image t s r) j 0 < 256
    unfolding sector_data
    data_small t s r j = window_small _ j

    module _ (m : ℕ) (hm : m < all_sectors) where
      at_side : side_stream packed_image (m / 18) (m % 18 / 9) ≡ written_side (m / 18) (m % 18 / 9) (sector_data image (m / 18) (m % 18 / 9))
      at_side = stream_back (m / 18) (m % 18 / 9) (omega arith) (omega arith)

      -- each sector of the written image is delivered
      pub good_sector : is_bad (sector_at packed_image m) ≡ false
      unfolding sector_at
      good_sector =
          rw (
            at_side,
            sector_back (m / 18) (m % 18 / 9) (omega arith) (omega arith) (sector_data image (m / 18) (m % 18 / 9)) (m % 9) (omega arith)
                (data_long _ _ _) (data_small _ _ _),
          )

      -- each sector of the written image gives its bytes of the block image
      pub sector_bytes_lem : sector_bytes_at packed_image m ≡ window image (512 * m) 512
      unfolding sector_bytes_at sector_at sector_data
      sector_bytes_lem =
          let e : image_sector_of (track_of m) (side_of m) (r_of m) ≡ m = omega arith in
          rw at_side
          (bytes_back (m / 18) (m % 18 / 9) (omega arith) (omega arith) (sector_data image (m / 18) (m % 18 / 9)) (m % 9) (omega arith)
          (data_long _ _ _) (data_small _ _ _) ∙ rw e)

    sectors_done : sectors_reply packed_image ≡ done
    unfolding sectors_reply first_bad
    sectors_done = rw (lowest_none (λ (m : ℕ). is_bad (sector_at packed_image m)) all_sectors good_sector)

    byte_back : (k : ℕ) → k < image_bytes → unpacked_byte packed_image k ≡ get_or image k 0
    unfolding unpacked_byte
    byte_back k h =
        let e : 512 * (k / 512) + k % 512 ≡ k = omega arith in
        rw (sector_bytes_lem (k / 512) (omega arith)) (window_in image (512 * (k / 512)) 512 (k % 512) (omega arith) ∙ rw e)

-- where both lengths are right, packing gives the written image
pub packed_is : (image hfe : List ℕ) → length image ≡ image_bytes → length hfe ≡ hfe_bytes → pack_hfe image hfe ≡ packed_image image
unfolding packed_image
packed_is image hfe li lh = hfe_after image hfe done (pack_done (length image) (length hfe) lh li)

-- what packing gives is accepted by unpacking, and gives the image back
pub round_trip : RoundTrip
round_trip image hfe old li small lh lo =
    let p = pack_done (length image) (length hfe) lh li in
    let x : pack_hfe image hfe ≡ packed_image image = packed_is image hfe li lh in
    let l : least_hfe ≤ length (packed_image image) = rw (size image) (omega arith) in
    let r : unpack_reply (packed_image image) (length old) ≡ done =
    sound_reply (packed_image image) (length old) l lo (header_sound image) (table_sound image)
    (plain_codes (packed_image image) (plain image)) ∙ sectors_done image small in (
      p,
      rw x r,
      rw x
          (image_after_lem (packed_image image) old done r
          ∙ sym (eq_tab image (unpacked_byte (packed_image image)) image_bytes li (λ k h. sym (byte_back image small k h)))),
    )
