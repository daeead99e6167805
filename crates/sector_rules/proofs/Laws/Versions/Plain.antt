-- version_3_plain: where no byte of its sides reads as a code, a version 3 image is read as if it had the letters of version 1.
-- Rests on sides that agree but for their first cells (Alike), on the letters as cells (Letters) and on the cells of a side byte by byte (Rewrite.Base).
use Rattle.std.specs.Prelude.{Some, None, true, false, ◌≡◌, ℕ, ◌+◌, ◌-◌, ◌*◌, ◌/◌, ◌%◌, ◌^◌, ◌≤◌, ◌<◌, eqb, length}
use Rattle.std.proofs.Math.Bool.{cond, not}
use mathlib.Core.List.{List}
use Rattle.std.proofs.Math.Option.{none}
use Rattle.std.proofs.Math.Path.{refl, sym, ap, ap₂}
use Rattle.std.proofs.Common.{◌∙◌, zero-add, arith}
use Rattle.std.proofs.Math.ListN.{get_or}
use Rattle.laws.specs.Lists.{tab, element_at}
use Rattle.laws.specs.Numbers.{low_first}
use Rattle.laws.specs.Changes.{put}
use Rattle.laws.specs.Laws.Cases.{by_order, by_equal}
use Rattle.laws.specs.Laws.Tests.{cond_false}
use Rattle.laws.specs.Laws.Same.{stands_within, stands_all}
use Rattle.laws.specs.Laws.Overlay.{overlay_length, overlay_in, overlay_after}
use Rattle.laws.specs.Laws.Options.{first_some_none}
use Rattle.laws.specs.Laws.Tab.{tab_ext, get_d_past}
use Rattle.cells.specs.Stream.{stream, hfe_side, from}
use Rattle.cells.specs.Sync.{three_sync}
use Rattle.cells.specs.Codes.{Cells, cells_of}
use Rattle.cells.proofs.Laws.Codes.{coded_plain}
use Rattle.sector_rules.specs.declared.Reply.{Reply}
use Rattle.sector_rules.specs.Faults.{Fault}
use Rattle.sector_rules.specs.Geometry.{tracks, sides, all_sectors, image_bytes}
use Rattle.sector_rules.specs.Search.{sector_of, delivered_bytes}
use Rattle.sector_rules.specs.Hfe.{hfe_signature, version3_signature, is_version1, is_version3, field_fault, format_fault, flag_fault, hfe_header_fault}
use Rattle.sector_rules.specs.Hfe.{entry_place, track_start, track_length, track_unit_bytes, track_good, table_fault, track_part, coded_side, side_stream}
use Rattle.sector_rules.specs.Unpacked.{least_hfe, track_of, side_of, r_of, sector_at, sector_bytes_at, side_code_refusal, first_code_refusal}
use Rattle.sector_rules.specs.Unpacked.{unpack_reply, unpacked_byte, unpack_image}
use Rattle.sector_rules.specs.Rewriting.{side_cells_at}
use Rattle.sector_rules.specs.Versions.{WithoutCodes, Version3Plain}
use Rattle.sector_rules.proofs.Laws.Base.Faults.{fault_cong, revision_zero, table_unit}
use Rattle.sector_rules.proofs.Laws.Base.Unpacked.{short_reply, length_reply, header_reply, table_reply_lem, sound_reply, header_refused}
use Rattle.sector_rules.proofs.Laws.Base.Versions.{version_1_not_3, version_3_not_1, coded_stream, plain_codes, codes_none}
use Rattle.sector_rules.specs.Unpacked.{side_refusal}
use Rattle.sector_rules.proofs.Laws.Rewrite.Base.{side_cells_at_lem, cells_length, cells_in, cells_same}
use Rattle.sector_rules.proofs.Laws.Versions.Alike.{sector_alike, bytes_alike, sectors_alike}
use Rattle.sector_rules.proofs.Laws.Versions.Letters.{version_1_no_run, version_3_no_run, letters_no_run}

-- ---- two images that differ in their letters alone

-- h is of version 3, g of version 1, and from byte 8 on they are the same
record OtherLetters (h g : List ℕ) : Type 0 where
  pub version_3 : is_version3 h ≡ true
  pub version_1 : is_version1 g ≡ true
  pub long : length g ≡ length h
  pub same : (k : ℕ) → 8 ≤ k → get_or g k 0 ≡ get_or h k 0

module _ (h g : List ℕ) (o : OtherLetters h g) where
  header_same : hfe_header_fault g ≡ hfe_header_fault h
  unfolding hfe_header_fault field_fault format_fault flag_fault low_first
  header_same =
      rw (o.version_1, version_3_not_1 h o.version_3, o.version_3)
      (rw (o.same 8 (omega arith), o.same 9 (omega arith), o.same 10 (omega arith), o.same 11 (omega arith), o.same 12 (omega arith))
      (rw (o.same 13 (omega arith), o.same 18 (omega arith), o.same 19 (omega arith), o.same 22 (omega arith), o.same 23 (omega arith))
      (rw (o.same 24 (omega arith), o.same 25 (omega arith)))))

  number_same : (k : ℕ) → 8 ≤ k → low_first g k 2 ≡ low_first h k 2
  unfolding low_first
  number_same k l = rw (o.same (k + 0) (omega arith), o.same (k + 1) (omega arith))

  module _ (sound : hfe_header_fault h ≡ None) where
    entry_same : (t : ℕ) → (entry_place g t ≡ entry_place h t) × (512 ≤ entry_place h t)
    unfolding entry_place
    entry_same t = (rw (number_same 18 (omega arith)), omega (arith, table_unit h sound))

    start_same : (t : ℕ) → track_start g t ≡ track_start h t
    unfolding track_start
    start_same t = rw ((entry_same t).0, number_same (entry_place h t) (omega (arith, (entry_same t).1)))

    length_same : (t : ℕ) → track_length g t ≡ track_length h t
    unfolding track_length
    length_same t = rw ((entry_same t).0, number_same (entry_place h t + 2) (omega (arith, (entry_same t).1)))

    table_same : table_fault g ≡ table_fault h
    unfolding table_fault track_good track_unit_bytes
    table_same =
        fault_cong (λ (t : ℕ). not (track_good g t)) (λ (t : ℕ). not (track_good h t)) tracks
        (λ t l. rw ((entry_same t).0, start_same t, length_same t, o.long))

    -- ---- one side

    module _ (start long s : ℕ) (hs : s < 2) where
      late_place : (k : ℕ) → 64 ≤ k → 8 ≤ start + 256 * s + 512 * (k / 8 / 256) + k / 8 % 256
      late_place k l = by_order (k / 8) 256 (λ m. omega arith) (λ m. omega arith)

      -- from cell 64 on the cells are the same
      late_cells : (k : ℕ) → 64 ≤ k → get_or (side_cells_at h start long s) k 0 ≡ get_or (side_cells_at g start long s) k 0
      late_cells k l =
          by_order k (8 * (long / 2))
          (λ m.
          cells_in h start long s k hs m
          ∙ ap (λ (b : ℕ). b / 2 ^ (k % 8) % 2) (sym (o.same (start + 256 * s + 512 * (k / 8 / 256) + k / 8 % 256) (late_place k l)))
          ∙ sym (cells_in g start long s k hs m))
          (λ m.
          get_d_past (side_cells_at h start long s) k (omega (arith, cells_length h start long s))
          ∙ sym (get_d_past (side_cells_at g start long s) k (omega (arith, cells_length g start long s))))

      -- where the track lies over the header, the first 64 cells of side 0 are the letters
      no_runs : start + 256 * s ≡ 0 → (i : ℕ) → i < 64
          → (three_sync (from (side_cells_at h start long s) i) ≡ false) × (three_sync (from (side_cells_at g start long s) i) ≡ false)
      unfolding is_version1 is_version3 hfe_signature version3_signature
      no_runs e i l = (
        letters_no_run h version3_signature o.version_3 refl (revision_zero h sound) start long s e version_3_no_run i l,
        letters_no_run g hfe_signature o.version_1 refl (o.same 8 (omega arith) ∙ revision_zero h sound) start long s e version_1_no_run i l,
      )

      -- elsewhere all cells are the same
      all_cells : 8 ≤ start + 256 * s → side_cells_at h start long s ≡ side_cells_at g start long s
      all_cells l = sym (cells_same h g start long s hs (λ b m. o.same (start + 256 * s + 512 * (b / 256) + b % 256) (omega arith)))

      side_same : (x t y r : ℕ) → start ≡ 512 * x
          → (sector_of (side_cells_at h start long s) t y r ≡ sector_of (side_cells_at g start long s) t y r)
          × (delivered_bytes (side_cells_at h start long s) (sector_of (side_cells_at h start long s) t y r)
          ≡ delivered_bytes (side_cells_at g start long s) (sector_of (side_cells_at g start long s) t y r))
      side_same x t y r e =
          let c : List ℕ = side_cells_at h start long s in
          let d : List ℕ = side_cells_at g start long s in
          let n : length c ≡ length d = cells_length h start long s ∙ sym (cells_length g start long s) in
          by_equal (start + 256 * s) 0
          (λ z. (sector_alike c d n 64 (omega arith) late_cells (no_runs z) t y r, bytes_alike c d n 64 (omega arith) late_cells (no_runs z) t y r))
          (λ z.
          let q : c ≡ d = all_cells (omega arith) in
          (ap (λ (f : List ℕ). sector_of f t y r) q, ap (λ (f : List ℕ). delivered_bytes f (sector_of f t y r)) q))

    -- ---- a whole image

    module _ (plain : WithoutCodes h) where
      coded_cells : (t s : ℕ) → t < tracks → s < sides → coded_side h t s ≡ Cells (stream (track_part h t) (hfe_side s (track_length h t)))
      unfolding coded_side
      coded_cells t s ht hs =
          coded_plain (track_part h t) (hfe_side s (track_length h t)) (omega arith) (λ b l. plain.each t s ht hs b (omega arith))

      no_codes : first_code_refusal h ≡ none
      no_codes =
          codes_none h o.version_3
          (first_some_none (side_refusal h) (tracks * sides) (λ k l. ap (side_code_refusal k) (coded_cells (k / sides) (k % sides) (omega arith)
          (omega arith))))

      version_3_side : (t s : ℕ) → t < tracks → s < sides → side_stream h t s ≡ side_cells_at h (track_start h t) (track_length h t) s
      unfolding cells_of track_part track_unit_bytes side_cells_at
      version_3_side t s ht hs = coded_stream h t s o.version_3 ∙ ap cells_of (coded_cells t s ht hs)

      version_1_side : (t s : ℕ) → side_stream g t s ≡ side_cells_at g (track_start h t) (track_length h t) s
      version_1_side t s = side_cells_at_lem g t s (version_1_not_3 g o.version_1) ∙ rw (start_same t, length_same t)

      sector_same : (m : ℕ) → m < all_sectors → (sector_at h m ≡ sector_at g m) × (sector_bytes_at h m ≡ sector_bytes_at g m)
      unfolding sector_bytes_at sector_at track_start
      sector_same m l =
          rw (version_3_side (track_of m) (side_of m) (omega arith) (omega arith), version_1_side (track_of m) (side_of m))
          (side_same (track_start h (track_of m)) (track_length h (track_of m)) (side_of m) (omega arith) (low_first h (entry_place h (track_of m)) 2)
          (track_of m) (side_of m) (r_of m) refl)

      -- the bytes of all sectors are the same
      bytes_same : tab (unpacked_byte h) image_bytes ≡ tab (unpacked_byte g) image_bytes
      unfolding unpacked_byte
      bytes_same =
          tab_ext (unpacked_byte h) (unpacked_byte g) image_bytes
          (λ k l. ap (λ (b : List ℕ). get_or b (k % 512) 0) (sector_same (k / 512) (omega arith)).1)

  -- ---- the replies

  module _ (plain : WithoutCodes h) (n : ℕ) (l : least_hfe ≤ length h) (e : n ≡ image_bytes) where
    by_table : (sound : hfe_header_fault h ≡ None) (x : Fault) → table_fault h ≡ x → unpack_reply h n ≡ unpack_reply g n
    by_table sound (Some t) f =
        table_reply_lem h n l e sound t f
        ∙ sym (table_reply_lem g n (rw o.long l) e (header_same ∙ sound) t (table_same sound ∙ f))
    by_table sound None f =
        sound_reply h n l e sound f (no_codes sound plain)
        ∙ sectors_alike h g (λ m k. (sector_same sound plain m k).0)
        ∙ sym
        (sound_reply g n (rw o.long l) e (header_same ∙ sound) (table_same sound ∙ f) (plain_codes g (version_1_not_3 g o.version_1)))

    by_header : (x : Fault) → hfe_header_fault h ≡ x → unpack_reply h n ≡ unpack_reply g n
    by_header (Some k) f = header_reply h n l e k f ∙ sym (header_reply g n (rw o.long l) e k (header_same ∙ f))
    by_header None f = by_table f (table_fault h) refl

  reply_same : WithoutCodes h → (n : ℕ) → unpack_reply h n ≡ unpack_reply g n
  reply_same plain n =
      by_order (length h) least_hfe
      (λ l. short_reply h n l ∙ sym (short_reply g n (rw o.long l)))
      (λ l. by_equal n image_bytes
      (λ e. by_header plain n l e (hfe_header_fault h) refl)
      (λ e. length_reply h n l e ∙ sym (length_reply g n (rw o.long l) e)))

  image_same : WithoutCodes h → (image : List ℕ) → unpack_image h image ≡ unpack_image g image
  unfolding unpack_image
  image_same plain image = by_fault (hfe_header_fault h) refl
    where
      by_fault : (x : Fault) → hfe_header_fault h ≡ x → unpack_image h image ≡ unpack_image g image
      by_fault (Some k) f =
          cond_false _ image (header_refused h (length image) k f)
          ∙ sym (cond_false _ image (header_refused g (length image) k (header_same ∙ f)))
      by_fault None f =
          ap₂ (λ (n : ℕ) (bytes : List ℕ). cond (eqb n 0) bytes image)
          (ap (λ (r : Reply). r.number) (reply_same plain (length image))) (bytes_same f plain)

-- ---- the letters of version 1 written over those of version 3

other_letters : (h : List ℕ) → is_version3 h ≡ true → OtherLetters h (put h 0 hfe_signature)
unfolding put is_version1 is_version3 hfe_signature version3_signature element_at
other_letters h v =
    record {
      version_3 = v;
      version_1 =
          stands_all (put h 0 hfe_signature) 0 hfe_signature (rw (overlay_length h 0 8 _) within)
          (λ k l.
          let z : 0 + (k - 0) ≡ k = omega arith in
          rw zero-add (overlay_in h 0 8 _ k (omega arith) (omega arith) (omega (arith, within)) ∙ ap (λ (j : ℕ). get_or hfe_signature j 0) z));
      long = overlay_length h 0 8 _;
      same = λ k l. overlay_after h 0 8 _ k l;
    }
  where
    within : 8 ≤ length h
    within = stands_within h 0 version3_signature v

-- the fields of a version 3 image are judged as if it had the letters of version 1
pub version_3_header : (h : List ℕ) → is_version3 h ≡ true → hfe_header_fault h ≡ hfe_header_fault (put h 0 hfe_signature)
version_3_header h v = sym (header_same h (put h 0 hfe_signature) (other_letters h v))

-- where no byte of its sides reads as a code, a version 3 image is read as if it had the letters of version 1
pub version_3_plain : Version3Plain
version_3_plain h v plain = (
  reply_same h (put h 0 hfe_signature) (other_letters h v) plain,
  image_same h (put h 0 hfe_signature) (other_letters h v) plain,
)
