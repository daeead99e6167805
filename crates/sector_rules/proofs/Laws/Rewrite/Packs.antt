-- rewrite_packs: a rewrite of a packed image is done, and gives the packed image of the block image with that sector replaced.
-- Rests on what is written to a packed image (PackedImage) and on round-trip's facts of a packed image (Trip.RoundTrip).
use Rattle.std.proofs.Math.Bool.{true}
use Rattle.std.specs.Prelude.{not, List, ◌≡◌, ℕ, ◌+◌, ◌-◌, ◌*◌, ◌≤◌, ◌<◌, get_or}
use Rattle.std.proofs.Math.Option.{Option, none}
use Rattle.std.proofs.Common.{sym, subst, ◌∙◌, arith}
use Rattle.std.proofs.Math.Path.{ap}
use Rattle.std.proofs.Math.ListN.{length}
use Rattle.laws.specs.Options.{is_some, or_else}
use Rattle.laws.specs.Changes.{put}
use Rattle.laws.specs.Laws.Cases.{by_equal}
use Rattle.laws.specs.Laws.Tests.{cond_true, cond_false, lt_true, lt_false, le_true, eq_true, eq_false, and_true}
use Rattle.laws.specs.Laws.All.{all_is}
use Rattle.laws.specs.Laws.Same.{eq_same}
use Rattle.sector_rules.specs.declared.Reply.{Reply}
use Rattle.sector_rules.specs.Search.{Sector}
use Rattle.sector_rules.specs.Replies.{done, unless}
use Rattle.sector_rules.specs.Geometry.{image_bytes}
use Rattle.sector_rules.specs.Unpacked.{least_hfe, sector_at, sector_reply}
use Rattle.sector_rules.specs.Packed.{pack_hfe, image_sector_of}
use Rattle.sector_rules.specs.Rewritten.{rewritten, sector_number, sector_right, hfe_refusal, result_right, has_field, rewrite_sector_reply}
use Rattle.sector_rules.specs.Rewritten.{rewrite_arguments, rewrite_reply, rewrite_hfe}
use Rattle.sector_rules.specs.Rewriting.{RewritePacks}
use Rattle.sector_rules.proofs.Laws.Base.Unpacked.{good_is}
use Rattle.sector_rules.proofs.Laws.Trip.RoundTrip.{packed_image, size, version1_sound, table_sound, good_sector, sector_bytes_lem, packed_is}
use Rattle.sector_rules.proofs.Laws.Rewrite.PackedImage.{put_here, put_other, put_small, put_long, rewritten_is}

-- ---- what a packed image gives

module _ (image : List ℕ) where
  -- header and table of a packed image are right
  refused_none : hfe_refusal (packed_image image) ≡ none
  unfolding or_else
  refused_none = rw (version1_sound image, table_sound image)

  module _ (small : (j : ℕ) → get_or image j 0 < 256) (q : ℕ) (hq : q < 1440) where
    -- each sector of a packed image gives 0
    number_none : sector_number (packed_image image) q ≡ 0
    number_none = ap (λ (x : Sector). (sector_reply q x).number) (good_is (sector_at (packed_image image) q) (good_sector image small q hq))

    -- and has a data field
    field_there : has_field (sector_at (packed_image image) q) ≡ true
    field_there = ap has_field (good_is (sector_at (packed_image image) q) (good_sector image small q hq))

-- the packed image of a block image with one sector replaced reads as it must
right_packed : (image d : List ℕ) (m : ℕ) → length image ≡ 737280 → length d ≡ 512 → ((j : ℕ) → get_or image j 0 < 256) → ((j : ℕ) → get_or d j 0 < 256)
    → m < 1440 → result_right (packed_image image) (packed_image (put image (512 * m) d)) m d ≡ true
unfolding result_right is_some sector_right
right_packed image d m li ld small low hm =
    and_true (ap (λ (x : Option Reply). not (is_some x)) (refused_none next)) (all_is (sector_right (packed_image image) (packed_image next) m d) 1440 each)
  where
    next : List ℕ
    next = put image (512 * m) d

    tiny : (j : ℕ) → get_or next j 0 < 256
    tiny = put_small image d m ld small low

    each : (q : ℕ) → q < 1440 → sector_right (packed_image image) (packed_image next) m d q ≡ true
    each q l =
        by_equal q m
        (λ z.
        cond_true _ _ (eq_true z)
        ∙ and_true (eq_true (number_none next tiny m hm))
        (eq_same _ d (sector_bytes_lem next tiny m hm ∙ put_here image d m ld (omega arith))))
        (λ n.
        cond_false _ _ (eq_false n)
        ∙ and_true (eq_true (number_none image small q l ∙ sym (number_none next tiny q l)))
        (eq_same _ _ (sector_bytes_lem image small q l ∙ sym (sector_bytes_lem next tiny q l ∙ put_other image d m ld q n))))

-- ---- the call

module _ (image d : List ℕ) (t s r : ℕ) (li : length image ≡ 737280) (small : (j : ℕ) → get_or image j 0 < 256)
    (ht : t < 80) (hs : s < 2) (lo : 1 ≤ r) (hi : r ≤ 9) (ld : length d ≡ 512) (low : (j : ℕ) → get_or d j 0 < 256) where
  -- what is written to a packed image, for R from 1 to 9
  written_packed : rewritten (packed_image image) t s r d ≡ packed_image (put image (512 * image_sector_of t s r) d)
  written_packed =
      let e : r - 1 + 1 ≡ r = omega arith in
      subst (λ (n : ℕ). rewritten (packed_image image) t s n d ≡ packed_image (put image (512 * image_sector_of t s n) d)) e
      (rewritten_is image d t s (r - 1) ht hs (omega arith) li ld small)

  -- such arguments are right
  right_arguments : rewrite_arguments t s r d ≡ true
  right_arguments = and_true (and_true (and_true (and_true (lt_true ht) (lt_true hs)) (le_true lo)) (le_true hi)) (eq_true ld)

  -- this sector has a field, and the result reads as it must
  sector_done : rewrite_sector_reply (packed_image image) t s r d ≡ done
  unfolding rewrite_sector_reply
  sector_done =
      let result : result_right (packed_image image) (rewritten (packed_image image) t s r d) (image_sector_of t s r) d ≡ true =
      rw written_packed (right_packed image d (image_sector_of t s r) li ld small low (omega arith)) in
      cond_true _ _ (field_there image small (image_sector_of t s r) (omega arith))
      ∙ cond_true _ _ result

  -- every rewrite of a packed image with right arguments is done
  rewrite_done : rewrite_reply (packed_image image) t s r d ≡ done
  unfolding rewrite_reply unless
  rewrite_done =
      let long : least_hfe ≤ length (packed_image image) = rw (size image) (omega arith) in
      cond_false _ _ (lt_false long)
      ∙ cond_true _ _ right_arguments
      ∙ ap (λ (x : Option Reply). unless x (λ (y : Reply). y) (rewrite_sector_reply (packed_image image) t s r d)) (refused_none image)
      ∙ sector_done

  -- and gives what was written
  rewrite_written : rewrite_hfe (packed_image image) t s r d ≡ packed_image (put image (512 * image_sector_of t s r) d)
  unfolding rewrite_hfe
  rewrite_written = cond_true _ _ (eq_true (ap (λ (x : Reply). x.number) rewrite_done)) ∙ written_packed

-- on a packed image every rewrite with right arguments is done, and gives the packed image of the block image with that sector replaced
pub rewrite_packs : RewritePacks
rewrite_packs image hfe d t s r li small lh ht hs lo hi ld low =
    let x : pack_hfe image hfe ≡ packed_image image = packed_is image hfe li lh in
    let l : length (put image (512 * image_sector_of t s r) d) ≡ image_bytes = put_long image d (image_sector_of t s r) ld ∙ li in (
      rw x (rewrite_done image d t s r li small ht hs lo hi ld low),
      rw x (rewrite_written image d t s r li small ht hs lo hi ld low) ∙ sym (packed_is (put image (512 * image_sector_of t s r) d) hfe l lh),
    )
