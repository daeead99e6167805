-- Unpacking: the place of a sector's bytes, and the replies in their order.
-- Rests on the case splits.
use Rattle.sector_rules.specs.Unpacked.{place_of}
use Rattle.std.specs.Prelude.{Some, None, Ok, Err, Bool, true, false, cond, List, ◌≡◌, refl, ℕ, ◌≤◌, ◌<◌, eqb, length}
use Rattle.std.proofs.lemmas.Bool.{false≢true}
use Rattle.std.proofs.Math.Option.{none, some}
use Rattle.std.proofs.Common.{sym, ap, ◌∙◌}
use borrow.Author.Tests.{lt-ltb, le-ltb, eq-eqb, ne_eqb}
use Rattle.laws.specs.Lists.{tab}
use Rattle.laws.specs.Options.{or_else}
use Rattle.laws.specs.Laws.Cases.{by_order, by_equal}
use Rattle.sector_rules.specs.declared.Reply.{Reply}
use Rattle.sector_rules.specs.Search.{Sector}
use Rattle.sector_rules.specs.declared.SectorFault.TheVariants.{Missing, Repeated, NoField, Damaged}
use Rattle.sector_rules.specs.Replies.{reply_with, unless}
use Rattle.sector_rules.specs.Faults.{refusal_at}
use Rattle.sector_rules.specs.Geometry.{image_bytes}
use Rattle.sector_rules.specs.Hfe.{hfe_header_fault, table_fault}
use Rattle.sector_rules.specs.Unpacked.{least_hfe, is_bad, sector_reply, sectors_reply, first_code_refusal, unpack_reply, unpack_image, unpacked_byte}

-- a sector that is not bad is delivered
pub good_is : (x : Sector) → is_bad x ≡ false → x ≡ Ok (place_of x)
good_is (Ok p) e = refl
good_is (Err Missing) e = absurd (false≢true (sym e))
good_is (Err Repeated) e = absurd (false≢true (sym e))
good_is (Err NoField) e = absurd (false≢true (sym e))
good_is (Err Damaged) e = absurd (false≢true (sym e))

-- the reply for a bad sector is not 0
pub bad_number_lem : (m : ℕ) (x : Sector) → is_bad x ≡ true → eqb (sector_reply m x).number 0 ≡ false
bad_number_lem m (Ok p) e = absurd (false≢true e)
bad_number_lem m (Err Missing) e = refl
bad_number_lem m (Err Repeated) e = refl
bad_number_lem m (Err NoField) e = refl
bad_number_lem m (Err Damaged) e = refl

-- ---- the replies of unpacking, in order

module _ (h : List ℕ) (n : ℕ) where
  -- an HFE image that is too short is refused with 1, 1
  pub short_reply : length h < least_hfe → unpack_reply h n ≡ reply_with 1 1 0 0
  unfolding unpack_reply
  short_reply l = rw (lt-ltb (length h) least_hfe l)

  module _ (l : least_hfe ≤ length h) where
    -- a block image of another length is refused with 1, 2
    pub length_reply : (n ≡ image_bytes → ⊥) → unpack_reply h n ≡ reply_with 1 2 0 0
    unfolding unpack_reply
    length_reply e = rw (le-ltb (length h) least_hfe l, ne_eqb n image_bytes e)

    module _ (e : n ≡ image_bytes) where
      later_reply : unpack_reply h n
          ≡ unless (or_else (refusal_at 2 (hfe_header_fault h)) (or_else (refusal_at 3 (table_fault h)) (first_code_refusal h))) (λ (r : Reply). r)
          (sectors_reply h)
      unfolding unpack_reply
      later_reply = rw (le-ltb (length h) least_hfe l, eq-eqb n image_bytes e)

      -- an HFE image with a wrong header is refused with 2 and the offset
      pub header_reply : (o : ℕ) → hfe_header_fault h ≡ Some o → unpack_reply h n ≡ reply_with 2 o 0 0
      unfolding unless or_else
      header_reply o f = later_reply ∙ rw f

      module _ (f : hfe_header_fault h ≡ None) where
        -- an HFE image with a wrong table entry is refused with 3 and the track
        pub table_reply_lem : (t : ℕ) → table_fault h ≡ Some t → unpack_reply h n ≡ reply_with 3 t 0 0
        unfolding unless or_else
        table_reply_lem t g = later_reply ∙ rw (f, g)

        module _ (g : table_fault h ≡ None) where
          -- where header and table are right, an HFE image with a wrong code is refused with 18 and its place
          pub codes_reply : (r : Reply) → first_code_refusal h ≡ some r → unpack_reply h n ≡ r
          unfolding unless or_else
          codes_reply r c = later_reply ∙ rw (f, g, c)

          -- where header, table and codes are right, the reply is that for the sectors
          pub sound_reply : first_code_refusal h ≡ none → unpack_reply h n ≡ sectors_reply h
          unfolding unless or_else
          sound_reply c = later_reply ∙ rw (f, g, c)

-- an HFE image with a wrong header is refused, whatever else is wrong
pub header_refused : (h : List ℕ) (n o : ℕ) → hfe_header_fault h ≡ Some o → eqb (unpack_reply h n).number 0 ≡ false
header_refused h n o f =
    by_order (length h) least_hfe
    (λ l. ap refused (short_reply h n l))
    (λ l. by_equal n image_bytes (λ e. ap refused (header_reply h n l e o f)) (λ e. ap refused (length_reply h n l e)))
  where
    refused : Reply → Bool
    refused r = eqb r.number 0

-- the block image after unpacking, by the reply: unpacked, or as it was
pub image_after_lem : (h image : List ℕ) (r : Reply) → unpack_reply h (length image) ≡ r
    → unpack_image h image ≡ cond (eqb r.number 0) (tab (unpacked_byte h) image_bytes) image
unfolding unpack_image
image_after_lem h image r e = rw e
