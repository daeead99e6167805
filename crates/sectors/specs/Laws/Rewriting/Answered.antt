-- The bytes that a rewrite exchanges for one sector, the image with the new ones, and the reply and image of the call.
-- Rests on the laws of exchanged bytes (Changed) and of the replies of a rewrite (Rewrite.Judged of sector_rules).
use Rattle.std.specs.Prelude.{None, Ok, Err, true, false, ◌&&◌, List, ◌≢◌, ◌≡◌, refl, ltb, leb, eqb, length}
use Rattle.std.proofs.Math.Bool.{cond}
use Rattle.std.proofs.Math.Path.{sym, ap}
use Rattle.std.proofs.Common.{◌∙◌}
use Prim.Native.Nat.{ℕ, ◌+◌, ◌-◌, ◌*◌, ◌/◌, ◌%◌, ◌^◌, ◌≤◌, ◌<◌, min}
use native.Mathlib.Omega.{arith}
use Rattle.std.proofs.Math.ListN.{get_or}
use borrow.Author.Tests.{eq-eqb, ne_eqb}
use Rattle.laws.specs.Laws.Tests.{true≢false, and_true, and_false_left, and_false_right, cond_true, cond_false}
use Rattle.cells.specs.Stream.{packed}
use Rattle.sector_rules.specs.declared.Reply.{Reply}
use Rattle.sector_rules.specs.Search.{Sector}
use Rattle.sector_rules.specs.declared.SectorFault.TheVariants.{Missing, Repeated, NoField, Damaged}
use Rattle.sector_rules.specs.Replies.{done, refusal}
use Rattle.sector_rules.specs.Geometry.{tracks, sides, sectors, sector_bytes}
use Rattle.sector_rules.specs.Hfe.{version1_fault, table_fault, track_start, track_length, side_stream}
use Rattle.sector_rules.specs.Search.{sector_of}
use Rattle.sector_rules.specs.Unpacked.{least_hfe, sector_at, sector_reply}
use Rattle.sector_rules.specs.Packed.{image_sector_of}
use Rattle.sector_rules.specs.Rewritten.{data_place, data_cells, changed_bytes, field_row, cell_after, with_side_bytes, rewritten}
use Rattle.sector_rules.specs.Rewritten.{has_field, result_right, rewrite_arguments, rewrite_sector_reply, rewrite_reply, rewrite_hfe}
use Rattle.sector_rules.proofs.Laws.Base.Faults.{table_good, track_within}
use Rattle.sector_rules.proofs.Laws.Rewrite.Base.{side_cells_at_lem, cells_length}
use Rattle.sector_rules.proofs.Laws.Rewrite.Judged.{rewrite_sound, rewrite_field, rewrite_kept, named_sector}
use Rattle.sectors.specs.declared.SectorField.{SectorField}
use Rattle.sectors.specs.declared.SideBytes.{SideBytes}
use Rattle.sectors.specs.Laws.Unpacking.Sides.{PlainImage, no_field, ImageSideGives}
use Rattle.sectors.specs.Laws.Rewriting.Changed.{stored_place, SideBytesFit, changed, with_equal}
use Rattle.sectors.specs.Laws.Rewriting.NewCells.{Renewed}
use Rattle.sectors.specs.Laws.Rewriting.Skipped.{unit_end}

-- the bytes of side s of track t that hold the cells from place p on that a rewrite may change, as far as the side goes
pub record WindowOf (w : SideBytes) (h : List ℕ) (t s p : ℕ) : Type 0 where
  pub start : w.start ≡ track_start h t
  pub side : w.side ≡ s
  pub first : w.first ≡ p / 8
  pub count : w.count ≡ min (track_length h t / 2 - p / 8) changed_bytes

-- the reply and the image where the sector has a field
pub record DataWritten (h : List ℕ) (t s r : ℕ) (d : List ℕ) (x : Reply) (after : List ℕ) : Type 0 where
  pub reply : x ≡ cond (result_right h (rewritten h t s r d) (image_sector_of t s r) d) done (refusal 17)
  pub image : after ≡ cond (eqb x.number 0) (rewritten h t s r d) h

-- the reply and the image where arguments, header and table are right
pub record Answered (h : List ℕ) (t s r : ℕ) (d : List ℕ) (x : Reply) (after : List ℕ) : Type 0 where
  pub reply : x ≡ rewrite_sector_reply h t s r d
  pub image : after ≡ cond (eqb x.number 0) (rewritten h t s r d) h

-- ---- the bytes that are exchanged

module _ (h : List ℕ) (t s p : ℕ) where
  -- a side has eight cells for each of its bytes
  pub side_cells_length : PlainImage h → length (side_stream h t s) ≡ 8 * (track_length h t / 2)
  side_cells_length x = ap length (side_cells_at_lem h t s x.version) ∙ cells_length h (track_start h t) (track_length h t) s

  module _ (plain : PlainImage h) (ht : t < tracks) (hs : s < sides) (within : p + data_cells ≤ length (side_stream h t s)) where
    inside : (b : ℕ) → b < track_length h t / 2 → stored_place (track_start h t) s b < length h
    inside b l = let e = unit_end h t b l in omega (arith, e, track_within h t (table_good h plain.table t ht))

    -- the first of them has a number of 16 bits
    pub window_first : track_length h t < 2 ^ 16 → p / 8 < 2 ^ 16
    window_first b = omega (arith, side_cells_length plain, within)

    -- they are bytes of the image
    pub window_fits : (w : SideBytes) → WindowOf w h t s p → SideBytesFit w (length h)
    window_fits w x = record { within = λ j l. rw (x.start, x.side, x.first) (inside (p / 8 + j) (omega (arith, l, x.count))) }

  -- the image with the new bytes is the rewritten image
  pub window_new : (w : SideBytes) → WindowOf w h t s p → (r : ℕ) (d xs : List ℕ) → p ≡ data_place (side_stream h t s) t s r
      → Renewed (side_stream h t s) p (field_row d) w.first w.count xs → changed h w xs ≡ rewritten h t s r d
  unfolding changed rewritten
  window_new w x r d xs e renewed =
      let new = rw (x.first, x.count) at renewed in
      rw (x.start, x.side, x.first, x.count)
      (with_equal h (track_start h t) s (p / 8) (p / 8 + n) n (λ (b : ℕ). get_or xs (b - p / 8) 0) (track_length h t / 2) changed_bytes
      (packed (cell_after (side_stream h t s) p (field_row d)))
      (λ x l m f.
      let z : p / 8 + (x - p / 8) ≡ x = omega arith in
      (omega arith, omega arith, new.each (x - p / 8) (omega arith) ∙ ap (packed (cell_after (side_stream h t s) p (field_row d))) z))
      (λ x l m f. (omega arith, omega arith))
      ∙ ap (λ (k : ℕ). with_side_bytes h (track_start h t) (track_length h t / 2) s (k / 8) changed_bytes (packed (cell_after (side_stream h t s) k
      (field_row d)))) e)
    where
      n : ℕ
      n = min (track_length h t / 2 - p / 8) changed_bytes

-- the cell place of such bytes is that of a side
pub window_place : (h : List ℕ) (t s p : ℕ) (w : SideBytes) → WindowOf w h t s p → p < 2 ^ 34
window_place h t s p w x = omega (arith, x.first, w.within)

-- ---- what the code reads of the sector

module _ (h : List ℕ) (t s r n : ℕ) (ht : t < tracks) (hs : s < sides) (hl : 1 ≤ r) (hr : r ≤ sectors) (is : n ≡ sides * t + s) where
  -- what the sector gives, and the cell place of its data, by the fields of its side
  pub side_field_is : (fields : List SectorField) → ImageSideGives fields h n
      → ((get_or fields (r - 1) no_field).sector ≡ sector_of (side_stream h t s) t s r)
      × ((get_or fields (r - 1) no_field).place ≡ data_place (side_stream h t s) t s r)
  side_field_is fields x =
      let e : sectors * n + (r - 1) ≡ image_sector_of t s r = omega arith in
      let a : n / sides ≡ t = omega arith in
      let b : n % sides ≡ s = omega arith in
      let q : r - 1 + 1 ≡ r = omega arith in
      (x.each (r - 1) (omega arith) ∙ ap (sector_at h) e ∙ named_sector t s r ht hs hl hr h, x.places (r - 1) (omega arith) ∙ rw (a, b, q))

-- the new bytes of a side, by its cells and the row that the code has
pub renewed_side : (h : List ℕ) (t s : ℕ) (c : List ℕ) → c ≡ side_stream h t s → (d row : List ℕ) → row ≡ field_row d → (p b n : ℕ) (xs : List ℕ)
    → Renewed c p row b n xs → Renewed (side_stream h t s) p (field_row d) b n xs
renewed_side h t s c is d row e p b n xs x = rw (is, e) at x

-- ---- the arguments

module _ (t s r : ℕ) (d : List ℕ) where
  -- they are wrong where track, side and R name no sector
  pub arguments_unplaced : (ltb t tracks && ltb s sides && leb 1 r && leb r sectors) ≡ false → rewrite_arguments t s r d ≡ false
  arguments_unplaced e = and_false_left (eqb (length d) sector_bytes) e

  -- and where the data are not those of a sector
  pub arguments_unlike : (length d ≡ sector_bytes → ⊥) → rewrite_arguments t s r d ≡ false
  arguments_unlike n = and_false_right (ltb t tracks && ltb s sides && leb 1 r && leb r sectors) (ne_eqb (length d) sector_bytes n)

  -- else they are right
  pub arguments_placed : (ltb t tracks && ltb s sides && leb 1 r && leb r sectors) ≡ true → length d ≡ sector_bytes → rewrite_arguments t s r d ≡ true
  arguments_placed e l = and_true e (eq-eqb (length d) sector_bytes l)

-- ---- the reply and the image

-- a sector without a field gets a refusal
no_field_number : (m : ℕ) (z : Sector) → has_field z ≡ false → eqb (sector_reply m z).number 0 ≡ false
no_field_number m (Ok p) e = true≢false true refl e
no_field_number m (Err Damaged) e = true≢false true refl e
no_field_number m (Err Missing) e = refl
no_field_number m (Err Repeated) e = refl
no_field_number m (Err NoField) e = refl

module _ (h : List ℕ) (t s r : ℕ) (d : List ℕ) where
  -- a result that does not read as it must: 17, and the image is as it was
  pub written_wrong : (x : Reply) (after g : List ℕ) → g ≡ rewritten h t s r d → result_right h g (image_sector_of t s r) d ≡ false → x ≡ refusal 17 → after ≡ h
      → DataWritten h t s r d x after
  written_wrong x after g e w q k =
      record {
        reply = q ∙ sym (cond_false done (refusal 17) (ap (λ (i : List ℕ). result_right h i (image_sector_of t s r) d) (sym e) ∙ w));
        image = k ∙ sym (ap (λ (y : Reply). cond (eqb y.number 0) (rewritten h t s r d) h) q);
      }

  -- a result that does: done, and the image is that result
  pub written_done : (x : Reply) (after g : List ℕ) → g ≡ rewritten h t s r d → result_right h g (image_sector_of t s r) d ≡ true → x ≡ done → after ≡ g
      → DataWritten h t s r d x after
  written_done x after g e w q k =
      record {
        reply = q ∙ sym (cond_true done (refusal 17) (ap (λ (i : List ℕ). result_right h i (image_sector_of t s r) d) (sym e) ∙ w));
        image = k ∙ e ∙ sym (ap (λ (y : Reply). cond (eqb y.number 0) (rewritten h t s r d) h) q);
      }

  module _ (ht : t < tracks) (hs : s < sides) (hl : 1 ≤ r) (hr : r ≤ sectors) (y : Sector) (is : y ≡ sector_of (side_stream h t s) t s r) where
    at_sector : sector_at h (image_sector_of t s r) ≡ y
    at_sector = named_sector t s r ht hs hl hr h ∙ sym is

    -- a sector without a field: its own reply, and the image is as it was
    pub answered_field : has_field y ≡ false → (x : Reply) (after : List ℕ) → x ≡ sector_reply (image_sector_of t s r) y → after ≡ h
        → Answered h t s r d x after
    answered_field f x after q k =
        record {
          reply = q ∙ sym (rewrite_field h t s r d (ap has_field at_sector ∙ f) ∙ ap (sector_reply (image_sector_of t s r)) at_sector);
          image =
              k ∙ sym (cond_false (rewritten h t s r d) h (ap (λ (v : Reply). eqb v.number 0) q ∙ no_field_number (image_sector_of t s r) y f));
        }

    -- a sector with a field: what writing answers
    pub answered_written : has_field y ≡ true → (x : Reply) (after : List ℕ) → DataWritten h t s r d x after → Answered h t s r d x after
    unfolding rewrite_sector_reply
    answered_written f x after w =
        record { reply = w.reply ∙ sym (cond_true _ _ (ap has_field at_sector ∙ f)); image = w.image }

  -- a call that is refused leaves the image as it was
  pub call_kept : (x : Reply) → rewrite_reply h t s r d ≡ x → x.number ≢ 0 → h ≡ rewrite_hfe h t s r d
  call_kept x e n = sym (rewrite_kept h t s r d (λ z. n (ap (λ (y : Reply). y.number) (sym e) ∙ z)))

  -- where arguments, header and table are right, the call answers for the sector
  pub call_answered : least_hfe ≤ length h → rewrite_arguments t s r d ≡ true → version1_fault h ≡ None → table_fault h ≡ None
      → (x : Reply) (after : List ℕ) → Answered h t s r d x after → (x ≡ rewrite_reply h t s r d) × (after ≡ rewrite_hfe h t s r d)
  unfolding rewrite_hfe
  call_answered l a f g x after w =
      let e : x ≡ rewrite_reply h t s r d = w.reply ∙ sym (rewrite_sound h t s r d l a f g) in
      (e, w.image ∙ ap (λ (y : Reply). cond (eqb y.number 0) (rewritten h t s r d) h) e)
