-- version_letters, version_1_cells, version_3_cells and code_replies: eight letters decide of which version an image is; a version 1 image has no codes, in
-- version 3 they decide which cells a side has; 18 for the first wrong code of a version 3 image.
-- Rests on the laws of the two versions (Base.Versions), the replies of unpacking (Base.Unpacked) and those of rewriting (Rewrite.Judged).
use Rattle.std.specs.Prelude.{true, List, ◌≢◌, ◌≡◌, refl, ℕ, suc, ◌+◌, ◌*◌, ◌/◌, ◌%◌, ◌≤◌, ◌<◌, length, get_or}
use Rattle.std.proofs.Math.Option.{none, some}
use Rattle.std.proofs.Common.{sym, ◌∙◌, zero-add}
use Rattle.std.proofs.Math.Path.{ap}
use native.Mathlib.Omega.{arith}
use Rattle.laws.specs.Lists.{tab, stands_at}
use Rattle.laws.specs.Laws.Cases.{by_order}
use Rattle.laws.specs.Laws.Options.{first_some_none}
use Rattle.laws.specs.Laws.Same.{stands_all, stands_each}
use Rattle.laws.specs.Laws.Tab.{tab_in, eq_tab, get_d_past}
use Rattle.cells.specs.Stream.{stream, hfe_side}
use Rattle.cells.specs.Codes.{stored_bytes, Decoded, Cells, WrongCode, coded, cells_of}
use Rattle.cells.proofs.Laws.Codes.{coded_plain}
use Rattle.sector_rules.specs.Replies.{reply_with}
use Rattle.sector_rules.specs.Geometry.{tracks, sides, image_bytes}
use Rattle.sector_rules.specs.Hfe.{hfe_signature, version3_signature, is_version1, is_version3, byte_at, track_length, track_part, coded_side, side_stream}
use Rattle.sector_rules.specs.Unpacked.{sectors_reply, side_code_refusal, unpack_reply}
use Rattle.sector_rules.specs.Versions.{letters_of, VersionLetters, side_byte_at, SideWithoutCodes, Version1Cells, Version3Cells}
use Rattle.sector_rules.specs.Versions.{Version3Sound, CodeReplies}
use Rattle.sector_rules.proofs.Laws.Base.Unpacked.{header_reply, table_reply_lem, codes_reply, sound_reply}
use Rattle.sector_rules.proofs.Laws.Base.Versions.{version_1_not_3, letters_wrong, neither_version, version1_judged}
use Rattle.sector_rules.proofs.Laws.Base.Versions.{plain_stream, coded_stream, plain_codes, codes_found, codes_none}
use Rattle.sector_rules.specs.Unpacked.{side_refusal}
use Rattle.sector_rules.proofs.Laws.Rewrite.Judged.{rewrite_header}
use Rattle.sector_rules.proofs.Laws.Versions.Plain.{version_3_header}

-- ---- the letters

-- eight bytes stand at the beginning of an image exactly if its first eight bytes are these; the last of them is not 0, which a byte past the end reads as
module _ (h letters : List ℕ) (eight : length letters ≡ 8) where
  letters_stand : stands_at h 0 letters ≡ true → letters_of h ≡ letters
  letters_stand e =
      sym (eq_tab letters (byte_at h) 8 eight (λ k l. sym (stands_each h 0 letters e k (omega arith)) ∙ ap (λ (i : ℕ). get_or h i 0) (zero-add k)))

  stand_letters : (last : ℕ) → get_or letters 7 0 ≡ suc last → letters_of h ≡ letters → stands_at h 0 letters ≡ true
  stand_letters last z e = stands_all h 0 letters (omega (arith, eight, long)) (λ k l. ap (λ (i : ℕ). get_or h i 0) (zero-add k) ∙ each k (omega arith))
    where
      each : (k : ℕ) → k < 8 → get_or h k 0 ≡ get_or letters k 0
      each k l = sym (tab_in (byte_at h) 8 k l) ∙ ap (λ (x : List ℕ). get_or x k 0) e

      long : 8 ≤ length h
      long =
          by_order 7 (length h) (λ l. omega arith)
          (λ l. let q : suc last ≡ 0 = sym z ∙ sym (each 7 (omega arith)) ∙ get_d_past h 7 l in absurd (omega arith))

-- eight letters decide of which version an image is, and others are refused
pub version_letters : VersionLetters
unfolding is_version1 is_version3 hfe_signature version3_signature
version_letters =
    record {
      version_1 = λ h e. letters_stand h hfe_signature refl e;
      is_version_1 = λ h e. stand_letters h hfe_signature refl 0x44 refl e;
      version_3 = λ h e. letters_stand h version3_signature refl e;
      is_version_3 = λ h e. stand_letters h version3_signature refl 0x32 refl e;
      unpack_others = λ h l e f. header_reply h image_bytes l refl 0 (neither_version h e f);
      rewrite_others = λ h t s r d l a e. rewrite_header h t s r d l a 0 (letters_wrong h e);
      rewrite_fields = λ h e. sym (version1_judged h e);
      version_3_fields = version_3_header;
    }

-- ---- the cells of a side

-- in a version 1 image the cells of a side are all that its bytes store, and no code is wrong
pub version_1_cells : Version1Cells
version_1_cells h v = ((λ t s. plain_stream h t s (version_1_not_3 h v)), plain_codes h (version_1_not_3 h v))

module _ (h : List ℕ) (t s : ℕ) where
  side_bytes_lem : coded_side h t s ≡ coded (tab (side_byte_at h t s) (track_length h t / 2))
  unfolding coded_side stored_bytes
  side_bytes_lem =
      let z : 8 * (track_length h t / 2) / 8 ≡ track_length h t / 2 = omega arith in
      ap (λ (n : ℕ). coded (tab (side_byte_at h t s) n)) z

  module _ (v : is_version3 h ≡ true) where
    side_cells : (c : List ℕ) → coded_side h t s ≡ Cells c → side_stream h t s ≡ c
    unfolding cells_of
    side_cells c e = coded_stream h t s v ∙ ap cells_of e

    side_plain : SideWithoutCodes h t s → side_stream h t s ≡ stream (track_part h t) (hfe_side s (track_length h t))
    unfolding coded_side
    side_plain plain =
        side_cells (stream (track_part h t) (hfe_side s (track_length h t)))
        (coded_plain (track_part h t) (hfe_side s (track_length h t)) (omega arith) (λ b l. plain b (omega arith)))

-- in a version 3 image half the length of bytes is read for a side, and the cells that they give are the side's
pub version_3_cells : Version3Cells
version_3_cells = record { bytes = side_bytes_lem; cells = side_cells; plain = side_plain }

-- ---- the order of the replies

-- a side without a wrong code is not refused
right_code : (n : ℕ) (x : Decoded) → ((q : ℕ) → x ≢ WrongCode q) → side_code_refusal n x ≡ none
right_code n (Cells c) e = refl
right_code n (WrongCode p) e = absurd (e p refl)

module _ (h : List ℕ) (v : Version3Sound h) where
  first_wrong : (t s p : ℕ) → t < tracks → s < sides → coded_side h t s ≡ WrongCode p
      → ((u w q : ℕ) → w < sides → sides * u + w < sides * t + s → coded_side h u w ≢ WrongCode q) → unpack_reply h image_bytes ≡ reply_with 18 t s p
  first_wrong t s p ht hs e before =
      let a : (sides * t + s) / sides ≡ t = omega arith in
      let b : (sides * t + s) % sides ≡ s = omega arith in
      let here : side_refusal h (sides * t + s) ≡ some (reply_with 18 t s p) = rw (a, b, e) (rw (a, b)) in
      codes_reply h image_bytes v.long refl v.header v.table (reply_with 18 t s p)
      (codes_found h v.version (sides * t + s) (reply_with 18 t s p) (omega arith)
      (first_some_none (side_refusal h) (sides * t + s)
      (λ k l. right_code k (coded_side h (k / sides) (k % sides)) (λ q. before (k / sides) (k % sides) q (omega arith) (omega arith))))
      here)

  none_wrong : ((t s p : ℕ) → t < tracks → s < sides → coded_side h t s ≢ WrongCode p) → unpack_reply h image_bytes ≡ sectors_reply h
  none_wrong right =
      sound_reply h image_bytes v.long refl v.header v.table
      (codes_none h v.version
      (first_some_none (side_refusal h) (tracks * sides)
      (λ k l. right_code k (coded_side h (k / sides) (k % sides)) (λ q. right (k / sides) (k % sides) q (omega arith) (omega arith)))))

-- 18 comes after 3 and before 4 to 7, and names the first wrong code of a version 3 image
pub code_replies : CodeReplies
code_replies =
    record {
      header = λ h o l f. header_reply h image_bytes l refl o f;
      table = λ h k l f g. table_reply_lem h image_bytes l refl f k g;
      version_1 = λ h l v f g. sound_reply h image_bytes l refl f g (plain_codes h (version_1_not_3 h v));
      first = first_wrong;
      none = none_wrong;
    }
