-- The two versions of HFE images: their letters, the cells of their sides, and wrong codes.
-- Rests on the laws of a list that stands at a place and of the first value that is there.
use Rattle.sector_rules.specs.Unpacked.{side_refusal}
use Rattle.std.specs.Prelude.{Some, None, true, false, List, ℕ, ◌*◌, ◌/◌, ◌%◌, ◌<◌, get_or}
use Rattle.std.proofs.Math.Option.{none, some}
use Rattle.std.proofs.Math.Path.{◌≡◌}
use Rattle.std.proofs.Common.{sym, ap, ◌∙◌, arith}
use Rattle.laws.specs.Options.{first_some}
use Rattle.laws.specs.Laws.Cases.{by_test}
use Rattle.laws.specs.Laws.Tests.{true≢false, cond_true, cond_false}
use Rattle.laws.specs.Laws.Same.{stands_each}
use Rattle.laws.specs.Laws.Options.{first_some_found, first_some_none, first_some_told, first_some_each}
use Rattle.cells.specs.Stream.{stream, hfe_side}
use Rattle.cells.specs.Codes.{Decoded, Cells, WrongCode, cells_of}
use Rattle.sector_rules.specs.declared.Reply.{Reply}
use Rattle.sector_rules.specs.Replies.{reply_with}
use Rattle.sector_rules.specs.Geometry.{tracks, sides}
use Rattle.sector_rules.specs.Hfe.{hfe_signature, version3_signature, is_version1, is_version3, field_fault, hfe_header_fault, version1_fault}
use Rattle.sector_rules.specs.Hfe.{track_length, track_part, coded_side, side_stream}
use Rattle.sector_rules.specs.Unpacked.{side_code_refusal, first_code_refusal}
use Rattle.sector_rules.proofs.Laws.Base.Faults.{at_not_sound}

code_number : (n : ℕ) (x : Decoded) (r : Reply) → side_code_refusal n x ≡ some r → r.number ≡ 18
code_number n (Cells c) r e = let z : ◌≡◌ {A = ℕ} 0 1 = cc in absurd (omega arith)
code_number n (WrongCode p) r e = let z : reply_with 18 (n / sides) (n % sides) p ≡ r = cc in ap (λ (x : Reply). x.number) (sym z)

module _ (h : List ℕ) where
  -- ---- the letters

  version_1_byte : is_version1 h ≡ true → get_or h 3 0 ≡ 0x50
  unfolding is_version1 hfe_signature
  version_1_byte e = stands_each h 0 hfe_signature e 3 (omega arith)

  version_3_byte : is_version3 h ≡ true → get_or h 3 0 ≡ 0x48
  unfolding is_version3 version3_signature
  version_3_byte e = stands_each h 0 version3_signature e 3 (omega arith)

  -- an image of version 1 is not of version 3
  pub version_1_not_3 : is_version1 h ≡ true → is_version3 h ≡ false
  version_1_not_3 e = by_test (is_version3 h) (λ t. absurd (omega (arith, version_1_byte e, version_3_byte t))) (λ f. f)

  -- an image of version 3 is not of version 1
  pub version_3_not_1 : is_version3 h ≡ true → is_version1 h ≡ false
  version_3_not_1 e = by_test (is_version1 h) (λ t. true≢false (is_version3 h) e (version_1_not_3 t)) (λ f. f)

  -- where the letters are not right, field 0 is at fault
  pub letters_wrong : is_version1 h ≡ false → version1_fault h ≡ Some 0
  unfolding version1_fault field_fault
  letters_wrong e = rw e

  -- the same for an image to unpack whose letters are of neither version
  pub neither_version : is_version1 h ≡ false → is_version3 h ≡ false → hfe_header_fault h ≡ Some 0
  unfolding hfe_header_fault field_fault
  neither_version e f = rw (e, f)

  -- an image to rewrite whose header is right has the letters of version 1
  pub version1_letters : version1_fault h ≡ None → is_version1 h ≡ true
  version1_letters e = by_test (is_version1 h) (λ t. t) (λ f. absurd (at_not_sound 0 (sym (letters_wrong f) ∙ e)))

  -- it is not of version 3
  pub version1_plain : version1_fault h ≡ None → is_version3 h ≡ false
  version1_plain e = version_1_not_3 (version1_letters e)

  -- where the letters are those of version 1, an image to unpack is judged as one to rewrite
  pub version1_judged : is_version1 h ≡ true → hfe_header_fault h ≡ version1_fault h
  unfolding hfe_header_fault version1_fault
  version1_judged e = rw e

  -- ---- the cells of a side

  -- in an image that is not of version 3 the cells of a side are all that its bytes store
  pub plain_stream : (t s : ℕ) → is_version3 h ≡ false → side_stream h t s ≡ stream (track_part h t) (hfe_side s (track_length h t))
  unfolding side_stream
  plain_stream t s e = cond_false _ _ e

  -- in an image of version 3 they are those that its bytes give
  pub coded_stream : (t s : ℕ) → is_version3 h ≡ true → side_stream h t s ≡ cells_of (coded_side h t s)
  unfolding side_stream
  coded_stream t s e = cond_true _ _ e

  -- ---- wrong codes

  -- an image that is not of version 3 has no wrong code
  pub plain_codes : is_version3 h ≡ false → first_code_refusal h ≡ none
  unfolding first_code_refusal
  plain_codes e = cond_false _ _ e

  module _ (v : is_version3 h ≡ true) where
    -- the first side that has a wrong code is refused
    pub codes_found : (k : ℕ) (r : Reply) → k < tracks * sides → first_some (side_refusal h) k ≡ none → side_refusal h k ≡ some r
        → first_code_refusal h ≡ some r
    unfolding first_code_refusal
    codes_found k r l e g = cond_true _ _ v ∙ first_some_found (side_refusal h) _ k r (omega arith) e g

    -- where no side has a wrong code, there is no refusal
    pub codes_none : first_some (side_refusal h) (tracks * sides) ≡ none → first_code_refusal h ≡ none
    unfolding first_code_refusal
    codes_none e = cond_true _ _ v ∙ first_some_none (side_refusal h) _ (λ k l. first_some_each (side_refusal h) (tracks * sides) e k (omega arith))

  -- the refusal for a wrong code is 18
  pub codes_number : (r : Reply) → first_code_refusal h ≡ some r → r.number ≡ 18
  unfolding first_code_refusal
  codes_number r e =
      by_test (is_version3 h)
      (λ t.
      let w = first_some_told (side_refusal h) _ r (sym (cond_true _ _ t) ∙ e) in
      code_number w.0 (coded_side h (w.0 / sides) (w.0 % sides)) r w.2)
      (λ f. let z : ◌≡◌ {A = ℕ} 0 1 = cc (sym (plain_codes f) ∙ e) in absurd (omega arith))
