-- Version 3: the reply for the codes of a side and of all sides, and the cells of a side in the buffer.
-- Rests on the laws of the two versions (Base.Versions of sector_rules) and of the first value that is there.
use Rattle.std.specs.Prelude.{Option as Answer, Some, None, true, false, cond, List, [], ◌≡◌, ℕ, ◌+◌, ◌*◌, ◌/◌, ◌%◌, ◌^◌, ◌<◌, ltb}
use Rattle.std.proofs.Math.Option.{Option, none, some}
use Rattle.std.proofs.Math.Path.{refl}
use Rattle.std.proofs.Common.{sym, ap, ◌∙◌, arith}
use Rattle.laws.specs.Options.{first_some}
use Rattle.laws.specs.Laws.Tests.{lt_true, cond_true}
use Rattle.laws.specs.Laws.Options.{first_some_next}
use Rattle.cells.specs.Stream.{hfe_side}
use Rattle.cells.specs.Codes.{stored_bytes, Decoded, Cells, WrongCode, coded, cells_of, wrong_of}
use Rattle.cells.specs.declared.Side.{Side}
use Rattle.sector_rules.specs.declared.Reply.{Reply}
use Rattle.sector_rules.specs.Replies.{reply_with, done}
use Rattle.sector_rules.specs.Geometry.{tracks, sides}
use Rattle.sector_rules.specs.Hfe.{is_version3, track_part, track_length, coded_side, side_stream}
use Rattle.sector_rules.specs.Unpacked.{side_code_refusal, first_code_refusal}
use Rattle.sector_rules.proofs.Laws.Base.Versions.{coded_stream, plain_codes, codes_none, codes_found, codes_number}
use Rattle.sector_rules.specs.Unpacked.{side_refusal}

-- bytes of a buffer that the cells of every side fit in
abbrev pub cell_bytes : ℕ
cell_bytes = 32768

-- a refusal as a reply: done where there is none
abbrev pub refusal_reply : Option Reply → Reply
refusal_reply none = done
refusal_reply (some r) = r

-- the reply for the codes of all sides
abbrev pub first_code_reply : List ℕ → Reply
first_code_reply h = refusal_reply (first_code_refusal h)

-- the reply for the n-th side by what the code finds on it
abbrev side_answer : ℕ → Answer ℕ → Reply
side_answer n (Some p) = reply_with 18 (n / sides) (n % sides) p
side_answer n None = done

-- ---- one side

answer_is : (n : ℕ) (x : Decoded) → side_answer n (wrong_of x) ≡ refusal_reply (side_code_refusal n x)
unfolding wrong_of
answer_is n (Cells c) = refl
answer_is n (WrongCode p) = refl

-- the reply for what the code finds on the n-th side is that side's
pub side_reply : (h : List ℕ) (n : ℕ) (part : List ℕ) (side : Side) (e : Answer ℕ) → part ≡ track_part h (n / sides)
    → side ≡ hfe_side (n % sides) (track_length h (n / sides)) → e ≡ wrong_of (coded (stored_bytes part side)) → side_answer n e ≡ refusal_reply
    (side_refusal h n)
unfolding coded_side
side_reply h n part side e is-part is-side is =
    let same : wrong_of (coded (stored_bytes part side)) ≡ wrong_of (coded_side h (n / sides) (n % sides)) = rw (is-part, is-side) in
    ap (side_answer n) (is ∙ same) ∙ answer_is n (coded_side h (n / sides) (n % sides))

-- ---- all sides

-- a reply that is not 0 is a refusal that is there
pub refusal_there : (o : Option Reply) (r : Reply) → r ≡ refusal_reply o → (r.number ≡ 0 → ⊥) → o ≡ some r
refusal_there none r e n = absurd (n (ap (λ (x : Reply). x.number) e))
refusal_there (some x) r e n = ap some (sym e)

refusal_absent : (o : Option Reply) → ((x : Reply) → o ≡ some x → x.number ≡ 18) → (r : Reply) → r ≡ refusal_reply o → r.number ≡ 0 → o ≡ none
refusal_absent none is r e z = refl
refusal_absent (some x) is r e z = absurd (omega (arith, is x refl, ap (λ (y : Reply). y.number) e, z))

module _ (h : List ℕ) where
  side_number : (n : ℕ) (y : Decoded) (x : Reply) → side_code_refusal n y ≡ some x → x.number ≡ 18
  side_number n (Cells c) x e = let z : ◌≡◌ {A = ℕ} 0 1 = cc in absurd (omega arith)
  side_number n (WrongCode p) x e = let z : reply_with 18 (n / sides) (n % sides) p ≡ x = cc in ap (λ (y : Reply). y.number) (sym z)

  -- of no side none has a wrong code
  pub sides_none : first_some (side_refusal h) 0 ≡ none
  unfolding first_some
  sides_none = refl

  -- one more side without a wrong code
  pub sides_right : (n : ℕ) (r : Reply) → first_some (side_refusal h) n ≡ none → r ≡ refusal_reply (side_refusal h n) → r.number ≡ 0
      → first_some (side_refusal h) (n + 1) ≡ none
  sides_right n r e is z =
      first_some_next (side_refusal h) n e
      (refusal_absent (side_refusal h n) (side_number n (coded_side h (n / sides) (n % sides))) r is z)

  -- the first side with a wrong code decides
  pub sides_wrong : is_version3 h ≡ true → (n : ℕ) (r : Reply) → n < tracks * sides → first_some (side_refusal h) n ≡ none
      → r ≡ refusal_reply (side_refusal h n) → (r.number ≡ 0 → ⊥) → r ≡ first_code_reply h
  sides_wrong v n r l e is z = sym (ap refusal_reply (codes_found h v n r l e (refusal_there (side_refusal h n) r is z)))

  -- where no side has one the reply is done
  pub sides_done : is_version3 h ≡ true → first_some (side_refusal h) (tracks * sides) ≡ none → (r : Reply) → r ≡ done → r ≡ first_code_reply h
  sides_done v e r is = is ∙ sym (ap refusal_reply (codes_none h v e))

  -- and so it is where the image is not of version 3
  pub plain_done : is_version3 h ≡ false → (r : Reply) → r ≡ done → r ≡ first_code_reply h
  plain_done v r is = is ∙ sym (ap refusal_reply (plain_codes h v))

  -- where the reply for all sides is 0, no code is wrong
  pub codes_right : (r : Reply) → r ≡ first_code_reply h → r.number ≡ 0 → first_code_refusal h ≡ none
  codes_right r e z = refusal_absent (first_code_refusal h) (codes_number h) r e z

  -- where it is not 0, it is the refusal
  pub codes_wrong : (r : Reply) → r ≡ first_code_reply h → (r.number ≡ 0 → ⊥) → first_code_refusal h ≡ some r
  codes_wrong r e z = refusal_there (first_code_refusal h) r e z

-- ---- the cells of a side

-- the cells that are made in the buffer are those of the side
pub coded_cells : (h : List ℕ) (t s : ℕ) → is_version3 h ≡ true → (part : List ℕ) (side : Side) (long size : ℕ) → part ≡ track_part h t → side ≡ hfe_side s long
    → long ≡ track_length h t → long < 2 ^ 16 → size ≡ cell_bytes → (c : List ℕ)
    → c ≡ cond (ltb (side.cells / 8) size) (cells_of (coded (stored_bytes part side))) [] → c ≡ side_stream h t s
unfolding coded_side
coded_cells h t s v part side long size is-part is-side is-long l is-size c e =
    let w : side.cells / 8 < size = rw (is-side, is-size) (omega arith) in
    let same : cells_of (coded (stored_bytes part side)) ≡ cells_of (coded_side h t s) = rw (is-part, is-side, is-long) in
    e ∙ cond_true _ _ (lt_true w) ∙ same ∙ sym (coded_stream h t s v)
