-- The HFE header by value: the proof of hfe_header_values (HeaderValues.antt).
-- Rests on: the laws of the packed image (Base/Packed) and of wrong codes (Base/Versions); all else is computed.
use Rattle.std.proofs.Math.Bool.{true}
use Rattle.std.specs.Prelude.{Some, None, Ok, Err, List, ◌++◌, map, ◌≡◌, ℕ, ◌+◌, ◌≤◌, ◌<◌, ltb, set, take, drop, replicate}
use Rattle.std.proofs.Math.Option.{Option, none, some}
use Rattle.std.proofs.Math.Path.{refl, ap}
use Rattle.std.proofs.Common.{◌∙◌, arith, lit<, length-append, length-set, length-take, length-drop}
use Rattle.std.proofs.Math.Dec.{leb}
use Rattle.std.proofs.Math.ListN.{length, get_or, get_or-append}
use Rattle.std.proofs.lemmas.List.{length-map}
use Rattle.laws.specs.Laws.Cases.{by_test}
use Rattle.laws.specs.Laws.Tab.{take_tab, tab_ext}
use Rattle.laws.specs.Laws.Tests.{le_true, lt_false, cond_true, cond_false}
use Rattle.laws.specs.Lists.{same, bytes_are, stands_at, tab}
use Rattle.laws.specs.Numbers.{low_first, low_byte}
use Rattle.laws.specs.Options.{or_else}
use Rattle.sector_rules.specs.Faults.{Fault}
use Rattle.sector_rules.specs.declared.Reply.{Reply}
use Rattle.sector_rules.specs.Search.{Sector}
use Rattle.sector_rules.specs.declared.SectorFault.TheVariants.{Missing, Repeated, NoField, Damaged}
use Rattle.sector_rules.specs.Faults.{refusal_at}
use Rattle.sector_rules.specs.Geometry.{all_sectors, image_bytes}
use Rattle.sector_rules.specs.Hfe.{hfe_signature, version3_signature, is_version1, is_version3}
use Rattle.sector_rules.specs.Hfe.{field_fault, format_fault, flag_fault, hfe_header_fault, table_fault}
use Rattle.sector_rules.proofs.Laws.Base.Packed.{hfe_header_lem, pack_done, hfe_after}
use Rattle.sector_rules.proofs.Laws.Base.Versions.{codes_number}
use Rattle.sector_rules.specs.Packed.{hfe_bytes, hfe_header_rest, hfe_header_byte, hfe_byte, pack_hfe}
use Rattle.sector_rules.specs.Replies.{done, unless}
use Rattle.sector_rules.specs.Unpacked.{sector_at, sector_reply, first_bad, sectors_reply, first_code_refusal, unpack_reply}
use Rattle.sector_rules.specs.HeaderValues.{hfe_header, version3_header, place_named, hfe_field_named, one_more, one_less, changed_at, changed_from}
use Rattle.sector_rules.specs.HeaderValues.{FieldsNamed, HfeHeaderValues}

-- a header of which one byte is changed is as long as before
pub changed_length : (g : ℕ → ℕ) (start : List ℕ) (o : ℕ) → length (changed_at g start o) ≡ length start
unfolding changed_at
changed_length g start o = length-set start o _

-- a header of which each byte from o on is changed is as long as before
pub changed_from_length : (g : ℕ → ℕ) (start : List ℕ) (o : ℕ) → o < length start → length (changed_from g start o) ≡ length start
unfolding changed_from
changed_from_length g start o l =
    length-append (take o start) (map g (drop o start)) ∙ rw (length-map (drop o start) g, length-take, length-drop) (omega arith)

abbrev fault_place : Fault → ℕ
fault_place (Some o) = o
fault_place None = 26

module _ (h : List ℕ) where
  by_sector : (m : ℕ) (x : Sector) → place_named 2 26 (sector_reply m x) ≡ 26
  unfolding place_named
  by_sector m (Ok p) = refl
  by_sector m (Err Missing) = refl
  by_sector m (Err Repeated) = refl
  by_sector m (Err NoField) = refl
  by_sector m (Err Damaged) = refl

  by_sectors : place_named 2 26 (sectors_reply h) ≡ 26
  unfolding sectors_reply place_named
  by_sectors =
      by_test (ltb (first_bad h) all_sectors)
      (λ t. ap (place_named 2 26) (cond_true _ _ t) ∙ by_sector (first_bad h) (sector_at h (first_bad h)))
      (λ t. ap (place_named 2 26) (cond_false _ _ t))

  by_codes : (x : Option Reply) → first_code_refusal h ≡ x → place_named 2 26 (unless x (λ (r : Reply). r) (sectors_reply h)) ≡ 26
  unfolding place_named unless
  by_codes (some r) e = rw (codes_number h r e)
  by_codes none e = by_sectors

  by_fault : (f g : Fault)
      → place_named 2 26 (unless (or_else (refusal_at 2 f) (or_else (refusal_at 3 g) (first_code_refusal h))) (λ (r : Reply). r)
      (sectors_reply h)) ≡ fault_place f
  unfolding place_named unless or_else
  by_fault (Some o) g = refl
  by_fault None (Some t) = refl
  by_fault None None = by_codes (first_code_refusal h) refl

  -- 2 names the lowest wrong field of the header
  named_is : 1024 ≤ length h → place_named 2 26 (unpack_reply h image_bytes) ≡ fault_place (hfe_header_fault h)
  unfolding unpack_reply
  named_is long = ap (place_named 2 26) (cond_false _ _ (lt_false long)) ∙ by_fault (hfe_header_fault h) (table_fault h)

-- two images with the same 26 bytes are judged alike
module _ (g h : List ℕ) (lg : 26 ≤ length g) (lh : 26 ≤ length h) (e : (k : ℕ) → k < 26 → get_or g k 0 ≡ get_or h k 0) where
  stands_alike : (letters : List ℕ) → length letters ≡ 8 → stands_at g 0 letters ≡ stands_at h 0 letters
  unfolding stands_at bytes_are
  stands_alike letters n =
      let lt : leb 8 (length g) ≡ true = le_true {a = 8} {b = length g} (omega arith) in
      let lu : leb 8 (length h) ≡ true = le_true {a = 8} {b = length h} (omega arith) in
      rw (n, lt, lu, tab_ext (λ (i : ℕ). get_or g (0 + i) 0) (λ (i : ℕ). get_or h (0 + i) 0) 8 (λ k l. e (0 + k) (omega arith)))

  letters_alike : (is_version1 g ≡ is_version1 h) × (is_version3 g ≡ is_version3 h)
  unfolding is_version1 is_version3 hfe_signature version3_signature
  letters_alike = (stands_alike hfe_signature refl, stands_alike version3_signature refl)

  judged_alike : hfe_header_fault g ≡ hfe_header_fault h
  unfolding hfe_header_fault field_fault format_fault flag_fault low_first
  judged_alike =
      rw (letters_alike.0, letters_alike.1, e 8 (lit< tt), e 9 (lit< tt), e 10 (lit< tt), e 11 (lit< tt), e 12 (lit< tt), e 13 (lit< tt))
      (rw (e 18 (lit< tt), e 19 (lit< tt), e 22 (lit< tt), e 23 (lit< tt), e 24 (lit< tt), e 25 (lit< tt)))

module _ (rest : List ℕ) (long : 998 ≤ length rest) where
  begins : (start : List ℕ) → length start ≡ 26 → hfe_field_named start rest ≡ fault_place (hfe_header_fault start)
  unfolding hfe_field_named
  begins start n =
      let l : length (start ++ rest) ≡ 26 + length rest = rw (length-append start rest, n) in
      named_is (start ++ rest) (omega arith)
      ∙ ap fault_place (judged_alike (start ++ rest) start (omega arith) (omega arith) (λ k h. get_or-append start rest 0 k (omega arith)))

packed_is : (image hfe : List ℕ) → length image ≡ image_bytes → length hfe ≡ hfe_bytes → take 512 (pack_hfe image hfe) ≡ hfe_header ++ replicate 486 0xFF
unfolding tab hfe_header_byte hfe_header_rest hfe_signature low_byte hfe_header
packed_is image hfe li lh =
    ap (take 512) (hfe_after image hfe done (pack_done (length image) (length hfe) lh li))
    ∙ take_tab (hfe_byte image) 512 hfe_bytes (omega arith)
    ∙ tab_ext (hfe_byte image) hfe_header_byte 512 (hfe_header_lem image)
    ∙ refl

-- what is named by f is what is named by g, where these agree on headers of 26 bytes
carried : (f g : List ℕ → ℕ) → ((start : List ℕ) → length start ≡ 26 → f start ≡ g start)
    → (header : List ℕ) → length header ≡ 26 → FieldsNamed g header → FieldsNamed f header
carried f g same header n x =
    record {
      one_more_lem = tab_ext _ _ 26 (λ o l. same (changed_at one_more header o) (changed_length one_more header o ∙ n)) ∙ x.one_more_lem;
      one_less_lem = tab_ext _ _ 26 (λ o l. same (changed_at one_less header o) (changed_length one_less header o ∙ n)) ∙ x.one_less_lem;
      all_less =
          tab_ext _ _ 26 (λ o l. same (changed_from one_less header o) (changed_from_length one_less header o (omega arith) ∙ n)) ∙ x.all_less;
      accepted = (same header n ∙ x.accepted.0, once 9 255 ∙ x.accepted.1, twice 22 0 23 0 ∙ x.accepted.2, twice 24 0 25 0 ∙ x.accepted.3);
      flag_refused = (twice 22 0 23 1 ∙ x.flag_refused.0, twice 24 0 25 1 ∙ x.flag_refused.1);
      in_order = (twice 12 0 18 0 ∙ x.in_order.0, twice 18 0 22 1 ∙ x.in_order.1, both_flags ∙ x.in_order.2);
    }
  where
    once : (o v : ℕ) → f (set header o v) ≡ g (set header o v)
    once o v = same (set header o v) (length-set header o v ∙ n)

    twice : (o v p w : ℕ) → f (set (set header o v) p w) ≡ g (set (set header o v) p w)
    twice o v p w = same (set (set header o v) p w) (length-set (set header o v) p w ∙ length-set header o v ∙ n)

    both_flags : f (set (set (set header 22 0) 23 1) 24 1) ≡ g (set (set (set header 22 0) 23 1) 24 1)
    both_flags =
        same (set (set (set header 22 0) 23 1) 24 1)
        (length-set (set (set header 22 0) 23 1) 24 1 ∙ length-set (set header 22 0) 23 1 ∙ length-set header 22 0 ∙ n)

version_1_judged : FieldsNamed (λ (start : List ℕ). fault_place (hfe_header_fault start)) hfe_header
unfolding tab hfe_header_fault is_version1 is_version3 field_fault format_fault flag_fault hfe_signature version3_signature hfe_header changed_at
    changed_from one_more
    one_less low_first stands_at bytes_are same
version_1_judged =
    record {
      one_more_lem = refl;
      one_less_lem = refl;
      all_less = refl;
      accepted = (refl, refl, refl, refl);
      flag_refused = (refl, refl);
      in_order = (refl, refl, refl);
    }

version_3_judged : FieldsNamed (λ (start : List ℕ). fault_place (hfe_header_fault start)) version3_header
unfolding tab hfe_header_fault is_version1 is_version3 field_fault format_fault flag_fault hfe_signature version3_signature hfe_header version3_header
    changed_at
    changed_from one_more one_less low_first stands_at bytes_are same
version_3_judged =
    record {
      one_more_lem = refl;
      one_less_lem = refl;
      all_less = refl;
      accepted = (refl, refl, refl, refl);
      flag_refused = (refl, refl);
      in_order = (refl, refl, refl);
    }

-- hfe_header_values: all of these hold
pub hfe_header_values : HfeHeaderValues
unfolding hfe_header version3_header
hfe_header_values =
    record {
      packed_header = packed_is;
      version_1 = λ rest long. carried _ _ (begins rest long) hfe_header refl version_1_judged;
      version_3 = λ rest long. carried _ _ (begins rest long) version3_header refl version_3_judged;
    }
