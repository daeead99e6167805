-- Where known cells of a written sector differ from those of its header, or of its data field, that is moved to another place.
-- Rests on the known cells of a sector (Known), the cells that are read (Read), and computed tests.
use Rattle.std.specs.Prelude.{Bool, true, false, ◌&&◌, ◌||◌, List, [], ◌∷◌, ◌≡◌, refl, ℕ, ◌+◌, ◌-◌, ◌*◌, ◌%◌, ◌≤◌, ◌<◌, eqb, leb, ltb}
use Rattle.std.proofs.Common.{arith}
use Rattle.laws.specs.Below.{all, lowest}
use Rattle.laws.specs.Laws.Cases.{by_test}
use Rattle.laws.specs.Laws.Tests.{true_le, true_lt, true≢false, eq_false, or_none, or_other, and_left, and_right}
use Rattle.laws.specs.Laws.All.{all_at}
use Rattle.laws.specs.Laws.Lowest.{lowest_hit}
use Rattle.cells.specs.Mfm.{bit_of}
use Rattle.sector_rules.specs.Packed.{span, with_crc, sector_item}
use Rattle.sector_rules.proofs.Laws.Burst.Read.{is_read}
use Rattle.sector_rules.proofs.Laws.Burst.Known.{known_mask, known_bit, known_clock, known_cell}

-- cells e and f of the sector are known, and differ
unfoldable pub clash : ℕ → ℕ → Bool
clash e f = eqb (known_cell e + known_cell f) 1

-- two cells that are read, 32 or more clash_pairs, at which what stands from cell z on does not fit from cell p on; the list has pairs to try
unfoldable pub clash_pairs : ℕ → ℕ → ℕ → List ℕ → Bool
clash_pairs n z p [] = false
clash_pairs n z p (e ∷ []) = false
clash_pairs n z p (e ∷ (f ∷ es)) = (clash (z + e) (p + e) && clash (z + f) (p + f) && leb (e + 32) f && is_read n e && is_read n f) || clash_pairs n z p es

-- two cells that such a test found
pub record Apart (n z p : ℕ) : Type 0 where
  pub low : ℕ
  pub high : ℕ
  pub far : low + 32 ≤ high
  pub low_read : is_read n low ≡ true
  pub high_read : is_read n high ≡ true
  pub low_clash : clash (z + low) (p + low) ≡ true
  pub high_clash : clash (z + high) (p + high) ≡ true

module _ (n z p e f : ℕ) (u : (clash (z + e) (p + e) && clash (z + f) (p + f) && leb (e + 32) f && is_read n e && is_read n f) ≡ true) where
  first_pair : Apart n z p
  first_pair =
      let a₁ = and_left (clash (z + e) (p + e) && clash (z + f) (p + f) && leb (e + 32) f && is_read n e) (is_read n f) u in
      let a₂ = and_left (clash (z + e) (p + e) && clash (z + f) (p + f) && leb (e + 32) f) (is_read n e) a₁ in
      let a₃ = and_left (clash (z + e) (p + e) && clash (z + f) (p + f)) (leb (e + 32) f) a₂ in
      record {
        low = e;
        high = f;
        far = true_le (and_right (clash (z + e) (p + e) && clash (z + f) (p + f)) (leb (e + 32) f) a₂);
        low_read = and_right (clash (z + e) (p + e) && clash (z + f) (p + f) && leb (e + 32) f) (is_read n e) a₁;
        high_read = and_right (clash (z + e) (p + e) && clash (z + f) (p + f) && leb (e + 32) f && is_read n e) (is_read n f) u;
        low_clash = and_left (clash (z + e) (p + e)) (clash (z + f) (p + f)) a₃;
        high_clash = and_right (clash (z + e) (p + e)) (clash (z + f) (p + f)) a₃;
      }

-- a pair that the test found is two cells that are read, 32 or more apart, and do not fit
pub apart_told : (n z p : ℕ) (es : List ℕ) → clash_pairs n z p es ≡ true → Apart n z p
unfolding clash_pairs
apart_told n z p [] t = true≢false false t refl
apart_told n z p (e ∷ []) t = true≢false false t refl
apart_told n z p (e ∷ (f ∷ es)) t =
    by_test (clash (z + e) (p + e) && clash (z + f) (p + f) && leb (e + 32) f && is_read n e && is_read n f)
    (λ u. first_pair n z p e f u)
    (λ u. apart_told n z p es (or_other _ (clash_pairs n z p es) t u))

-- ---- the tests

-- a header, which stands at cell 192, moved by up to 190 cells; 16 cells on, where two of its sync bytes stand already, it is told clash_pairs by its bytes
header_pairs : List ℕ
header_pairs =
    21 ∷ 53 ∷ 12 ∷ 44 ∷ 61 ∷ 125 ∷ 1 ∷ 33 ∷ 8 ∷ 59 ∷ 91 ∷ 123 ∷ 87 ∷ 119 ∷ 5 ∷ 40 ∷ 15 ∷ 81 ∷ 3 ∷ 125 ∷ 31 ∷ 93 ∷ 9 ∷ 83 ∷ 17 ∷ 53 ∷ 2 ∷ 63 ∷ 24 ∷ 115 ∷ []

headers_clash : all (λ (k : ℕ). (eqb k 190 || eqb k 206 || clash_pairs 128 192 (k + 2) header_pairs)) 381 ≡ true
unfolding all clash_pairs header_pairs clash is_read known_cell known_clock known_bit known_mask bit_of sector_item span with_crc
headers_clash = refl

-- a header moved by up to 190 cells, but for 16 on, does not fit at two cells of which a burst reaches one at most
pub header_apart : (p : ℕ) → 2 ≤ p → p < 383 → (p ≡ 192 → ⊥) → (p ≡ 208 → ⊥) → Apart 128 192 p
header_apart p lo hi n₁ n₂ =
    let k : p - 2 + 2 ≡ p = omega arith in
    rw k at
    (apart_told 128 192 (p - 2 + 2) header_pairs
    (or_other (eqb (p - 2) 190 || eqb (p - 2) 206) (clash_pairs 128 192 (p - 2 + 2) header_pairs)
    (all_at (λ (m : ℕ). (eqb m 190 || eqb m 206 || clash_pairs 128 192 (m + 2) header_pairs)) 381 headers_clash (p - 2) (omega arith))
    (or_none (eqb (p - 2) 190) (eqb (p - 2) 206) (eq_false (λ (e : p - 2 ≡ 190). n₁ (omega arith))) (eq_false (λ (e : p - 2 ≡ 206). n₂ (omega arith))))))

-- a header moved on by 16 cells does not fit: its third sync byte falls on its mark
pub header_next : clash (192 + 35) (208 + 35) ≡ true
unfolding clash known_cell known_clock known_bit known_mask bit_of sector_item span with_crc
header_next = refl

-- a field, which stands at cell 896, moved back to any place after its header
field_pairs : List ℕ
field_pairs = 15 ∷ 47 ∷ 8 ∷ 40 ∷ 17 ∷ 55 ∷ 12 ∷ 44 ∷ 8 ∷ 49 ∷ 2 ∷ 59 ∷ 4 ∷ 55 ∷ []

fields_clash : all (λ (k : ℕ). clash_pairs 64 896 (k + 352) field_pairs) 544 ≡ true
unfolding all clash_pairs field_pairs clash is_read known_cell known_clock known_bit known_mask bit_of sector_item span with_crc
fields_clash = refl

-- a data field moved to a place before its own, to the end of its header, does not fit at two cells of which a burst reaches one at most
pub field_apart : (p : ℕ) → 352 ≤ p → p < 896 → Apart 64 896 p
field_apart p lo hi =
    let k : p - 352 + 352 ≡ p = omega arith in
    rw k at
    (apart_told 64 896 (p - 352 + 352) field_pairs
    (all_at (λ (m : ℕ). clash_pairs 64 896 (m + 352) field_pairs) 544 fields_clash (p - 352) (omega arith)))

-- moved on by an even number of cells below 38, but for 16 and 32: one of its first ten cells
even_clash : all (λ (h : ℕ). (eqb (h % 8) 0 || ltb (lowest (λ (e : ℕ). clash (896 + e) (896 + 2 * h + e)) 10) 10)) 19 ≡ true
unfolding all lowest clash known_cell known_clock known_bit known_mask bit_of sector_item span with_crc
even_clash = refl

-- a data field moved on by an even number of cells below 38, but for 16 and 32, does not fit at one of its first ten cells
pub field_even : (h : ℕ) → h < 19 → (h % 8 ≡ 0 → ⊥) → (e : ℕ) × (e < 10) × (clash (896 + e) (896 + 2 * h + e) ≡ true)
field_even h l n =
    let t = true_lt (or_other (eqb (h % 8) 0) _
    (all_at (λ (k : ℕ). (eqb (k % 8) 0 || ltb (lowest (λ (e : ℕ). clash (896 + e) (896 + 2 * k + e)) 10) 10)) 19 even_clash h l) (eq_false n)) in
    (lowest (λ (e : ℕ). clash (896 + e) (896 + 2 * h + e)) 10, t, lowest_hit (λ (e : ℕ). clash (896 + e) (896 + 2 * h + e)) 10 t)

-- by an odd number below 22: one of its first 26 cells
odd_clash : all (λ (h : ℕ). ltb (lowest (λ (e : ℕ). clash (896 + e) (897 + 2 * h + e)) 26) 26) 11 ≡ true
unfolding all lowest clash known_cell known_clock known_bit known_mask bit_of sector_item span with_crc
odd_clash = refl

-- a data field moved on by an odd number of cells below 22 does not fit at one of its first 26 cells
pub field_odd : (h : ℕ) → h < 11 → (e : ℕ) × (e < 26) × (clash (896 + e) (897 + 2 * h + e) ≡ true)
field_odd h l =
    let t = true_lt (all_at (λ (k : ℕ). ltb (lowest (λ (e : ℕ). clash (896 + e) (897 + 2 * k + e)) 26) 26) 11 odd_clash h l) in
    (lowest (λ (e : ℕ). clash (896 + e) (897 + 2 * h + e)) 26, t, lowest_hit (λ (e : ℕ). clash (896 + e) (897 + 2 * h + e)) 26 t)
