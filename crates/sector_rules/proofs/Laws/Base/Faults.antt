-- A judgement that finds nothing, what a track table without fault says of each track, and a header without fault of its fields.
-- Rests on the laws of the lowest number that passes a test.
use Rattle.std.specs.Prelude.{Some, None, Bool, true, false, ◌&&◌, ◌||◌, not, List, ◌≡◌, refl, ℕ, ◌+◌, ◌%◌, ◌≤◌, ◌<◌, leb, ltb, eqb, length, get_or}
use Rattle.std.proofs.Common.{ap, le_refl, arith}
use borrow.Author.Tests.{lt-ltb, le-ltb, leb-true, eqb-true, not-false}
use Rattle.laws.specs.Below.{lowest}
use Rattle.laws.specs.Numbers.{low_first}
use Rattle.laws.specs.Laws.Cases.{by_order}
use Rattle.laws.specs.Laws.Tests.{and_right}
use Rattle.laws.specs.Laws.Lowest.{lowest_none, lowest_all, lowest_cong}
use Rattle.sector_rules.specs.Faults.{Fault}
use Rattle.sector_rules.specs.Faults.{wrong_at, or_fault, fault_below, lowest_fault}
use Rattle.sector_rules.specs.Geometry.{tracks}
use Rattle.sector_rules.specs.Hfe.{is_version1, is_version3, format_fault, flag_fault, field_fault, hfe_header_fault}
use Rattle.sector_rules.specs.Hfe.{entry_place, track_start, track_length, track_unit_bytes, track_good, table_fault}

-- a fault at a place is a fault
pub at_not_sound : (m : ℕ) → Some m ≡ None → ⊥
at_not_sound m e = let z : ◌≡◌ {A = ℕ} 0 1 = cc in omega arith

-- where of two fields none is at fault, neither the first is nor the second
pub both_sound : (a b : Fault) → or_fault a b ≡ None → (a ≡ None) × (b ≡ None)
both_sound (Some o) b e = absurd (at_not_sound o e)
both_sound None b e = (refl, e)

-- a field without a fault is right
pub field_right : (o : ℕ) (right : Bool) → wrong_at o right ≡ None → right ≡ true
field_right o true e = refl
field_right o false e = absurd (at_not_sound o e)

module _ (p : ℕ → Bool) (n : ℕ) where
  -- where no number below n is at fault, there is no fault
  pub fault_none : ((k : ℕ) → k < n → p k ≡ false) → lowest_fault p n ≡ None
  unfolding lowest_fault fault_below
  fault_none h = rw (lowest_none p n h, le-ltb n n (le_refl n))

  -- where there is no fault, the test holds nowhere
  pub fault_all : lowest_fault p n ≡ None → (k : ℕ) → k < n → p k ≡ false
  unfolding lowest_fault fault_below
  fault_all e =
      by_order (lowest p n) n
      (λ l. let z : Some (lowest p n) ≡ None = rw (lt-ltb (lowest p n) n l) at e in absurd (at_not_sound (lowest p n) z))
      (λ l. lowest_all p n l)

-- two tests that agree below n find the same fault
pub fault_cong : (p q : ℕ → Bool) (n : ℕ) → ((k : ℕ) → k < n → p k ≡ q k) → lowest_fault p n ≡ lowest_fault q n
unfolding lowest_fault
fault_cong p q n e = ap (fault_below n) (lowest_cong p q n e)

-- ---- a table without fault

-- where the table has no fault, each track's entry is good
pub table_good : (h : List ℕ) → table_fault h ≡ None → (t : ℕ) → t < tracks → track_good h t ≡ true
unfolding table_fault
table_good h e t l = not-false (track_good h t) (fault_all (λ (k : ℕ). not (track_good h k)) tracks e t l)

-- the units of a track whose entry is good end within the image
pub track_within : (h : List ℕ) (t : ℕ) → track_good h t ≡ true → track_start h t + track_unit_bytes h t ≤ length h
unfolding track_good
track_within h t e =
    leb-true _ _
    (and_right (leb (entry_place h t + 4) (length h) && eqb (track_length h t % 2) 0 && ltb 0 (track_length h t))
    (leb (track_start h t + track_unit_bytes h t) (length h)) e)

-- ---- a header without fault

module _ (h : List ℕ) (e : hfe_header_fault h ≡ None) where
  after_letters : or_fault (format_fault h) (or_fault (wrong_at 18 (leb 1 (low_first h 18 2))) (or_fault (flag_fault h 22) (flag_fault h 24))) ≡ None
  unfolding hfe_header_fault field_fault
  after_letters = (both_sound (wrong_at 0 (is_version1 h || is_version3 h)) _ e).1

  -- where the header has no fault, its revision is 0
  pub revision_zero : get_or h 8 0 ≡ 0
  unfolding format_fault
  revision_zero = eqb-true _ _ (field_right 8 _ (both_sound (wrong_at 8 (eqb (get_or h 8 0) 0)) _ (both_sound (format_fault h) _ after_letters).0).0)

  -- where the header has no fault, the track table begins at unit 1 or later
  pub table_unit : 1 ≤ low_first h 18 2
  table_unit =
      leb-true _ _ (field_right 18 _ (both_sound (wrong_at 18 (leb 1 (low_first h 18 2))) _ (both_sound (format_fault h) _ after_letters).1).0)
