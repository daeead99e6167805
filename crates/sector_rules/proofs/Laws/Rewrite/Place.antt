-- The cell place of a sector's data: where the search for a field stops, and that data and CRC are before the end of the side.
-- Rests on what an answer says of how it came (Base.Told).
use Rattle.std.specs.Prelude.{Ok, Err, Bool, true, false, cond, ◌&&◌, List, ◌≡◌, refl, ℕ, zero, suc, ◌+◌, ◌-◌, ◌≤◌, leb}
use Rattle.std.proofs.lemmas.Bool.{false≢true}
use Rattle.std.proofs.Common.{sym, ap, ◌∙◌}
use native.Mathlib.Omega.{arith}
use Rattle.std.proofs.Math.Dec.{eqb}
use Rattle.std.proofs.Math.ListN.{length}
use Rattle.laws.specs.Laws.Cases.{by_test}
use Rattle.laws.specs.Laws.Tests.{true≢false, cond_true, cond_false, true_le, and_left}
use Rattle.cells.specs.Stream.{from, data_byte}
use Rattle.cells.specs.Sync.{three_sync}
use Rattle.cells.proofs.Laws.Stream.{from_length}
use Rattle.sector_rules.specs.declared.Found.{Found}
use Rattle.sector_rules.specs.declared.Found.TheVariants.{One, Nothing, Several}
use Rattle.sector_rules.specs.declared.SectorFault.TheVariants.{NoField, Damaged}
use Rattle.sector_rules.specs.Search.{crc_holds, data_mark, header_cells, field_cells, gap_cells, first, find_sector, field_at, field_of, sector_found}
use Rattle.sector_rules.specs.Search.{sector_of}
use Rattle.sector_rules.specs.Rewritten.{field_place, data_place_of, data_place, data_cells, has_field}
use Rattle.sector_rules.proofs.Laws.Base.Told.{field_place_lem}

-- where a search place by place gives a value that `none` is not, it gives what f has at the place where it stops
pub first_same : {A : Type 0} (p : ℕ → Bool) (f : ℕ → A) (none : A) (has : A → Bool) → has none ≡ false
    → (m i : ℕ) → has (first p f none m i) ≡ true → first p f none m i ≡ f (first p (λ (j : ℕ). j) 0 m i)
unfolding first
first_same p f none has u zero i e = true≢false (has none) e u
first_same p f none has u (suc m) i e =
    by_test (p i)
    (λ t. cond_true (f i) (first p f none m (suc i)) t ∙ ap f (sym (cond_true i (first p (λ (j : ℕ). j) 0 m (suc i)) t)))
    (λ t.
    let z : first p f none (suc m) i ≡ first p f none m (suc i) = cond_false (f i) (first p f none m (suc i)) t in
    z ∙ first_same p f none has u m (suc i) (ap has (sym z) ∙ e) ∙ ap f (sym (cond_false i (first p (λ (j : ℕ). j) 0 m (suc i)) t)))

-- ---- a field

has_told : (a b : Bool) (p : ℕ) → has_field (cond a (cond b (Ok p) (Err Damaged)) (Err NoField)) ≡ true → a ≡ true
has_told true b p e = refl
has_told false b p e = e

module _ (c : List ℕ) (j : ℕ) where
  -- a field that is there, its CRC right or wrong, is before the end of the side
  pub field_within : has_field (field_at c j) ≡ true → j + field_cells ≤ length c
  unfolding field_at
  field_within e =
      let a = has_told (leb field_cells (length (from c j)) && eqb (data_byte (from c j) 48) data_mark) (crc_holds (from c j) 516) (j + 64) e in
      let l : field_cells ≤ length (from c j) = true_le (and_left (leb field_cells (length (from c j))) (eqb (data_byte (from c j) 48) data_mark) a) in
      let z : length (from c j) ≡ length c - j = from_length c j in
      omega arith

-- where the header at place i has a field, it is the one at its place
pub field_is : (c : List ℕ) (i : ℕ) → has_field (field_of c i) ≡ true → field_of c i ≡ field_at c (field_place c i)
unfolding field_of field_place
field_is c i e = first_same (λ (j : ℕ). three_sync (from c j)) (field_at c) (Err NoField) has_field refl (gap_cells + 1) (i + header_cells) e

-- ---- a sector

found_within : (c : List ℕ) (f : Found) → has_field (sector_found c f) ≡ true → data_place_of c f + data_cells ≤ length c
unfolding sector_found data_place_of
found_within c (One i) e =
    let l : field_place c i + field_cells ≤ length c = field_within c (field_place c i) (ap has_field (sym (field_is c i e)) ∙ e) in
    omega arith
found_within c Nothing e = absurd (false≢true e)
found_within c Several e = absurd (false≢true e)

found_place : (c : List ℕ) (f : Found) (p : ℕ) → sector_found c f ≡ Ok p → data_place_of c f ≡ p
unfolding sector_found data_place_of
found_place c (One i) p e = field_place_lem c (field_place c i) p (sym (field_is c i (ap has_field e)) ∙ e)
found_place c Nothing p e = let z : ◌≡◌ {A = ℕ} 0 1 = cc in absurd (omega arith)
found_place c Several p e = let z : ◌≡◌ {A = ℕ} 0 1 = cc in absurd (omega arith)

module _ (c : List ℕ) (t s r : ℕ) where
  -- where a sector has a field, the cells of its data and CRC are before the end of the side
  pub data_within : has_field (sector_of c t s r) ≡ true → data_place c t s r + data_cells ≤ length c
  unfolding sector_of data_place
  data_within e = found_within c (find_sector c t s r) e

  -- the data of a sector that is delivered are at the place it is delivered from
  pub data_place_is : (p : ℕ) → sector_of c t s r ≡ Ok p → data_place c t s r ≡ p
  unfolding sector_of data_place
  data_place_is p e = found_place c (find_sector c t s r) p e
