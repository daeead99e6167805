-- Headers, the search for the nine sectors of a side, and the data field, case by case.
-- Rests on the laws of the search in sector_rules (Base.Search).
use Rattle.std.specs.Option.{unwrap_or}
use Rattle.std.specs.Prelude.{Option, Some, None, IfSome, MatchOption, Ok, Err, Bool, true, false}
use Rattle.std.specs.Prelude.{cond, ◌&&◌, List, ◌≡◌, refl, eqb, length, get_or, set, replicate}
use Rattle.std.proofs.Math.Path.{sym, ap}
use Rattle.std.proofs.Common.{◌∙◌, subst, get_or-set_same}
use Rattle.std.specs.Array.{MapsFrom, IsMapOf}
use denote.Param.Members.{Mut, Called}
use Prim.Native.Nat.{ℕ, zero, suc, ◌+◌, ◌^◌, ◌≤◌, ◌<◌}
use native.Mathlib.Omega.{arith}
use Rattle.std.proofs.lemmas.List.{get_or-replicate}
use Rattle.std.proofs.Math.Seq.{get_or-set_other}
use borrow.Author.Tests.{le-leb, lt-leb, eq-eqb, ne_eqb}
use Rattle.laws.specs.Laws.Cases.{by_test, by_equal}
use Rattle.cells.specs.Stream.{from, data_byte}
use Rattle.cells.specs.Sync.{three_sync}
use Rattle.sector_rules.specs.Search.{FoundHeader}
use Rattle.sector_rules.specs.declared.Found.{Found}
use Rattle.sector_rules.specs.declared.Found.TheVariants.{Nothing}
use Rattle.sector_rules.specs.declared.SectorFault.TheVariants.{NoField, Damaged}
use Rattle.sector_rules.specs.Geometry.{sectors}
use Rattle.sector_rules.specs.Search.{crc_holds, header_mark, data_mark, header_cells, field_cells, gap_cells, is_header, id_of}
use Rattle.sector_rules.specs.Search.{header_of, is_header_of, header_at, places_below, found_of, find_sector, first, field_at, field_of}
use Rattle.sector_rules.specs.Rewritten.{field_place}
use Rattle.sector_rules.proofs.Laws.Base.Search.{found_yes, found_no}
use Rattle.sector_rules.specs.Search.{more_found}

-- ---- headers

-- too near the end for a header, or not
module _ (f : List ℕ) where
  -- no header stands where fewer than 160 cells are left
  pub header_past : length f < header_cells → header_of f ≡ None
  unfolding header_of is_header
  header_past h = rw (lt-leb header_cells (length f) h)

  -- where 160 cells are left, a header stands if it has three sync bytes, its mark and a CRC that holds
  pub header_fits : header_cells ≤ length f
      → header_of f ≡ cond (three_sync f && eqb (data_byte f 48) header_mark && crc_holds f 8) (Some (id_of f)) None
  unfolding header_of is_header
  header_fits h = rw (le-leb header_cells (length f) h)

-- ---- the search

-- r is a number, and it is k
abbrev pub names : Option ℕ → ℕ → Bool
names None k = false
names (Some r) k = eqb k r

-- r is which of the nine sectors, if any, the header belongs to, from 0
pub record Indexed (r : Option ℕ) (header : FoundHeader) (t s : ℕ) : Type 0 where
  pub inside : IfSome r (λ (k : ℕ). k < sectors)
  pub each : (k : ℕ) → k < sectors → is_header_of t s (k + 1) header ≡ names r k

-- an answer for each of the nine sectors of a side, R from 1
pub record BySector {A : Type 0} (none : A) (r : List A) (give : ℕ → A) : Type 0 where
  pub long : length r ≡ sectors
  pub each : (k : ℕ) → k < sectors → get_or r k none ≡ give k

-- the search's answers
abbrev pub Scanned : List Found → List ℕ → ℕ → ℕ → Type 0
Scanned r c t s = BySector Nothing r (λ (k : ℕ). find_sector c t s (k + 1))

-- the answers after one more place
module _ (c : List ℕ) (t s i : ℕ) (r : Option ℕ) (header : FoundHeader) (is : header ≡ header_of (from c i)) (x : Indexed r header t s) where
  places : ℕ → ℕ → List ℕ
  places k n = places_below (header_at c t s (k + 1)) n

  test : (k : ℕ) → k < sectors → header_at c t s (k + 1) i ≡ names r k
  unfolding header_at
  test k h = ap (is_header_of t s (k + 1)) (sym is) ∙ x.each k h

  other : (k : ℕ) → k < sectors → names r k ≡ false → found_of (places k (i + 1)) ≡ found_of (places k i)
  unfolding places
  other k h n = found_no (header_at c t s (k + 1)) i (test k h ∙ n)

  -- where no sector has the place, and where one has it
  module _ (found : List Found) (old : (k : ℕ) → k < sectors → get_or found k Nothing ≡ found_of (places_below (header_at c t s (k + 1)) i)) where
    -- at a place where no header of the nine sectors stands, the search's answers stay
    pub scan_no : r ≡ None → (k : ℕ) → k < sectors → get_or found k Nothing ≡ found_of (places_below (header_at c t s (k + 1)) (i + 1))
    unfolding places
    scan_no e k h = old k h ∙ sym (other k h (ap (λ (o : Option ℕ). names o k) e))

    -- at a place where a header of one of them stands, that sector's answer has one place more
    pub scan_yes : (j : ℕ) (v : Found) → r ≡ Some j → j < sectors → length found ≡ sectors → v ≡ more_found (get_or found j Nothing) i
        → (k : ℕ) → k < sectors → get_or (set found j v) k Nothing ≡ found_of (places_below (header_at c t s (k + 1)) (i + 1))
    unfolding places
    scan_yes j v g l n e k h =
        by_equal k j
        (λ (q : k ≡ j).
        rw q
        (get_or-set_same found j v Nothing (omega arith) ∙ e ∙ ap (λ (f : Found). more_found f i) (old j l)
        ∙ sym (found_yes (header_at c t s (j + 1)) i (test j l ∙ ap (λ (o : Option ℕ). names o j) g ∙ eq-eqb j j refl))))
        (λ (q : k ≡ j → ⊥).
        get_or-set_other found j k v Nothing q ∙ old k h ∙ sym (other k h (ap (λ (o : Option ℕ). names o k) g ∙ ne_eqb k j q)))

-- before the first place every answer is that there is none
pub scan_none : (c : List ℕ) (t s k : ℕ) → k < sectors → get_or (replicate sectors Nothing) k Nothing ≡ found_of (places_below (header_at c t s (k + 1)) 0)
unfolding places_below found_of
scan_none c t s k h = get_or-replicate sectors k Nothing Nothing h

-- after the last place the answers are those of the search
pub scan_all : (c : List ℕ) (t s n : ℕ) (found : List Found) → n ≡ length c → length found ≡ sectors
    → ((k : ℕ) → k < sectors → get_or found k Nothing ≡ found_of (places_below (header_at c t s (k + 1)) n)) → Scanned found c t s
unfolding find_sector
scan_all c t s n found e l h = record { long = l; each = λ k b. rw (← e) (h k b) }

-- ---- what `map` makes of an array

module _ {F A B : Type 0} (g : Mut F (A × Unit {0}) B) (f : F) (P : A → B → Type 0)
    (step : (x : A) (y : B) (q : F) → Called g f (x, tt) y q → (q ≡ f) × P x y) (xs : List A) (ys : List B) (d : A) (e : B) where
  mapped_from : (n i : ℕ) (p : F) → p ≡ f → MapsFrom g p xs ys i n → (k : ℕ) → k < n → P (get_or xs (i + k) d) (get_or ys (i + k) e)
  mapped_from zero i p z m k l = absurd (omega arith)
  mapped_from (suc n) i p z m zero l =
      let s = step m.1 m.2 m.0 (subst (λ (v : F). Called g v (m.1, tt) m.2 m.0) z m.5) in
      let a : i + 0 ≡ i = omega arith in
      rw (a, m.3.1 d, m.4.1 e) s.1
  mapped_from (suc n) i p z m (suc k) l =
      let s = step m.1 m.2 m.0 (subst (λ (v : F). Called g v (m.1, tt) m.2 m.0) z m.5) in
      let a : i + suc k ≡ i + 1 + k = omega arith in
      rw a (mapped_from n (i + 1) m.0 s.0 m.6 k (omega arith))

  -- a closure that stays as it is makes of each element one that stands in this relation to it
  pub mapped_each : (n : ℕ) → IsMapOf g f xs ys n → (k : ℕ) → k < n → P (get_or xs k d) (get_or ys k e)
  mapped_each n m k l = let a : 0 + k ≡ k = omega arith in let s = mapped_from n 0 f refl m.each k l in rw a at s

-- ---- the first place of a search

first_nowhere : (p : ℕ → Bool) (m i : ℕ) → ((k : ℕ) → i ≤ k → k < i + m → p k ≡ false) → first p (λ (j : ℕ). j) 0 m i ≡ 0
unfolding first
first_nowhere p zero i h = refl
first_nowhere p (suc m) i h = rw (h i (omega arith) (omega arith)) (first_nowhere p m (suc i) (λ k l n. h k (omega arith) (omega arith)))

first_at : (p : ℕ → Bool) (m i j : ℕ) → i ≤ j → j < i + m → p j ≡ true → ((k : ℕ) → i ≤ k → k < j → p k ≡ false) → first p (λ (j : ℕ). j) 0 m i ≡ j
unfolding first
first_at p zero i j l h e n = absurd (omega arith)
first_at p (suc m) i j l h e n =
    by_equal i j
    (λ (q : i ≡ j). rw (q, e))
    (λ (q : i ≡ j → ⊥).
    rw (n i (omega arith) (omega arith)) (first_at p m (suc i) j (omega arith) (omega arith) e (λ k a b. n k (omega arith) b)))

-- what a search finds, the first of the numbers from i on below n at which the test holds, is the first place; 0 where it finds none
pub first_found : (p : ℕ → Bool) (i n m : ℕ) → n ≡ i + m → (r : Option ℕ)
    → MatchOption r ((k : ℕ) → i ≤ k → k < n → p k ≡ false)
    (λ (j : ℕ). (i ≤ j) × (j < n) × (p j ≡ true) × ((k : ℕ) → i ≤ k → k < j → p k ≡ false))
    → unwrap_or r 0 ≡ first p (λ (j : ℕ). j) 0 m i
first_found p i n m e None x = sym (first_nowhere p m i (λ k l h. x k l (omega arith)))
first_found p i n m e (Some j) x = sym (first_at p m i j x.0 (omega arith) x.2 x.3)

-- what it finds is a place after 0
pub found_within : (p : ℕ → Bool) (i n : ℕ) → 0 < i → n ≤ 2 ^ 33 → (r : Option ℕ)
    → MatchOption r ((k : ℕ) → i ≤ k → k < n → p k ≡ false)
    (λ (j : ℕ). (i ≤ j) × (j < n) × (p j ≡ true) × ((k : ℕ) → i ≤ k → k < j → p k ≡ false))
    → IfSome r (λ (j : ℕ). (0 < j) × (j < 2 ^ 33))
found_within p i n a b None x = tt
found_within p i n a b (Some j) x = (omega (arith, x.0), omega (arith, x.1))

-- the test holds nowhere, so nothing is found
pub first_none : {A : Type 0} (p : ℕ → Bool) (f : ℕ → A) (none : A) (m i : ℕ) → ((j : ℕ) → i ≤ j → p j ≡ false) → first p f none m i ≡ none
unfolding first
first_none p f none zero i h = refl
first_none p f none (suc m) i h = rw (h i (omega arith)) (first_none p f none m (suc i) (λ j l. h j (omega arith)))

-- what is given at the first place, by that place: 0 is none, since places begin after 0
first_by_place : {A : Type 0} (p : ℕ → Bool) (f : ℕ → A) (none : A) (m i : ℕ) → 0 < i
    → first p f none m i ≡ cond (eqb (first p (λ (j : ℕ). j) 0 m i) 0) none (f (first p (λ (j : ℕ). j) 0 m i))
unfolding first
first_by_place p f none zero i h = refl
first_by_place p f none (suc m) i h =
    by_test (p i)
    (λ t. rw (t, ne_eqb i 0 (λ e. omega arith)))
    (λ t. rw t (first_by_place p f none m (suc i) (omega arith)))

-- ---- the field

-- the field of a header, by the place of its run
pub field_by_place : (c : List ℕ) (i : ℕ) → field_of c i ≡ cond (eqb (field_place c i) 0) (Err NoField) (field_at c (field_place c i))
unfolding field_of field_place
field_by_place c i = first_by_place (λ (j : ℕ). three_sync (from c j)) (field_at c) (Err NoField) (gap_cells + 1) (i + header_cells) (omega arith)

-- too near the end for a field, or not
module _ (c : List ℕ) (j : ℕ) where
  -- no data field stands where fewer than its cells are left
  pub field_past : length (from c j) < field_cells → field_at c j ≡ Err NoField
  unfolding field_at
  field_past h = rw (lt-leb field_cells (length (from c j)) h)

  -- where its cells are left, a data field is judged by its mark, then by its CRC
  pub field_fits : field_cells ≤ length (from c j)
      → field_at c j ≡ cond (eqb (data_byte (from c j) 48) data_mark) (cond (crc_holds (from c j) 516) (Ok (j + 64)) (Err Damaged)) (Err NoField)
  unfolding field_at
  field_fits h = rw (le-leb field_cells (length (from c j)) h)
