-- What a rewrite asks of one sector of the result, by what the sector gave before and gives now.
-- Rests on the laws of what a sector gives (Base.Unpacked of sector_rules) and of lists.
use Rattle.std.specs.Prelude.{Ok, Err, Bool, true, false, ◌&&◌, ◌≢◌, ◌≡◌, ℕ, suc, ◌+◌, ◌<◌, length, get_or}
use mathlib.Core.List.{List, [], ◌∷◌}
use Rattle.std.proofs.Math.Path.{refl, sym, ap}
use Rattle.std.proofs.Common.{◌∙◌, arith}
use Rattle.std.proofs.Math.Bool.{cond}
use Rattle.std.proofs.Math.Dec.{eqb}
use Rattle.std.proofs.lemmas.Bool.{eqb-false}
use Rattle.laws.specs.Changes.{overlay}
use Rattle.laws.specs.Lists.{tab, same}
use Rattle.laws.specs.Below.{all}
use Rattle.laws.specs.Laws.All.{all_is, all_at}
use Rattle.laws.specs.Laws.Cases.{by_test}
use Rattle.laws.specs.Laws.Same.{same_eq, eq_same}
use Rattle.laws.specs.Laws.Tab.{tab_in, eq_tab}
use Rattle.laws.specs.Laws.Tests.{true_eq, true≢false, and_true, and_false_left, eq_true, eq_false, cond_true, cond_false}
use Rattle.laws.specs.Laws.Overlay.{overlay_all}
use Rattle.sector_rules.specs.Search.{Sector}
use Rattle.sectors.specs.declared.SectorField.{SectorField}
use Rattle.sectors.specs.Laws.Unpacking.Sides.{no_field}
use Rattle.sector_rules.specs.declared.SectorFault.{SectorFault}
use Rattle.sector_rules.specs.declared.SectorFault.TheVariants.{Missing, Repeated, NoField, Damaged}
use Rattle.sector_rules.specs.Geometry.{sector_bytes}
use Rattle.sector_rules.specs.Hfe.{side_stream}
use Rattle.sector_rules.specs.Search.{sector_byte, delivered_bytes}
use Rattle.sector_rules.specs.Unpacked.{track_of, side_of, is_bad, sector_at, sector_bytes_at, sector_reply}
use Rattle.sector_rules.specs.Rewritten.{gives_data, same_sector, sector_right}
use Rattle.sector_rules.proofs.Laws.Base.Unpacked.{good_is, bad_number_lem}
use Rattle.sector_rules.specs.Unpacked.{place_of}

-- the 512 bytes of image sector q at this place
abbrev pub bytes_at : List ℕ → ℕ → ℕ → List ℕ
bytes_at h q p = tab (sector_byte (side_stream h (track_of q) (side_of q)) p) sector_bytes

-- a row that a rule gives is the same as a list if each of its elements is
pub rule_same : (f : ℕ → ℕ) (n : ℕ) (ys : List ℕ) → length ys ≡ n → all (λ (k : ℕ). eqb (f k) (get_or ys k 0)) n ≡ same (tab f n) ys
rule_same f n ys l =
    by_test (all (λ (k : ℕ). eqb (f k) (get_or ys k 0)) n)
    (λ t. t ∙ sym (eq_same (tab f n) ys (sym (eq_tab ys f n l (λ k h. sym (true_eq (all_at (λ (i : ℕ). eqb (f i) (get_or ys i 0)) n t k h)))))))
    (λ t.
    by_test (same (tab f n) ys)
    (λ u. absurd (true≢false (all (λ (k : ℕ). eqb (f k) (get_or ys k 0)) n)
    (all_is (λ (k : ℕ). eqb (f k) (get_or ys k 0)) n
    (λ k h. eq_true (sym (tab_in f n k h) ∙ ap (λ (xs : List ℕ). get_or xs k 0) (same_eq (tab f n) ys u)))) t))
    (λ u. t ∙ sym u))

-- ---- one answer

number_good : (q : ℕ) (x : Sector) → (sector_reply q x).number ≡ 0 → x ≡ Ok (place_of x)
number_good q x e = by_test (is_bad x) (λ b. absurd (eqb-false (sector_reply q x).number 0 (bad_number_lem q x b) e)) (good_is x)

module _ (h : List ℕ) (q : ℕ) (x : Sector) (is : x ≡ sector_at h q) where
  -- a sector whose number is 0 gives the bytes at its place
  good_bytes : (sector_reply q x).number ≡ 0 → sector_bytes_at h q ≡ bytes_at h q (place_of x)
  unfolding sector_bytes_at delivered_bytes
  good_bytes e = rw (sym is ∙ number_good q x e)

  -- a sector with another number gives none
  bad_bytes : (sector_reply q x).number ≢ 0 → sector_bytes_at h q ≡ []
  unfolding sector_bytes_at delivered_bytes
  bad_bytes n = ap (delivered_bytes (side_stream h (track_of q) (side_of q))) (sym is) ∙ none x n
    where
      none : (y : Sector) → (sector_reply q y).number ≢ 0 → delivered_bytes (side_stream h (track_of q) (side_of q)) y ≡ []
      none (Ok p) e = absurd (e refl)
      none (Err Missing) e = refl
      none (Err Repeated) e = refl
      none (Err NoField) e = refl
      none (Err Damaged) e = refl

same_sym : (xs ys : List ℕ) → same xs ys ≡ same ys xs
same_sym xs ys =
    by_test (same ys xs) (λ t. eq_same xs ys (sym (same_eq ys xs t)) ∙ sym t)
    (λ t. by_test (same xs ys) (λ u. true≢false (same ys xs) (eq_same ys xs (sym (same_eq xs ys u))) t) (λ u. u ∙ sym t))

-- a sector without bytes has another number than 0
pub fault_number : (q : ℕ) (f : SectorFault) → (sector_reply q (Err f)).number ≢ 0
fault_number q Missing e = omega arith
fault_number q Repeated e = omega arith
fault_number q NoField e = omega arith
fault_number q Damaged e = omega arith

fault_at : ℕ → SectorFault
fault_at n = cond (eqb n 4) Missing (cond (eqb n 5) Repeated (cond (eqb n 6) NoField Damaged))

fault_back : (q : ℕ) (f : SectorFault) → fault_at (sector_reply q (Err f)).number ≡ f
unfolding fault_at
fault_back q Missing = refl
fault_back q Repeated = refl
fault_back q NoField = refl
fault_back q Damaged = refl

-- two faults of one number are one
pub fault_same : (q : ℕ) (f k : SectorFault) → (sector_reply q (Err f)).number ≡ (sector_reply q (Err k)).number → f ≡ k
fault_same q f k e = sym (fault_back q f) ∙ ap fault_at e ∙ fault_back q k

-- ---- the sector as it must be

module _ (h g : List ℕ) (m : ℕ) (d : List ℕ) (q : ℕ) where
  -- another sector that gives what it gave is as it must be
  pub right_same : q ≢ m → sector_at g q ≡ sector_at h q → sector_bytes_at g q ≡ sector_bytes_at h q → sector_right h g m d q ≡ true
  unfolding sector_right
  right_same ne a b =
      cond_false (gives_data g m d) (same_sector h g q) (eq_false ne)
      ∙ and_true (eq_true (ap (λ (x : Sector). (sector_reply q x).number) (sym a))) (eq_same _ _ (sym b))

  module _ (y : Sector) (now : y ≡ sector_at g q) where
    number_now : (sector_reply q (sector_at g q)).number ≡ (sector_reply q y).number
    number_now = ap (λ (z : Sector). (sector_reply q z).number) (sym now)

    module _ (own : q ≡ m) where
      own_is : sector_right h g m d q ≡ (eqb (sector_reply q y).number 0 && same (sector_bytes_at g q) d)
      unfolding sector_right
      own_is =
          cond_true (gives_data g m d) (same_sector h g q) (eq_true own)
          ∙ ap (λ (k : ℕ). gives_data g k d) (sym own)
          ∙ ap (λ (k : ℕ). eqb k 0 && same (sector_bytes_at g q) d) number_now

      -- this sector must not have another number than 0
      pub own_wrong : (sector_reply q y).number ≢ 0 → sector_right h g m d q ≡ false
      own_wrong n = own_is ∙ and_false_left (same (sector_bytes_at g q) d) (eq_false n)

      -- with the number 0 its bytes decide
      pub own_reads : (sector_reply q y).number ≡ 0 → (r : Bool) → r ≡ same (bytes_at g q (place_of y)) d → r ≡ sector_right h g m d q
      own_reads z r e =
          e ∙ ap (λ (xs : List ℕ). same xs d) (sym (good_bytes g q y now z))
          ∙ sym (own_is ∙ ap (λ (b : Bool). b && same (sector_bytes_at g q) d) (eq_true z))

    module _ (x : Sector) (was : x ≡ sector_at h q) (other : q ≢ m) where
      other_is : sector_right h g m d q
          ≡ (eqb (sector_reply q x).number (sector_reply q y).number && same (sector_bytes_at h q) (sector_bytes_at g q))
      unfolding sector_right
      other_is =
          cond_false (gives_data g m d) (same_sector h g q) (eq_false other)
          ∙ ap (λ (k : ℕ). eqb k (sector_reply q (sector_at g q)).number && same (sector_bytes_at h q) (sector_bytes_at g q))
          (ap (λ (z : Sector). (sector_reply q z).number) (sym was))
          ∙ ap (λ (k : ℕ). eqb (sector_reply q x).number k && same (sector_bytes_at h q) (sector_bytes_at g q)) number_now

      -- another sector must not get another number
      pub other_wrong : (sector_reply q x).number ≢ (sector_reply q y).number → sector_right h g m d q ≡ false
      other_wrong n = other_is ∙ and_false_left (same (sector_bytes_at h q) (sector_bytes_at g q)) (eq_false n)

      module _ (equal : (sector_reply q x).number ≡ (sector_reply q y).number) where
        -- with a number that is not 0 it gives no bytes, before and now
        pub other_bad : (sector_reply q y).number ≢ 0 → sector_right h g m d q ≡ true
        other_bad n =
            other_is
            ∙ and_true (eq_true equal)
            (eq_same (sector_bytes_at h q) (sector_bytes_at g q)
            (bad_bytes h q x was (λ e. n (sym equal ∙ e)) ∙ sym (bad_bytes g q y now n)))

        -- with the number 0 its bytes must be those that it gave
        pub other_reads : (sector_reply q y).number ≡ 0 → (bytes : List ℕ) → bytes ≡ bytes_at h q (place_of x) → (r : Bool)
            → r ≡ same (bytes_at g q (place_of y)) bytes → r ≡ sector_right h g m d q
        other_reads z bytes b r e =
            e ∙ ap (same (bytes_at g q (place_of y))) b ∙ same_sym (bytes_at g q (place_of y)) (bytes_at h q (place_of x))
            ∙ ap (λ (xs : List ℕ). same xs (bytes_at g q (place_of y))) (sym (good_bytes h q x was (equal ∙ z)))
            ∙ ap (same (sector_bytes_at h q)) (sym (good_bytes g q y now z))
            ∙ sym (other_is ∙ ap (λ (b : Bool). b && same (sector_bytes_at h q) (sector_bytes_at g q)) (eq_true equal))

-- ---- the sectors of a side, one after the other

-- the list is what the sectors from q on give
abbrev pub GiveFrom : (ℕ → Sector) → ℕ → List SectorField → Type 0
GiveFrom f q [] = Unit {0}
GiveFrom f q (x ∷ xs) = (x.sector ≡ f q) × GiveFrom f (q + 1) xs

-- as is a list that has at each place what the sector there gives
pub give_from : (f : ℕ → Sector) (xs : List SectorField) (q : ℕ) → ((i : ℕ) → i < length xs → (get_or xs i no_field).sector ≡ f (q + i)) → GiveFrom f q xs
give_from f [] q each = tt
give_from f (x ∷ xs) q each = (
  (let z : q + 0 ≡ q = omega arith in rw z at (each 0 (omega arith))),
  give_from f xs (q + 1) (λ i l. let z : q + suc i ≡ q + 1 + i = omega arith in rw z at (each (suc i) (omega arith))),
)

-- ---- the bytes of a sector, by the cells of its side

module _ (h : List ℕ) (q p : ℕ) (c : List ℕ) (is : c ≡ side_stream h (track_of q) (side_of q)) where
  -- 512 bytes that the code writes over a list of 512 are those of the sector
  pub bytes_read : (d out : List ℕ) → length d ≡ sector_bytes → out ≡ overlay d 0 sector_bytes (sector_byte c p) → out ≡ bytes_at h q p
  bytes_read d out l e =
      e ∙ overlay_all d sector_bytes (sector_byte c p) l ∙ ap (λ (x : List ℕ). tab (sector_byte x p) sector_bytes) is
