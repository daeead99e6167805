-- What an answer says of how it came: of a field that was delivered, of a header, of the search, of a sector, and of an image that was accepted.
-- Rests on the laws of the search (Search), of unpacking (Unpacked) and of wrong codes (Versions).
use Rattle.std.specs.Prelude.{Some, None, Ok, Err, Bool, cond, ◌&&◌, List, refl, leb, length}
use Rattle.std.proofs.Math.Bool.{true, false}
use Rattle.std.proofs.lemmas.Bool.{false≢true}
use Rattle.std.proofs.Math.Option.{Option, none, some}
use Rattle.std.proofs.Math.Path.{◌≡◌, sym, ap}
use Rattle.std.proofs.Common.{◌∙◌, add-zero}
use Prim.Native.Nat.{ℕ, zero, suc, ◌+◌, ◌≤◌, ◌<◌}
use native.Mathlib.Omega.{arith}
use Rattle.std.proofs.Math.Dec.{eqb}
use borrow.Author.Tests.{eqb-true}
use Rattle.laws.specs.Laws.Cases.{by_order, by_equal, by_test}
use Rattle.laws.specs.Laws.Tests.{true≢false, cond_true, cond_false, lt_true, eq_true, and_left, and_right}
use Rattle.laws.specs.Laws.Lowest.{lowest_all, lowest_hit}
use Rattle.cells.specs.Stream.{from, data_byte}
use Rattle.cells.specs.Sync.{three_sync}
use Rattle.sector_rules.specs.declared.Found.{Found}
use Rattle.sector_rules.specs.declared.Found.TheVariants.{One, Nothing, Several}
use Rattle.sector_rules.specs.Search.{Sector}
use Rattle.sector_rules.specs.declared.SectorFault.TheVariants.{NoField, Damaged}
use Rattle.sector_rules.specs.Faults.{Fault}
use Rattle.sector_rules.specs.declared.Reply.{Reply}
use Rattle.sector_rules.specs.Replies.{reply_with}
use Rattle.sector_rules.specs.Geometry.{all_sectors, image_bytes}
use Rattle.sector_rules.specs.Hfe.{hfe_header_fault, table_fault, side_stream}
use Rattle.sector_rules.specs.Unpacked.{track_of, side_of, r_of, sector_at, sector_reply, is_bad, first_bad, sectors_reply, least_hfe, unpack_reply}
use Rattle.sector_rules.specs.Unpacked.{first_code_refusal}
use Rattle.sector_rules.specs.Search.{crc_holds, header_mark, data_mark, header_cells, field_cells, gap_cells, is_header, id_of, header_of, is_header_of}
use Rattle.sector_rules.specs.Search.{header_at, places_below, found_of, find_sector, first, field_at, field_of, sector_found, sector_of}
use Rattle.sector_rules.proofs.Laws.Base.Search.{found_more}
use Rattle.sector_rules.specs.Search.{more_found}
use Rattle.sector_rules.proofs.Laws.Base.Unpacked.{good_is, bad_number_lem, short_reply, length_reply, header_reply, table_reply_lem}
use Rattle.sector_rules.specs.Unpacked.{place_of}
use Rattle.sector_rules.proofs.Laws.Base.Unpacked.{codes_reply, sound_reply}
use Rattle.sector_rules.proofs.Laws.Base.Versions.{codes_number}

-- ---- a field

told : (a b : Bool) (p q : ℕ) → cond a (cond b (Ok p) (Err Damaged)) (Err NoField) ≡ Ok q → (a ≡ true) × (b ≡ true) × (p ≡ q)
told true true p q e = (refl, refl, cc)
told true false p q e = let z : ◌≡◌ {A = ℕ} 0 1 = cc in absurd (omega arith)
told false b p q e = let z : ◌≡◌ {A = ℕ} 0 1 = cc in absurd (omega arith)

module _ (c : List ℕ) (j p : ℕ) (e : field_at c j ≡ Ok p) where
  -- a field that was delivered fits, has its mark, its CRC holds, and its bytes begin 64 cells after it
  pub field_told : ((leb field_cells (length (from c j)) && eqb (data_byte (from c j) 48) data_mark) ≡ true) × (crc_holds (from c j) 516 ≡ true) × (j + 64 ≡ p)
  unfolding field_at
  field_told = told (leb field_cells (length (from c j)) && eqb (data_byte (from c j) 48) data_mark) (crc_holds (from c j) 516) (j + 64) p e

  -- the bytes of a field that was delivered begin 64 cells after it
  pub field_place_lem : j + 64 ≡ p
  field_place_lem = field_told.2

  -- a field that was delivered has the data mark
  pub field_mark : data_byte (from c j) 48 ≡ data_mark
  field_mark = eqb-true _ _ (and_right (leb field_cells (length (from c j))) _ field_told.0)

  -- the CRC of a field that was delivered holds
  pub field_holds : crc_holds (from c j) 516 ≡ true
  field_holds = field_told.1

-- ---- a header

module _ (c : List ℕ) (t s r i : ℕ) where
  -- where a header of the sector stands, a header stands, and it belongs to the sector
  pub header_split : header_at c t s r i ≡ true → (is_header (from c i) ≡ true) × (is_header_of t s r (Some (id_of (from c i))) ≡ true)
  unfolding header_at header_of
  header_split e =
      by_test (is_header (from c i))
      (λ u. (u, ap (is_header_of t s r) (sym (cond_true (Some (id_of (from c i))) None u)) ∙ e))
      (λ u. absurd (false≢true (ap (is_header_of t s r) (sym (cond_false (Some (id_of (from c i))) None u)) ∙ e)))

  -- where a header stands that belongs to the sector, a header of the sector stands
  pub header_join : is_header (from c i) ≡ true → is_header_of t s r (Some (id_of (from c i))) ≡ true → header_at c t s r i ≡ true
  unfolding header_at header_of
  header_join u e = ap (is_header_of t s r) (cond_true (Some (id_of (from c i))) None u) ∙ e

module _ (f : List ℕ) (e : is_header f ≡ true) where
  -- a header begins with three sync bytes
  pub header_syncs : three_sync f ≡ true
  unfolding is_header
  header_syncs =
      and_right (leb header_cells (length f)) (three_sync f)
      (and_left (leb header_cells (length f) && three_sync f) (eqb (data_byte f 48) header_mark)
      (and_left (leb header_cells (length f) && three_sync f && eqb (data_byte f 48) header_mark) (crc_holds f 8) e))

  -- a header has the header mark
  pub header_mark_lem : data_byte f 48 ≡ header_mark
  unfolding is_header
  header_mark_lem =
      eqb-true (data_byte f 48) header_mark
      (and_right (leb header_cells (length f) && three_sync f) (eqb (data_byte f 48) header_mark)
      (and_left (leb header_cells (length f) && three_sync f && eqb (data_byte f 48) header_mark) (crc_holds f 8) e))

  -- the CRC of a header holds
  pub told_header_crc : crc_holds f 8 ≡ true
  unfolding is_header
  told_header_crc = and_right (leb header_cells (length f) && three_sync f && eqb (data_byte f 48) header_mark) (crc_holds f 8) e

-- ---- the only place, and the first

more_not : (f : Found) (n : ℕ) → more_found f n ≡ Nothing → ⊥
more_not Nothing n e = let z : ◌≡◌ {A = ℕ} 0 1 = cc in omega arith
more_not (One i) n e = let z : ◌≡◌ {A = ℕ} 0 1 = cc in omega arith
more_not Several n e = let z : ◌≡◌ {A = ℕ} 0 1 = cc in omega arith

more_one : (f : Found) (n i : ℕ) → more_found f n ≡ One i → (f ≡ Nothing) × (n ≡ i)
more_one Nothing n i e = (refl, cc)
more_one (One j) n i e = let z : ◌≡◌ {A = ℕ} 0 1 = cc in absurd (omega arith)
more_one Several n i e = let z : ◌≡◌ {A = ℕ} 0 1 = cc in absurd (omega arith)

module _ (p : ℕ → Bool) where
  no_places : (i : ℕ) → found_of (places_below p 0) ≡ One i → (p i ≡ true) × ((k : ℕ) → k < 0 → p k ≡ true → k ≡ i) × (i < 0)
  unfolding places_below found_of
  no_places i e = let z : ◌≡◌ {A = ℕ} 0 1 = cc in absurd (omega arith)

  found_next : (n : ℕ) → found_of (places_below p (suc n)) ≡ cond (p n) (more_found (found_of (places_below p n)) n) (found_of (places_below p n))
  found_next n = let z : suc n ≡ n + 1 = omega arith in ap (λ (m : ℕ). found_of (places_below p m)) z ∙ found_more p n

  none_below : (n : ℕ) → found_of (places_below p n) ≡ Nothing → (k : ℕ) → k < n → p k ≡ true → ⊥
  none_below zero e k h t = omega arith
  none_below (suc n) e k h t =
      by_test (p n)
      (λ u. more_not (found_of (places_below p n)) n (sym (found_next n ∙ cond_true _ _ u) ∙ e))
      (λ u. by_equal k n (λ r. true≢false (p k) t (ap p r ∙ u))
      (λ r. none_below n (sym (found_next n ∙ cond_false _ _ u) ∙ e) k (omega arith) t))

  one_below : (n i : ℕ) → found_of (places_below p n) ≡ One i → (p i ≡ true) × ((k : ℕ) → k < n → p k ≡ true → k ≡ i) × (i < n)
  one_below zero i e = no_places i e
  one_below (suc n) i e =
      by_test (p n)
      (λ u.
      let m : (found_of (places_below p n) ≡ Nothing) × (n ≡ i) = more_one (found_of (places_below p n)) n i (sym (found_next n ∙ cond_true _ _ u) ∙ e) in
      (ap p (sym m.1) ∙ u, λ k h t. by_equal k n (λ r. r ∙ m.1) (λ r. absurd (none_below n m.0 k (omega arith) t)), omega (arith, m.1)))
      (λ u.
      let m : (p i ≡ true) × ((k : ℕ) → k < n → p k ≡ true → k ≡ i) × (i < n) = one_below n i (sym (found_next n ∙ cond_false _ _ u) ∙ e) in
      (m.0, λ k h t. by_equal k n (λ r. true≢false (p k) t (ap p r ∙ u)) (λ r. m.1 k (omega arith) t), omega (arith, m.2)))

  -- the first place where the test holds gave the answer
  module _ (f : ℕ → Sector) where
    -- a field that was delivered by looking place by place stands at the first place where the test holds
    pub first_told : (m i x : ℕ) → first p f (Err NoField) m i ≡ Ok x
        → (k : ℕ) × (k < m) × ((j : ℕ) → j < k → p (i + j) ≡ false) × (p (i + k) ≡ true) × (f (i + k) ≡ Ok x)
    unfolding first
    first_told zero i x e = let z : ◌≡◌ {A = ℕ} 0 1 = cc in absurd (omega arith)
    first_told (suc m) i x e =
        by_test (p i)
        (λ u. (
          0,
          omega arith,
          (λ j h. absurd (omega arith)),
          ap p (add-zero i) ∙ u,
          ap f (add-zero i) ∙ sym (cond_true (f i) (first p f (Err NoField) m (suc i)) u) ∙ e,
        ))
        (λ u.
        let r : (k : ℕ) × (k < m) × ((j : ℕ) → j < k → p (suc i + j) ≡ false) × (p (suc i + k) ≡ true) × (f (suc i + k) ≡ Ok x) =
        first_told m (suc i) x (sym (cond_false (f i) (first p f (Err NoField) m (suc i)) u) ∙ e) in
        let z : i + suc r.0 ≡ suc i + r.0 = omega arith in
        (suc r.0, omega (arith, r.1), (λ j h. off r.0 r.2 u j h), ap p z ∙ r.3, ap f z ∙ r.4))
      where
        off : (k : ℕ) → ((j : ℕ) → j < k → p (suc i + j) ≡ false) → p i ≡ false → (j : ℕ) → j < suc k → p (i + j) ≡ false
        off k g u zero h = ap p (add-zero i) ∙ u
        off k g u (suc j) h = let z : i + suc j ≡ suc i + j = omega arith in ap p z ∙ g j (omega arith)

-- ---- the sector that the search finds

found_told : (c : List ℕ) (f : Found) (p : ℕ) → sector_found c f ≡ Ok p → (i : ℕ) × (f ≡ One i) × (field_of c i ≡ Ok p)
unfolding sector_found
found_told c (One i) p e = (i, refl, e)
found_told c Nothing p e = let z : ◌≡◌ {A = ℕ} 0 1 = cc in absurd (omega arith)
found_told c Several p e = let z : ◌≡◌ {A = ℕ} 0 1 = cc in absurd (omega arith)

module _ (c : List ℕ) (t s r p : ℕ) (e : sector_of c t s r ≡ Ok p) where
  -- a sector that was delivered has one header, and the field of that header was delivered
  pub sector_told : (i : ℕ) × (find_sector c t s r ≡ One i) × (field_of c i ≡ Ok p)
  unfolding sector_of
  sector_told = found_told c (find_sector c t s r) p e

module _ (c : List ℕ) (t s r i : ℕ) (e : find_sector c t s r ≡ One i) where
  -- where the search finds one place, a header of the sector stands there and nowhere else
  pub header_told : (header_at c t s r i ≡ true) × ((k : ℕ) → k < length c → header_at c t s r k ≡ true → k ≡ i) × (i < length c)
  unfolding find_sector
  header_told = one_below (header_at c t s r) (length c) i e

-- the place of the field after the header at i: k cells after the header's end
module _ (c : List ℕ) (i p : ℕ) (e : field_of c i ≡ Ok p) where
  -- the field that was delivered of a header begins at the first run of three sync bytes, at most 688 cells after the header
  pub gap_told : (k : ℕ) × (k < gap_cells + 1) × ((j : ℕ) → j < k → three_sync (from c (i + header_cells + j)) ≡ false)
      × (three_sync (from c (i + header_cells + k)) ≡ true) × (field_at c (i + header_cells + k) ≡ Ok p)
  unfolding field_of
  gap_told = first_told (λ (j : ℕ). three_sync (from c j)) (field_at c) (gap_cells + 1) (i + header_cells) p e

-- the place of a sector's bytes is 64 cells after that of its field
pub sector_place_lem : (c : List ℕ) (t s r p : ℕ) → sector_of c t s r ≡ Ok p → (j : ℕ) × (p ≡ j + 64)
sector_place_lem c t s r p e =
    let x = sector_told c t s r p e in
    let w = gap_told c x.0 p x.2 in
    (x.0 + header_cells + w.0, sym (field_place_lem c (x.0 + header_cells + w.0) p w.4))

-- ---- the whole image

module _ (h : List ℕ) where
  none_bad : (sectors_reply h).number ≡ 0 → all_sectors ≤ first_bad h
  unfolding sectors_reply first_bad
  none_bad e =
      by_order (first_bad h) all_sectors
      (λ l.
      let b : is_bad (sector_at h (first_bad h)) ≡ true = lowest_hit (λ (m : ℕ). is_bad (sector_at h m)) all_sectors l in
      true≢false (eqb (sector_reply (first_bad h) (sector_at h (first_bad h))).number 0)
      (eq_true (ap (λ (r : Reply). r.number) (sym (cond_true (sector_reply (first_bad h) (sector_at h (first_bad h))) _ (lt_true l))) ∙ e))
      (bad_number_lem (first_bad h) (sector_at h (first_bad h)) b))
      (λ l. l)

  all_good : (sectors_reply h).number ≡ 0 → (m : ℕ) → m < all_sectors → sector_at h m ≡ Ok (place_of (sector_at h m))
  unfolding first_bad
  all_good e m l = good_is (sector_at h m) (lowest_all (λ (k : ℕ). is_bad (sector_at h k)) all_sectors (none_bad e) m l)

  module _ (n : ℕ) (e : (unpack_reply h n).number ≡ 0) where
    sectors_done : (sectors_reply h).number ≡ 0
    sectors_done =
        by_order (length h) least_hfe
        (λ l. absurd (not_zero (reply_with 1 1 0 0) (short_reply h n l) 0 refl))
        (λ l. by_equal n image_bytes
        (λ q. header l q (hfe_header_fault h) refl)
        (λ q. absurd (not_zero (reply_with 1 2 0 0) (length_reply h n l q) 0 refl)))
      where
        not_zero : (r : Reply) → unpack_reply h n ≡ r → (k : ℕ) → r.number ≡ suc k → ⊥
        not_zero r p k q = let z : r.number ≡ 0 = ap (λ (x : Reply). x.number) (sym p) ∙ e in omega arith

        codes : (l : least_hfe ≤ length h) (q : n ≡ image_bytes) → hfe_header_fault h ≡ None → table_fault h ≡ None → (x : Option Reply)
            → first_code_refusal h ≡ x
            → (sectors_reply h).number ≡ 0
        codes l q g f (some r) c = absurd (not_zero r (codes_reply h n l q g f r c) 17 (codes_number h r c))
        codes l q g f none c = ap (λ (x : Reply). x.number) (sym (sound_reply h n l q g f c)) ∙ e

        table : (l : least_hfe ≤ length h) (q : n ≡ image_bytes) → hfe_header_fault h ≡ None → (f : Fault) → table_fault h ≡ f → (sectors_reply h).number ≡ 0
        table l q g (Some t) f = absurd (not_zero (reply_with 3 t 0 0) (table_reply_lem h n l q g t f) 2 refl)
        table l q g None f = codes l q g f (first_code_refusal h) refl

        header : (l : least_hfe ≤ length h) (q : n ≡ image_bytes) (f : Fault) → hfe_header_fault h ≡ f → (sectors_reply h).number ≡ 0
        header l q (Some o) f = absurd (not_zero (reply_with 2 o 0 0) (header_reply h n l q o f) 1 refl)
        header l q None f = table l q f (table_fault h) refl

    -- of an image that is accepted each sector is delivered
    pub each_delivered : (m : ℕ) → m < all_sectors → sector_at h m ≡ Ok (place_of (sector_at h m))
    each_delivered m l = all_good sectors_done m l

    -- of an image that is accepted the field of each sector begins 64 cells before its bytes
    pub each_place : (m : ℕ) → m < all_sectors → (j : ℕ) × (sector_at h m ≡ Ok (j + 64))
    unfolding sector_at
    each_place m l =
        let e = each_delivered m l in
        let x = sector_place_lem (side_stream h (track_of m) (side_of m)) (track_of m) (side_of m) (r_of m) (place_of (sector_at h m)) e in
        (x.0, e ∙ ap Ok x.1)
