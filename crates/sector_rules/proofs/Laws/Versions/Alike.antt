-- Two sides that agree from place a on, and on which no run begins below it: each sector gives the same on both. Then two images of which each sector does.
-- Rests on cells that agree (Damage.Agree) and on what an answer says of how it came (Base.Told).
use Rattle.std.specs.Prelude.{Ok, Err, Bool, false, ◌&&◌, List, ◌≡◌, ℕ, ◌+◌, ◌*◌, ◌≤◌, ◌<◌, length, get_or}
use Rattle.std.proofs.Math.Bool.{cond}
use Rattle.std.proofs.Math.Path.{refl, sym, ap, ap₂}
use Rattle.std.proofs.Common.{◌∙◌, arith}
use Rattle.std.proofs.Math.Dec.{leb, eqb}
use Rattle.laws.specs.Laws.Cases.{by_test, by_order}
use Rattle.laws.specs.Laws.Tests.{true≢false, cond_false, lt_false}
use Rattle.laws.specs.Laws.Lowest.{lowest_cong}
use Rattle.laws.specs.Laws.Tab.{tab_ext}
use Rattle.cells.specs.Stream.{from}
use Rattle.cells.specs.Sync.{three_sync}
use Rattle.sector_rules.specs.declared.Found.{Found}
use Rattle.sector_rules.specs.declared.Found.TheVariants.{One, Nothing, Several}
use Rattle.sector_rules.specs.Search.{Sector}
use Rattle.sector_rules.specs.declared.SectorFault.TheVariants.{Missing, Repeated, NoField, Damaged}
use Rattle.sector_rules.specs.Geometry.{sector_bytes, all_sectors}
use Rattle.sector_rules.specs.Search.{data_mark, header_cells, field_cells, gap_cells, header_at, places_below, found_of, find_sector}
use Rattle.sector_rules.specs.Search.{field_at, field_of, sector_found, sector_of, sector_byte, delivered_bytes}
use Rattle.sector_rules.specs.Unpacked.{sector_at, is_bad, first_bad, sectors_reply}
use Rattle.sector_rules.proofs.Laws.Base.Search.{places_cong, first_cong}
use Rattle.sector_rules.proofs.Laws.Base.Told.{field_place_lem, header_split, header_syncs, sector_told, gap_told}
use Rattle.sector_rules.proofs.Laws.Damage.Agree.{byte_agrees, three_agree, holds_agree, long_agree, header_agree}

-- where no run begins, no header stands
no_header : (c : List ℕ) (t s r i : ℕ) → three_sync (from c i) ≡ false → header_at c t s r i ≡ false
no_header c t s r i e =
    by_test (header_at c t s r i)
    (λ u. true≢false (three_sync (from c i)) (header_syncs (from c i) (header_split c t s r i u).0) e)
    (λ u. u)

-- the bytes of a sector that is delivered begin at cell 224 or later: its header and the run and mark of its field stand before them
late : (c : List ℕ) (t s r p : ℕ) → sector_of c t s r ≡ Ok p → header_cells ≤ p
late c t s r p e =
    let x = sector_told c t s r p e in
    let w = gap_told c x.0 p x.2 in
    let z = field_place_lem c (x.0 + header_cells + w.0) p w.4 in
    omega arith

module _ (c d : List ℕ) (long : length c ≡ length d) (a : ℕ) (near : a ≤ header_cells) (same : (k : ℕ) → a ≤ k → get_or c k 0 ≡ get_or d k 0)
    (no_run : (i : ℕ) → i < a → (three_sync (from c i) ≡ false) × (three_sync (from d i) ≡ false)) where
  headers_alike : (t s r i : ℕ) → header_at c t s r i ≡ header_at d t s r i
  headers_alike t s r i =
      by_order i a
      (λ l. no_header c t s r i (no_run i l).0 ∙ sym (no_header d t s r i (no_run i l).1))
      (λ l. header_agree c d long a (i + 160) (λ k m n. same k m) t s r i l (omega arith))

  found_alike : (t s r : ℕ) → find_sector c t s r ≡ find_sector d t s r
  unfolding find_sector
  found_alike t s r =
      ap found_of (places_cong (header_at c t s r) (header_at d t s r) (length c) (λ i l. headers_alike t s r i))
      ∙ ap (λ (n : ℕ). found_of (places_below (header_at d t s r) n)) long

  field_alike : (j : ℕ) → a ≤ j → field_at c j ≡ field_at d j
  unfolding field_at
  field_alike j l =
      ap₂ (λ (fits holds : Bool). cond fits (cond holds (Ok (j + 64)) (Err Damaged)) (Err NoField))
      (ap₂ (λ (n b : ℕ). leb field_cells n && eqb b data_mark) (long_agree c d long a (j + 64) (λ k m n. same k m) j)
      (byte_agrees c d long a (j + 64) (λ k m n. same k m) j 48 (omega arith) (omega arith)))
      (holds_agree c d long a (j + 16 * 518) (λ k m n. same k m) j (4 + sector_bytes) l (omega arith))

  field_of_alike : (i : ℕ) → field_of c i ≡ field_of d i
  unfolding field_of
  field_of_alike i =
      first_cong (λ (j : ℕ). three_sync (from c j)) (λ (j : ℕ). three_sync (from d j))
      (field_at c) (field_at d) (Err NoField) (gap_cells + 1) (i + header_cells)
      (λ j l. three_agree c d long a (j + 48) (λ k m n. same k m) j (omega arith) (omega arith))
      (λ j l. field_alike j (omega arith))

  by_found : (f : Found) → sector_found c f ≡ sector_found d f
  unfolding sector_found
  by_found (One i) = field_of_alike i
  by_found Nothing = refl
  by_found Several = refl

  module _ (t s r : ℕ) where
    -- each sector gives the same on both sides
    pub sector_alike : sector_of c t s r ≡ sector_of d t s r
    unfolding sector_of
    sector_alike = by_found (find_sector c t s r) ∙ ap (sector_found d) (found_alike t s r)

    by_sector : (x : Sector) → sector_of c t s r ≡ x → delivered_bytes c x ≡ delivered_bytes d x
    unfolding delivered_bytes sector_byte
    by_sector (Ok p) e =
        let l : header_cells ≤ p = late c t s r p e in
        tab_ext (sector_byte c p) (sector_byte d p) sector_bytes
        (λ k m. byte_agrees c d long a (p + 16 * k + 16) (λ k m n. same k m) p (16 * k) (omega arith) (omega arith))
    by_sector (Err Missing) e = refl
    by_sector (Err Repeated) e = refl
    by_sector (Err NoField) e = refl
    by_sector (Err Damaged) e = refl

    -- and the same bytes
    pub bytes_alike : delivered_bytes c (sector_of c t s r) ≡ delivered_bytes d (sector_of d t s r)
    bytes_alike = by_sector (sector_of c t s r) refl ∙ ap (delivered_bytes d) sector_alike

-- ---- two images

module _ (h g : List ℕ) (same : (m : ℕ) → m < all_sectors → sector_at h m ≡ sector_at g m) where
  first_alike : first_bad h ≡ first_bad g
  unfolding first_bad
  first_alike = lowest_cong (λ (m : ℕ). is_bad (sector_at h m)) (λ (m : ℕ). is_bad (sector_at g m)) _ (λ m l. ap is_bad (same m (omega arith)))

  -- two images of which each sector gives the same get the same reply for their sectors
  pub sectors_alike : sectors_reply h ≡ sectors_reply g
  unfolding sectors_reply
  sectors_alike =
      rw first_alike
      (by_order (first_bad g) all_sectors (λ l. rw (same (first_bad g) l)) (λ l. cond_false _ _ (lt_false l) ∙ sym (cond_false _ _ (lt_false l))))
