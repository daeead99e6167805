-- A written side is read back, second part: the search finds each sector, and its data field gives the bytes that were written.
-- Rests on the first part (SideTrip).
use Rattle.std.specs.Prelude.{Ok, Err, List, [], ◌∷◌, ◌⊎◌, ◌≡◌, refl, Bool, false}
use Rattle.std.proofs.Common.{inl, inr, ⊎_elim, ◌∙◌}
use Rattle.std.proofs.Math.Path.{sym, ap}
use Rattle.std.proofs.Math.Bool.{true}
use Rattle.std.proofs.lemmas.Bool.{false≢true}
use Prim.Native.Nat.{ℕ, zero, suc, ◌+◌, ◌-◌, ◌*◌, ◌/◌, ◌%◌, ◌≤◌, ◌<◌}
use native.Mathlib.Omega.{arith}
use Rattle.std.proofs.Math.Dec.{lit<}
use Rattle.std.proofs.Math.ListN.{length, get_or}
use borrow.Author.Tests.{le-leb, eq-eqb}
use Rattle.laws.specs.Lists.{tab}
use Rattle.laws.specs.Laws.Cases.{by_test}
use Rattle.laws.specs.Laws.Tab.{eq_tab}
use Rattle.cells.specs.Stream.{from, data_byte, data_bytes}
use Rattle.cells.specs.Sync.{sync_at, three_sync}
use Rattle.cells.specs.Written.{item_byte}
use Rattle.cells.specs.declared.Item.TheVariants.{Plain, Sync}
use Rattle.cells.proofs.Theorems.{triple_only}
use Rattle.cells.proofs.Laws.Stream.{from_zero}
use Rattle.cells.proofs.Laws.Number.{bytes_list}
use Rattle.sector_rules.specs.declared.Found.TheVariants.{One}
use Rattle.sector_rules.specs.declared.SectorFault.TheVariants.{NoField}
use Rattle.sector_rules.specs.Search.{crc_holds, data_mark, header_cells, gap_cells, header_at, places_below, found_of, first}
use Rattle.sector_rules.specs.Search.{find_sector, field_at, field_of, sector_found, sector_of, sector_byte, delivered_bytes}
use Rattle.sector_rules.specs.Packed.{field_crc, with_crc, sector_item, side_item}
use Rattle.sector_rules.proofs.Laws.Base.Search.{crc_two, first_is}
use Rattle.sector_rules.proofs.Laws.Base.Packed.{sector_field, sector_mark, field_crc_lt, crc_before, crc_high, crc_low}
use Rattle.sector_rules.proofs.Laws.Trip.SideTrip.{written_side, side_triple, byte_at_item, sync_at_item, room, only, place, there}

-- ---- a test that holds at one place only

places_one : (p : ℕ → Bool) (m : ℕ) → p m ≡ true → ((i : ℕ) → p i ≡ true → i ≡ m) → (n : ℕ)
    → ((n ≤ m) × (places_below p n ≡ [])) ⊎ ((m < n) × (places_below p n ≡ m ∷ []))
unfolding places_below
places_one p m e u zero = inl (omega arith, refl)
places_one p m e u (suc n) = go (p n) refl (places_one p m e u n)
  where
    go : (b : Bool) → p n ≡ b → ((n ≤ m) × (places_below p n ≡ [])) ⊎ ((m < n) × (places_below p n ≡ m ∷ []))
        → ((suc n ≤ m) × (places_below p (suc n) ≡ [])) ⊎ ((m < suc n) × (places_below p (suc n) ≡ m ∷ []))
    go true h (inl a) = let x : n ≡ m = u n h in inr (omega arith, rw (h, a.1, x))
    go true h (inr a) = let x : n ≡ m = u n h in absurd (omega arith)
    go false h (inl a) = let x : n ≡ m → ⊥ = λ w. false≢true (sym h ∙ ap p w ∙ e) in inl (omega arith, rw (h, a.1))
    go false h (inr a) = inr (omega arith, rw (h, a.1))

-- the search finds each sector of a written side
pub found : (t s : ℕ) → t < 256 → s < 256 → (d : ℕ → List ℕ) (k : ℕ) → k < 9
    → find_sector (written_side t s d) t s (k + 1) ≡ One (16 * (146 + 658 * k + 12))
unfolding find_sector found_of place
found t s ht hs d k hk =
    ⊎_elim
    (λ a. absurd (omega (arith, whole)))
    (λ a. rw a.1)
    (places_one (header_at (written_side t s d) t s (k + 1)) (16 * (146 + 658 * k + 12)) (there t s ht hs d k hk) one (length (written_side t s d)))
  where
    whole : length (written_side t s d) ≡ 100000
    whole = rw from_zero at (room t s d 0)

    one : (i : ℕ) → header_at (written_side t s d) t s (k + 1) i ≡ true → i ≡ 16 * (146 + 658 * k + 12)
    one i e = let x = only t s d (k + 1) i e in omega arith

-- ---- the data field

module _ (t s : ℕ) (d : ℕ → List ℕ) (k : ℕ) (hk : k < 9) (len : length (d (k + 1)) ≡ 512) (small : (j : ℕ) → get_or (d (k + 1)) j 0 < 256) where
  c : List ℕ
  c = written_side t s d

  xs : List ℕ
  xs = data_mark ∷ d (k + 1)

  start : ℕ
  start = 16 * (146 + 658 * k + 56)

  f : List ℕ
  f = from c start

  long : length xs ≡ 513
  unfolding xs
  long = omega arith

  -- byte j of the field, from its mark on
  field_byte : (j : ℕ) → j < 515 → get_or (with_crc xs) j 0 < 256 → (p i : ℕ) → p + i ≡ 16 * (146 + 658 * k + (59 + j))
      → data_byte (from c p) i ≡ get_or (with_crc xs) j 0
  unfolding c xs
  field_byte j h hb p i e =
      let z : 59 + j - 59 ≡ j = omega arith in
      let x : sector_item t s (k + 1) (d (k + 1)) (59 + j) ≡ Plain (get_or (with_crc (data_mark ∷ d (k + 1))) j 0) =
      sector_field t s (k + 1) (d (k + 1)) (59 + j) (omega arith) (omega arith) ∙ rw z in
      byte_at_item t s d k (59 + j) hk (omega arith) (rw x hb) p i e ∙ ap item_byte x

  row_small : (j : ℕ) → get_or xs j 0 < 256
  unfolding xs
  row_small zero = lit< tt
  row_small (suc j) = small j

  row_byte : (j : ℕ) → j < 513 → (p i : ℕ) → p + i ≡ 16 * (146 + 658 * k + (59 + j)) → data_byte (from c p) i ≡ get_or xs j 0
  row_byte j h p i e =
      let z : get_or (with_crc xs) j 0 ≡ get_or xs j 0 = crc_before xs j (omega (arith, long)) in
      field_byte j (omega arith) (rw z (row_small j)) p i e ∙ z

  marks : (j : ℕ) → j < 3 → sector_item t s (k + 1) (d (k + 1)) (56 + j) ≡ Sync
  marks j h = sector_mark t s (k + 1) (d (k + 1)) (56 + j) (omega arith) (omega arith)

  three_here : three_sync f ≡ true
  unfolding three_sync f c start
  three_here = rw (one 0 (lit< tt), one 1 (lit< tt), one 2 (lit< tt))
    where
      one : (j : ℕ) → j < 3 → sync_at (from (written_side t s d) (16 * (146 + 658 * k + 56))) (16 * j) ≡ true
      one j h = sync_at_item t s d k (56 + j) hk (omega arith) (marks j h) (16 * (146 + 658 * k + 56)) (16 * j) (omega arith)

  -- no run of sync bytes between the header and its field
  gap : (j : ℕ) → j < 544 → three_sync (from c (16 * (146 + 658 * k + 12) + 160 + j)) ≡ false
  unfolding c written_side
  gap j h =
      by_test (three_sync (from (written_side t s d) (16 * (146 + 658 * k + 12) + 160 + j)))
      (λ e.
      let y = triple_only (side_item t s d) 6250 (16 * (146 + 658 * k + 12) + 160 + j) e in
      let z = side_triple t s d _ y.1 in
      absurd (⊎_elim (λ l. omega arith) (λ l. omega arith) z.2))
      (λ e. e)

  field_list : data_bytes f 0 516 ≡ 0xA1 ∷ (0xA1 ∷ (0xA1 ∷ xs))
  unfolding f c start
  field_list = rw all_long at (bytes_list f 0 (0xA1 ∷ (0xA1 ∷ (0xA1 ∷ xs))) byte)
    where
      all_long : length (0xA1 ∷ (0xA1 ∷ (0xA1 ∷ xs))) ≡ 516
      all_long = omega (arith, long)

      a1 : (j i : ℕ) → j < 3 → i ≡ 16 * j → data_byte (from (written_side t s d) (16 * (146 + 658 * k + 56))) i ≡ 0xA1
      a1 j i h e =
          let x : item_byte (sector_item t s (k + 1) (d (k + 1)) (56 + j)) ≡ 0xA1 = ap item_byte (marks j h) in
          byte_at_item t s d k (56 + j) hk (omega arith) (rw x (lit< tt)) (16 * (146 + 658 * k + 56)) i (omega arith) ∙ x

      byte : (j : ℕ) → j < length (0xA1 ∷ (0xA1 ∷ (0xA1 ∷ xs))) → data_byte f (0 + 16 * j) ≡ get_or (0xA1 ∷ (0xA1 ∷ (0xA1 ∷ xs))) j 0
      byte zero h = a1 0 0 (lit< tt) (omega arith)
      byte (suc zero) h = a1 1 16 (lit< tt) (omega arith)
      byte (suc (suc zero)) h = a1 2 32 (lit< tt) (omega arith)
      byte (suc (suc (suc j))) h = row_byte j (omega (arith, long)) (16 * (146 + 658 * k + 56)) (0 + 16 * suc (suc (suc j))) (omega arith)

  field_holds : crc_holds f 516 ≡ true
  unfolding field_crc f start xs
  field_holds =
      let sum : ℕ = field_crc (data_mark ∷ d (k + 1)) in
      let low : sum < 65536 = field_crc_lt (data_mark ∷ d (k + 1)) in
      let eh : get_or (with_crc xs) 513 0 ≡ sum / 256 = crc_high xs 513 (omega (arith, long)) in
      let el : get_or (with_crc xs) 514 0 ≡ sum % 256 = crc_low xs 514 (omega (arith, long)) in
      let hi : data_byte f 8256 ≡ sum / 256 = field_byte 513 (lit< tt) (rw eh (omega arith)) (16 * (146 + 658 * k + 56)) 8256 (omega arith) ∙ eh in
      let lo : data_byte f 8272 ≡ sum % 256 = field_byte 514 (lit< tt) (rw el (omega arith)) (16 * (146 + 658 * k + 56)) 8272 (omega arith) ∙ el in
      rw (crc_two f 516, hi, lo, field_list) (eq-eqb sum (sum / 256 * 256 + sum % 256) (omega arith))

  -- the first run after the header of a sector is that of its field
  pub first_run : {A : Type 0} (g : ℕ → A) (none : A)
      → first (λ (j : ℕ). three_sync (from (written_side t s d) j)) g none (gap_cells + 1) (16 * (146 + 658 * k + 12) + header_cells)
      ≡ g (16 * (146 + 658 * k + 56))
  unfolding f c start
  first_run g none =
      let e : 16 * (146 + 658 * k + 12) + 160 + 544 ≡ 16 * (146 + 658 * k + 56) = omega arith in
      first_is (λ (j : ℕ). three_sync (from (written_side t s d) j)) g none (gap_cells + 1) (16 * (146 + 658 * k + 12) + header_cells) 544 (lit< tt) gap
      (rw e three_here)
      ∙ ap g e

  -- the field of the header is the one that was written, and its CRC holds
  field_back : field_of c (16 * (146 + 658 * k + 12)) ≡ Ok (16 * (146 + 658 * k + 60))
  unfolding field_of field_at f c start xs
  field_back =
      let l : 8288 ≤ length (from (written_side t s d) (16 * (146 + 658 * k + 56))) = rw (room t s d (16 * (146 + 658 * k + 56))) (omega arith) in
      let m : data_byte (from (written_side t s d) (16 * (146 + 658 * k + 56))) 48 ≡ data_mark =
      row_byte 0 (lit< tt) (16 * (146 + 658 * k + 56)) 48 (omega arith) in
      let r : 16 * (146 + 658 * k + 56) + 64 ≡ 16 * (146 + 658 * k + 60) = omega arith in
      first_run (field_at (written_side t s d)) (Err NoField)
      ∙ rw (le-leb _ _ l, eq-eqb _ _ m, field_holds, r)

  -- the sector's bytes are those that were written
  data_back : tab (sector_byte c (16 * (146 + 658 * k + 60))) 512 ≡ d (k + 1)
  unfolding c xs sector_byte
  data_back =
      sym (eq_tab (d (k + 1)) (sector_byte (written_side t s d) (16 * (146 + 658 * k + 60))) 512 len
      (λ j h. sym (row_byte (suc j) (omega arith) (16 * (146 + 658 * k + 60)) (16 * j) (omega arith))))

-- what sector R = k + 1 of a written side gives, judged alone: its own bytes
module _ (t s : ℕ) (ht : t < 256) (hs : s < 256) (d : ℕ → List ℕ) (k : ℕ) (hk : k < 9)
    (len : length (d (k + 1)) ≡ 512) (small : (j : ℕ) → get_or (d (k + 1)) j 0 < 256) where
  -- each sector of a written side is delivered, at its place
  pub sector_back : sector_of (written_side t s d) t s (k + 1) ≡ Ok (16 * (146 + 658 * k + 60))
  unfolding sector_of sector_found c
  sector_back = rw (found t s ht hs d k hk) (field_back t s d k hk len small)

  -- the bytes of each sector of a written side are those that were written
  pub bytes_back : delivered_bytes (written_side t s d) (sector_of (written_side t s d) t s (k + 1)) ≡ d (k + 1)
  unfolding delivered_bytes c
  bytes_back = rw sector_back (data_back t s d k hk len small)
