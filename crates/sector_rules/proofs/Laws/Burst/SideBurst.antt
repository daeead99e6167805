-- A written side whose changed cells lie among 32 neighbouring ones, wherever these are: what is delivered is what was written. The search finds the header at
-- its own place or not once (header_place), and its field at its own place or none that is delivered (field_same).
-- Rests on the known cells that differ at another place (Clash, SideCells), on the cells that are read (Read) and on damage of sides (Damage).
use Rattle.std.specs.Prelude.{Ok, true, false, List, ◌≡◌, length}
use Rattle.std.proofs.Math.Logic.{⊎_elim}
use Rattle.std.proofs.Math.Path.{refl, sym, ap}
use Rattle.std.proofs.Common.{◌∙◌}
use Prim.Native.Nat.{ℕ, ◌+◌, ◌-◌, ◌*◌, ◌/◌, ◌%◌, ◌^◌, ◌≤◌, ◌<◌}
use native.Mathlib.Omega.{arith}
use Rattle.std.proofs.Math.ListN.{get_or}
use Rattle.laws.specs.Laws.Cases.{by_order, by_equal}
use Rattle.laws.specs.Laws.Tests.{true_eq, true≢false}
use Rattle.cells.specs.Stream.{from, data_byte}
use Rattle.cells.specs.Sync.{sync_word, three_sync}
use Rattle.cells.proofs.Theorems.{triple_only}
use Rattle.cells.proofs.Laws.Bits.{byte_cell}
use Rattle.cells.proofs.Laws.Caught.{cells_burst}
use Rattle.cells.proofs.Laws.Number.{byte_from}
use Rattle.cells.proofs.Laws.Stream.{from_at, from_bit}
use Rattle.cells.proofs.Laws.Sync.{three_cell}
use Rattle.sector_rules.specs.declared.Id.{Id}
use Rattle.sector_rules.specs.declared.Found.TheVariants.{One}
use Rattle.sector_rules.specs.Search.{data_mark, header_cells, gap_cells, id_of, header_at, find_sector, field_at, field_of, sector_of}
use Rattle.sector_rules.specs.Packed.{side_item, hfe_bytes, pack_hfe, sector_data}
use Rattle.sector_rules.specs.Geometry.{all_sectors, image_bytes}
use Rattle.sector_rules.specs.Hfe.{side_stream}
use Rattle.sector_rules.specs.Unpacked.{sector_at, sector_bytes_at}
use Rattle.sector_rules.specs.Damage.{Binary, field_bits, SameField, SideBurst, ImageBurst}
use Rattle.sector_rules.proofs.Laws.Damage.Agree.{byte_agrees, three_agree, header_agree}
use Rattle.sector_rules.proofs.Laws.Burst.Read.{is_read, read_lt, headers_read, fields_read, belongs_id}
use Rattle.sector_rules.proofs.Laws.Burst.SideCells.{side_cells, side_long, known, zeros_none, zero_before, zero_after}
use Rattle.sector_rules.proofs.Laws.Burst.Clash.{clash, Apart, header_apart, header_next, field_apart, field_even, field_odd}
use Rattle.sector_rules.proofs.Laws.Damage.FieldDamage.{fields_same, side_binary, bytes_each}
use Rattle.sector_rules.proofs.Laws.Damage.SideDamage.{packed_side}
use Rattle.sector_rules.proofs.Laws.Burst.Known.{sector_start, known_cell}
use Rattle.sector_rules.proofs.Laws.Trip.SideTrip.{written_side, side_triple, only, place, there}
use Rattle.sector_rules.proofs.Laws.Base.Told.{field_place_lem, field_mark, header_split, sector_told, header_told, gap_told}

-- places that are a multiple of 16 apart
same_rest : (m y j k : ℕ) → y ≡ j + 16 * k → y ≤ m → (m - j) % 16 ≡ (m - y) % 16
same_rest m y j k e l = let z : m - j ≡ (m - y) + 16 * k = omega arith in rw z (omega arith)

-- ---- a written side with a burst

module _ (t s : ℕ) (ht : t < 128) (hs : s < 2) (dd : ℕ → List ℕ) (d : List ℕ) (bd : Binary d) (g : SideBurst (written_side t s dd) d) where
  bc : Binary (written_side t s dd)
  bc = side_cells t s dd

  -- a changed cell lies in the burst
  changed : (k : ℕ) → (get_or (written_side t s dd) k 0 ≡ get_or d k 0 → ⊥) → (g.first ≤ k) × (k < g.first + 32)
  changed k n = (by_order k g.first (λ l. absurd (n (g.before k l))) (λ l. l), by_order k (g.first + 32) (λ l. l) (λ l. absurd (n (g.after k l))))

  -- the burst meets w cells from k on, where these do not all agree
  meets : (k w : ℕ) → (((m : ℕ) → k ≤ m → m < k + w → get_or (written_side t s dd) m 0 ≡ get_or d m 0) → ⊥) → (g.first < k + w) × (k < g.first + 32)
  meets k w n = (
    by_order g.first (k + w) (λ l. l) (λ l. absurd (n (λ m lo hi. g.before m (omega arith)))),
    by_order k (g.first + 32) (λ l. l) (λ l. absurd (n (λ m lo hi. g.after m (omega arith)))),
  )

  module _ (x : ℕ) (hx : x < 9) where
    -- known cells k and l that clash: where d has at l what was written at k, l is changed
    clash_changed : (k l : ℕ) → 2 ≤ k → k < 960 → 2 ≤ l → l < 960 → clash k l ≡ true
        → get_or (written_side t s dd) (sector_start x + k) 0 ≡ get_or d (sector_start x + l) 0
        → get_or (written_side t s dd) (sector_start x + l) 0 ≡ get_or d (sector_start x + l) 0 → ⊥
    unfolding clash
    clash_changed k l k₀ k₁ l₀ l₁ c same keep =
        let sum : known_cell k + known_cell l ≡ 1 = true_eq c in
        let a : get_or (written_side t s dd) (sector_start x + k) 0 ≡ known_cell k = known t s dd x hx ht hs k k₀ k₁ (known_cell k) refl (omega arith) in
        let b : get_or (written_side t s dd) (sector_start x + l) 0 ≡ known_cell l = known t s dd x hx ht hs l l₀ l₁ (known_cell l) refl (omega arith) in
        let e : known_cell k ≡ known_cell l = sym a ∙ same ∙ sym keep ∙ b in
        omega arith

    -- so d does not have from cell p on what was written from cell z on, where two such cells are 32 or more apart
    apart_none : (n z p : ℕ) → 48 ≤ n → 2 ≤ z → z + n ≤ 960 → 2 ≤ p → p + n ≤ 960 → Apart n z p
        → ((e : ℕ) → is_read n e ≡ true → get_or (written_side t s dd) (sector_start x + (z + e)) 0 ≡ get_or d (sector_start x + (p + e)) 0) → ⊥
    apart_none n z p hn z₀ z₁ p₀ p₁ a same =
        let l = read_lt n a.low hn a.low_read in
        let h = read_lt n a.high hn a.high_read in
        let u = changed (sector_start x + (p + a.low))
        (clash_changed (z + a.low) (p + a.low) (omega arith) (omega arith) (omega arith) (omega arith) a.low_clash (same a.low a.low_read)) in
        let v = changed (sector_start x + (p + a.high))
        (clash_changed (z + a.high) (p + a.high) (omega arith) (omega arith) (omega arith) (omega arith) a.high_clash (same a.high a.high_read)) in
        omega (arith, a.far, u.0, v.1)

    header_here : header_at (written_side t s dd) t s (x + 1) (sector_start x + 192) ≡ true
    unfolding place
    header_here =
        let e : sector_start x + 192 ≡ 16 * (146 + 658 * x + 12) = omega arith in
        ap (header_at (written_side t s dd) t s (x + 1)) e ∙ there t s (omega arith) (omega arith) dd x hx

    -- a header of this sector that d has at i
    module _ (i : ℕ) (hi : header_at d t s (x + 1) i ≡ true) where
      ids : id_of (from (written_side t s dd) (sector_start x + 192)) ≡ id_of (from d i)
      ids =
          belongs_id t s (x + 1) (id_of (from (written_side t s dd) (sector_start x + 192)))
          (header_split (written_side t s dd) t s (x + 1) (sector_start x + 192) header_here).1
          ∙ sym (belongs_id t s (x + 1) (id_of (from d i)) (header_split d t s (x + 1) i hi).1)

      headers_same : (e : ℕ) → is_read 128 e ≡ true → get_or (written_side t s dd) (sector_start x + (192 + e)) 0 ≡ get_or d (i + e) 0
      headers_same e r =
          let a : sector_start x + (192 + e) ≡ sector_start x + 192 + e = omega arith in
          ap (λ (k : ℕ). get_or (written_side t s dd) k 0) a ∙ sym (from_at (written_side t s dd) (sector_start x + 192) e)
          ∙ headers_read (from (written_side t s dd) (sector_start x + 192)) (from d i) (from_bit (written_side t s dd) (sector_start x + 192) bc)
          (from_bit d i bd)
          (header_split (written_side t s dd) t s (x + 1) (sector_start x + 192) header_here).0 (header_split d t s (x + 1) i hi).0 ids e r
          ∙ from_at d i e

    -- 16 cells on it would need H to be R and R to be 2
    header_not_next : header_at d t s (x + 1) (sector_start x + 208) ≡ true → ⊥
    unfolding id_of is_read
    header_not_next hi =
        let i : ℕ = sector_start x + 208 in
        let same : get_or (written_side t s dd) (sector_start x + (192 + 35)) 0 ≡ get_or d (sector_start x + (208 + 35)) 0 =
        headers_same i hi 35 refl ∙ ap (λ (k : ℕ). get_or d k 0) (shift 35) in
        let u =
        changed (sector_start x + (208 + 35))
        (clash_changed (192 + 35) (208 + 35) (omega arith) (omega arith) (omega arith) (omega arith) header_next same) in
        let agree : (m : ℕ) → sector_start x + 275 ≤ m → m < sector_start x + 400 → get_or (written_side t s dd) m 0 ≡ get_or d m 0 =
        λ m lo hi. g.after m (omega (arith, u.0)) in
        let own = belongs_id t s (x + 1) (id_of (from (written_side t s dd) (sector_start x + 192)))
        (header_split (written_side t s dd) t s (x + 1) (sector_start x + 192) header_here).1 in
        let its = belongs_id t s (x + 1) (id_of (from d i)) (header_split d t s (x + 1) i hi).1 in
        let r-h : x + 1 ≡ s =
        sym (ap (λ (k : Id). k.r) own)
        ∙ byte_agrees (written_side t s dd) d g.long (sector_start x + 275) (sector_start x + 400) agree (sector_start x + 192) 96 (omega arith) (omega arith)
        ∙ moved d 96 80 (omega arith) ∙ ap (λ (k : Id). k.h) its in
        let n-r : 2 ≡ x + 1 =
        sym (ap (λ (k : Id). k.n) own)
        ∙ byte_agrees (written_side t s dd) d g.long (sector_start x + 275) (sector_start x + 400) agree (sector_start x + 192) 112 (omega arith) (omega arith)
        ∙ moved d 112 96 (omega arith) ∙ ap (λ (k : Id). k.r) its in
        omega arith
      where
        shift : (e : ℕ) → sector_start x + 208 + e ≡ sector_start x + (208 + e)
        shift e = omega arith

        moved : (f : List ℕ) (k l : ℕ) → k ≡ l + 16 → data_byte (from f (sector_start x + 192)) k ≡ data_byte (from f (sector_start x + 208)) l
        moved f k l e =
            let p : sector_start x + 192 + k ≡ sector_start x + 208 + l = omega arith in
            byte_from f (sector_start x + 192) k ∙ ap (data_byte f) p ∙ sym (byte_from f (sector_start x + 208) l)

    -- the search of d finds the header at its place, or not once
    header_place : (i : ℕ) → find_sector d t s (x + 1) ≡ One i → i ≡ sector_start x + 192
    header_place i e =
        let h = header_told d t s (x + 1) i e in
        by_equal i (sector_start x + 192) (λ r. r)
        (λ n.
        let u = meets (sector_start x + 192) 160
        (λ a. n (sym (h.1 (sector_start x + 192) (omega (arith, g.long, side_long t s dd))
        (sym (header_agree (written_side t s dd) d g.long (sector_start x + 192) (sector_start x + 352)
        (λ m lo hi. a m lo (omega arith)) t s (x + 1) (sector_start x + 192) (omega arith) (omega arith)) ∙ header_here)))) in
        let v = meets i 160
        (λ a. n (elsewhere (only t s dd (x + 1) i
        (header_agree (written_side t s dd) d g.long i (i + 160) a t s (x + 1) i (omega arith) (omega arith) ∙ h.0)))) in
        let p : i ≡ sector_start x + (i - sector_start x) = omega (arith, u.1, v.0) in
        by_equal (i - sector_start x) 208
        (λ r. absurd (header_not_next (ap (header_at d t s (x + 1)) (sym (p ∙ ap (λ (k : ℕ). sector_start x + k) r)) ∙ h.0)))
        (λ r.
        absurd (apart_none 128 192 (i - sector_start x) (omega arith) (omega arith) (omega arith) (omega (arith, u.1, v.0)) (omega (arith, u.0, v.1))
        (header_apart (i - sector_start x) (omega (arith, u.1, v.0)) (omega (arith, u.0, v.1)) (λ q. n (omega arith)) r)
        (λ k rd. headers_same i h.0 k rd ∙ ap (λ (m : ℕ). get_or d m 0) (plus i k p)))))
      where
        elsewhere : i ≡ 16 * (146 + 658 * (x + 1 - 1) + 12) → i ≡ sector_start x + 192
        elsewhere q = omega arith

        plus : (i k : ℕ) → i ≡ sector_start x + (i - sector_start x) → i + k ≡ sector_start x + ((i - sector_start x) + k)
        plus i k p = omega arith

    -- a field that d has at y, after the place of the written one, whose sync bytes are lost in d
    module _ (y p q : ℕ) (lo : sector_start x + 896 < y) (hi : y ≤ sector_start x + 1040)
        (run : three_sync (from (written_side t s dd) (sector_start x + 896)) ≡ true) (lost : three_sync (from d (sector_start x + 896)) ≡ false)
        (on : three_sync (from d y) ≡ true) (fc : field_at (written_side t s dd) (sector_start x + 896) ≡ Ok p) (fd : field_at d y ≡ Ok q) where
      not_agree : ((m : ℕ) → sector_start x + 896 ≤ m → m < sector_start x + 896 + 48 → get_or (written_side t s dd) m 0 ≡ get_or d m 0) → ⊥
      not_agree a =
          true≢false (three_sync (from d (sector_start x + 896)))
          (sym
          (three_agree (written_side t s dd) d g.long (sector_start x + 896) (sector_start x + 896 + 48) a (sector_start x + 896) (omega arith)
          (omega arith)) ∙ run)
          lost

      met : (g.first < sector_start x + 896 + 48) × (sector_start x + 896 < g.first + 32)
      met = meets (sector_start x + 896) 48 not_agree

      -- cell e of what d has at y
      sync_at_lem : (e : ℕ) → e < 48 → get_or d (y + e) 0 ≡ sync_word / 2 ^ (16 - (e % 16 + 1)) % 2
      sync_at_lem e h = sym (from_at d y e) ∙ three_cell (from d y) (from_bit d y bd) on e h

      mark_at : (k : ℕ) → k < 8 → get_or d (y + (16 * 3 + (2 * k + 1))) 0 ≡ data_mark / 2 ^ (8 - (k + 1)) % 2
      mark_at k h =
          sym (from_at d y (16 * 3 + (2 * k + 1))) ∙ byte_cell (from d y) (from_bit d y bd) 3 k h
          ∙ ap (λ (b : ℕ). b / 2 ^ (8 - (k + 1)) % 2) (field_mark d y q fd)

      -- one of its cells before the burst does not fit
      clash_none : (e : ℕ) → e < 48 → y + e < g.first → clash (896 + e) (y - sector_start x + e) ≡ true → ⊥
      clash_none e h l c =
          let a : sector_start x + (896 + e) ≡ sector_start x + 896 + e = omega arith in
          let b : sector_start x + (y - sector_start x + e) ≡ y + e = omega arith in
          clash_changed (896 + e) (y - sector_start x + e) (omega arith) (omega arith) (omega arith) (omega (arith, met.0)) c
          (ap (λ (k : ℕ). get_or (written_side t s dd) k 0) a ∙ sym (from_at (written_side t s dd) (sector_start x + 896) e)
          ∙ three_cell (from (written_side t s dd) (sector_start x + 896)) (from_bit (written_side t s dd) (sector_start x + 896) bc) run e h
          ∙ sym (sync_at_lem e h) ∙ ap (λ (k : ℕ). get_or d k 0) (sym b))
          (g.before (sector_start x + (y - sector_start x + e)) (omega arith))

      even_none : y % 2 ≡ 0 → ⊥
      even_none ev =
          by_order (y + 41) (g.first + 32)
          (λ l.
          by_equal ((y - sector_start x - 896) / 2 % 8) 0
          (λ z. not_agree (λ m a b.
          by_order m g.first (λ k. g.before m k)
          (λ k.
          let r : (m - (sector_start x + 896)) % 16 ≡ (m - y) % 16 =
          same_rest m y (sector_start x + 896) ((y - sector_start x - 896) / 2 / 8) (omega arith) (omega arith) in
          let u : m ≡ sector_start x + 896 + (m - (sector_start x + 896)) = omega arith in
          let w : m ≡ y + (m - y) = omega arith in
          ap (λ (n : ℕ). get_or (written_side t s dd) n 0) u ∙ sym (from_at (written_side t s dd) (sector_start x + 896) (m - (sector_start x + 896)))
          ∙ three_cell (from (written_side t s dd) (sector_start x + 896)) (from_bit (written_side t s dd) (sector_start x + 896) bc) run
          (m - (sector_start x + 896)) (omega arith)
          ∙ ap (λ (n : ℕ). sync_word / 2 ^ (16 - (n + 1)) % 2) r ∙ sym (sync_at_lem (m - y) (omega arith)) ∙ ap (λ (n : ℕ). get_or d n 0) (sym w))))
          (λ z.
          let h : ℕ = (y - sector_start x - 896) / 2 in
          let w = field_even h (omega (arith, met.0)) z in
          let r : 896 + 2 * h + w.0 ≡ y - sector_start x + w.0 = omega arith in
          clash_none w.0 (omega (arith, w.1)) (omega (arith, w.1)) (ap (clash (896 + w.0)) (sym r) ∙ w.2)))
          (λ l.
          zeros_none t s dd x hx (y + 41) (omega arith) (omega arith) (omega arith) (keep 41 (omega arith) ∙ sync_at_lem 41 (omega arith))
          (ap (λ (n : ℕ). get_or (written_side t s dd) n 0) (next 41) ∙ keep 42 (omega arith) ∙ sync_at_lem 42 (omega arith))
          (ap (λ (n : ℕ). get_or (written_side t s dd) n 0) (next₂ 41) ∙ keep 43 (omega arith) ∙ sync_at_lem 43 (omega arith)))
        where
          keep : (e : ℕ) → g.first + 32 ≤ y + e → get_or (written_side t s dd) (y + e) 0 ≡ get_or d (y + e) 0
          keep e l = g.after (y + e) l

          next : (e : ℕ) → y + e + 1 ≡ y + (e + 1)
          next e = omega arith

          next₂ : (e : ℕ) → y + e + 2 ≡ y + (e + 2)
          next₂ e = omega arith

      odd_none : y % 2 ≡ 1 → ⊥
      odd_none od =
          by_order (y + 57) (g.first + 32)
          (λ l.
          let h : ℕ = (y - sector_start x - 897) / 2 in
          let w = field_odd h (omega (arith, met.0)) in
          let r : 897 + 2 * h + w.0 ≡ y - sector_start x + w.0 = omega arith in
          clash_none w.0 (omega (arith, w.1)) (omega (arith, w.1)) (ap (clash (896 + w.0)) (sym r) ∙ w.2))
          (λ l.
          let a : get_or (written_side t s dd) (y + 56 + 1) 0 ≡ 1 = at (y + 56 + 1) 4 (omega arith) (omega arith) (omega arith) in
          let b : get_or (written_side t s dd) (y + 58 + 1) 0 ≡ 0 = at (y + 58 + 1) 5 (omega arith) (omega arith) (omega arith) in
          let c : get_or (written_side t s dd) (y + 60 + 1) 0 ≡ 1 = at (y + 60 + 1) 6 (omega arith) (omega arith) (omega arith) in
          let a₀ : get_or (written_side t s dd) (y + 56 + 2) 0 ≡ 0 = zero_after t s dd x hx (y + 56) (omega arith) (omega arith) a in
          let c₀ : get_or (written_side t s dd) (y + 60) 0 ≡ 0 = zero_before t s dd x hx (y + 60) (omega arith) (omega arith) c in
          zeros_none t s dd x hx (y + 58) (omega arith) (omega arith) (omega arith) (move (y + 58) (y + 56 + 2) (omega arith) ∙ a₀) b
          (move (y + 58 + 2) (y + 60) (omega arith) ∙ c₀))
        where
          move : (m n : ℕ) → m ≡ n → get_or (written_side t s dd) m 0 ≡ get_or (written_side t s dd) n 0
          move m n e = ap (λ (k : ℕ). get_or (written_side t s dd) k 0) e

          at : (m k : ℕ) → k < 8 → m ≡ y + (16 * 3 + (2 * k + 1)) → g.first + 32 ≤ m → get_or (written_side t s dd) m 0 ≡ data_mark / 2 ^ (8 - (k + 1)) % 2
          at m k h e l = g.after m l ∙ ap (λ (n : ℕ). get_or d n 0) e ∙ mark_at k h

      after_none : ⊥
      after_none = by_equal (y % 2) 0 even_none (λ n. odd_none (omega arith))

    -- the field of d, which begins so many cells after the header
    field_same : (k p q : ℕ) → k < gap_cells + 1 → ((m : ℕ) → m < k → three_sync (from d (sector_start x + 192 + header_cells + m)) ≡ false)
        → three_sync (from d (sector_start x + 192 + header_cells + k)) ≡ true → field_at d (sector_start x + 192 + header_cells + k) ≡ Ok q
        → three_sync (from (written_side t s dd) (sector_start x + 896)) ≡ true → field_at (written_side t s dd) (sector_start x + 896) ≡ Ok p
        → (q ≡ sector_start x + 896 + 64) × SameField (written_side t s dd) d (sector_start x + 896)
    field_same k p q hk off on fd run fc =
        by_order k 544
        (λ l.
        absurd
        (apart_none 64 896 (352 + k) (omega arith) (omega arith) (omega arith) (omega arith) (omega arith)
        (field_apart (352 + k) (omega arith) (omega arith))
        (λ e rd.
        let u : sector_start x + (896 + e) ≡ sector_start x + 896 + e = omega arith in
        let w : sector_start x + (352 + k + e) ≡ sector_start x + 192 + header_cells + k + e = omega arith in
        ap (λ (n : ℕ). get_or (written_side t s dd) n 0) u ∙ sym (from_at (written_side t s dd) (sector_start x + 896) e)
        ∙ fields_read (written_side t s dd) d bc bd (sector_start x + 896) (sector_start x + 192 + header_cells + k) p q run on fc fd e rd
        ∙ from_at d (sector_start x + 192 + header_cells + k) e ∙ ap (λ (n : ℕ). get_or d n 0) (sym w))))
        (λ l. by_equal k 544
        (λ e.
        let u : sector_start x + 192 + header_cells + k ≡ sector_start x + 896 = omega arith in
        fields_same (written_side t s dd) d bc bd (sector_start x + 896)
        (cells_burst (from (written_side t s dd) (sector_start x + 896)) (from d (sector_start x + 896)) (g.first - (sector_start x + 896)) field_bits
        (λ m h n. cells (m) (g.before (sector_start x + 896 + m) (omega arith)))
        (λ m h n. cells (m) (g.after (sector_start x + 896 + m) (omega arith))))
        p q fc (ap (field_at d) (sym u) ∙ fd))
        (λ n.
        let w : sector_start x + 192 + header_cells + 544 ≡ sector_start x + 896 = omega arith in
        absurd (after_none (sector_start x + 192 + header_cells + k) p q (omega arith) (omega arith) run
        (ap (λ (m : ℕ). three_sync (from d m)) (sym w) ∙ off 544 (omega arith)) on fc fd)))
      where
        cells : (m : ℕ) → get_or (written_side t s dd) (sector_start x + 896 + m) 0 ≡ get_or d (sector_start x + 896 + m) 0
            → get_or (from (written_side t s dd) (sector_start x + 896)) m 0 ≡ get_or (from d (sector_start x + 896)) m 0
        cells m e = from_at (written_side t s dd) (sector_start x + 896) m ∙ e ∙ sym (from_at d (sector_start x + 896) m)

  -- the one run of sync bytes after a header, for as far as its field is looked for
  run_place_lem : (x k : ℕ) → three_sync (from (written_side t s dd) k) ≡ true → sector_start x + 192 < k → k ≤ sector_start x + 1040 → k ≡ sector_start x + 896
  unfolding written_side
  run_place_lem x k u lo hi =
      let a = triple_only (side_item t s dd) 6250 k u in
      let b = side_triple t s dd (k / 16) a.1 in
      ⊎_elim (λ m. by_order b.0 x (λ l. absurd (omega arith)) (λ l. by_order x b.0 (λ n. absurd (omega arith)) (λ n. absurd (omega arith))))
      (λ m. by_order b.0 x (λ l. absurd (omega arith)) (λ l. by_order x b.0 (λ n. absurd (omega arith)) (λ n. omega arith)))
      b.2

  -- what is delivered of a sector of a side with one burst is what was written
  pub burst_same : (x : ℕ) → x < 9 → (j q : ℕ) → sector_of (written_side t s dd) t s (x + 1) ≡ Ok (j + 64) → sector_of d t s (x + 1) ≡ Ok q
      → (q ≡ j + 64) × SameField (written_side t s dd) d j
  burst_same x hx j q ec ed =
      let a = sector_told (written_side t s dd) t s (x + 1) (j + 64) ec in
      let i₁ = only t s dd (x + 1) a.0 (header_told (written_side t s dd) t s (x + 1) a.0 a.1).0 in
      let i : a.0 ≡ sector_start x + 192 = omega arith in
      let b = gap_told (written_side t s dd) (sector_start x + 192) (j + 64) (ap (field_of (written_side t s dd)) (sym i) ∙ a.2) in
      let r = run_place_lem x (sector_start x + 192 + header_cells + b.0) b.3 (omega arith) (omega (arith, b.1)) in
      let z = field_place_lem (written_side t s dd) (sector_start x + 192 + header_cells + b.0) (j + 64) b.4 in
      let f : sector_start x + 896 ≡ j = omega arith in
      let run : three_sync (from (written_side t s dd) (sector_start x + 896)) ≡ true = ap (λ (k : ℕ). three_sync (from (written_side t s dd) k)) (sym r)
      ∙ b.3 in
      let fc : field_at (written_side t s dd) (sector_start x + 896) ≡ Ok (j + 64) = ap (field_at (written_side t s dd)) (sym r) ∙ b.4 in
      let a' = sector_told d t s (x + 1) q ed in
      let i' = header_place x hx a'.0 a'.1 in
      let b' = gap_told d (sector_start x + 192) q (ap (field_of d) (sym i') ∙ a'.2) in
      rw (← f) (field_same x hx b'.0 (j + 64) q b'.1 b'.2 b'.3 b'.4 run fc)

-- ---- a packed image

-- the same, of a side that is known to be written
side_burst : (t s : ℕ) → t < 128 → s < 2 → (dd : ℕ → List ℕ) (c d : List ℕ) → c ≡ written_side t s dd → Binary d → SideBurst c d
    → (x : ℕ) → x < 9 → (j q : ℕ) → sector_of c t s (x + 1) ≡ Ok (j + 64) → sector_of d t s (x + 1) ≡ Ok q → (q ≡ j + 64) × SameField c d j
side_burst t s ht hs dd c d e bd g x hx j q ec ed = rw e (burst_same t s ht hs dd d bd (rw e at g) x hx j q (rw e at ec) ed)

-- images with a burst on each side have the same bytes where both deliver them
pub bursts_bytes : (image hfe g : List ℕ) → length image ≡ image_bytes → length hfe ≡ hfe_bytes → ImageBurst (pack_hfe image hfe) g
    → (m j q : ℕ) → m < all_sectors → sector_at (pack_hfe image hfe) m ≡ Ok (j + 64) → sector_at g m ≡ Ok q
    → sector_bytes_at (pack_hfe image hfe) m ≡ sector_bytes_at g m
bursts_bytes image hfe g li lh d =
    bytes_each (pack_hfe image hfe) g
    (λ t s x j q ht hs hx ec ed.
    side_burst t s (omega arith) hs (sector_data image t s) (side_stream (pack_hfe image hfe) t s) (side_stream g t s) (packed_side image hfe li lh t s ht hs)
    (side_binary g t s) (d.each t s ht hs) x hx j q ec ed)
