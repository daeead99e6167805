-- The cells of a header or data field that are read, those of its sync bytes and the data cells after them: where two have the same bytes they agree.
-- Rests on what an answer says of how it came (Base.Told).
use Rattle.std.specs.Prelude.{Some, Ok, Bool, true, ◌&&◌, ◌||◌, List, ◌≡◌, ℕ, ◌+◌, ◌-◌, ◌*◌, ◌/◌, ◌%◌, ◌^◌, ◌≤◌, ◌<◌, eqb}
use Rattle.std.proofs.Math.Path.{sym, ap}
use Rattle.std.proofs.Common.{◌∙◌}
use native.Mathlib.Omega.{arith}
use Rattle.std.proofs.Math.Dec.{ltb}
use Rattle.std.proofs.Math.ListN.{get_or}
use Rattle.laws.specs.Laws.Cases.{by_order, by_equal}
use Rattle.laws.specs.Laws.Tests.{true_eq, true_lt, lt_false, or_other, and_left, and_right}
use Rattle.cells.specs.Stream.{from, data_byte}
use Rattle.cells.specs.Sync.{three_sync}
use Rattle.cells.proofs.Laws.Bits.{byte_cell}
use Rattle.cells.proofs.Laws.Stream.{from_bit}
use Rattle.cells.proofs.Laws.Sync.{three_cell}
use Rattle.sector_rules.specs.declared.Id.{Id}
use Rattle.sector_rules.specs.Search.{is_header, id_of, is_header_of, field_at, size_code}
use Rattle.sector_rules.specs.Damage.{Binary}
use Rattle.sector_rules.proofs.Laws.Base.Told.{field_mark, header_syncs, header_mark_lem}

-- cell e of a header or field of n cells is read
unfoldable pub is_read : ℕ → ℕ → Bool
is_read n e = ltb e 48 || (eqb (e % 2) 1 && ltb e n)

module _ (f g : List ℕ) (bf : Binary f) (bg : Binary g) (tf : three_sync f ≡ true) (tg : three_sync g ≡ true) where
  syncs_same : (e : ℕ) → e < 48 → get_or f e 0 ≡ get_or g e 0
  syncs_same e h = three_cell f bf tf e h ∙ sym (three_cell g bg tg e h)

  -- the cells that are read agree, where the bytes after the sync bytes do
  read_same : (n : ℕ) → ((q : ℕ) → 3 ≤ q → 16 * q < n → data_byte f (16 * q) ≡ data_byte g (16 * q)) → (e : ℕ) → is_read n e ≡ true
      → get_or f e 0 ≡ get_or g e 0
  unfolding is_read
  read_same n same e r =
      by_order e 48 (λ l. syncs_same e l)
      (λ l.
      let u = or_other (ltb e 48) (eqb (e % 2) 1 && ltb e n) r (lt_false l) in
      let o : e % 2 ≡ 1 = true_eq (and_left (eqb (e % 2) 1) (ltb e n) u) in
      let h : e < n = true_lt (and_right (eqb (e % 2) 1) (ltb e n) u) in
      let p : e ≡ 16 * (e / 16) + (2 * (e % 16 / 2) + 1) = omega arith in
      ap (λ (k : ℕ). get_or f k 0) p ∙ byte_cell f bf (e / 16) (e % 16 / 2) (omega arith)
      ∙ ap (λ (b : ℕ). b / 2 ^ (8 - (e % 16 / 2 + 1)) % 2) (same (e / 16) (omega arith) (omega arith))
      ∙ sym (ap (λ (k : ℕ). get_or g k 0) p ∙ byte_cell g bg (e / 16) (e % 16 / 2) (omega arith)))

-- two headers that name the same sector agree in every cell that is read
pub headers_read : (f g : List ℕ) → Binary f → Binary g → is_header f ≡ true → is_header g ≡ true → id_of f ≡ id_of g
    → (e : ℕ) → is_read 128 e ≡ true → get_or f e 0 ≡ get_or g e 0
unfolding id_of
headers_read f g bf bg hf hg same e r =
    read_same f g bf bg (header_syncs f hf) (header_syncs g hg) 128 bytes e r
  where
    bytes : (q : ℕ) → 3 ≤ q → 16 * q < 128 → data_byte f (16 * q) ≡ data_byte g (16 * q)
    bytes q l h =
        by_equal q 3 (λ x. rw x (header_mark_lem f hf ∙ sym (header_mark_lem g hg)))
        (λ n₁. by_equal q 4 (λ x. rw x (ap (λ (i : Id). i.c) same))
        (λ n₂. by_equal q 5 (λ x. rw x (ap (λ (i : Id). i.h) same))
        (λ n₃. by_equal q 6 (λ x. rw x (ap (λ (i : Id). i.r) same))
        (λ n₄. let x : q ≡ 7 = omega arith in rw x (ap (λ (i : Id). i.n) same)))))

-- two data fields that are delivered agree in the sync bytes and the data cells of the mark
pub fields_read : (c d : List ℕ) → Binary c → Binary d → (j y p q : ℕ) → three_sync (from c j) ≡ true → three_sync (from d y) ≡ true
    → field_at c j ≡ Ok p → field_at d y ≡ Ok q → (e : ℕ) → is_read 64 e ≡ true → get_or (from c j) e 0 ≡ get_or (from d y) e 0
fields_read c d bc bd j y p q tc td ec ed e r =
    read_same (from c j) (from d y) (from_bit c j bc) (from_bit d y bd) tc td 64
    (λ k l h. let x : k ≡ 3 = omega arith in rw x (field_mark c j p ec ∙ sym (field_mark d y q ed))) e r

-- a header that belongs to the sector has the track, the side, R and 2
pub belongs_id : (t s r : ℕ) (i : Id) → is_header_of t s r (Some i) ≡ true → i ≡ record { c = t; h = s; r = r; n = 2 }
belongs_id t s r i e =
    let a₁ = and_left (eqb i.c t && eqb i.h s && eqb i.n size_code) (eqb i.r r) e in
    let a₂ = and_left (eqb i.c t && eqb i.h s) (eqb i.n size_code) a₁ in
    let ec : i.c ≡ t = true_eq (and_left (eqb i.c t) (eqb i.h s) a₂) in
    let eh : i.h ≡ s = true_eq (and_right (eqb i.c t) (eqb i.h s) a₂) in
    let er : i.r ≡ r = true_eq (and_right (eqb i.c t && eqb i.h s && eqb i.n size_code) (eqb i.r r) e) in
    let en : i.n ≡ size_code = true_eq (and_right (eqb i.c t && eqb i.h s) (eqb i.n size_code) a₁) in
    λ k. record { c = ec k; h = eh k; r = er k; n = en k }

-- a cell that is read is one of the n
pub read_lt : (n e : ℕ) → 48 ≤ n → is_read n e ≡ true → e < n
unfolding is_read
read_lt n e l r =
    by_order e 48 (λ h. omega arith)
    (λ h. true_lt (and_right (eqb (e % 2) 1) (ltb e n) (or_other (ltb e 48) (eqb (e % 2) 1 && ltb e n) r (lt_false h))))
