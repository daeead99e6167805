-- The CRC of a header or field, the search for a sector's header, and the first place where a test holds.
-- Rests on the laws of the CRC.
use Rattle.sector_rules.specs.Search.{more_found}
use Rattle.std.specs.Prelude.{Bool, true, false, cond, List, [], ◌∷◌, ◌++◌, ◌≡◌, refl, ℕ, zero, suc, ◌+◌, ◌*◌, ◌≤◌, ◌<◌, eqb}
use Rattle.std.proofs.Common.{sym, ap, ◌∙◌, zero-add, add-one, arith}
use Rattle.laws.specs.Laws.Tab.{tab_ext}
use Rattle.cells.specs.Crc.{crc}
use Rattle.cells.specs.Stream.{data_byte, data_bytes}
use Rattle.cells.proofs.Laws.Crc.{follows_two}
use Rattle.sector_rules.specs.Search.{crc_holds, places_below, found_of, first}

-- ---- headers

-- the CRC of n bytes holds if it is the number in the next two bytes
pub crc_two : (f : List ℕ) (n : ℕ) → crc_holds f n ≡ eqb (crc (data_bytes f 0 n)) (data_byte f (16 * n) * 256 + data_byte f (16 * n + 16))
unfolding crc_holds data_bytes
crc_two f n =
    let e : 16 * (n + 1) ≡ 16 * n + 16 = omega arith in
    follows_two (λ (j : ℕ). data_byte f (16 * j)) n
    ∙ rw (e, tab_ext (λ (j : ℕ). data_byte f (16 * j)) (λ (j : ℕ). data_byte f (0 + 16 * j)) n (λ j l. ap (data_byte f) (sym (zero-add (16 * j)))))

-- ---- the search

found_snoc : (xs : List ℕ) (i : ℕ) → found_of (xs ++ (i ∷ [])) ≡ more_found (found_of xs) i
unfolding found_of
found_snoc [] i = refl
found_snoc (a ∷ []) i = refl
found_snoc (a ∷ (b ∷ xs)) i = refl

module _ (p : ℕ → Bool) (k : ℕ) where
  -- the search's answer after one more place where the test holds
  pub found_yes : p k ≡ true → found_of (places_below p (k + 1)) ≡ more_found (found_of (places_below p k)) k
  unfolding places_below
  found_yes e = rw (add-one, e) (found_snoc (places_below p k) k)

  -- the search's answer after one more place where the test does not hold
  pub found_no : p k ≡ false → found_of (places_below p (k + 1)) ≡ found_of (places_below p k)
  unfolding places_below
  found_no e = rw (add-one, e)

  -- the search's answer after one more place
  pub found_more : found_of (places_below p (k + 1)) ≡ cond (p k) (more_found (found_of (places_below p k)) k) (found_of (places_below p k))
  found_more = go (p k) refl
    where
      go : (t : Bool) → p k ≡ t → found_of (places_below p (k + 1)) ≡ cond t (more_found (found_of (places_below p k)) k) (found_of (places_below p k))
      go true e = found_yes e
      go false e = found_no e

-- two tests that agree below n hold at the same places
pub places_cong : (p q : ℕ → Bool) (n : ℕ) → ((i : ℕ) → i < n → p i ≡ q i) → places_below p n ≡ places_below q n
unfolding places_below
places_cong p q zero e = refl
places_cong p q (suc n) e = rw (e n (omega arith), places_cong p q n (λ i l. e i (omega arith)))

-- ---- the first place of a search

-- what is given at the first of some places where the test holds
pub first_is : {A : Type 0} (p : ℕ → Bool) (f : ℕ → A) (none : A) (m i k : ℕ) → k < m → ((j : ℕ) → j < k → p (i + j) ≡ false) → p (i + k) ≡ true
    → first p f none m i ≡ f (i + k)
unfolding first
first_is p f none zero i k h off on = absurd (omega arith)
first_is p f none (suc m) i zero h off on = let e : i + 0 ≡ i = omega arith in let z : p i ≡ true = rw e at on in rw (e, z)
first_is p f none (suc m) i (suc k) h off on =
    let e : i + 0 ≡ i = omega arith in
    let g : i + suc k ≡ suc i + k = omega arith in
    let z : p i ≡ false = rw e at (off 0 (omega arith)) in
    rw (z, g)
    (first_is p f none m (suc i) k (omega arith)
    (λ j l. let r : suc i + j ≡ i + suc j = omega arith in rw r (off (suc j) (omega arith)))
    (rw g at on))

-- where tests and what is given agree from place i on, the same is given
pub first_cong : {A : Type 0} (p q : ℕ → Bool) (f g : ℕ → A) (none : A) (m i : ℕ)
    → ((j : ℕ) → i ≤ j → p j ≡ q j) → ((j : ℕ) → i ≤ j → f j ≡ g j) → first p f none m i ≡ first q g none m i
unfolding first
first_cong p q f g none zero i ep ef = refl
first_cong p q f g none (suc m) i ep ef =
    rw (ep i (omega arith), ef i (omega arith), first_cong p q f g none m (suc i) (λ j l. ep j (omega arith)) (λ j l. ef j (omega arith)))
