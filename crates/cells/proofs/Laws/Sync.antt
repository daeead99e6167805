-- The test for a sync byte, and for three in a row.
-- Rests on the laws of the numbers that cells spell.
use Rattle.std.specs.Prelude.{List, Bool, true, false, ◌&&◌, ◌≡◌, ℕ, zero, suc, ◌+◌, ◌-◌, ◌/◌, ◌%◌, ◌^◌, ◌≤◌, ◌<◌, leb, eqb, length, get_or}
use Rattle.std.proofs.Common.{refl, sym, ap, ◌∙◌, one-mul}
use native.Mathlib.Omega.{arith}
use borrow.Author.Tests.{le-leb, lt-leb, leb-true, eq-eqb, ne_eqb, eqb-true}
use Rattle.std.specs.List.{list_all, range_with_len}
use Rattle.laws.specs.Laws.Cases.{by_order, by_test}
use Rattle.laws.specs.Laws.Tests.{true≢false, and_left, and_right}
use Rattle.cells.specs.Stream.{word, number, from}
use Rattle.cells.specs.Sync.{sync_word, sync_at, three_sync}
use Rattle.cells.proofs.Laws.Stream.{from_length}
use Rattle.cells.proofs.Laws.Number.{number_more, digits_more, word_from, number_cell}

module _ (c : List ℕ) (k : ℕ) where
  -- no sync byte is found where fewer than 16 cells are left
  pub sync_past : length c < k + 16 → sync_at c k ≡ false
  unfolding sync_at
  sync_past h = rw (lt-leb (k + 16) (length c) h)

  -- where 16 cells are left, a sync byte is found if they spell 4489
  pub sync_fits : k + 16 ≤ length c → sync_at c k ≡ eqb (word c k) sync_word
  unfolding sync_at
  sync_fits h = rw (le-leb (k + 16) (length c) h)

  -- where a sync byte is found, 16 cells are left
  pub sync_within : sync_at c k ≡ true → k + 16 ≤ length c
  unfolding sync_at
  sync_within e = leb-true _ _ (and_left (leb (k + 16) (length c)) _ e)

  -- where a sync byte is found, the 16 cells spell 4489
  pub sync_word_lem : sync_at c k ≡ true → word c k ≡ sync_word
  unfolding sync_at
  sync_word_lem e = eqb-true _ _ (and_right (leb (k + 16) (length c)) _ e)

  -- where 16 cells are left and spell 4489, a sync byte is found
  pub sync_all : k + 16 ≤ length c → number c 1 k 16 ≡ sync_word → sync_at c k ≡ true
  unfolding word
  sync_all h e = sync_fits h ∙ eq-eqb _ _ e

  -- one more cell that agrees with that of a sync byte
  pub sync_more : (n : ℕ) → n < 16 → number c 1 k n ≡ sync_word / 2 ^ (16 - n) → get_or c (k + n) 0 ≡ sync_word / 2 ^ (15 - n) % 2
      → number c 1 k (n + 1) ≡ sync_word / 2 ^ (16 - (n + 1))
  sync_more n l e q =
      let m : 15 - n ≡ 16 - (n + 1) = omega arith in
      rw (number_more, one-mul, e, q, m) (digits_more sync_word 16 n l)

  -- where one cell is not that of a sync byte, none is found
  pub sync_differs : ((i : ℕ) → get_or c i 0 < 2) → k + 16 ≤ length c → (n : ℕ) → n < 16
      → (get_or c (k + n) 0 ≡ sync_word / 2 ^ (15 - n) % 2 → ⊥) → sync_at c k ≡ false
  unfolding word
  sync_differs bit h n l d =
      let m : 16 - (n + 1) ≡ 15 - n = omega arith in
      sync_fits h ∙ ne_eqb (number c 1 k 16) sync_word (λ (e : number c 1 k 16 ≡ sync_word). d (number_cell c bit k 16 n l ∙ rw (e, m)))

-- a sync byte is found at cell k of those from place i on if it is found at i + k
pub sync_from : (c : List ℕ) (i k : ℕ) → sync_at (from c i) k ≡ sync_at c (i + k)
sync_from c i k =
    by_order (length c) (i + k + 16)
    (λ l. sync_past (from c i) k (rw from_length (omega arith)) ∙ sym (sync_past c (i + k) l))
    (λ l.
    sync_fits (from c i) k (rw from_length (omega arith)) ∙ ap (λ (w : ℕ). eqb w sync_word) (word_from c i k)
    ∙ sym (sync_fits c (i + k) l))

-- three in a row
module _ (c : List ℕ) (t : three_sync c ≡ true) where
  -- of three sync bytes in a row, the first is found at cell 0
  pub three_first : sync_at c 0 ≡ true
  unfolding three_sync
  three_first = and_left _ (sync_at c 16) (and_left (sync_at c 0 && sync_at c 16) _ t)

  -- of three sync bytes in a row, the second is found at cell 16
  pub three_second : sync_at c 16 ≡ true
  unfolding three_sync
  three_second = and_right (sync_at c 0) _ (and_left (sync_at c 0 && sync_at c 16) _ t)

  -- of three sync bytes in a row, the third is found at cell 32
  pub three_third : sync_at c 32 ≡ true
  unfolding three_sync
  three_third = and_right (sync_at c 0 && sync_at c 16) _ t

-- three sync bytes in a row are not found where fewer than 16 cells are left
pub three_past : (c : List ℕ) → length c < 16 → three_sync c ≡ false
unfolding three_sync
three_past c h = rw (sync_past c 0 (omega arith))

-- each of the 48 cells of three sync bytes in a row is that of a sync byte
pub three_cell : (c : List ℕ) → ((i : ℕ) → get_or c i 0 < 2) → three_sync c ≡ true → (e : ℕ) → e < 48
    → get_or c e 0 ≡ sync_word / 2 ^ (16 - (e % 16 + 1)) % 2
unfolding word
three_cell c bit t e h =
    by_order e 16 (λ l. cell 0 (three_first c t) (omega arith) (omega arith))
    (λ l. by_order e 32 (λ m. cell 16 (three_second c t) (omega arith) (omega arith)) (λ m. cell 32 (three_third c t) (omega arith) (omega arith)))
  where
    cell : (k : ℕ) → sync_at c k ≡ true → k + e % 16 ≡ e → e % 16 < 16 → get_or c e 0 ≡ sync_word / 2 ^ (16 - (e % 16 + 1)) % 2
    cell k s p l =
        ap (λ (n : ℕ). get_or c n 0) (sym p) ∙ number_cell c bit k 16 (e % 16) l ∙ ap (λ (w : ℕ). w / 2 ^ (16 - (e % 16 + 1)) % 2) (sync_word_lem c k s)

-- cell k + j is cell j of a sync byte
abbrev pub sync_cell : List ℕ → ℕ → ℕ → Bool
sync_cell c k j = eqb (get_or c (k + j) 0) (sync_word / 2 ^ (15 - j) % 2)

-- 16 cells that are left, cell by cell
module _ (c : List ℕ) (k : ℕ) (bit : (i : ℕ) → get_or c i 0 < 2) (h : k + 16 ≤ length c) where
  -- where the first n cells are those of a sync byte, one is found if the m others are so too
  cells_after : (m n : ℕ) → n + m ≡ 16 → number c 1 k n ≡ sync_word / 2 ^ (16 - n)
      → list_all (sync_cell c k) (range_with_len n m) ≡ sync_at c k
  cells_after zero n e q = let l : n ≡ 16 = omega arith in sym (sync_all c k h (rw l at q))
  cells_after (suc m) n e q =
      by_test (sync_cell c k n)
      (λ t. rw t (cells_after m (n + 1) (omega arith) (sync_more c k n (omega arith) q (eqb-true _ _ t))))
      (λ t. rw t (sym (sync_differs c k bit h n (omega arith) (λ d. true≢false _ (eq-eqb _ _ d) t))))

  -- a sync byte is found if each of the 16 cells is that of a sync byte
  pub sync_cells_listed : list_all (sync_cell c k) (range_with_len 0 16) ≡ sync_at c k
  unfolding number
  sync_cells_listed = cells_after 16 0 refl refl
