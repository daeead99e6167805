-- The letters of an HFE image as cells, where a track lies over the header: no run begins among them.
-- Rests on the cells of a side byte by byte (Rewrite.Base), on those of three sync bytes, and on one computed test for the letters of each version.
use Rattle.std.specs.Prelude.{Bool, true, false, cond, List, ◌≡◌, refl, ℕ, ◌+◌, ◌-◌, ◌*◌, ◌/◌, ◌%◌, ◌^◌, ◌<◌, ltb, eqb, length, get_or}
use Rattle.std.proofs.Math.Bool.{not}
use Rattle.std.proofs.Common.{sym, ap, ◌∙◌, zero-add, arith}
use Rattle.laws.specs.Lists.{stands_at}
use Rattle.laws.specs.Below.{all}
use Rattle.laws.specs.Laws.Cases.{by_test, by_order}
use Rattle.laws.specs.Laws.Tests.{cond_true, cond_false, eq_true, lt_true, lt_false, true≢false, not_was}
use Rattle.laws.specs.Laws.All.{all_at, all_is}
use Rattle.laws.specs.Laws.Same.{stands_each}
use Rattle.laws.specs.Laws.Tab.{get_d_past}
use Rattle.cells.specs.Stream.{from}
use Rattle.cells.specs.Sync.{sync_word, three_sync}
use Rattle.cells.proofs.Laws.Stream.{from_length, from_at, from_bit}
use Rattle.cells.proofs.Laws.Sync.{sync_within, three_first, three_cell}
use Rattle.sector_rules.specs.Hfe.{hfe_signature, version3_signature}
use Rattle.sector_rules.specs.Rewriting.{side_cells_at}
use Rattle.sector_rules.proofs.Laws.Rewrite.Base.{cells_length, cells_bit, cells_in}

-- cell k of a side that begins with the letters, and then a 0
abbrev letter_cell : List ℕ → ℕ → ℕ
letter_cell letters k = get_or letters (k / 8) 0 / 2 ^ (k % 8) % 2

-- cell e of a run
abbrev run_cell : ℕ → ℕ
run_cell e = sync_word / 2 ^ (16 - (e % 16 + 1)) % 2

-- whether a run could begin at place i: its first 16 cells are compared, as far as cells are known, which 72 are
abbrev run_fits : List ℕ → ℕ → Bool
run_fits letters i = all (λ (e : ℕ). cond (ltb (i + e) 72) (eqb (letter_cell letters (i + e)) (run_cell e)) true) 16

-- of the places of the letters none is one where a run could begin
unfoldable pub no_run_fits : List ℕ → Bool
no_run_fits letters = all (λ (i : ℕ). not (run_fits letters i)) 64

-- the letters of version 1 are such
pub version_1_no_run : no_run_fits hfe_signature ≡ true
unfolding no_run_fits all hfe_signature
version_1_no_run = refl

-- the letters of version 3 are such
pub version_3_no_run : no_run_fits version3_signature ≡ true
unfolding no_run_fits all version3_signature
version_3_no_run = refl

-- ---- a side that begins with the header's first byte

module _ (h letters : List ℕ) (stands : stands_at h 0 letters ≡ true) (eight : length letters ≡ 8) (revision : get_or h 8 0 ≡ 0) where
  -- byte b of the image: a letter, or the revision
  header_byte : (b : ℕ) → b < 9 → get_or h b 0 ≡ get_or letters b 0
  header_byte b l =
      by_order b 8
      (λ m. ap (λ (k : ℕ). get_or h k 0) (sym (zero-add b)) ∙ stands_each h 0 letters stands b (omega arith))
      (λ m.
      let e : b ≡ 8 = omega arith in
      ap (λ (k : ℕ). get_or h k 0) e ∙ revision ∙ sym (get_d_past letters b (omega arith)))

  module _ (start long s : ℕ) (first : start + 256 * s ≡ 0) where
    known : (k : ℕ) → k < 72 → k < length (side_cells_at h start long s) → get_or (side_cells_at h start long s) k 0 ≡ letter_cell letters k
    known k l m =
        let n : k < 8 * (long / 2) = rw (cells_length h start long s) at m in
        let e : start + 256 * s + 512 * (k / 8 / 256) + k / 8 % 256 ≡ k / 8 = omega arith in
        cells_in h start long s k (omega arith) n ∙ ap (λ (b : ℕ). b / 2 ^ (k % 8) % 2) (ap (λ (j : ℕ). get_or h j 0) e ∙ header_byte (k / 8) (omega arith))

    fits : (i : ℕ) → three_sync (from (side_cells_at h start long s) i) ≡ true → run_fits letters i ≡ true
    fits i run = all_is _ 16 each
      where
        each : (e : ℕ) → e < 16 → cond (ltb (i + e) 72) (eqb (letter_cell letters (i + e)) (run_cell e)) true ≡ true
        each e l =
            by_order (i + e) 72
            (λ m.
            let n = sync_within (from (side_cells_at h start long s) i) 0 (three_first (from (side_cells_at h start long s) i) run) in
            let z = from_length (side_cells_at h start long s) i in
            cond_true _ true (lt_true m)
            ∙ eq_true
            (sym (known (i + e) m (omega arith))
            ∙ sym (from_at (side_cells_at h start long s) i e)
            ∙ three_cell (from (side_cells_at h start long s) i) (from_bit (side_cells_at h start long s) i (cells_bit h start long s)) run e (omega arith)))
            (λ m. cond_false _ true (lt_false m))

    -- no run begins among the letters
    pub letters_no_run : no_run_fits letters ≡ true → (i : ℕ) → i < 64 → three_sync (from (side_cells_at h start long s) i) ≡ false
    unfolding no_run_fits
    letters_no_run none i l =
        by_test (three_sync (from (side_cells_at h start long s) i))
        (λ run. true≢false (run_fits letters i) (fits i run) (not_was (run_fits letters i) (all_at (λ (k : ℕ). not (run_fits letters k)) 64 none i l)))
        (λ off. off)
