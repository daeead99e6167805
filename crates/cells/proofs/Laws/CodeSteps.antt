-- What bytes give code by code.
-- Rests on the laws of codes byte by byte (Codes, CodesRead).
use Rattle.std.specs.Prelude.{false, ◌≡◌, ℕ, suc, ◌+◌, ◌≤◌, ◌<◌, drop}
use mathlib.Core.List.{List, [], ◌∷◌}
use Rattle.std.proofs.Math.Path.{refl}
use Rattle.std.proofs.Common.{sym, ap, ◌∙◌, add-one, arith}
use Rattle.laws.specs.Lists.{tab}
use Rattle.laws.specs.Laws.Cases.{by_order}
use Rattle.laws.specs.Laws.Tests.{le_true, cond_true}
use Rattle.cells.specs.declared.Expected.{Expected}
use Rattle.cells.specs.declared.Expected.TheVariants.{Any, Rate, Count, Partial, Wrong}
use Rattle.cells.specs.Stream.{number, byte_place, cell_at, stream}
use Rattle.cells.specs.Codes.{byte_cells, reversed_bits, is_code, after_code, expected_after, cells_given, WrongCode, cells_before, at_end, coded_from, coded}
use Rattle.cells.specs.CodeValues.{CodeSteps}
use Rattle.cells.proofs.Laws.Codes.{before_none, plain_given, plain_after}
use Rattle.cells.proofs.Laws.CodesRead.{after_wrong, count_right, count_wrong}

-- one byte
next : (x : Expected) (k b : ℕ) (bs : List ℕ) → coded_from x k (b ∷ bs) ≡ cells_before (cells_given x b) (coded_from (expected_after x k b) (k + 1) bs)
unfolding coded_from
next x k b bs = ap (λ (m : ℕ). cells_before (cells_given x b) (coded_from (expected_after x k b) m bs)) (sym (add-one k))

-- a byte that gives no cell
passed : (x y : Expected) (k b : ℕ) (bs : List ℕ) → cells_given x b ≡ [] → expected_after x k b ≡ y → coded_from x k (b ∷ bs) ≡ coded_from y (k + 1) bs
passed x y k b bs e f = next x k b bs ∙ rw (e, f) (before_none (coded_from y (k + 1) bs))

-- after a wrong code nothing is given
wrong_stays : (p k : ℕ) (bs : List ℕ) → coded_from (Wrong p) k bs ≡ WrongCode p
unfolding coded_from at_end cells_given expected_after cells_before
wrong_stays p k [] = refl
wrong_stays p k (b ∷ bs) = ap (cells_before []) (wrong_stays p (suc k) bs)

module _ (k : ℕ) (bs : List ℕ) where
  nothing_step : coded_from Any k (0x0F ∷ bs) ≡ coded_from Any (k + 1) bs
  unfolding tab number byte_cells reversed_bits is_code after_code expected_after cells_given
  nothing_step = passed Any Any k 0x0F bs refl refl

  index_step : coded_from Any k (0x8F ∷ bs) ≡ coded_from Any (k + 1) bs
  unfolding tab number byte_cells reversed_bits is_code after_code expected_after cells_given
  index_step = passed Any Any k 0x8F bs refl refl

  rate_begins : coded_from Any k (0x4F ∷ bs) ≡ coded_from (Rate k) (k + 1) bs
  unfolding tab number byte_cells reversed_bits is_code after_code expected_after cells_given
  rate_begins = passed Any (Rate k) k 0x4F bs refl refl

  count_begins : coded_from Any k (0xCF ∷ bs) ≡ coded_from (Count k) (k + 1) bs
  unfolding tab number byte_cells reversed_bits is_code after_code expected_after cells_given
  count_begins = passed Any (Count k) k 0xCF bs refl refl

  module _ (b : ℕ) where
    wrong_step : 0xF4 ≤ reversed_bits b → coded_from Any k (b ∷ bs) ≡ WrongCode k
    unfolding expected_after cells_given is_code
    wrong_step h =
        passed Any (Wrong k) k b bs (cond_true [] (byte_cells b) (le_true {a = 0xF0} {b = reversed_bits b} (omega arith)))
        (after_wrong k (reversed_bits b) (omega arith) (λ e. omega arith) (λ e. omega arith))
        ∙ wrong_stays k (k + 1) bs

    plain_step : is_code b ≡ false → coded_from Any k (b ∷ bs) ≡ cells_before (byte_cells b) (coded_from Any (k + 1) bs)
    plain_step e = next Any k b bs ∙ rw (plain_given b e, plain_after k b e)

rate_step : (k v : ℕ) (bs : List ℕ) → coded_from Any k (0x4F ∷ v ∷ bs) ≡ coded_from Any (k + 2) bs
unfolding expected_after cells_given
rate_step k v bs =
    let z : k + 1 + 1 ≡ k + 2 = omega arith in
    rate_begins k (v ∷ bs) ∙ passed (Rate k) Any (k + 1) v bs refl refl ∙ ap (λ (m : ℕ). coded_from Any m bs) z

-- a count, by what it leaves
counted : (k n : ℕ) (bs : List ℕ) (y : Expected) → expected_after (Count k) (k + 1) n ≡ y → coded_from Any k (0xCF ∷ n ∷ bs) ≡ coded_from y (k + 1 + 1) bs
unfolding cells_given
counted k n bs y e = count_begins k (n ∷ bs) ∙ passed (Count k) y (k + 1) n bs refl e

over_step : (k n : ℕ) (bs : List ℕ) → 7 < reversed_bits n → coded_from Any k (0xCF ∷ n ∷ bs) ≡ WrongCode k
over_step k n bs h = counted k n bs (Wrong k) (count_wrong k (k + 1) n (reversed_bits n) refl h) ∙ wrong_stays k (k + 1 + 1) bs

dropped_step : (k n b : ℕ) (bs : List ℕ) → reversed_bits n ≤ 7
    → coded_from Any k (0xCF ∷ n ∷ b ∷ bs) ≡ cells_before (drop (reversed_bits n) (byte_cells b)) (coded_from Any (k + 3) bs)
unfolding expected_after cells_given
dropped_step k n b bs h =
    let z : k + 1 + 1 + 1 ≡ k + 3 = omega arith in
    counted k n (b ∷ bs) (Partial k (reversed_bits n)) (count_right k (k + 1) n (reversed_bits n) refl h)
    ∙ next (Partial k (reversed_bits n)) (k + 1 + 1) b bs
    ∙ ap (λ (m : ℕ). cells_before (drop (reversed_bits n) (byte_cells b)) (coded_from Any m bs)) z

dropped_cut_step : (k n : ℕ) → coded_from Any k (0xCF ∷ n ∷ []) ≡ WrongCode k
unfolding coded_from at_end
dropped_cut_step k n =
    by_order 7 (reversed_bits n)
    (λ h. over_step k n [] h)
    (λ h. counted k n [] (Partial k (reversed_bits n)) (count_right k (k + 1) n (reversed_bits n) refl h))

-- code_steps: all of these hold
pub code_steps : CodeSteps
unfolding tab byte_place cell_at stream byte_cells cells_before coded_from at_end coded
code_steps =
    record {
      ended = λ k. refl;
      plain = λ k b bs e. plain_step k bs b e;
      nothing = nothing_step;
      index = index_step;
      rate = rate_step;
      rate_cut = λ k. rate_begins k [];
      dropped = dropped_step;
      count_cut = λ k. count_begins k [];
      dropped_cut = dropped_cut_step;
      count_over = over_step;
      wrong = λ k b bs h. wrong_step k bs b h;
      begins = λ bs. refl;
      byte_cells_lem = λ b. refl;
      before_cells = λ c d. refl;
      before_wrong = λ c p. refl;
    }
