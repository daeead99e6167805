-- One byte as the code reads it: its bits reversed; a code by its lowest four bits; what each code and each count is followed by.
-- Rests on the definitions; what holds of every byte is one computed test.
use Rattle.std.specs.Prelude.{Bool, true, false, cond, ◌≢◌, ◌≡◌, refl, ℕ, ◌%◌, ◌≤◌, ◌<◌, eqb}
use Rattle.std.proofs.Common.{◌∙◌, arith}
use Rattle.std.specs.Int.{reverse_bits, reverse_bits_onto}
use Rattle.std.proofs.Common.{w8}
use Rattle.laws.specs.Lists.{tab}
use Rattle.laws.specs.Below.{all}
use Rattle.laws.specs.Laws.All.{all_eq}
use Rattle.laws.specs.Laws.Tests.{le_true, le_false, eq_false, cond_true, cond_false}
use Rattle.cells.specs.declared.Expected.TheVariants.{Any, Rate, Count, Partial, Wrong}
use Rattle.cells.specs.Stream.{number}
use Rattle.cells.specs.Codes.{byte_cells, reversed_bits, is_code, after_code, expected_after}

-- ---- one byte

-- the bits of a byte are reversed by the library's reading, one bit after another
pub reversed_steps : (b : ℕ) → b < 256 → reverse_bits w8 b ≡ reversed_bits b
unfolding all tab number byte_cells reversed_bits reverse_bits_onto
reversed_steps b h = all_eq (reverse_bits w8) reversed_bits 256 refl b h

same_test : (p q : Bool) → ◌≡◌ {A = ℕ} (cond p 1 0) (cond q 1 0) → p ≡ q
same_test true true e = refl
same_test true false e = absurd (omega arith)
same_test false true e = absurd (omega arith)
same_test false false e = refl

-- a byte is a code if its lowest four bits are all 1
pub code_low : (b : ℕ) → b < 256 → eqb (b % 16) 15 ≡ is_code b
unfolding all tab number byte_cells reversed_bits is_code
code_low b h =
    same_test (eqb (b % 16) 15) (is_code b) (all_eq (λ (k : ℕ). cond (eqb (k % 16) 15) 1 0) (λ (k : ℕ). cond (is_code k) 1 0) 256 refl b h)

module _ (k v : ℕ) where
  -- every other code is wrong
  pub after_wrong : 0xF1 < v → v ≢ 0xF2 → v ≢ 0xF3 → after_code k v ≡ Wrong k
  unfolding after_code
  after_wrong h f g =
      cond_false Any (cond (eqb v 0xF2) (Rate k) (cond (eqb v 0xF3) (Count k) (Wrong k))) (le_false h)
      ∙ cond_false (Rate k) (cond (eqb v 0xF3) (Count k) (Wrong k)) (eq_false f) ∙ cond_false (Count k) (Wrong k) (eq_false g)

-- a count n that b reads as
module _ (p k b n : ℕ) (e : n ≡ reversed_bits b) where
  -- after a count up to 7 stands the byte of which so many cells are dropped
  pub count_right : n ≤ 7 → expected_after (Count p) k b ≡ Partial p n
  unfolding expected_after
  count_right h = rw (← e) (cond_true (Partial p n) (Wrong p) (le_true h))

  -- a greater count makes its code wrong
  pub count_wrong : 7 < n → expected_after (Count p) k b ≡ Wrong p
  unfolding expected_after
  count_wrong h = rw (← e) (cond_false (Partial p n) (Wrong p) (le_false h))
