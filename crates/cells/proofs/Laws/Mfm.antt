-- The cells of a byte and of an item, each of them 0 or 1.
-- Rests on the laws of tests.
use Rattle.std.specs.Prelude.{Option, Some, None, Bool, true, false, cond, ◌&&◌, ◌≡◌, refl, ℕ, zero, suc, ◌-◌, ◌%◌, ◌<◌, eqb}
use Rattle.std.specs.Option.{unwrap_or, option_eq}
use Rattle.laws.specs.Laws.Cases.{by_test}
use Rattle.laws.specs.Laws.Tests.{true≢false, true_eq, eq_true, eq_false}
use Rattle.std.proofs.Common.{sym, ◌∙◌, mod-lt, zero-lt-suc, arith, lit<}
use Rattle.cells.specs.Mfm.{bit_of, clock, before, mfm_cell}
use Rattle.cells.specs.Written.{item_byte, left_out, item_cell}
use Rattle.cells.specs.declared.Item.{Item}

bit_of_bit : (x k : ℕ) → bit_of x k < 2
unfolding bit_of
bit_of_bit x k = mod-lt _ (zero-lt-suc 1)

-- a conditional of two values that are 0 or 1 is 0 or 1
pub cond_bit : (t : Bool) (a b : ℕ) → a < 2 → b < 2 → cond t a b < 2
cond_bit true a b h l = h
cond_bit false a b h l = l

-- every clock cell is 0 or 1
pub clock_bit : (a b : ℕ) → clock a b < 2
unfolding clock
clock_bit a b = cond_bit (eqb b 0 && eqb a 0) 1 0 (lit< tt) (lit< tt)

-- every cell of a byte is 0 or 1
pub mfm_cell_bit : (p x j : ℕ) → mfm_cell p x j < 2
unfolding mfm_cell
mfm_cell_bit p x j = cond_bit (eqb (j % 2) 0) _ _ (clock_bit _ _) (bit_of_bit _ _)

-- every cell of an item is 0 or 1
pub item_cell_bit : (p : ℕ) (a : Item) (j : ℕ) → item_cell p a j < 2
unfolding item_cell
item_cell_bit p a j = cond_bit (eqb j (left_out a)) 0 _ (lit< tt) (mfm_cell_bit p (item_byte a) j)

-- the bit before a bit of a byte other than its first is the one before it in the byte
pub before_later : (p x k : ℕ) → (k ≡ 0 → ⊥) → bit_of x (k - 1) ≡ before p x k
unfolding before
before_later p x zero h = absurd (h refl)
before_later p x (suc k) h = let e : suc k - 1 ≡ k = omega arith in rw e

-- a cell is the one that is left out, k for one of 16 or none, if it is the one that is named
pub left_out_named : (o : Option ℕ) (j k : ℕ) → unwrap_or o 16 ≡ k → j < 16 → option_eq eqb o (Some j) ≡ eqb j k
left_out_named None j k e h = sym (eq_false (λ d. absurd (omega arith)))
left_out_named (Some x) j k e h =
    by_test (eqb x j)
    (λ t. t ∙ sym (eq_true (sym (true_eq t) ∙ e)))
    (λ t. t ∙ sym (eq_false (λ d. true≢false _ (eq_true (e ∙ sym d)) t)))
