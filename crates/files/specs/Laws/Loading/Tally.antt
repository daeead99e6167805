-- A tally: for each key, how many of the numbers below a bound have it.
-- Rests on the laws of counts (laws, Count).
use Rattle.std.specs.Prelude.{◌≡◌, refl, ◌≢◌, Bool, not, ◌&&◌, List, ℕ, zero, suc, ◌+◌, ◌≤◌, ◌<◌, eqb, length, get_or, set, replicate}
use Rattle.std.proofs.Common.{sym, ap, ◌∙◌, add-one, arith, length-set, get_or-set_same, get_or-set_other}
use Rattle.std.proofs.lemmas.List.{length-replicate, get_or-replicate}
use Rattle.laws.specs.Below.{all, count}
use Rattle.laws.specs.Laws.Cases.{by_equal, by_test}
use Rattle.laws.specs.Laws.Tests.{eq_true, eq_false, and_false_left}
use Rattle.laws.specs.Laws.Count.{count_yes, count_no, count_le}

none_passes : (p : ℕ → Bool) (n : ℕ) → eqb (count n p) 0 ≡ all (λ (b : ℕ). not (p b)) n
unfolding all count
none_passes p zero = refl
none_passes p (suc n) =
    by_test (p n)
    (λ e. ap (λ (y : ℕ). eqb y 0) (count_yes n p e)
    ∙ eq_false {a = suc (count n p)} {b = 0} (λ z. omega arith) ∙ sym (and_false_left (all (λ (b : ℕ). not (p b)) n) (ap not e)))
    (λ e. ap (λ (y : ℕ). eqb y 0) (count_no n p e) ∙ none_passes p n ∙ sym (ap (λ (y : Bool). not y && all (λ (b : ℕ). not (p b)) n) e))

-- t tallies the numbers below k by their keys
pub record Tallied (t : List ℕ) (keys : ℕ) (key : ℕ → ℕ) (k : ℕ) : Type 0 where
  pub long : length t ≡ keys
  pub counts : (x : ℕ) → x < keys → get_or t x 0 ≡ count k (λ (b : ℕ). eqb (key b) x)

-- a tally of zeros has no number yet
pub tally_none : (n : ℕ) (key : ℕ → ℕ) → Tallied (replicate n 0) n key 0
unfolding count
tally_none n key = record { long = length-replicate n 0; counts = λ x h. get_or-replicate n x 0 0 h }

module _ (t : List ℕ) (keys : ℕ) (key : ℕ → ℕ) (k : ℕ) (m : Tallied t keys key k) where
  other : (x : ℕ) → key k ≢ x → count (k + 1) (λ (b : ℕ). eqb (key b) x) ≡ count k (λ (b : ℕ). eqb (key b) x)
  other x h = rw add-one (count_no k (λ (b : ℕ). eqb (key b) x) (eq_false h))

  -- number k has the key x
  module _ (x : ℕ) (e : x ≡ key k) where
    -- number k is tallied under its key
    pub tally_more : (v : ℕ) → x < keys → v ≡ get_or t x 0 + 1 → Tallied (set t x v) keys key (k + 1)
    tally_more v l w =
        record {
          long = length-set t x v ∙ m.long;
          counts = λ y h.
              by_equal y x
              (λ q.
              let p : ℕ → Bool = λ (b : ℕ). eqb (key b) y in
              let c : count (k + 1) p ≡ suc (count k p) = rw add-one (count_yes k p (eq_true (sym e ∙ sym q))) in
              let same : get_or t x 0 ≡ count k p = ap (λ (z : ℕ). get_or t z 0) (sym q) ∙ m.counts y h in
              ap (λ (z : ℕ). get_or (set t x v) z 0) q
              ∙ get_or-set_same t x v 0 (omega (arith, m.long))
              ∙ omega arith)
              (λ q. get_or-set_other t x y v 0 q ∙ m.counts y h ∙ sym (other y (λ z. q (sym z ∙ sym e))));
        }

    -- a number with no key of the tally leaves it as it is
    pub tally_skip : keys ≤ x → Tallied t keys key (k + 1)
    tally_skip l = record { long = m.long; counts = λ y h. m.counts y h ∙ sym (other y (λ z. omega (arith, e))) }

  -- no key is tallied more often than there are numbers
  pub tally_most : (x : ℕ) → x < keys → get_or t x 0 ≤ k
  tally_most x h = omega (arith, m.counts x h, count_le k (λ (b : ℕ). eqb (key b) x))

  -- a key is tallied once if exactly one number has it
  pub tally_one : (x : ℕ) → x < keys → eqb (get_or t x 0) 1 ≡ eqb (count k (λ (b : ℕ). eqb (key b) x)) 1
  tally_one x h = ap (λ (y : ℕ). eqb y 1) (m.counts x h)

  -- a key is not tallied if no number has it
  pub tally_zero : (x : ℕ) → x < keys → eqb (get_or t x 0) 0 ≡ all (λ (b : ℕ). not (eqb (key b) x)) k
  tally_zero x h = ap (λ (y : ℕ). eqb y 0) (m.counts x h) ∙ none_passes (λ (b : ℕ). eqb (key b) x) k
