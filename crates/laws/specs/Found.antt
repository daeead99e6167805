-- A number below a bound as a value that may be absent, and the lowest from a number on that passes a test.
use Rattle.std.specs.Prelude.{◌≡◌, Bool, true, false, cond, Option, Some, None, MatchOption, ℕ, ◌≤◌, ◌<◌, ltb}

-- m where it is below n, and else none
unfoldable pub below : ℕ → ℕ → Option ℕ
below n m = cond (ltb m n) (Some m) None

-- r is the lowest number from k on and below n that passes the test, none where none does
pub record IsLowestFrom (test : ℕ → Bool) (k n : ℕ) (r : Option ℕ) : Type 0 where
  pub told : MatchOption r ((j : ℕ) → k ≤ j → j < n → test j ≡ false)
      (λ i. (k ≤ i) × (i < n) × (test i ≡ true) × ((j : ℕ) → k ≤ j → j < i → test j ≡ false))
