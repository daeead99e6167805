-- Of the numbers below a bound: whether all pass a test, the lowest that does, how many do, the first that do; and the sum of their values.
use Rattle.std.specs.Prelude.{Bool, true, false, cond, ◌&&◌, List, [], ◌∷◌, Option, Some, None, ℕ, zero, suc, ◌+◌, ltb}

-- whether each number below n passes the test
unfoldable pub all : (ℕ → Bool) → ℕ → Bool
all f zero = true
all f (suc n) = f n && all f n

-- the lowest number below n that passes the test, or n where none does
unfoldable pub lowest : (ℕ → Bool) → ℕ → ℕ
lowest test zero = zero
lowest test (suc n) =
    let m : ℕ = lowest test n in
    cond (ltb m n) m (cond (test n) n (suc n))

-- the lowest number below n that passes the test, where one does
unfoldable pub first_below : (ℕ → Bool) → ℕ → Option ℕ
first_below test n = cond (ltb (lowest test n) n) (Some (lowest test n)) None

-- how many numbers below n pass the test; the count is bound, so that it is computed once
unfoldable pub count : ℕ → (ℕ → Bool) → ℕ
count zero p = zero
count (suc n) p = let c : ℕ = count n p in cond (p n) (suc c) c

-- of n numbers from i on, those that pass, upwards, the first k of them
unfoldable pub firsts_from : ℕ → ℕ → ℕ → (ℕ → Bool) → List ℕ
firsts_from zero i k p = []
firsts_from (suc n) i zero p = []
firsts_from (suc n) i (suc k) p = elim (p i) [ true ↦ i ∷ firsts_from n (suc i) k p | false ↦ firsts_from n (suc i) (suc k) p ]

-- the k lowest numbers below n that pass
unfoldable pub firsts : ℕ → ℕ → (ℕ → Bool) → List ℕ
firsts n k p = firsts_from n zero k p

-- the sum of f 0 to f (n - 1)
unfoldable pub sum : ℕ → (ℕ → ℕ) → ℕ
sum zero f = zero
sum (suc n) f = sum n f + f n
