-- What is written: a function on numbers, or a list, with other values at one number or from a place on.
use Rattle.std.specs.Prelude.{cond, ◌&&◌, List, ℕ, ◌+◌, ◌-◌, leb, ltb, eqb, length, get_or}
use Rattle.laws.specs.Lists.{tab, element_at}

-- f with v at k
unfoldable pub upd : {A : Type 0} → (ℕ → A) → ℕ → A → ℕ → A
upd f k v i = cond (eqb i k) v (f i)

-- f with n values of g from o on
unfoldable pub patch : (ℕ → ℕ) → ℕ → ℕ → (ℕ → ℕ) → ℕ → ℕ
patch f o n g i = cond (leb o i && ltb i (o + n)) (g (i - o)) (f i)

-- d with g 0, g 1, .., g (n - 1) from at on; what would stand past the end of d is left out
unfoldable pub overlay : List ℕ → ℕ → ℕ → (ℕ → ℕ) → List ℕ
overlay d at n g = tab (patch (λ (i : ℕ). get_or d i 0) at n g) (length d)

-- d with the list vs from at on
unfoldable pub put : List ℕ → ℕ → List ℕ → List ℕ
put d at vs = overlay d at (length vs) (element_at vs 0)
