-- Lists that are given by a rule, a part of a list, and tests whether bytes are those of a list.
-- The names are shut (unfoldable), so that a goal shows them and not what they compute to.
use Rattle.std.specs.Prelude.{Bool, true, false, ◌&&◌, List, [], ◌∷◌, ℕ, zero, suc, ◌+◌, eqb, leb, length, get_or}

-- f i, f (i + 1), .., n of them; head and tail are bound, so that to read one place costs by the place and not by n
abbrev pub tab_from : (ℕ → ℕ) → ℕ → ℕ → List ℕ
tab_from f i zero = []
tab_from f i (suc n) =
    let h = f i in
    let t = tab_from f (suc i) n in
    h ∷ t

-- f 0, f 1, .., f (n - 1)
unfoldable pub tab : (ℕ → ℕ) → ℕ → List ℕ
tab f n = tab_from f 0 n

-- element i + k of s, 0 past its end
unfoldable pub element_at : List ℕ → ℕ → ℕ → ℕ
element_at s i k = get_or s (i + k) 0

-- the n elements of s from i on, 0 past its end
unfoldable pub window : List ℕ → ℕ → ℕ → List ℕ
window s i n = tab (element_at s i) n

-- whether two lists have the same elements in the same order
unfoldable pub same : List ℕ → List ℕ → Bool
same [] [] = true
same [] (y ∷ ys) = false
same (x ∷ xs) [] = false
same (x ∷ xs) (y ∷ ys) = eqb x y && same xs ys

-- whether the bytes of f from o on are those of t
unfoldable pub bytes_are : (ℕ → ℕ) → ℕ → List ℕ → Bool
bytes_are f o t = same (tab (λ (i : ℕ). f (o + i)) (length t)) t

-- whether the list t stands in s from at on, all of it before the end of s
unfoldable pub stands_at : List ℕ → ℕ → List ℕ → Bool
stands_at s at t = leb (at + length t) (length s) && bytes_are (λ (i : ℕ). get_or s i 0) at t
