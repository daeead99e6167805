-- Lists that are given by a rule for each place, and parts of a list.
-- Rests on the case splits.
use Rattle.std.specs.Prelude.{◌≡◌, refl, List, [], ◌∷◌, ◌++◌, ℕ, zero, suc, ◌+◌, ◌<◌, ◌≤◌, length, get_or, take, drop}
use Rattle.std.proofs.Common.{◌∙◌, sym, add-zero, zero-add, add-suc, suc-add, le_of_suc-le-suc, not-suc-le-zero, zero-lt-suc, arith, length-take}
use Rattle.std.proofs.Common.{length-drop, ext_get_or, length-take-le, get_or-take, get_or-drop}
use Rattle.std.proofs.Math.Path.{ap}
use Rattle.std.proofs.Math.Numerals.{add-one}
use Rattle.std.proofs.Math.ListN.{get_or-eq_default}
use Rattle.laws.specs.Lists.{tab_from, tab, element_at, window}
use Rattle.laws.specs.Laws.Cases.{by_order}

length_from : (f : ℕ → ℕ) (i n : ℕ) → length (tab_from f i n) ≡ n
length_from f i zero = refl
length_from f i (suc n) = ap suc (length_from f (suc i) n)

get_d_from : (f : ℕ → ℕ) (i n k : ℕ) → k < n → get_or (tab_from f i n) k 0 ≡ f (i + k)
get_d_from f i zero k h = absurd (not-suc-le-zero h)
get_d_from f i (suc n) zero h = ap f (sym (add-zero i))
get_d_from f i (suc n) (suc k) h = get_d_from f (suc i) n k (le_of_suc-le-suc h) ∙ ap f (suc-add i k ∙ sym (add-suc i k))

snoc_from : (f : ℕ → ℕ) (i n : ℕ) → tab_from f i (suc n) ≡ tab_from f i n ++ (f (i + n) ∷ [])
snoc_from f i zero = ap (λ (v : ℕ). f v ∷ []) (sym (add-zero i))
snoc_from f i (suc n) =
    ap (λ (l : List ℕ). f i ∷ l)
    (snoc_from f (suc i) n ∙ ap (λ (v : ℕ). tab_from f (suc i) n ++ (f v ∷ [])) (suc-add i n ∙ sym (add-suc i n)))

module _ (f : ℕ → ℕ) (n : ℕ) where
  -- a list given by a rule for n places has the length n
  pub tab_length : length (tab f n) ≡ n
  unfolding tab
  tab_length = length_from f 0 n

  -- its element at a place below n is what the rule gives there
  pub tab_in : (k : ℕ) → k < n → get_or (tab f n) k 0 ≡ f k
  unfolding tab
  tab_in k h = get_d_from f 0 n k h ∙ ap f (zero-add k)

  -- past its end stands 0
  pub tab_out : (k : ℕ) → n ≤ k → get_or (tab f n) k 0 ≡ 0
  tab_out k h = get_or-eq_default (tab f n) 0 (omega (arith, tab_length))

  -- a list of one place more is the list with one element after it
  pub tab_more : tab f (n + 1) ≡ tab f n ++ (f n ∷ [])
  unfolding tab
  tab_more = rw add-one (snoc_from f 0 n ∙ ap (λ (v : ℕ). tab f n ++ (f v ∷ [])) (zero-add n))

-- a bound that holds of each value of the rule, and of 0, holds of each element, inside and outside
pub tab_below : (f : ℕ → ℕ) (b : ℕ) → ((i : ℕ) → f i < suc b) → (n i : ℕ) → get_or (tab f n) i 0 < suc b
tab_below f b h n i = by_order i n (λ l. rw (tab_in f n i l) (h i)) (λ l. rw (tab_out f n i l) (zero-lt-suc b))

-- a list of length n whose elements are those of a rule is the list given by the rule
pub eq_tab : (l : List ℕ) (f : ℕ → ℕ) (n : ℕ) → length l ≡ n → ((k : ℕ) → k < n → get_or l k 0 ≡ f k) → l ≡ tab f n
eq_tab l f n e h =
    ext_get_or 0 l (tab f n) (e ∙ sym (tab_length f n)) (λ k b. let b' : k < n = rw e at b in h k b' ∙ sym (tab_in f n k b'))

-- two rules that agree below n give the same list
pub tab_ext : (f g : ℕ → ℕ) (n : ℕ) → ((k : ℕ) → k < n → f k ≡ g k) → tab f n ≡ tab g n
tab_ext f g n h = eq_tab (tab f n) g n (tab_length f n) (λ k b. tab_in f n k b ∙ h k b)

-- past the end of a list stands 0
pub get_d_past : (s : List ℕ) (i : ℕ) → length s ≤ i → get_or s i 0 ≡ 0
get_d_past s i h = get_or-eq_default s 0 h

-- a list is given by its own elements
pub tab_self : (l : List ℕ) → tab (λ (i : ℕ). get_or l i 0) (length l) ≡ l
tab_self l = sym (eq_tab l (λ (i : ℕ). get_or l i 0) (length l) refl (λ k h. refl))

-- the first n elements of a list given by a rule are given by the same rule
pub take_tab : (f : ℕ → ℕ) (n m : ℕ) → n ≤ m → take n (tab f m) ≡ tab f n
take_tab f n m h =
    let long : n ≤ length (tab f m) = omega (arith, tab_length f m) in
    eq_tab (take n (tab f m)) f n (length-take-le n (tab f m) long)
    (λ k l. get_or-take n (tab f m) k 0 l ∙ tab_in f m k (omega arith))

-- ---- a part of a list

module _ (s : List ℕ) (i n : ℕ) where
  -- a part of n elements has the length n
  pub window_length : length (window s i n) ≡ n
  unfolding window
  window_length = tab_length (element_at s i) n

  -- its element k is element i + k of the list
  pub window_in : (k : ℕ) → k < n → get_or (window s i n) k 0 ≡ get_or s (i + k) 0
  unfolding window element_at
  window_in k h = tab_in (element_at s i) n k h

-- a list of length n whose elements are those of s from i on is that part of s
pub eq_window : (l s : List ℕ) (i n : ℕ) → length l ≡ n → ((k : ℕ) → k < n → get_or l k 0 ≡ get_or s (i + k) 0) → l ≡ window s i n
unfolding window element_at
eq_window l s i n e h = eq_tab l (element_at s i) n e h

-- a part that ends within the list is what taking and dropping give
pub window_part : (s : List ℕ) (i n : ℕ) → i + n ≤ length s → take n (drop i s) ≡ window s i n
window_part s i n h =
    eq_window (take n (drop i s)) s i n (simp (length-take, length-drop) (omega arith))
    (λ k l. get_or-take n (drop i s) k 0 l ∙ get_or-drop i s k 0)
