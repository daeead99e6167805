-- What is asked of the numbers below a bound, as it is asked of them in a list: whether all pass, whether one does, and how many do.
-- Rests on the laws of what holds below a bound and of counts.
use Rattle.std.specs.Prelude.{◌≡◌, refl, Bool, not, ◌&&◌, List, [], ◌∷◌, ℕ, zero, suc, ◌+◌, ◌<◌, length, get_or}
use Rattle.std.specs.List.{range_with_len, enumerate_from, list_all, list_any, filter}
use Rattle.std.proofs.Common.{sym, ◌∙◌, arith}
use Rattle.std.proofs.Math.Path.{ap, ap₂}
use Rattle.laws.specs.Below.{all, count}
use Rattle.laws.specs.Laws.Cases.{by_test}
use Rattle.laws.specs.Laws.All.{all_front}
use Rattle.laws.specs.Laws.Count.{count_cong, count_head_yes, count_head_no}

all_cong_lem : (p q : ℕ → Bool) (n : ℕ) → ((i : ℕ) → i < n → p i ≡ q i) → all p n ≡ all q n
unfolding all
all_cong_lem p q zero e = refl
all_cong_lem p q (suc n) e = ap₂ (λ (x y : Bool). x && y) (e n (omega arith)) (all_cong_lem p q n (λ i h. e i (omega arith)))

all_from : (p : ℕ → Bool) (a n : ℕ) → list_all p (range_with_len a n) ≡ all (λ (k : ℕ). p (a + k)) n
unfolding all
all_from p a zero = refl
all_from p a (suc n) =
    let shift : all (λ (k : ℕ). p (a + 1 + k)) n ≡ all (λ (k : ℕ). p (a + suc k)) n =
    all_cong_lem (λ (k : ℕ). p (a + 1 + k)) (λ (k : ℕ). p (a + suc k)) n (λ i h. ap p (omega arith)) in
    ap₂ (λ (x y : Bool). x && y) (ap p (omega arith)) (all_from p (a + 1) n ∙ shift) ∙ sym (all_front (λ (k : ℕ). p (a + k)) n)

-- whether all numbers in the list of those below n pass
pub all_listed : (p : ℕ → Bool) (n : ℕ) → list_all p (range_with_len 0 n) ≡ all p n
all_listed p n = all_from p 0 n ∙ all_cong_lem (λ (k : ℕ). p (0 + k)) p n (λ i h. ap p (omega arith))

none_from : (p : ℕ → Bool) (a n : ℕ) → not (list_any p (range_with_len a n)) ≡ list_all (λ (k : ℕ). not (p k)) (range_with_len a n)
none_from p a zero = refl
none_from p a (suc n) = by_test (p a) (λ t. rw (t)) (λ t. rw (t) (none_from p (a + 1) n))

-- whether none of the numbers in the list of those below n passes
pub none_listed : (p : ℕ → Bool) (n : ℕ) → not (list_any p (range_with_len 0 n)) ≡ all (λ (k : ℕ). not (p k)) n
none_listed p n = none_from p 0 n ∙ all_listed (λ (k : ℕ). not (p k)) n

counted_from : (p : ℕ → Bool) (a n : ℕ) → length (filter p (range_with_len a n)) ≡ count n (λ (k : ℕ). p (a + k))
unfolding count
counted_from p a zero = refl
counted_from p a (suc n) =
    let here : p (a + 0) ≡ p a = ap p (omega arith) in
    let shift : count n (λ (k : ℕ). p (a + 1 + k)) ≡ count n (λ (k : ℕ). p (a + suc k)) =
    count_cong n (λ (k : ℕ). p (a + 1 + k)) (λ (k : ℕ). p (a + suc k)) (λ i h. ap p (omega arith)) in
    by_test (p a)
    (λ t. rw (t) (omega (arith, counted_from p (a + 1) n, count_head_yes n (λ (k : ℕ). p (a + k)) (here ∙ t))))
    (λ t. rw (t) (omega (arith, counted_from p (a + 1) n, count_head_no n (λ (k : ℕ). p (a + k)) (here ∙ t))))

-- how many numbers in the list of those below n pass
pub counted_listed : (p : ℕ → Bool) (n : ℕ) → length (filter p (range_with_len 0 n)) ≡ count n p
counted_listed p n = counted_from p 0 n ∙ count_cong n (λ (k : ℕ). p (0 + k)) p (λ i h. ap p (omega arith))

enumerated_from : {X : Type 0} (p : ℕ × X → Bool) (xs : List X) (d : X) (a : ℕ)
    → list_all p (enumerate_from a xs) ≡ all (λ (k : ℕ). p (a + k, get_or xs k d)) (length xs)
unfolding all
enumerated_from p [] d a = refl
enumerated_from {X} p (x ∷ xs) d a =
    let shift : all (λ (k : ℕ). p (a + 1 + k, get_or xs k d)) (length xs) ≡ all (λ (k : ℕ). p (a + suc k, get_or xs k d)) (length xs) =
    all_cong_lem (λ (k : ℕ). p (a + 1 + k, get_or xs k d)) (λ (k : ℕ). p (a + suc k, get_or xs k d)) (length xs)
    (λ i h. ap (λ (j : ℕ). p (j, get_or xs i d)) (omega arith)) in
    ap₂ (λ (u v : Bool). u && v) (ap (λ (j : ℕ). p (j, x)) (omega arith)) (enumerated_from p xs d (a + 1) ∙ shift)
    ∙ sym (all_front (λ (k : ℕ). p (a + k, get_or (x ∷ xs) k d)) (length xs))

-- whether all elements of a list pass, each with its place
pub all_enumerated : {X : Type 0} (p : ℕ × X → Bool) (xs : List X) (d : X)
    → list_all p (enumerate_from 0 xs) ≡ all (λ (k : ℕ). p (k, get_or xs k d)) (length xs)
all_enumerated p xs d =
    enumerated_from p xs d 0
    ∙ all_cong_lem (λ (k : ℕ). p (0 + k, get_or xs k d)) (λ (k : ℕ). p (k, get_or xs k d)) (length xs)
    (λ i h. ap (λ (j : ℕ). p (j, get_or xs i d)) (omega arith))

-- how many elements of a list pass
pub counted_list : {X : Type 0} (p : X → Bool) (xs : List X) (d : X) → length (filter p xs) ≡ count (length xs) (λ (k : ℕ). p (get_or xs k d))
unfolding count
counted_list p [] d = refl
counted_list p (x ∷ xs) d =
    by_test (p x)
    (λ t. rw t (omega (arith, counted_list p xs d, count_head_yes (length xs) (λ (k : ℕ). p (get_or (x ∷ xs) k d)) t)))
    (λ t. rw t (omega (arith, counted_list p xs d, count_head_no (length xs) (λ (k : ℕ). p (get_or (x ∷ xs) k d)) t)))
