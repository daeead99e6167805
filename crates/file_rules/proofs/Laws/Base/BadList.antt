-- A list of bad blocks: when it is accepted, and how many different blocks it has.
-- Rests on the laws of counts (laws, Count).
use Rattle.std.specs.Prelude.{◌≡◌, refl, Bool, true, false, ◌&&◌, ◌||◌, List, [], ◌∷◌, ℕ, suc, ◌+◌, ◌≤◌, ◌<◌, leb, ltb, eqb}
use Rattle.std.proofs.Common.{sym, ap, ◌∙◌, arith}
use Rattle.laws.specs.Below.{count}
use Rattle.laws.specs.Laws.Cases.{by_test}
use Rattle.laws.specs.Laws.Tests.{lt_true, le_true, eq_true, true_lt, true_le, true_eq, true≢false, cond_true, cond_false}
use Rattle.laws.specs.Laws.Tests.{and_true, and_false_left, and_false_right, and_left, and_right, or_left, or_right, or_other}
use Rattle.laws.specs.Laws.Count.{count_cong, count_none, count_one, count_or, count_le}
use Rattle.sector_rules.specs.Geometry.{blocks}
use Rattle.file_rules.specs.Arguments.{listed, bad_list_right, count_listed, EachCanBeBad}
use Rattle.file_rules.specs.Model.{different_blocks}

-- ---- which lists are accepted

-- an accepted list has blocks 2 to 479
pub right_each : (bad : List ℕ) → bad_list_right bad ≡ true → EachCanBeBad bad
unfolding listed bad_list_right
right_each [] t b e = true≢false false e refl
right_each (x ∷ xs) t b e =
    let here : (leb 2 x && ltb x blocks) ≡ true = and_left (leb 2 x && ltb x blocks) (bad_list_right xs) t in
    let low : 2 ≤ x = true_le (and_left (leb 2 x) (ltb x blocks) here) in
    let high : x < blocks = true_lt (and_right (leb 2 x) (ltb x blocks) here) in
    by_test (eqb x b)
    (λ q. let is : x ≡ b = true_eq q in (omega arith, omega arith))
    (λ q. right_each xs (and_right (leb 2 x && ltb x blocks) (bad_list_right xs) t) b (or_other (eqb x b) (listed b xs) e q))

-- a list of blocks 2 to 479 is accepted
pub each_right : (bad : List ℕ) → EachCanBeBad bad → bad_list_right bad ≡ true
unfolding listed bad_list_right
each_right [] h = refl
each_right (x ∷ xs) h =
    let here : (2 ≤ x) × (x ≤ 479) = h x (or_left (eqb x x) (listed x xs) (eq_true {a = x} {b = x} refl)) in
    and_true (and_true (le_true here.0) (lt_true {a = x} {b = blocks} (omega (arith, here.1))))
    (each_right xs (λ b t. h b (or_right (eqb x b) (listed b xs) t)))

-- the empty list has none
pub none_bad : EachCanBeBad []
unfolding listed
none_bad b e = true≢false false e refl

-- a list with block 0, block 1 or a number over 479 is not accepted
pub wrong_listed : (bad : List ℕ) (b : ℕ) → listed b bad ≡ true → (2 ≤ b → 480 ≤ b) → bad_list_right bad ≡ false
wrong_listed bad b e w =
    by_test (bad_list_right bad) (λ t. let r : (2 ≤ b) × (b ≤ 479) = right_each bad t b e in absurd (omega (arith, r.0, r.1, w r.0))) (λ t. t)

-- blocks 0 and 1 are in no accepted list
pub low_unlisted : (bad : List ℕ) → EachCanBeBad bad → (b : ℕ) → b < 2 → listed b bad ≡ false
low_unlisted bad h b l = by_test (listed b bad) (λ t. absurd (omega (arith, (h b t).0))) (λ t. t)

-- ---- how many blocks a list has

-- no more than there are
pub bad_most : (bad : List ℕ) → count_listed bad ≤ blocks
unfolding count_listed
bad_most bad = count_le blocks (λ (b : ℕ). listed b bad)

listed_again : (x : ℕ) (xs : List ℕ) → listed x xs ≡ true → (b : ℕ) → listed b xs ≡ listed b (x ∷ xs)
unfolding listed
listed_again x xs t b =
    by_test (eqb x b)
    (λ q. let here : listed b xs ≡ true = ap (λ (j : ℕ). listed j xs) (sym (true_eq q)) ∙ t in here ∙ sym (or_left (eqb x b) (listed b xs) q))
    (λ q. sym (ap (λ (a : Bool). a || listed b xs) q))

-- counted one by one, where a block that stands there again is passed over, they are the blocks of the disk that the list has
pub different_is : (bad : List ℕ) → EachCanBeBad bad → different_blocks bad ≡ count_listed bad
unfolding different_blocks count_listed listed
different_is [] h = sym (count_none blocks (λ (b : ℕ). listed b []) (λ b l. refl))
different_is (x ∷ xs) h =
    let rest : EachCanBeBad xs = λ b t. h b (or_right (eqb x b) (listed b xs) t) in
    let inside : x ≤ 479 = (h x (or_left (eqb x x) (listed x xs) (eq_true {a = x} {b = x} refl))).1 in
    by_test (listed x xs)
    (λ t.
    cond_true _ _ t ∙ different_is xs rest
    ∙ count_cong blocks (λ (b : ℕ). listed b xs) (λ (b : ℕ). listed b (x ∷ xs)) (λ b l. listed_again x xs t b))
    (λ t.
    let one : count blocks (λ (b : ℕ). eqb x b) ≡ 1 =
    count_one blocks x (λ (b : ℕ). eqb x b) (omega arith) (eq_true {a = x} {b = x} refl) (λ j l q. sym (true_eq q)) in
    let both : count blocks (λ (b : ℕ). (eqb x b || listed b xs)) ≡ count blocks (λ (b : ℕ). eqb x b) + count blocks (λ (b : ℕ). listed b xs) =
    count_or blocks (λ (b : ℕ). eqb x b) (λ (b : ℕ). listed b xs) (λ b l. apart b t) in
    cond_false _ _ t ∙ ap suc (different_is xs rest) ∙ omega arith)
  where
    apart : (b : ℕ) → listed x xs ≡ false → (eqb x b && listed b xs) ≡ false
    apart b t =
        by_test (eqb x b)
        (λ q. and_false_right (eqb x b) (ap (λ (j : ℕ). listed j xs) (sym (true_eq q)) ∙ t))
        (λ q. and_false_left (listed b xs) q)
