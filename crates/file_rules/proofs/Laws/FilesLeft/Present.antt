-- The files that the accepted calls leave are the filled slots, in some order.
-- Rests on the equality of names (Base.Names).
use Rattle.std.specs.Prelude.{◌≡◌, ◌≢◌, true, false, List, [], ◌∷◌, ℕ, suc, ◌+◌, ◌≤◌, ◌<◌, length}
use Rattle.std.proofs.Math.Path.{refl, ap, fun_ext}
use Rattle.std.proofs.Common.{sym, ◌∙◌, subst, ⊎_elim, inl, inr, arith}
use Rattle.std.proofs.Math.Option.{none, some}
use Rattle.laws.specs.Changes.{upd}
use Rattle.laws.specs.Below.{count, sum}
use Rattle.laws.specs.Options.{is_some}
use Rattle.laws.specs.Laws.Cases.{by_order, by_equal, by_test}
use Rattle.laws.specs.Laws.Tests.{true≢false, cond_true, cond_false}
use Rattle.laws.specs.Laws.Changes.{upd_same, upd_other}
use Rattle.laws.specs.Laws.Count.{count_none, count_drop, sum_change, sum_none}
use Rattle.file_rules.specs.Directory.{name_eq}
use Rattle.file_rules.specs.Histories.{without, blocks_of_files, file_named, IsPresent}
use Rattle.file_rules.proofs.Laws.Base.Names.{name_sym, name_trans}
use Rattle.file_rules.specs.Model.{NamedFile, HeldFile, held_blocks}
use Rattle.file_rules.specs.Written.{blocks_for}

-- the slots are filled with these files, and no others
abbrev pub Fills : (ℕ → HeldFile) → List NamedFile → Type 0
Fills slots [] = (k : ℕ) → slots k ≡ none
Fills slots (x ∷ xs) = (k : ℕ) × (slots k ≡ some x) × Fills (upd slots k none) xs

-- no name in two slots
abbrev pub Once : (ℕ → HeldFile) → Type 0
Once slots = (i j : ℕ) (y z : NamedFile) → slots i ≡ some y → slots j ≡ some z → name_eq y.name z.name ≡ true → i ≡ j

-- an empty slot has no file
pub none_some : (x : NamedFile) → ◌≡◌ {A = HeldFile} none (some x) → ⊥
none_some x e = unfold is_some in true≢false (is_some {A = NamedFile} none) (ap is_some e) refl

some_some : (x y : NamedFile) → ◌≡◌ {A = HeldFile} (some x) (some y) → x ≡ y
some_some x y e = cc

-- ---- a slot emptied

module _ (slots : ℕ → HeldFile) (k : ℕ) where
  -- a slot that still has a file after slot k is emptied is another and had it before
  pub left_slot : (i : ℕ) (y : NamedFile) → upd slots k none i ≡ some y → (i ≢ k) × (slots i ≡ some y)
  left_slot i y e =
      by_equal i k (λ q. absurd (none_some y (sym (upd_same slots k none i q) ∙ e))) (λ q. (q, sym (upd_other slots k none i q) ∙ e))

  once_left : Once slots → Once (upd slots k none)
  once_left o i j y z e f n = o i j y z (left_slot i y e).1 (left_slot j z f).1 n

upd_none : (slots : ℕ → HeldFile) (k : ℕ) (x : NamedFile) → slots k ≡ none → upd (upd slots k (some x)) k none ≡ slots
upd_none slots k x e =
    fun_ext (λ (i : ℕ). by_equal i k (λ q. upd_same (upd slots k (some x)) k none i q ∙ sym (ap slots q ∙ e))
    (λ q. upd_other (upd slots k (some x)) k none i q ∙ upd_other slots k (some x) i q))

upd_swap : (slots : ℕ → HeldFile) (j k : ℕ) → upd (upd slots j none) k none ≡ upd (upd slots k none) j none
upd_swap slots j k =
    fun_ext (λ (i : ℕ).
    by_equal i k
    (λ q. upd_same (upd slots j none) k none i q
    ∙ sym (by_equal i j (λ r. upd_same (upd slots k none) j none i r) (λ r. upd_other (upd slots k none) j none i r ∙ upd_same slots k none i q)))
    (λ q. upd_other (upd slots j none) k none i q
    ∙ by_equal i j
    (λ r. upd_same slots j none i r ∙ sym (upd_same (upd slots k none) j none i r))
    (λ r. upd_other slots j none i r ∙ sym (upd_other (upd slots k none) j none i r ∙ upd_other slots k none i q))))

-- ---- a slot filled

-- a file put into an empty slot is one more of the files
pub fills_add : (slots : ℕ → HeldFile) (fs : List NamedFile) (k : ℕ) (x : NamedFile) → slots k ≡ none → Fills slots fs → Fills (upd slots k (some x)) (x ∷ fs)
fills_add slots fs k x e r =
    (k, upd_same slots k (some x) k refl, subst (λ (l : ℕ → HeldFile). Fills l fs) (sym (upd_none slots k x e)) r)

-- two slots with one name are one
same_slot : (slots : ℕ → HeldFile) → Once slots → (j k : ℕ) (y x : NamedFile) (name : List ℕ) → slots j ≡ some y → slots k ≡ some x
    → name_eq x.name name ≡ true → name_eq y.name name ≡ true → j ≡ k
same_slot slots o j k y x name e f n p =
    o j k y x e f (name_trans y.name name x.name p (name_sym x.name name n))

-- ---- the file of a slot taken away

-- emptying the slot of a name leaves the files without that name
pub fills_remove : (fs : List NamedFile) (slots : ℕ → HeldFile) → Once slots → (k : ℕ) (x : NamedFile) (name : List ℕ)
    → slots k ≡ some x → name_eq x.name name ≡ true → Fills slots fs → Fills (upd slots k none) (without name fs)
unfolding without
fills_remove [] slots o k x name e n r = absurd (none_some x (sym (r k) ∙ e))
fills_remove (y ∷ fs) slots o k x name e n r =
    by_equal r.0 k
    (λ q.
    let yx : y ≡ x = some_some y x (sym r.1 ∙ ap slots q ∙ e) in
    subst (Fills (upd slots k none)) (sym (cond_true _ _ (ap (λ (z : NamedFile). name_eq z.name name) yx ∙ n)))
    (subst (λ (j : ℕ). Fills (upd slots j none) fs) q r.2))
    (λ q.
    let other : name_eq y.name name ≡ false =
    by_test (name_eq y.name name) (λ t. absurd (q (same_slot slots o r.0 k y x name r.1 e n t))) (λ t. t) in
    let ih : Fills (upd (upd slots r.0 none) k none) (without name fs) =
    fills_remove fs (upd slots r.0 none) (once_left slots r.0 o) k x name (upd_other slots r.0 none k (λ z. q (sym z)) ∙ e) n r.2 in
    subst (Fills (upd slots k none)) (sym (cond_false _ _ other))
    (r.0, upd_other slots k none r.0 q ∙ r.1, subst (λ (l : ℕ → HeldFile). Fills l (without name fs)) (upd_swap slots r.0 k) ih))

-- ---- how many, and how much

-- as many slots are filled as there are files
pub fills_count : (fs : List NamedFile) (slots : ℕ → HeldFile) (n : ℕ) → ((k : ℕ) → n ≤ k → slots k ≡ none) → Fills slots fs
    → count n (λ (k : ℕ). is_some (slots k)) ≡ length fs
unfolding is_some
fills_count [] slots n past r = count_none n (λ (k : ℕ). is_some (slots k)) (λ i h. ap is_some (r i))
fills_count (x ∷ fs) slots n past r =
    let k : ℕ = r.0 in
    let inside : k < n = by_order k n (λ h. h) (λ h. absurd (none_some x (sym (past k h) ∙ r.1))) in
    let past' : (j : ℕ) → n ≤ j → upd slots k none j ≡ none =
    λ j h. by_equal j k (λ q. upd_same slots k none j q) (λ q. upd_other slots k none j q ∙ past j h) in
    count_drop n k (λ (j : ℕ). is_some (slots j)) (λ (j : ℕ). is_some (upd slots k none j)) inside (ap is_some r.1)
    (ap is_some (upd_same slots k none k refl)) (λ j l q. ap is_some (sym (upd_other slots k none j q)))
    ∙ ap suc (fills_count fs (upd slots k none) n past' r.2)

-- the filled slots have the blocks of the files
pub fills_blocks : (fs : List NamedFile) (slots : ℕ → HeldFile) (n : ℕ) → ((k : ℕ) → n ≤ k → slots k ≡ none) → Fills slots fs
    → sum n (λ (k : ℕ). held_blocks (slots k)) ≡ blocks_of_files fs
unfolding held_blocks blocks_of_files
fills_blocks [] slots n past r = zeroes n
  where
    zeroes : (i : ℕ) → sum i (λ (k : ℕ). held_blocks (slots k)) ≡ 0
    zeroes i = sum_none i (λ (k : ℕ). held_blocks (slots k)) (λ j h. unfold held_blocks in ap held_blocks (r j))
fills_blocks (x ∷ fs) slots n past r =
    let k : ℕ = r.0 in
    let inside : k < n = by_order k n (λ h. h) (λ h. absurd (none_some x (sym (past k h) ∙ r.1))) in
    let past' : (j : ℕ) → n ≤ j → upd slots k none j ≡ none =
    λ j h. by_equal j k (λ q. upd_same slots k none j q) (λ q. upd_other slots k none j q ∙ past j h) in
    let one : sum n (λ (j : ℕ). held_blocks (slots j)) + held_blocks (upd slots k none k)
    ≡ sum n (λ (j : ℕ). held_blocks (upd slots k none j)) + held_blocks (slots k) =
    sum_change n k (λ (j : ℕ). held_blocks (slots j)) (λ (j : ℕ). held_blocks (upd slots k none j)) inside
    (λ j l q. ap held_blocks (sym (upd_other slots k none j q))) in
    let gone : held_blocks (upd slots k none k) ≡ 0 = ap held_blocks (upd_same slots k none k refl) in
    let was : held_blocks (slots k) ≡ blocks_for (length x.content) = ap held_blocks r.1 in
    omega (arith, fills_blocks fs (upd slots k none) n past' r.2)

-- ---- which

-- the file of a slot is found among the files by its name
pub fills_named : (fs : List NamedFile) (slots : ℕ → HeldFile) → Once slots → (k : ℕ) (x : NamedFile) (name : List ℕ)
    → slots k ≡ some x → name_eq x.name name ≡ true → Fills slots fs → file_named name fs ≡ some x
unfolding file_named
fills_named [] slots o k x name e n r = absurd (none_some x (sym (r k) ∙ e))
fills_named (y ∷ fs) slots o k x name e n r =
    by_equal r.0 k
    (λ q.
    let yx : y ≡ x = some_some y x (sym r.1 ∙ ap slots q ∙ e) in
    cond_true _ _ (ap (λ (z : NamedFile). name_eq z.name name) yx ∙ n) ∙ ap some yx)
    (λ q.
    let other : name_eq y.name name ≡ false =
    by_test (name_eq y.name name) (λ t. absurd (q (same_slot slots o r.0 k y x name r.1 e n t))) (λ t. t) in
    cond_false _ _ other
    ∙ fills_named fs (upd slots r.0 none) (once_left slots r.0 o) k x name (upd_other slots r.0 none k (λ z. q (sym z)) ∙ e) n r.2)

-- a name that no slot has is that of no file
pub fills_not_named : (fs : List NamedFile) (slots : ℕ → HeldFile) (name : List ℕ)
    → ((k : ℕ) (x : NamedFile) → slots k ≡ some x → name_eq x.name name ≡ false) → Fills slots fs → file_named name fs ≡ none
unfolding file_named
fills_not_named [] slots name h r = refl
fills_not_named (y ∷ fs) slots name h r =
    cond_false _ _ (h r.0 y r.1)
    ∙ fills_not_named fs (upd slots r.0 none) name (λ k x e. h k x (left_slot slots r.0 k x e).1) r.2

-- the file of a slot is one of the files
pub fills_present : (fs : List NamedFile) (slots : ℕ → HeldFile) (k : ℕ) (x : NamedFile) → slots k ≡ some x → Fills slots fs → IsPresent x fs
fills_present [] slots k x e r = none_some x (sym (r k) ∙ e)
fills_present (y ∷ fs) slots k x e r =
    by_equal r.0 k
    (λ q. inl (some_some x y (sym e ∙ ap slots (sym q) ∙ r.1)))
    (λ q. inr (fills_present fs (upd slots r.0 none) k x (upd_other slots r.0 none k (λ z. q (sym z)) ∙ e) r.2))

-- each of the files is in a slot
pub present_fills : (fs : List NamedFile) (slots : ℕ → HeldFile) (x : NamedFile) → IsPresent x fs → Fills slots fs → (k : ℕ) × (slots k ≡ some x)
present_fills [] slots x p r = absurd p
present_fills (y ∷ fs) slots x p r =
    ⊎_elim
    (λ (e : x ≡ y). (r.0, r.1 ∙ ap some (sym e)))
    (λ (q : IsPresent x fs).
    let w : (k : ℕ) × (upd slots r.0 none k ≡ some x) = present_fills fs (upd slots r.0 none) x q r.2 in
    (w.0, (left_slot slots r.0 w.0 x w.1).1)) p
