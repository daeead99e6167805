-- The one way to write into a list: some elements from a place on are replaced.
-- Rests on the laws of lists that are given by a rule.
use Rattle.std.specs.Prelude.{◌≡◌, refl, List, ◌++◌, ℕ, ◌+◌, ◌-◌, ◌<◌, ◌≤◌, min, length, set}
use Rattle.std.proofs.Common.{◌∙◌, ap, zero-add, arith, length-set, length-append, get_or-set_same, get_or-set_other, get_or-append-add}
use Rattle.std.proofs.Math.Path.{sym}
use Rattle.std.proofs.Math.ListN.{get_or, get_or-append, get_or-eq_default}
use borrow.Author.Tests.{lt-ltb, le-ltb, le-leb, lt-leb}
use Rattle.laws.specs.Lists.{tab, element_at}
use Rattle.laws.specs.Changes.{patch, overlay, put}
use Rattle.laws.specs.Laws.Cases.{by_order}
use Rattle.laws.specs.Laws.Tab.{tab_length, tab_in, tab_out, eq_tab}

module _ (d : List ℕ) (at n : ℕ) (g : ℕ → ℕ) where
  -- to write into a list does not change its length
  pub overlay_length : length (overlay d at n g) ≡ length d
  unfolding overlay
  overlay_length = tab_length (patch (λ (i : ℕ). get_or d i 0) at n g) (length d)

  new : (k : ℕ) → at ≤ k → k < at + n → patch (λ (i : ℕ). get_or d i 0) at n g k ≡ g (k - at)
  unfolding patch
  new k h l = rw (le-leb at k h, lt-ltb k (at + n) l)

  low : (k : ℕ) → k < at → patch (λ (i : ℕ). get_or d i 0) at n g k ≡ get_or d k 0
  unfolding patch
  low k h = rw (lt-leb at k h)

  high : (k : ℕ) → at + n ≤ k → patch (λ (i : ℕ). get_or d i 0) at n g k ≡ get_or d k 0
  unfolding patch
  high k h = rw (le-leb at k (omega arith), le-ltb k (at + n) h)

  -- at a place that is written stands the new element
  pub overlay_in : (k : ℕ) → at ≤ k → k < at + n → k < length d → get_or (overlay d at n g) k 0 ≡ g (k - at)
  unfolding overlay
  overlay_in k h l b = tab_in (patch (λ (i : ℕ). get_or d i 0) at n g) (length d) k b ∙ new k h l

  same : (k : ℕ) → patch (λ (i : ℕ). get_or d i 0) at n g k ≡ get_or d k 0 → get_or (overlay d at n g) k 0 ≡ get_or d k 0
  unfolding overlay
  same k e =
      by_order k (length d) (λ b. tab_in (patch (λ (i : ℕ). get_or d i 0) at n g) (length d) k b ∙ e)
      (λ b. tab_out (patch (λ (i : ℕ). get_or d i 0) at n g) (length d) k b ∙ sym (get_or-eq_default d 0 b))

  -- before the first place that is written stands the old element
  pub overlay_before : (k : ℕ) → k < at → get_or (overlay d at n g) k 0 ≡ get_or d k 0
  overlay_before k h = same k (low k h)

  -- after the last place that is written stands the old element
  pub overlay_after : (k : ℕ) → at + n ≤ k → get_or (overlay d at n g) k 0 ≡ get_or d k 0
  overlay_after k h = same k (high k h)

  -- a list of the same length with the new elements, and the old ones elsewhere, is the list written into
  pub overlay_is : (out : List ℕ) → length out ≡ length d
      → ((k : ℕ) → at ≤ k → k < at + n → k < length d → get_or out k 0 ≡ g (k - at))
      → ((k : ℕ) → k < at → get_or out k 0 ≡ get_or d k 0)
      → ((k : ℕ) → at + n ≤ k → get_or out k 0 ≡ get_or d k 0) → out ≡ overlay d at n g
  unfolding overlay
  overlay_is out e in_new in_low in_high =
      eq_tab out (patch (λ (i : ℕ). get_or d i 0) at n g) (length d) e
      (λ k b.
      by_order k at (λ l. in_low k l ∙ sym (low k l))
      (λ h. by_order k (at + n) (λ l. in_new k h l b ∙ sym (new k h l)) (λ l. in_high k l ∙ sym (high k l))))

-- to write nothing leaves the list as it is
pub overlay_none : (d : List ℕ) (at : ℕ) (g : ℕ → ℕ) → d ≡ overlay d at 0 g
overlay_none d at g = overlay_is d at 0 g d refl (λ k h l b. absurd (omega arith)) (λ k h. refl) (λ k h. refl)

-- to set one element more after n that were written is to write n + 1
pub overlay_more : (d : List ℕ) (at n : ℕ) (g : ℕ → ℕ) (out : List ℕ) (v : ℕ)
    → at + n < length d → out ≡ overlay d at n g → v ≡ g n → set out (at + n) v ≡ overlay d at (n + 1) g
overlay_more d at n g out v b e q =
    overlay_is d at (n + 1) g (set out (at + n) v) (simp length-set (rw e (overlay_length d at n g))) in_new in_low in_high
  where
    long : length out ≡ length d
    long = rw e (overlay_length d at n g)

    other : (k : ℕ) → (k ≡ at + n → ⊥) → get_or (set out (at + n) v) k 0 ≡ get_or (overlay d at n g) k 0
    other k h = get_or-set_other out (at + n) k v 0 h ∙ ap (λ (l : List ℕ). get_or l k 0) e

    in_low : (k : ℕ) → k < at → get_or (set out (at + n) v) k 0 ≡ get_or d k 0
    in_low k h = other k (λ (z : k ≡ at + n). omega arith) ∙ overlay_before d at n g k h

    in_high : (k : ℕ) → at + (n + 1) ≤ k → get_or (set out (at + n) v) k 0 ≡ get_or d k 0
    in_high k h = other k (λ (z : k ≡ at + n). omega arith) ∙ overlay_after d at n g k (omega arith)

    last : (k : ℕ) → k ≡ at + n → get_or (set out (at + n) v) k 0 ≡ g (k - at)
    last k z =
        let m : k - at ≡ n = omega arith in
        rw (z, get_or-set_same out (at + n) v 0 (omega (arith, long))) (q ∙ ap g (sym (rw z at m)))

    in_new : (k : ℕ) → at ≤ k → k < at + (n + 1) → k < length d → get_or (set out (at + n) v) k 0 ≡ g (k - at)
    in_new k h l c =
        by_order k (at + n)
        (λ m. other k (λ (z : k ≡ at + n). omega arith) ∙ overlay_in d at n g k h m c)
        (λ m. last k (omega arith))

-- two rules that agree below n write the same
pub overlay_cong : (d : List ℕ) (at n : ℕ) (f g : ℕ → ℕ) → ((k : ℕ) → k < n → f k ≡ g k) → overlay d at n f ≡ overlay d at n g
overlay_cong d at n f g e =
    overlay_is d at n g (overlay d at n f) (overlay_length d at n f)
    (λ k h l b. overlay_in d at n f k h l b ∙ e (k - at) (omega arith))
    (overlay_before d at n f)
    (overlay_after d at n f)

-- to write as many as there is room for is to write all
pub overlay_clip : (d : List ℕ) (at m n : ℕ) (g : ℕ → ℕ) → m ≡ min (length d - at) n → overlay d at m g ≡ overlay d at n g
overlay_clip d at m n g e =
    overlay_is d at n g (overlay d at m g) (overlay_length d at m g)
    (λ k h l b. overlay_in d at m g k h (omega arith) b)
    (overlay_before d at m g)
    in_high
  where
    in_high : (k : ℕ) → at + n ≤ k → get_or (overlay d at m g) k 0 ≡ get_or d k 0
    in_high k h = overlay_after d at m g k (omega arith)

-- the same, where a loop wrote i elements and i is as many as there is room for
pub overlay_done : (d : List ℕ) (at i m n : ℕ) (g : ℕ → ℕ) (out : List ℕ)
    → i ≡ m → m ≡ min (length d - at) n → out ≡ overlay d at i g → out ≡ overlay d at n g
overlay_done d at i m n g out q e o = o ∙ overlay_clip d at i n g (q ∙ e)

-- to write a list that is given by a rule is to write by the rule
pub put_tab : (d : List ℕ) (at : ℕ) (g : ℕ → ℕ) (n : ℕ) → put d at (tab g n) ≡ overlay d at n g
unfolding put element_at
put_tab d at g n =
    rw (tab_length g n) (overlay_cong d at n (element_at (tab g n) 0) g (λ k h. rw zero-add (tab_in g n k h)))

-- a row and then its continuation after it are one longer row
pub overlay_on : (d : List ℕ) (at a n : ℕ) (f g : ℕ → ℕ) (out : List ℕ) → out ≡ overlay d at a g → ((k : ℕ) → k < n → f k ≡ g (a + k))
    → overlay out (at + a) n f ≡ overlay d at (a + n) g
overlay_on d at a n f g out e same =
    overlay_is d at (a + n) g (overlay out (at + a) n f) (overlay_length out (at + a) n f ∙ long) in_new in_low in_high
  where
    long : length out ≡ length d
    long = rw e (overlay_length d at a g)

    old : (k : ℕ) → get_or out k 0 ≡ get_or (overlay d at a g) k 0
    old k = ap (λ (l : List ℕ). get_or l k 0) e

    in_low : (k : ℕ) → k < at → get_or (overlay out (at + a) n f) k 0 ≡ get_or d k 0
    in_low k h = overlay_before out (at + a) n f k (omega arith) ∙ old k ∙ overlay_before d at a g k h

    in_high : (k : ℕ) → at + (a + n) ≤ k → get_or (overlay out (at + a) n f) k 0 ≡ get_or d k 0
    in_high k h = overlay_after out (at + a) n f k (omega arith) ∙ old k ∙ overlay_after d at a g k (omega arith)

    in_new : (k : ℕ) → at ≤ k → k < at + (a + n) → k < length d → get_or (overlay out (at + a) n f) k 0 ≡ g (k - at)
    in_new k h l b =
        by_order k (at + a)
        (λ m. overlay_before out (at + a) n f k m ∙ old k ∙ overlay_in d at a g k h m b)
        (λ m.
        let z : a + (k - (at + a)) ≡ k - at = omega arith in
        overlay_in out (at + a) n f k m (omega arith) (omega (arith, long)) ∙ same (k - (at + a)) (omega arith) ∙ ap g z)

-- the same from the beginning of the list
pub overlay_next : (d : List ℕ) (a n : ℕ) (f g : ℕ → ℕ) (out : List ℕ) → out ≡ overlay d 0 a g → ((k : ℕ) → k < n → f k ≡ g (a + k))
    → overlay out a n f ≡ overlay d 0 (a + n) g
overlay_next d a n f g out e same = ap (λ (i : ℕ). overlay out i n f) (sym (zero-add a)) ∙ overlay_on d 0 a n f g out e same

-- a list that is written whole is given by the rule
pub overlay_all : (d : List ℕ) (n : ℕ) (g : ℕ → ℕ) → length d ≡ n → overlay d 0 n g ≡ tab g n
overlay_all d n g e =
    eq_tab (overlay d 0 n g) g n (overlay_length d 0 n g ∙ e)
    (λ k h. let z : k - 0 ≡ k = omega arith in overlay_in d 0 n g k (omega arith) (omega arith) (omega arith) ∙ ap g z)

-- two lists written one after the other are their concatenation written
pub put_append : (d xs ys : List ℕ) (at : ℕ) → put (put d at xs) (at + length xs) ys ≡ put d at (xs ++ ys)
unfolding put element_at
put_append d xs ys at =
    ap (λ (l : List ℕ). overlay l (at + length xs) (length ys) (λ (k : ℕ). get_or ys (0 + k) 0)) first
    ∙ overlay_on d at (length xs) (length ys) (λ (k : ℕ). get_or ys (0 + k) 0) (λ (k : ℕ). get_or (xs ++ ys) (0 + k) 0) _ refl later
    ∙ ap (λ (n : ℕ). overlay d at n (λ (k : ℕ). get_or (xs ++ ys) (0 + k) 0)) (sym (length-append xs ys))
  where
    from_zero : (k : ℕ) → 0 + k ≡ k
    from_zero k = omega arith

    first : overlay d at (length xs) (λ (k : ℕ). get_or xs (0 + k) 0) ≡ overlay d at (length xs) (λ (k : ℕ). get_or (xs ++ ys) (0 + k) 0)
    first =
        overlay_cong d at (length xs) (λ (k : ℕ). get_or xs (0 + k) 0) (λ (k : ℕ). get_or (xs ++ ys) (0 + k) 0)
        (λ k l. sym (get_or-append xs ys 0 (0 + k) (omega arith)))

    later : (i : ℕ) → i < length ys → get_or ys (0 + i) 0 ≡ get_or (xs ++ ys) (0 + (length xs + i)) 0
    later i l =
        ap (λ (k : ℕ). get_or ys k 0) (from_zero i)
        ∙ sym (ap (λ (k : ℕ). get_or (xs ++ ys) k 0) (from_zero (length xs + i)) ∙ get_or-append-add xs ys i 0)
