-- The model's lists of blocks and the inner model's owners say the same.
-- Rests on blocks given and freed (InnerModel.Owners).
use Rattle.std.specs.Prelude.{◌≡◌, refl, ◌≢◌, false, List, [], ◌∷◌, ◌++◌, eqb, length, get_or}
use Rattle.std.proofs.Math.Path.{sym, ap}
use Rattle.std.proofs.Common.{◌∙◌, subst, arith, length-append, get_or-append-add}
use Rattle.std.proofs.Math.Option.{Option, none, some}
use Prim.Native.Nat.{ℕ, zero, suc, ◌+◌, ◌-◌, ◌≤◌, ◌<◌}
use Rattle.std.proofs.Math.ListN.{get_or-append}
use Rattle.laws.specs.Changes.{upd}
use Rattle.laws.specs.Options.{is_some}
use Rattle.laws.specs.Laws.Cases.{by_order, by_equal, by_test}
use Rattle.laws.specs.Laws.Tests.{eq_true, eq_false, true_eq, true≢false, cond_true, cond_false}
use Rattle.laws.specs.Laws.Changes.{upd_same, upd_other}
use Rattle.laws.specs.Laws.Firsts.{Picks}
use Rattle.sector_rules.specs.Geometry.{blocks}
use Rattle.file_rules.specs.declared.Record.{Record}
use Rattle.file_rules.specs.declared.Record.TheVariants.{Free, Bad, System, File, Other}
use Rattle.file_rules.specs.Arguments.{listed}
use Rattle.file_rules.proofs.Laws.InnerModel.Inner.{Inner, give, free_of}
use Rattle.file_rules.proofs.Laws.InnerModel.Invariant.{Owned}
use Rattle.file_rules.proofs.Laws.InnerModel.Owners.{keeps, still_free}
use Rattle.file_rules.proofs.Laws.Base.Records.{Valid, bad_only}
use Rattle.file_rules.proofs.Laws.Base.Whole.{unowned}
use Rattle.file_rules.specs.Map.{is_free, is_bad_record}
use Rattle.file_rules.specs.Model.{FilledSlot, Model, file_of, taken_by, position, or_record, slot_record, model_record}

-- ---- positions

none_some : (s : ℕ) → ◌≡◌ {A = Option ℕ} none (some s) → ⊥
unfolding is_some
none_some s e = true≢false (is_some {A = ℕ} none) (ap is_some e) refl

found : (b i : ℕ) (xs : List ℕ) (s : ℕ) → position b i xs ≡ some s → (i ≤ s) × (s < i + length xs) × (get_or xs (s - i) 0 ≡ b)
unfolding position
found b i [] s e = absurd (none_some s e)
found b i (x ∷ xs) s e =
    by_test (eqb x b)
    (λ t.
    let q : i ≡ s = some_eq i s (sym (cond_true _ _ t) ∙ e) in
    let z : s - i ≡ 0 = omega arith in
    (omega arith, omega arith, ap (λ (j : ℕ). get_or (x ∷ xs) j 0) z ∙ true_eq t))
    (λ t.
    let w : (suc i ≤ s) × (s < suc i + length xs) × (get_or xs (s - suc i) 0 ≡ b) = found b (suc i) xs s (sym (cond_false _ _ t) ∙ e) in
    let z : s - i ≡ suc (s - suc i) = omega (arith, w.0) in
    (omega (arith, w.0), omega (arith, w.1), ap (λ (j : ℕ). get_or (x ∷ xs) j 0) z ∙ w.2))
  where
    some_eq : (a c : ℕ) → ◌≡◌ {A = Option ℕ} (some a) (some c) → a ≡ c
    some_eq a c p = cc

missed : (b i : ℕ) (xs : List ℕ) → position b i xs ≡ none → (s : ℕ) → s < length xs → get_or xs s 0 ≡ b → ⊥
unfolding position
missed b i [] e s h q = omega arith
missed b i (x ∷ xs) e zero h q = none_some i (sym e ∙ cond_true _ _ (eq_true q))
missed b i (x ∷ xs) e (suc s) h q =
    by_test (eqb x b) (λ t. none_some i (sym e ∙ cond_true _ _ t)) (λ t. missed b (suc i) xs (sym (cond_false _ _ t) ∙ e) s (omega arith) q)

by_position {ℓ} : {X : Type ℓ} (o : Option ℕ) → (o ≡ none → X) → ((s : ℕ) → o ≡ some s → X) → X
by_position none f g = f refl
by_position (some s) f g = g s refl

-- ---- blocks are owned as the model lists them

-- the list of blocks of file k in the model; file 0 is the directory
unfoldable pub listed_blocks : (ℕ → Option FilledSlot) → List ℕ → ℕ → List ℕ
listed_blocks slots dir zero = dir
listed_blocks slots dir (suc k) = taken_by (slots (suc k))

-- the inner model with the slots of this model and these owners
unfoldable pub with_owner : Model → (ℕ → Record) → Inner
with_owner m owner =
    record { arguments = m.arguments; updates = m.updates; peak = m.peak; slots = λ (k : ℕ). file_of (m.slots k); owner = owner }

-- the lists of blocks and the owners agree: file k has `parts k` blocks, and block s of its list is owned as its part s
pub record BlocksListed (slots : ℕ → Option FilledSlot) (dir : List ℕ) (owner : ℕ → Record) (parts : ℕ → ℕ) : Type 0 where
  pub sizes : (k : ℕ) → length (listed_blocks slots dir k) ≡ parts k
  pub each : (k s : ℕ) → s < parts k → (get_or (listed_blocks slots dir k) s 0 < blocks) × (owner (get_or (listed_blocks slots dir k) s 0) ≡ File k s)

module _ (slots : ℕ → Option FilledSlot) (dir : List ℕ) (owner : ℕ → Record) (parts : ℕ → ℕ) (v : Owned owner parts) (r : BlocksListed slots dir owner parts)
    (first : slots 0 ≡ none) (bad : List ℕ) (marked : (b : ℕ) → b < blocks → is_bad_record (owner b) ≡ listed b bad)
    (peak : ℕ) (past : (k : ℕ) → peak < k → parts k ≡ 0) where
  -- what a search finds is the owner
  hit : (b k s : ℕ) → position b 0 (listed_blocks slots dir k) ≡ some s → owner b ≡ File k s
  hit b k s e =
      let bs : List ℕ = listed_blocks slots dir k in
      let w : (0 ≤ s) × (s < 0 + length bs) × (get_or bs (s - 0) 0 ≡ b) = found b 0 bs s e in
      let z : s - 0 ≡ s = omega arith in
      let at : get_or bs s 0 ≡ b = ap (λ (j : ℕ). get_or bs j 0) (sym z) ∙ w.2 in
      ap owner (sym at) ∙ (r.each k s (omega (arith, w.1, r.sizes k))).1

  -- where it finds nothing there is no owner
  miss : (b k s : ℕ) → b < blocks → position b 0 (listed_blocks slots dir k) ≡ none → owner b ≡ File k s → ⊥
  miss b k s l e q =
      let h : s < parts k = v.own_below b k s l q in
      let bs : List ℕ = listed_blocks slots dir k in
      let w : (get_or bs s 0 < blocks) × (owner (get_or bs s 0) ≡ File k s) = r.each k s h in
      missed b 0 bs e s (omega (arith, r.sizes k)) (v.own_once (get_or bs s 0) b k s w.0 l w.1 q)

  -- slots below n
  slot_is : (n b : ℕ) → b < blocks → ((k s : ℕ) → n ≤ k → owner b ≡ File k s → ⊥)
      → ((s : ℕ) → owner b ≡ File 0 s → ⊥) → owner b ≢ Bad → owner b ≢ System → slot_record slots n b ≡ owner b
  unfolding slot_record or_record listed_blocks taken_by position
  slot_is zero b l high low fine sys = sym (go (owner b) refl)
    where
      go : (x : Record) → owner b ≡ x → owner b ≡ Free
      go Free e = e
      go Bad e = absurd (fine e)
      go System e = absurd (sys e)
      go (File k s) e = absurd (high k s (omega arith) e)
      go Other e = absurd (subst Valid e (v.own_valid b l))
  slot_is (suc zero) b l high low fine sys =
      ap (λ (x : Option FilledSlot). or_record 0 (position b 0 (taken_by x)) (slot_record slots 0 b)) first
      ∙ slot_is zero b l (λ k s h e. by_equal k 0 (λ q. low s (e ∙ ap (λ (j : ℕ). File j s) q)) (λ q. high k s (omega arith) e)) low fine sys
  slot_is (suc (suc n)) b l high low fine sys =
      by_position (position b 0 (taken_by (slots (suc n))))
      (λ e. ap (λ (o : Option ℕ). or_record (suc n) o (slot_record slots (suc n) b)) e
      ∙ slot_is (suc n) b l (λ k s h q. by_equal k (suc n)
      (λ p. miss b (suc n) s l e (q ∙ ap (λ (j : ℕ). File j s) p)) (λ p. high k s (omega arith) q)) low fine sys)
      (λ s e. ap (λ (o : Option ℕ). or_record (suc n) o (slot_record slots (suc n) b)) e ∙ sym (hit b (suc n) s e))

  -- the record that the model finds for a block in its lists is the block's owner
  pub owner_is : (b : ℕ) → b < blocks → model_record bad slots dir peak b ≡ owner b
  unfolding model_record or_record listed_blocks is_bad_record
  owner_is b l =
      by_equal b 0
      (λ z. cond_true _ _ (eq_true z) ∙ sym (ap owner z ∙ v.own_zero))
      (λ z. cond_false _ _ (eq_false z)
      ∙ by_test (listed b bad)
      (λ t. cond_true _ _ t ∙ sym (bad_only (owner b) (marked b l ∙ t)))
      (λ t. cond_false _ _ t
      ∙ by_position (position b 0 dir)
      (λ e. ap (λ (o : Option ℕ). or_record 0 o (slot_record slots (suc peak) b)) e
      ∙ slot_is (suc peak) b l (λ k s h q. omega (arith, v.own_below b k s l q, past k (omega arith)))
      (λ s q. miss b 0 s l e q) (λ q. true≢false (is_bad_record (owner b)) (ap is_bad_record q) (marked b l ∙ t)) (λ q. z (v.own_system b l q)))
      (λ s e. ap (λ (o : Option ℕ). or_record 0 o (slot_record slots (suc peak) b)) e ∙ sym (hit b 0 s e))))

-- ---- blocks are given

file_not_free : (owner : ℕ → Record) (b k s : ℕ) → owner b ≡ File k s → free_of owner b ≡ false
unfolding free_of is_free
file_not_free owner b k s e = ap is_free e

give_off : (bs : List ℕ) (owner : ℕ → Record) (f s i b : ℕ) → Picks blocks (free_of owner) i bs → free_of owner b ≡ false → give owner f s bs b ≡ owner b
unfolding give free_of
give_off [] owner f s i b t e = refl
give_off (x ∷ xs) owner f s i b t e =
    let q : b ≢ x = λ z. true≢false (free_of owner x) t.2 (ap (free_of owner) (sym z) ∙ e) in
    let same-b : upd owner x (File f s) b ≡ owner b = upd_other owner x (File f s) b q in
    give_off xs (upd owner x (File f s)) f (suc s) (suc x) b (still_free owner x (File f s) xs t.3) (ap is_free same-b ∙ e) ∙ same-b

give_at : (bs : List ℕ) (owner : ℕ → Record) (f s i j : ℕ) → Picks blocks (free_of owner) i bs → j < length bs
    → (get_or bs j 0 < blocks) × (give owner f s bs (get_or bs j 0) ≡ File f (s + j))
unfolding give
give_at [] owner f s i j t h = absurd (omega arith)
give_at (x ∷ xs) owner f s i zero t h =
    let here : upd owner x (File f s) x ≡ File f s = upd_same owner x (File f s) x refl in
    let z : s ≡ s + 0 = omega arith in (
      t.1,
      give_off xs (upd owner x (File f s)) f (suc s) (suc x) x (still_free owner x (File f s) xs t.3) (file_not_free (upd owner x (File f s)) x f s here)
          ∙ here ∙ ap (File f) z,
    )
give_at (x ∷ xs) owner f s i (suc j) t h =
    let w : (get_or xs j 0 < blocks) × (give (upd owner x (File f s)) f (suc s) xs (get_or xs j 0) ≡ File f (suc s + j)) =
    give_at xs (upd owner x (File f s)) f (suc s) (suc x) j (still_free owner x (File f s) xs t.3) (omega arith) in
    let z : suc s + j ≡ s + suc j = omega arith in
    (w.0, w.1 ∙ ap (File f) z)

module _ (slots slots' : ℕ → Option FilledSlot) (dir dir' : List ℕ) (owner : ℕ → Record) (parts : ℕ → ℕ) (r : BlocksListed slots dir owner parts) where
  -- lists and owners agree after blocks are given to a file and put at the end of its list
  pub give_listed : (bs : List ℕ) (f s i : ℕ) → Picks blocks (free_of owner) i bs → parts f ≡ s
      → ((k : ℕ) → k ≢ f → listed_blocks slots' dir' k ≡ listed_blocks slots dir k) → listed_blocks slots' dir' f ≡ listed_blocks slots dir f ++ bs
      → BlocksListed slots' dir' (give owner f s bs) (upd parts f (s + length bs))
  give_listed bs f s i t e others this =
      let old : List ℕ = listed_blocks slots dir f in
      let long : length old ≡ s = r.sizes f ∙ e in
      record {
        sizes = λ k.
            by_equal k f
            (λ q. ap (λ (j : ℕ). length (listed_blocks slots' dir' j)) q ∙ ap length this ∙ length-append old bs
            ∙ omega (arith, upd_same parts f (s + length bs) k q))
            (λ q. ap length (others k q) ∙ r.sizes k ∙ sym (upd_other parts f (s + length bs) k q));
        each = λ k u h.
            by_equal k f
            (λ q.
            let n : upd parts f (s + length bs) k ≡ s + length bs = upd_same parts f (s + length bs) k q in
            let l : listed_blocks slots' dir' k ≡ old ++ bs = ap (listed_blocks slots' dir') q ∙ this in
            let goal : (x : ℕ) → (x < blocks) × (give owner f s bs x ≡ File f u) → get_or (old ++ bs) u 0 ≡ x
            → (get_or (listed_blocks slots' dir' k) u 0 < blocks) × (give owner f s bs (get_or (listed_blocks slots' dir' k) u 0) ≡ File k u) =
            λ x w p.
            let y : get_or (listed_blocks slots' dir' k) u 0 ≡ x = ap (λ (xs : List ℕ). get_or xs u 0) l ∙ p in
            (omega (arith, w.0), ap (give owner f s bs) y ∙ w.1 ∙ ap (λ (j : ℕ). File j u) (sym q)) in
            by_order u s
            (λ a.
            let w : (get_or old u 0 < blocks) × (owner (get_or old u 0) ≡ File f u) = r.each f u (omega arith) in
            goal (get_or old u 0) (w.0, give_off bs owner f s i (get_or old u 0) t (file_not_free owner (get_or old u 0) f u w.1) ∙ w.1)
            (get_or-append old bs 0 u (omega arith)))
            (λ a.
            let z : u ≡ length old + (u - s) = omega arith in
            let z' : s + (u - s) ≡ u = omega arith in
            let w : (get_or bs (u - s) 0 < blocks) × (give owner f s bs (get_or bs (u - s) 0) ≡ File f (s + (u - s))) =
            give_at bs owner f s i (u - s) t (omega arith) in
            goal (get_or bs (u - s) 0) (w.0, w.1 ∙ ap (File f) z')
            (ap (λ (j : ℕ). get_or (old ++ bs) j 0) z ∙ get_or-append-add old bs (u - s) 0)))
            (λ q.
            let n : upd parts f (s + length bs) k ≡ parts k = upd_other parts f (s + length bs) k q in
            let x : ℕ = get_or (listed_blocks slots dir k) u 0 in
            let w : (x < blocks) × (owner x ≡ File k u) = r.each k u (omega arith) in
            let y : get_or (listed_blocks slots' dir' k) u 0 ≡ x = ap (λ (xs : List ℕ). get_or xs u 0) (others k q) in (
              omega (arith, w.0),
              ap (give owner f s bs) y ∙ give_off bs owner f s i x t (file_not_free owner x k u w.1) ∙ w.1,
            ));
      }

  -- ---- a file's blocks are freed

  -- lists and owners agree after a file's blocks are freed and its list is empty
  pub freed_listed : (f : ℕ) (parts' : ℕ → ℕ) → ((k : ℕ) → k ≢ f → parts' k ≡ parts k) → parts' f ≡ 0
      → ((k : ℕ) → k ≢ f → listed_blocks slots' dir' k ≡ listed_blocks slots dir k) → listed_blocks slots' dir' f ≡ []
      → BlocksListed slots' dir' (λ (b : ℕ). unowned f (owner b)) parts'
  freed_listed f parts' e z others this =
      record {
        sizes = λ k.
            by_equal k f (λ q. ap (λ (j : ℕ). length (listed_blocks slots' dir' j)) q ∙ ap length this ∙ sym (ap parts' q ∙ z))
            (λ q. ap length (others k q) ∙ r.sizes k ∙ sym (e k q));
        each = λ k u h.
            by_equal k f (λ q. absurd (omega (arith, ap parts' q)))
            (λ q.
            let x : ℕ = get_or (listed_blocks slots dir k) u 0 in
            let w : (x < blocks) × (owner x ≡ File k u) = r.each k u (omega (arith, e k q)) in
            let y : get_or (listed_blocks slots' dir' k) u 0 ≡ x = ap (λ (xs : List ℕ). get_or xs u 0) (others k q) in
            (omega (arith, w.0), ap (λ (b : ℕ). unowned f (owner b)) y ∙ keeps f k u (owner x) w.1 q));
      }

-- only how many parts each file has matters
pub listed_cong : (slots : ℕ → Option FilledSlot) (dir : List ℕ) (owner : ℕ → Record) (parts parts' : ℕ → ℕ) → ((k : ℕ) → parts k ≡ parts' k)
    → BlocksListed slots dir owner parts → BlocksListed slots dir owner parts'
listed_cong slots dir owner parts parts' e r =
    record { sizes = λ k. r.sizes k ∙ e k; each = λ k u h. r.each k u (subst (λ (x : ℕ). u < x) (sym (e k)) h) }
