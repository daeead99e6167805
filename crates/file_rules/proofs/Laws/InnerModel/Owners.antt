-- Blocks given and freed: each part of a file keeps one block, and the free blocks are counted.
-- Rests on the invariant (Invariant) and on the tests of records (Fields).
use Rattle.std.specs.Prelude.{◌≡◌, ◌≢◌, Bool, true, false, ◌&&◌, ◌||◌, List, [], ◌∷◌, ltb, eqb, length}
use Rattle.std.proofs.Math.Path.{refl, sym, ap, ap₂, subst}
use Rattle.std.proofs.Common.{◌∙◌, arith}
use Prim.Native.Nat.{ℕ, zero, suc, ◌+◌, ◌/◌, ◌≤◌, ◌<◌}
use Rattle.laws.specs.Changes.{upd}
use Rattle.laws.specs.Below.{count}
use Rattle.laws.specs.Laws.Cases.{by_order, by_equal, by_test}
use Rattle.laws.specs.Laws.Tests.{lt_true, lt_false, eq_true, eq_false, true_eq, true≢false, cond_true, cond_false, and_true, and_false_left}
use Rattle.laws.specs.Laws.Tests.{and_false_right, or_left, or_right, or_none}
use Rattle.laws.specs.Laws.Changes.{upd_same, upd_other}
use Rattle.laws.specs.Laws.Count.{count_cong, count_none, count_drop, count_one, count_or}
use Rattle.laws.specs.Laws.Firsts.{Picks, picks_cong}
use Rattle.sector_rules.specs.Geometry.{blocks}
use Rattle.file_rules.specs.declared.Record.{Record}
use Rattle.file_rules.specs.declared.Record.TheVariants.{Free, Bad, System, File, Other}
use Rattle.file_rules.proofs.Laws.InnerModel.Fields.{is_part_true, true_is_part}
use Rattle.file_rules.proofs.Laws.InnerModel.Inner.{give, free_of}
use Rattle.file_rules.proofs.Laws.InnerModel.Invariant.{Owned}
use Rattle.file_rules.proofs.Laws.Base.Records.{Valid, free_only}
use Rattle.file_rules.proofs.Laws.Base.Whole.{unowned}
use Rattle.file_rules.specs.Map.{file_bound, sequences, is_free, is_bad_record, is_system, bears, is_part}

-- ---- one record freed

-- a record that bears file k is file k's, with some sequence
pub bears_true : (k : ℕ) (r : Record) → bears k r ≡ true → (s : ℕ) × (r ≡ File k s)
unfolding bears
bears_true k Free e = true≢false false e refl
bears_true k Bad e = true≢false false e refl
bears_true k System e = true≢false false e refl
bears_true k Other e = true≢false false e refl
bears_true k (File f s) e = (s, ap (λ (x : ℕ). File x s) (true_eq e))

-- a record of another file does not bear file k
pub file_apart : (k f s : ℕ) → f ≢ k → bears k (File f s) ≡ false
unfolding bears
file_apart k f s q = eq_false q

-- freeing file k keeps the records of other files
pub keeps : (k f s : ℕ) (r : Record) → r ≡ File f s → f ≢ k → unowned k r ≡ File f s
unfolding unowned
keeps k f s r e q = cond_false _ _ (ap (bears k) e ∙ file_apart k f s q) ∙ e

-- a file's record that is left after file k is freed was there before and is not file k's
pub unowned_file : (k f s : ℕ) (r : Record) → unowned k r ≡ File f s → (r ≡ File f s) × (f ≢ k)
unfolding unowned is_free
unowned_file k f s r e =
    by_test (bears k r)
    (λ t. true≢false (is_free (File f s)) (ap is_free (sym e ∙ cond_true _ _ t)) refl)
    (λ t.
    let q : r ≡ File f s = sym (cond_false _ _ t) ∙ e in
    (q, λ z. true≢false (bears k r) (ap (bears k) q ∙ bears_self f s z) t))
  where
    bears_self : (g t : ℕ) → g ≡ k → bears k (File g t) ≡ true
    bears_self g t z = unfold bears in eq_true z

unowned_system : (k : ℕ) (r : Record) → unowned k r ≡ System → r ≡ System
unfolding unowned is_free
unowned_system k r e =
    by_test (bears k r)
    (λ t. true≢false (is_free System) (ap is_free (sym e ∙ cond_true _ _ t)) refl)
    (λ t. sym (cond_false _ _ t) ∙ e)

unowned_valid : (k : ℕ) (r : Record) → Valid r → Valid (unowned k r)
unfolding unowned
unowned_valid k r v =
    by_test (bears k r) (λ t. subst Valid (sym (cond_true {b = bears k r} Free r t)) tt) (λ t. subst Valid (sym (cond_false {b = bears k r} Free r t)) v)

unowned_free : (k : ℕ) (r : Record) → is_free (unowned k r) ≡ (is_free r || bears k r)
unfolding unowned is_free bears
unowned_free k Free = refl
unowned_free k Bad = refl
unowned_free k System = refl
unowned_free k Other = refl
unowned_free k (File f s) =
    by_test (eqb f k) (λ t. ap is_free (cond_true _ _ t) ∙ sym t) (λ t. ap is_free (cond_false _ _ t) ∙ sym t)

-- freeing a file leaves the same blocks bad
pub unowned_bad : (k : ℕ) (r : Record) → is_bad_record (unowned k r) ≡ is_bad_record r
unfolding unowned is_bad_record bears
unowned_bad k Free = refl
unowned_bad k Bad = refl
unowned_bad k System = refl
unowned_bad k Other = refl
unowned_bad k (File f s) = by_test (eqb f k) (λ t. ap is_bad_record (cond_true _ _ t)) (λ t. ap is_bad_record (cond_false _ _ t))

free_apart : (k : ℕ) (r : Record) → (is_free r && bears k r) ≡ false
unfolding is_free bears
free_apart k Free = refl
free_apart k Bad = refl
free_apart k System = refl
free_apart k Other = refl
free_apart k (File f s) = refl

-- ---- a file's blocks are as many as its parts

-- whether a record is one of the first n parts of file k
unfoldable pub part_below : ℕ → ℕ → Record → Bool
part_below k n Free = false
part_below k n Bad = false
part_below k n System = false
part_below k n Other = false
part_below k n (File f s) = (eqb f k && ltb s n)

-- the first n + 1 parts are the first n and part n
pub below_suc : (k n : ℕ) (r : Record) → part_below k (suc n) r ≡ (part_below k n r || is_part k n r)
unfolding part_below is_part
below_suc k n Free = refl
below_suc k n Bad = refl
below_suc k n System = refl
below_suc k n Other = refl
below_suc k n (File f s) =
    let A : Bool = (eqb f k && ltb s n) in
    let B : Bool = (eqb f k && eqb s n) in
    by_test (eqb f k)
    (λ t. by_order s n
    (λ h. and_true t (lt_true {a = s} {b = suc n} (omega arith)) ∙ sym (or_left A B (and_true t (lt_true h))))
    (λ h. by_equal s n
    (λ q. and_true t (lt_true {a = s} {b = suc n} (omega arith)) ∙ sym (or_right A B (and_true t (eq_true q))))
    (λ q. and_false_right (eqb f k) (lt_false {a = s} {b = suc n} (omega arith))
    ∙ sym (or_none A B (and_false_right (eqb f k) (lt_false h)) (and_false_right (eqb f k) (eq_false q))))))
    (λ t. and_false_left (ltb s (suc n)) t ∙ sym (or_none A B (and_false_left (ltb s n) t) (and_false_left (eqb s n) t)))

-- part n is none of the first n
pub below_apart : (k n : ℕ) (r : Record) → (part_below k n r && is_part k n r) ≡ false
unfolding part_below is_part
below_apart k n Free = refl
below_apart k n Bad = refl
below_apart k n System = refl
below_apart k n Other = refl
below_apart k n (File f s) =
    by_equal s n
    (λ q. and_false_left _ (and_false_right (eqb f k) (lt_false {a = s} {b = n} (omega arith))))
    (λ q. and_false_right (eqb f k && ltb s n) (and_false_right (eqb f k) (eq_false q)))

below_none : (k : ℕ) (r : Record) → part_below k 0 r ≡ false
unfolding part_below
below_none k Free = refl
below_none k Bad = refl
below_none k System = refl
below_none k Other = refl
below_none k (File f s) = and_false_right (eqb f k) (lt_false {a = s} {b = 0} (omega arith))

module _ (owner : ℕ → Record) (parts : ℕ → ℕ) (v : Owned owner parts) (k : ℕ) where
  count_below : (n : ℕ) → n ≤ parts k → count blocks (λ (b : ℕ). part_below k n (owner b)) ≡ n
  count_below zero h = count_none blocks (λ (b : ℕ). part_below k 0 (owner b)) (λ b l. below_none k (owner b))
  count_below (suc n) h =
      let w : (b : ℕ) × (b < blocks) × (owner b ≡ File k n) = v.own_part k n h in
      let one : count blocks (λ (b : ℕ). is_part k n (owner b)) ≡ 1 =
      count_one blocks w.0 (λ (b : ℕ). is_part k n (owner b)) w.1 (is_part_true k n (owner w.0) w.2)
      (λ j l t. v.own_once j w.0 k n l w.1 (true_is_part k n (owner j) t) w.2) in
      let ih : count blocks (λ (b : ℕ). part_below k n (owner b)) ≡ n = count_below n (omega arith) in
      let both : count blocks (λ (b : ℕ). (part_below k n (owner b) || is_part k n (owner b)))
      ≡ count blocks (λ (b : ℕ). part_below k n (owner b)) + count blocks (λ (b : ℕ). is_part k n (owner b)) =
      count_or blocks (λ (b : ℕ). part_below k n (owner b)) (λ (b : ℕ). is_part k n (owner b)) (λ b l. below_apart k n (owner b)) in
      count_cong blocks (λ (b : ℕ). part_below k (suc n) (owner b)) (λ (b : ℕ). (part_below k n (owner b) || is_part k n (owner b)))
      (λ b l. below_suc k n (owner b))
      ∙ omega arith

  bears_below : (b : ℕ) → b < blocks → (r : Record) → owner b ≡ r → bears k r ≡ part_below k (parts k) r
  unfolding bears part_below
  bears_below b l Free e = refl
  bears_below b l Bad e = refl
  bears_below b l System e = refl
  bears_below b l Other e = refl
  bears_below b l (File f s) e =
      by_equal f k
      (λ q. eq_true q ∙ sym (and_true (eq_true q) (lt_true (subst (λ (x : ℕ). s < parts x) q (v.own_below b f s l e)))))
      (λ q. eq_false q ∙ sym (and_false_left _ (eq_false q)))

  count_bears : count blocks (λ (b : ℕ). bears k (owner b)) ≡ parts k
  count_bears =
      count_cong blocks (λ (b : ℕ). bears k (owner b)) (λ (b : ℕ). part_below k (parts k) (owner b)) (λ b l. bears_below b l (owner b) refl)
      ∙ count_below (parts k) (omega arith)

  -- ---- file k's blocks are freed

  abbrev owner' : ℕ → Record
  owner' b = unowned k (owner b)

  -- freeing file k frees as many blocks as it has
  pub freed_count : count blocks (free_of owner') ≡ count blocks (free_of owner) + parts k
  unfolding free_of
  freed_count =
      count_cong blocks (λ (b : ℕ). is_free (owner' b)) (λ (b : ℕ). (is_free (owner b) || bears k (owner b))) (λ b l. unowned_free k (owner b))
      ∙ count_or blocks (λ (b : ℕ). is_free (owner b)) (λ (b : ℕ). bears k (owner b)) (λ b l. free_apart k (owner b))
      ∙ ap (λ (x : ℕ). count blocks (λ (b : ℕ). is_free (owner b)) + x) count_bears

  -- after file k is freed, each part of the other files has one block, and file k has none
  pub freed_owned : (parts' : ℕ → ℕ) → ((f : ℕ) → f ≢ k → parts' f ≡ parts f) → parts' k ≡ 0 → Owned owner' parts'
  unfolding unowned bears
  freed_owned parts' e z =
      record {
        own_valid = λ b l. unowned_valid k (owner b) (v.own_valid b l);
        own_zero = ap (unowned k) v.own_zero;
        own_system = λ b l q. v.own_system b l (unowned_system k (owner b) q);
        own_below = λ b f s l q.
            let w : (owner b ≡ File f s) × (f ≢ k) = unowned_file k f s (owner b) q in
            subst (λ (x : ℕ). s < x) (sym (e f w.1)) (v.own_below b f s l w.0);
        own_part = λ f s l.
            by_equal f k (λ q. absurd (omega (arith, ap parts' q)))
            (λ q.
            let w : (b : ℕ) × (b < blocks) × (owner b ≡ File f s) = v.own_part f s (subst (λ (x : ℕ). s < x) (e f q) l) in
            (w.0, w.1, keeps k f s (owner w.0) w.2 q));
        own_once = λ b b' f s l l' q q'. v.own_once b b' f s l l' (unowned_file k f s (owner b) q).0 (unowned_file k f s (owner b') q').0;
      }

-- ---- blocks are given

-- only how many parts each file has matters
pub owned_cong : (owner : ℕ → Record) (parts parts' : ℕ → ℕ) → ((f : ℕ) → parts f ≡ parts' f) → Owned owner parts → Owned owner parts'
owned_cong owner parts parts' e v =
    record {
      own_valid = v.own_valid;
      own_zero = v.own_zero;
      own_system = v.own_system;
      own_below = λ b f s l q. subst (λ (x : ℕ). s < x) (e f) (v.own_below b f s l q);
      own_part = λ f s l. v.own_part f s (subst (λ (x : ℕ). s < x) (sym (e f)) l);
      own_once = v.own_once;
    }

file_file : (f s g t : ℕ) → File f s ≡ File g t → f ≡ g
file_file f s g t e = cc

file_part : (f s g t : ℕ) → File f s ≡ File g t → s ≡ t
file_part f s g t e = cc

module _ (owner : ℕ → Record) (parts : ℕ → ℕ) (v : Owned owner parts) (b f : ℕ) (inside : b < blocks) (was : owner b ≡ Free)
    (small : f < file_bound / sequences) (few : parts f < sequences) where
  abbrev given : ℕ → Record
  given = upd owner b (File f (parts f))

  not_file : (g s : ℕ) → owner b ≡ File g s → ⊥
  unfolding is_free
  not_file g s e = true≢false (is_free (owner b)) (ap is_free was) (ap is_free e)

  b_not_zero : b ≢ 0
  unfolding is_free
  b_not_zero z = true≢false (is_free (owner b)) (ap is_free was) (ap (λ (x : ℕ). is_free (owner x)) z ∙ ap is_free v.own_zero)

  -- the new part is no old one
  new_part : (b' : ℕ) → b' < blocks → owner b' ≡ File f (parts f) → ⊥
  new_part b' l e = omega (arith, v.own_below b' f (parts f) l e)

  give_one : Owned given (upd parts f (suc (parts f)))
  unfolding is_system
  give_one =
      let at_b : given b ≡ File f (parts f) = upd_same owner b (File f (parts f)) b refl in
      let off-b : (b' : ℕ) → b' ≢ b → given b' ≡ owner b' = λ b' q. upd_other owner b (File f (parts f)) b' q in
      record {
        own_valid = λ b' l.
            by_equal b' b (λ q. subst Valid (sym (ap given q ∙ at_b)) (small, few)) (λ q. subst Valid (sym (off-b b' q)) (v.own_valid b' l));
        own_zero = off-b 0 (λ z. b_not_zero (sym z)) ∙ v.own_zero;
        own_system = λ b' l e.
            by_equal b' b (λ q. true≢false (is_system System) refl (ap is_system (sym e ∙ ap given q ∙ at_b))) (λ q. v.own_system b' l (sym (off-b b' q) ∙ e));
        own_below = λ b' g s l e.
            by_equal b' b
            (λ q.
            let same-file : File f (parts f) ≡ File g s = sym (ap given q ∙ at_b) ∙ e in
            let n : upd parts f (suc (parts f)) g ≡ suc (parts f) = upd_same parts f (suc (parts f)) g (sym (file_file f (parts f) g s same-file)) in
            omega (arith, file_part f (parts f) g s same-file))
            (λ q.
            let old : s < parts g = v.own_below b' g s l (sym (off-b b' q) ∙ e) in
            by_equal g f
            (λ r. omega (arith, upd_same parts f (suc (parts f)) g r, ap parts r))
            (λ r. omega (arith, upd_other parts f (suc (parts f)) g r)));
        own_part = λ g s l.
            let old : s < parts g → (b' : ℕ) × (b' < blocks) × (given b' ≡ File g s) =
            λ h.
            let w : (b' : ℕ) × (b' < blocks) × (owner b' ≡ File g s) = v.own_part g s h in
            (w.0, w.1, off-b w.0 (λ q. not_file g s (ap owner (sym q) ∙ w.2)) ∙ w.2) in
            by_equal g f
            (λ r. by_equal s (parts f)
            (λ q. (b, inside, at_b ∙ ap₂ File (sym r) (sym q)))
            (λ q. old (omega (arith, upd_same parts f (suc (parts f)) g r, ap parts r))))
            (λ r. old (omega (arith, upd_other parts f (suc (parts f)) g r)));
        own_once = λ i j g s li lj ei ej.
            by_equal i b
            (λ q. by_equal j b (λ r. q ∙ sym r)
            (λ r. absurd (new_part j lj (sym (off-b j r) ∙ ej ∙ sym ei ∙ ap given q ∙ at_b))))
            (λ q. by_equal j b
            (λ r. absurd (new_part i li (sym (off-b i q) ∙ ei ∙ sym ej ∙ ap given r ∙ at_b)))
            (λ r. v.own_once i j g s li lj (sym (off-b i q) ∙ ei) (sym (off-b j r) ∙ ej)));
      }

-- giving block b away leaves the later ones of an increasing list of free blocks free
pub still_free : (owner : ℕ → Record) (b : ℕ) (r : Record) (bs : List ℕ)
    → Picks blocks (free_of owner) (suc b) bs → Picks blocks (free_of (upd owner b r)) (suc b) bs
unfolding free_of
still_free owner b r bs t =
    picks_cong blocks (free_of owner) (free_of (upd owner b r)) (suc b) bs
    (λ j h l a. ap is_free (upd_other owner b r j (omega arith)) ∙ a) t

-- giving free blocks away leaves the same blocks bad
pub give_bad : (bs : List ℕ) (owner : ℕ → Record) (f s i b : ℕ) → Picks blocks (free_of owner) i bs → is_bad_record (give owner f s bs b) ≡ is_bad_record
    (owner b)
unfolding give free_of is_bad_record
give_bad [] owner f s i b t = refl
give_bad (x ∷ xs) owner f s i b t =
    give_bad xs (upd owner x (File f s)) f (suc s) (suc x) b (still_free owner x (File f s) xs t.3)
    ∙ by_equal b x
    (λ q. ap is_bad_record (upd_same owner x (File f s) b q) ∙ sym (ap (λ (j : ℕ). is_bad_record (owner j)) q ∙ ap is_bad_record (free_only (owner x) t.2)))
    (λ q. ap is_bad_record (upd_other owner x (File f s) b q))

-- after free blocks are given to file f as its next parts, each part of each file has one block
pub give_owned : (bs : List ℕ) (owner : ℕ → Record) (parts : ℕ → ℕ) (f s i : ℕ) → Owned owner parts → Picks blocks (free_of owner) i bs
    → f < file_bound / sequences → parts f ≡ s → s + length bs ≤ sequences → Owned (give owner f s bs) (upd parts f (s + length bs))
unfolding give free_of
give_owned [] owner parts f s i v t small e few =
    owned_cong owner parts (upd parts f (s + 0))
    (λ g. by_equal g f (λ q. ap parts q ∙ e ∙ omega (arith, upd_same parts f (s + 0) g q)) (λ q. sym (upd_other parts f (s + 0) g q))) v
give_owned (b ∷ bs) owner parts f s i v t small e few =
    let one : Owned (upd owner b (File f (parts f))) (upd parts f (suc (parts f))) =
    give_one owner parts v b f t.1 (free_only (owner b) t.2) small (omega arith) in
    let one' : Owned (upd owner b (File f s)) (upd parts f (suc s)) = subst (λ (x : ℕ). Owned (upd owner b (File f x)) (upd parts f (suc x))) e one in
    owned_cong (give (upd owner b (File f s)) f (suc s) bs) (upd (upd parts f (suc s)) f (suc s + length bs)) (upd parts f (s + suc (length bs)))
    (λ g. by_equal g f
    (λ q. omega (arith, upd_same (upd parts f (suc s)) f (suc s + length bs) g q, upd_same parts f (s + suc (length bs)) g q))
    (λ q. upd_other (upd parts f (suc s)) f (suc s + length bs) g q ∙ upd_other parts f (suc s) g q ∙ sym (upd_other parts f (s + suc (length bs)) g q)))
    (give_owned bs (upd owner b (File f s)) (upd parts f (suc s)) f (suc s) (suc b) one' (still_free owner b (File f s) bs t.3) small
    (upd_same parts f (suc s) f refl) (omega arith))

-- giving free blocks away leaves as many fewer free
pub give_count : (bs : List ℕ) (owner : ℕ → Record) (f s i : ℕ) → Picks blocks (free_of owner) i bs
    → count blocks (free_of (give owner f s bs)) + length bs ≡ count blocks (free_of owner)
unfolding give free_of is_free
give_count [] owner f s i t = omega arith
give_count (b ∷ bs) owner f s i t =
    let ih : count blocks (free_of (give (upd owner b (File f s)) f (suc s) bs)) + length bs ≡ count blocks (free_of (upd owner b (File f s))) =
    give_count bs (upd owner b (File f s)) f (suc s) (suc b) (still_free owner b (File f s) bs t.3) in
    let one : count blocks (free_of owner) ≡ suc (count blocks (free_of (upd owner b (File f s)))) =
    count_drop blocks b (free_of owner) (free_of (upd owner b (File f s))) t.1 t.2 (ap is_free (upd_same owner b (File f s) b refl))
    (λ j l q. ap is_free (sym (upd_other owner b (File f s) j q))) in
    omega arith
