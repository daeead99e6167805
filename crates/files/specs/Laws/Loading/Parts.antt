-- The parts of a file as the code counts and places them, on a loaded map.
-- Rests on tallies (Tally) and on the loaded map (Loaded).
use Rattle.std.specs.Prelude.{◌≡◌, ◌≢◌, true, not, cond, ◌&&◌, Option, Some, None, List, ℕ, suc, ◌+◌, ◌≤◌, ◌<◌, min, length, get_or, set, replicate}
use Rattle.std.proofs.Math.Path.{refl, sym}
use Rattle.std.proofs.Common.{ap, ◌∙◌, arith, length-set, get_or-set_same, get_or-set_other}
use Rattle.std.proofs.Math.Bool.{Bool, false}
use Rattle.std.proofs.lemmas.Bool.{false≢true}
use Rattle.std.proofs.Math.Dec.{eqb}
use Rattle.std.proofs.lemmas.List.{length-replicate, get_or-replicate}
use Rattle.laws.specs.Below.{all, count, first_below}
use Rattle.laws.specs.Found.{IsLowestFrom}
use Rattle.laws.specs.Laws.Cases.{by_order, by_equal, by_test}
use Rattle.laws.specs.Laws.Tests.{lt_true, lt_false, eq_true, eq_false, cond_true, cond_false, and_false_left, and_false_right}
use Rattle.laws.specs.Laws.Found.{lowest_from_end, lowest_from_here, lowest_from_past, lowest_from_all}
use Rattle.laws.specs.Laws.Count.{count_cong}
use Rattle.sector_rules.specs.Geometry.{blocks}
use Rattle.file_rules.specs.declared.Record.{Record}
use Rattle.file_rules.specs.declared.Record.TheVariants.{Free, Bad, System, File, Other}
use Rattle.file_rules.specs.Map.{is_part, within, bears}
use Rattle.file_rules.proofs.Laws.Base.Ends.{once_most}
use Rattle.files.specs.Laws.Loading.Loaded.{loaded_record}
use Rattle.files.specs.Laws.Loading.Loops.{all_cong}
use Rattle.files.specs.Laws.Loading.Tally.{Tallied, tally_one, tally_zero}

-- ---- which part of a file a record is

-- its sequence, if it bears file f
unfoldable pub part_of : ℕ → Record → Option ℕ
part_of f Free = None
part_of f Bad = None
part_of f System = None
part_of f (File g t) = cond (eqb g f) (Some t) None
part_of f Other = None

module _ (f : ℕ) where
  -- a record that is part t of the file is part s if t is s
  pub part_same : (r : Record) (t s : ℕ) → part_of f r ≡ Some t → is_part f s r ≡ eqb t s
  unfolding part_of is_part
  part_same Free t s e = absurd (cc)
  part_same Bad t s e = absurd (cc)
  part_same System t s e = absurd (cc)
  part_same (File g u) t s e =
      by_test (eqb g f)
      (λ q. let w : u ≡ t = sequence_same g u t q e in rw (q, w))
      (λ q. let w : ◌≡◌ {A = Option ℕ} None (Some t) = sym (cond_false (Some u) None q) ∙ e in absurd (cc))
    where
      sequence_same : (g u t : ℕ) → eqb g f ≡ true → ◌≡◌ {A = Option ℕ} (cond (eqb g f) (Some u) None) (Some t) → u ≡ t
      sequence_same g u t q e = let w : Some u ≡ Some t = sym (cond_true (Some u) None q) ∙ e in cc
  part_same Other t s e = absurd (cc)

  -- a record that is no part of the file is not part s
  pub part_absent : (r : Record) (s : ℕ) → part_of f r ≡ None → is_part f s r ≡ false
  unfolding part_of is_part
  part_absent Free s e = refl
  part_absent Bad s e = refl
  part_absent System s e = refl
  part_absent (File g u) s e =
      by_test (eqb g f)
      (λ q. let w : ◌≡◌ {A = Option ℕ} (Some u) None = sym (cond_true (Some u) None q) ∙ e in absurd (cc))
      (λ q. rw q)
  part_absent Other s e = refl

  -- a record that bears the file is a part of it
  pub part_borne : (r : Record) → bears f r ≡ true → part_of f r ≢ None
  unfolding part_of bears
  part_borne Free t e = absurd (false≢true t)
  part_borne Bad t e = absurd (false≢true t)
  part_borne System t e = absurd (false≢true t)
  part_borne (File g u) t e = let w : ◌≡◌ {A = Option ℕ} (Some u) None = sym (cond_true (Some u) None t) ∙ e in cc
  part_borne Other t e = absurd (false≢true t)

-- ---- the cell of a record in a tally of the first n parts of file f

-- the cell of a part: its sequence below n, n for a later one; what is no part has none, which is past the last cell
abbrev pub part_cell : ℕ → Option ℕ → ℕ
part_cell n (Some t) = min t n
part_cell n None = suc blocks

-- the cell of a record
unfoldable pub record_cell : ℕ → ℕ → Record → ℕ
record_cell f n r = part_cell n (part_of f r)

module _ (f n : ℕ) (h : n ≤ blocks) where
  -- a record that does not bear the file has no cell
  pub cell_none : (r : Record) → bears f r ≡ false → suc blocks ≡ record_cell f n r
  unfolding record_cell part_of bears
  cell_none Free t = refl
  cell_none Bad t = refl
  cell_none System t = refl
  cell_none (File g s) t = rw t
  cell_none Other t = refl

  no_part : (s : ℕ) → s < n → eqb (suc blocks) s ≡ false
  no_part s l = eq_false {a = suc blocks} {b = s} (λ e. omega arith)

  -- the cell is s exactly for part s
  pub record_cell_is : (s : ℕ) → s < n → (r : Record) → eqb (record_cell f n r) s ≡ is_part f s r
  unfolding record_cell part_of is_part
  record_cell_is s l Free = no_part s l
  record_cell_is s l Bad = no_part s l
  record_cell_is s l System = no_part s l
  record_cell_is s l (File g t) =
      by_test (eqb g f)
      (λ e. by_order t n
      (λ q. let m : min t n ≡ t = omega arith in rw (e, m))
      (λ q.
      let m : min t n ≡ n = omega arith in
      let a : eqb t s ≡ false = eq_false {a = t} {b = s} (λ z. omega arith) in
      let b : eqb n s ≡ false = eq_false {a = n} {b = s} (λ z. omega arith) in
      rw (e, m, a) b))
      (λ e. rw e (no_part s l))
  record_cell_is s l Other = no_part s l

  not_late : eqb (suc blocks) n ≡ false
  not_late = eq_false {a = suc blocks} {b = n} (λ e. omega arith)

  -- the cell is n exactly for a part that is not among the first n
  pub cell_within : (r : Record) → not (eqb (record_cell f n r) n) ≡ within f n r
  unfolding record_cell part_of within
  cell_within Free = rw not_late
  cell_within Bad = rw not_late
  cell_within System = rw not_late
  cell_within (File g t) =
      by_test (eqb g f)
      (λ e. by_order t n
      (λ q.
      let m : min t n ≡ t = omega arith in
      let a : eqb t n ≡ false = eq_false {a = t} {b = n} (λ z. omega arith) in
      rw (e, m, a, lt_true q))
      (λ q.
      let m : min t n ≡ n = omega arith in
      let a : eqb n n ≡ true = eq_true {a = n} {b = n} refl in
      rw (e, m, a, lt_false {a = t} {b = n} q)))
      (λ e. rw (e, not_late))
  cell_within Other = rw not_late

-- ---- whether each part stands once, by a tally

-- whether a loaded map has the first n parts of file f, each once, and no later one
unfoldable pub parts_in : List ℕ → ℕ → ℕ → Bool
parts_in map f n =
    all (λ (b : ℕ). within f n (loaded_record map b)) blocks
    && all (λ (s : ℕ). eqb (count blocks (λ (b : ℕ). is_part f s (loaded_record map b))) 1) n

module _ (map : List ℕ) (f n : ℕ) where
  -- a file of more parts than there are blocks is not sound
  pub parts_many : blocks < n → false ≡ parts_in map f n
  unfolding parts_in
  parts_many h =
      let once : Bool = all (λ (s : ℕ). eqb (count blocks (λ (b : ℕ). is_part f s (loaded_record map b))) 1) n in
      by_test once (λ t. absurd (omega (arith, once_most (loaded_record map) f n t)))
      (λ t. sym (and_false_right (all (λ (b : ℕ). within f n (loaded_record map b)) blocks) t))

  module _ (h : n ≤ blocks) (t : List ℕ) (m : Tallied t (suc blocks) (λ (b : ℕ). record_cell f n (loaded_record map b)) blocks) where
    later : eqb (get_or t n 0) 0 ≡ all (λ (b : ℕ). within f n (loaded_record map b)) blocks
    later =
        tally_zero t (suc blocks) (λ (b : ℕ). record_cell f n (loaded_record map b)) blocks m n (omega arith)
        ∙ all_cong (λ (b : ℕ). not (eqb (record_cell f n (loaded_record map b)) n)) (λ (b : ℕ). within f n (loaded_record map b)) blocks
        (λ b l. cell_within f n h (loaded_record map b))

    once : all (λ (s : ℕ). eqb (get_or t s 0) 1) n ≡ all (λ (s : ℕ). eqb (count blocks (λ (b : ℕ). is_part f s (loaded_record map b))) 1) n
    once =
        all_cong (λ (s : ℕ). eqb (get_or t s 0) 1) (λ (s : ℕ). eqb (count blocks (λ (b : ℕ). is_part f s (loaded_record map b))) 1) n
        (λ s l.
        tally_one t (suc blocks) (λ (b : ℕ). record_cell f n (loaded_record map b)) blocks m s (omega arith)
        ∙ ap (λ (c : ℕ). eqb c 1)
        (count_cong blocks (λ (b : ℕ). eqb (record_cell f n (loaded_record map b)) s)
        (λ (b : ℕ). is_part f s (loaded_record map b)) (λ b q. record_cell_is f n h s l (loaded_record map b))))

    -- where the tally has a later part, the file is not sound
    pub parts_later : (get_or t n 0 ≡ 0 → ⊥) → false ≡ parts_in map f n
    unfolding parts_in
    parts_later q =
        sym (and_false_left (all (λ (s : ℕ). eqb (count blocks (λ (b : ℕ). is_part f s (loaded_record map b))) 1) n) (sym later ∙ eq_false q))

    -- where it has none, the file is sound if each part is tallied once
    pub parts_once : (r : Bool) → get_or t n 0 ≡ 0 → r ≡ all (λ (s : ℕ). eqb (get_or t s 0) 1) n → r ≡ parts_in map f n
    unfolding parts_in
    parts_once r q e =
        e ∙ once ∙ sym (ap (λ (x : Bool). x && all (λ (s : ℕ). eqb (count blocks (λ (b : ℕ). is_part f s (loaded_record map b))) 1) n) (sym later ∙ eq_true q))

-- ---- the blocks of a file in sequence, scanned from the last block down

-- a row that has, for each sequence of file f, the lowest block from k on that is its part
pub record PartsFrom (row : List (Option ℕ)) (map : List ℕ) (f k : ℕ) : Type 0 where
  pub long : length row ≡ blocks
  pub lowest_parts : (s : ℕ) → s < blocks → IsLowestFrom (λ (b : ℕ). is_part f s (loaded_record map b)) k blocks (get_or row s None)

-- a row that has the block of every part of file f
pub record PartsAt (row : List (Option ℕ)) (map : List ℕ) (f : ℕ) : Type 0 where
  pub long : length row ≡ blocks
  pub parts : (s : ℕ) → s < blocks → get_or row s None ≡ first_below (λ (b : ℕ). is_part f s (loaded_record map b)) blocks

-- before the walk no part has a block
pub from_none : (map : List ℕ) (f : ℕ) → PartsFrom (replicate blocks None) map f blocks
from_none map f =
    record {
      long = length-replicate {A = Option ℕ} blocks None;
      lowest_parts = λ s h.
          let e : get_or {A = Option ℕ} (replicate blocks None) s None ≡ None = get_or-replicate {A = Option ℕ} blocks s None None h in
          rw e (lowest_from_end (λ (b : ℕ). is_part f s (loaded_record map b)) blocks blocks (omega arith));
    }

module _ (row : List (Option ℕ)) (map : List ℕ) (f k b : ℕ) (e : b + 1 ≡ k) (l : k ≤ blocks) (p : PartsFrom row map f k) where
  -- the record of block b is part s of the file: the row has b there
  pub from_part : (s : ℕ) → part_of f (loaded_record map b) ≡ Some s → s < blocks → PartsFrom (set row s (Some b)) map f b
  from_part s q h =
      record {
        long = length-set row s (Some b) ∙ p.long;
        lowest_parts = λ t g.
            by_equal t s
            (λ z.
            let here : get_or (set row s (Some b)) t None ≡ Some b =
            ap (λ (x : ℕ). get_or (set row s (Some b)) x None) z ∙ get_or-set_same row s (Some b) None (omega (arith, p.long)) in
            rw here (lowest_from_here (λ (c : ℕ). is_part f t (loaded_record map c)) blocks b (omega arith)
            (part_same f (loaded_record map b) s t q ∙ eq_true (sym z))))
            (λ z.
            let there : get_or (set row s (Some b)) t None ≡ get_or row t None = get_or-set_other row s t (Some b) None z in
            rw there (lowest_from_past (λ (c : ℕ). is_part f t (loaded_record map c)) blocks b (get_or row t None)
            (part_same f (loaded_record map b) s t q ∙ eq_false (λ w. z (sym w)))
            (rw e (p.lowest_parts t g))));
      }

  -- the record of block b is none of the parts that the row has: the row stays
  pub from_other : ((t : ℕ) → t < blocks → is_part f t (loaded_record map b) ≡ false) → PartsFrom row map f b
  from_other h =
      record {
        long = p.long;
        lowest_parts = λ t g.
            lowest_from_past (λ (c : ℕ). is_part f t (loaded_record map c)) blocks b (get_or row t None) (h t g) (rw e (p.lowest_parts t g));
      }

  -- it is no part of the file
  pub from_absent : part_of f (loaded_record map b) ≡ None → PartsFrom row map f b
  from_absent q = from_other (λ t g. part_absent f (loaded_record map b) t q)

  -- it is a part that no row has
  pub from_far : (s : ℕ) → part_of f (loaded_record map b) ≡ Some s → blocks ≤ s → PartsFrom row map f b
  from_far s q h = from_other (λ t g. part_same f (loaded_record map b) s t q ∙ eq_false (λ w. omega arith))

-- after the walk down to block 0 the row has the block of every part
pub from_all : (row : List (Option ℕ)) (map : List ℕ) (f : ℕ) → PartsFrom row map f 0 → PartsAt row map f
from_all row map f p =
    record {
      long = p.long;
      parts = λ s h. lowest_from_all (λ (b : ℕ). is_part f s (loaded_record map b)) blocks (get_or row s None) (p.lowest_parts s h);
    }
