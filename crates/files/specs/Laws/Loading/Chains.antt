-- The blocks of each file in chains, upwards, as the code follows them from a file to its records.
-- Rests on the parts of files (Parts) and on tallies (Tally).
use Rattle.std.specs.Prelude.{◌≡◌, ◌≢◌, refl, true, false, not, Bool, Option, Some, None, MatchOption, is_none, List, eqb, length, get_or, set, replicate}
use Rattle.std.proofs.Math.Path.{sym, ap}
use Rattle.std.proofs.Common.{◌∙◌, add-zero, add-suc, add-one, arith, length-set, get_or-set_same, get_or-set_other}
use Rattle.std.proofs.lemmas.List.{length-replicate, get_or-replicate, get_or_past}
use Prim.Native.Nat.{ℕ, zero, suc, ◌+◌, ◌-◌, ◌≤◌, ◌<◌, min}
use Rattle.laws.specs.Below.{all}
use Rattle.laws.specs.Found.{below, IsLowestFrom}
use Rattle.laws.specs.Laws.Cases.{by_order, by_equal}
use Rattle.laws.specs.Laws.Tests.{eq_true, eq_false, true_eq, true≢false}
use Rattle.laws.specs.Laws.All.{all_is, all_false}
use Rattle.laws.specs.Laws.Found.{below_told, below_untold, lowest_from_end, lowest_from_here, lowest_from_past}
use Rattle.sector_rules.specs.Geometry.{blocks}
use Rattle.file_rules.specs.declared.Record.{Record}
use Rattle.file_rules.specs.declared.Record.TheVariants.{Free, Bad, System, File, Other}
use Rattle.file_rules.specs.Map.{sequences, bears}
use Rattle.files.specs.Laws.Loading.Loaded.{loaded_record}
use Rattle.files.specs.Laws.Loading.Records.{decode_none}
use Rattle.files.specs.Laws.Loading.Parts.{part_of, part_borne, part_cell, record_cell, cell_none}
use Rattle.files.specs.Laws.Loading.Tally.{Tallied, tally_skip, tally_more}

-- ---- the file that a record bears

-- the file that a record bears, if its number is one of those that 12 bits can name
unfoldable pub bearer : Record → Option ℕ
bearer Free = None
bearer Bad = None
bearer System = None
bearer (File g s) = below sequences g
bearer Other = None

-- a record with a bearer bears that file alone
pub bearer_told : (r : Record) (g : ℕ) → bearer r ≡ Some g → (g < sequences) × ((f : ℕ) → bears f r ≡ eqb g f)
unfolding bearer bears
bearer_told Free g e = absurd (cc)
bearer_told Bad g e = absurd (cc)
bearer_told System g e = absurd (cc)
bearer_told (File h s) g e =
    let w : (h ≡ g) × (g < sequences) = below_told sequences h g e in (w.1, λ f. ap (λ (x : ℕ). eqb x f) w.0)
bearer_told Other g e = absurd (cc)

-- a record without one bears no file
pub bearer_none : (r : Record) → bearer r ≡ None → (f : ℕ) → f < sequences → bears f r ≡ false
unfolding bearer bears
bearer_none Free e f l = refl
bearer_none Bad e f l = refl
bearer_none System e f l = refl
bearer_none (File h s) e f l = let w : sequences ≤ h = below_untold sequences h e in eq_false {a = h} {b = f} (λ z. omega arith)
bearer_none Other e f l = refl

-- ---- the next block of a file

-- whether block b of a loaded map bears file f
abbrev pub borne_in : List ℕ → ℕ → ℕ → Bool
borne_in map f b = bears f (loaded_record map b)

-- the blocks from k on are chained: the first of each file, and after each block the next of its file
pub record Chained (first next : List (Option ℕ)) (map : List ℕ) (k : ℕ) : Type 0 where
  pub files : length first ≡ sequences
  pub long : length next ≡ blocks
  pub firsts : (f : ℕ) → f < sequences → IsLowestFrom (borne_in map f) k blocks (get_or first f None)
  pub nexts : (b : ℕ) → k ≤ b → b < blocks → (f : ℕ) → f < sequences → borne_in map f b ≡ true
      → IsLowestFrom (borne_in map f) (b + 1) blocks (get_or next b None)

-- before the walk every chain is empty
pub chain_none : (n m : ℕ) → n ≡ sequences → m ≡ blocks → (map : List ℕ) → Chained (replicate n None) (replicate m None) map blocks
chain_none n m en em map =
    record {
      files = length-replicate {A = Option ℕ} n None ∙ en;
      long = length-replicate {A = Option ℕ} m None ∙ em;
      firsts = λ f h.
          let e : get_or {A = Option ℕ} (replicate n None) f None ≡ None = get_or-replicate {A = Option ℕ} n f None None (omega arith) in
          rw e (lowest_from_end (borne_in map f) blocks blocks (omega arith));
      nexts = λ b h l. absurd (omega arith);
    }

module _ (first next : List (Option ℕ)) (map : List ℕ) (k b : ℕ) (e : b + 1 ≡ k) (l : k ≤ blocks) (c : Chained first next map k) where
  -- block b, the next one down, is put before the chain of the file g that it bears
  pub chain_more : (g : ℕ) → bearer (loaded_record map b) ≡ Some g → Chained (set first g (Some b)) (set next b (get_or first g None)) map b
  chain_more g q =
      record {
        files = length-set first g (Some b) ∙ c.files;
        long = length-set next b (get_or first g None) ∙ c.long;
        firsts = λ f h. by_equal f g
            (λ z.
            let here : get_or (set first g (Some b)) f None ≡ Some b =
            ap (λ (x : ℕ). get_or (set first g (Some b)) x None) z ∙ get_or-set_same first g (Some b) None (omega (arith, c.files, w.0)) in
            rw here (lowest_from_here (borne_in map f) blocks b (omega arith) (w.1 f ∙ eq_true (sym z))))
            (λ z.
            let there : get_or (set first g (Some b)) f None ≡ get_or first f None = get_or-set_other first g f (Some b) None z in
            rw there (lowest_from_past (borne_in map f) blocks b (get_or first f None) (w.1 f ∙ eq_false (λ x. z (sym x))) (rw e (c.firsts f h))));
        nexts = λ i p m f h t. by_equal i b
            (λ z.
            let same : g ≡ f = true_eq (sym (w.1 f) ∙ ap (borne_in map f) (sym z) ∙ t) in
            let here : get_or (set next b (get_or first g None)) i None ≡ get_or first f None =
            ap (λ (x : ℕ). get_or (set next b (get_or first g None)) x None) z
            ∙ get_or-set_same next b (get_or first g None) None (omega (arith, c.long)) ∙ ap (λ (x : ℕ). get_or first x None) same in
            let after : i + 1 ≡ k = omega arith in
            rw (here, after) (c.firsts f h))
            (λ z.
            let there : get_or (set next b (get_or first g None)) i None ≡ get_or next i None = get_or-set_other next b i (get_or first g None) None z in
            rw there (c.nexts i (omega arith) m f h t));
      }
    where
      w : (g < sequences) × ((f : ℕ) → bears f (loaded_record map b) ≡ eqb g f)
      w = bearer_told (loaded_record map b) g q

  -- block b bears no file: the chains stay
  pub chain_skip : bearer (loaded_record map b) ≡ None → Chained first next map b
  chain_skip q =
      record {
        files = c.files;
        long = c.long;
        firsts = λ f h.
            lowest_from_past (borne_in map f) blocks b (get_or first f None) (bearer_none (loaded_record map b) q f h) (rw e (c.firsts f h));
        nexts = λ i p m f h t. by_equal i b
            (λ z. true≢false (borne_in map f i) t (ap (borne_in map f) z ∙ bearer_none (loaded_record map b) q f h))
            (λ z. c.nexts i (omega arith) m f h t);
      }

-- ---- the first block of a file

-- no record bears file f
unfoldable pub no_record_bears_in : List ℕ → ℕ → Bool
no_record_bears_in map f = all (λ (b : ℕ). not (borne_in map f b)) blocks

-- no number says a file from `sequences` on
far_file : (map : List ℕ) (f b : ℕ) → sequences ≤ f → bears f (loaded_record map b) ≡ false
unfolding loaded_record bears
far_file map f b h = decode_none (get_or map b 0) (bears f) refl refl refl refl (λ g s q. eq_false {a = g} {b = f} (λ e. omega arith))

-- the chain r of a file is empty if no record bears the file
no_chain : (map : List ℕ) (f : ℕ) (r : Option ℕ) → IsLowestFrom (borne_in map f) 0 blocks r → is_none r ≡ no_record_bears_in map f
unfolding no_record_bears_in
no_chain map f None h = sym (all_is (λ (b : ℕ). not (borne_in map f b)) blocks (λ b l. ap not (h.told b (omega arith) l)))
no_chain map f (Some i) h = sym (all_false (λ (b : ℕ). not (borne_in map f b)) blocks i h.told.1 (ap not h.told.2))

module _ (first next : List (Option ℕ)) (map : List ℕ) (f : ℕ) (c : Chained first next map 0) where
  past_last : sequences ≤ f → get_or first f None ≡ None
  past_last h = get_or_past first f None (omega (arith, c.files))

  -- the first block of a chain is the lowest block of the file
  pub first_next : IsLowestFrom (borne_in map f) 0 blocks (get_or first f None)
  first_next =
      by_order f sequences
      (λ h. c.firsts f h)
      (λ h. rw (past_last h) (record { told = λ j p q. far_file map f j h }))

  -- a file that has a block is one that a record can bear
  pub first_file : (b : ℕ) → get_or first f None ≡ Some b → f < sequences
  first_file b q =
      by_order f sequences (λ h. h)
      (λ h. let w : ◌≡◌ {A = Option ℕ} None (Some b) = sym (past_last h) ∙ q in absurd (cc))

  -- a chain is empty if no record bears the file
  pub chain_empty : is_none (get_or first f None) ≡ no_record_bears_in map f
  chain_empty = no_chain map f (get_or first f None) first_next

-- ---- a tally along a chain

module _ (t : List ℕ) (size : ℕ) (key : ℕ → ℕ) (k : ℕ) (m : Tallied t size key k) where
  tally_past : (i : ℕ) → ((j : ℕ) → k ≤ j → j < k + i → size ≤ key j) → Tallied t size key (k + i)
  tally_past zero h = rw (add-zero k) m
  tally_past (suc i) h =
      rw (add-suc k i, ← add-one (k + i))
      (tally_skip t size key (k + i) (tally_past i (λ j p q. h j p (omega arith))) (key (k + i)) refl (h (k + i) (omega arith) (omega arith)))

-- the walk has tallied the parts below r, the next block of the file: all of them, where there is none
pub record TalliedTo (t map : List ℕ) (f n : ℕ) (r : Option ℕ) : Type 0 where
  pub told : MatchOption r (Tallied t (suc blocks) (λ (j : ℕ). record_cell f n (loaded_record map j)) blocks)
      (λ b. (b < blocks) × (f < sequences) × (borne_in map f b ≡ true) × Tallied t (suc blocks) (λ (j : ℕ). record_cell f n (loaded_record map j)) b)

module _ (map : List ℕ) (f n k : ℕ) (t : List ℕ) (h : n ≤ blocks) (l : k ≤ blocks)
    (m : Tallied t (suc blocks) (λ (j : ℕ). record_cell f n (loaded_record map j)) k) where
  abbrev cell : ℕ → ℕ
  cell j = record_cell f n (loaded_record map j)

  on_to : (b : ℕ) → k ≤ b → ((j : ℕ) → k ≤ j → j < b → borne_in map f j ≡ false) → Tallied t (suc blocks) cell b
  on_to b g x =
      let e : k + (b - k) ≡ b = omega arith in
      rw e at (tally_past t (suc blocks) cell k m (b - k) (λ j p q. omega (arith, cell_none f n h (loaded_record map j) (x j p (omega arith)))))

  -- the records up to the next block of the file are none of its parts, so that the tally stays
  pub tally_to : (r : Option ℕ) → IsLowestFrom (borne_in map f) k blocks r → ((b : ℕ) → r ≡ Some b → f < sequences) → TalliedTo t map f n r
  tally_to None x g = record { told = on_to blocks l x.told }
  tally_to (Some b) x g = record { told = (x.told.1, g b refl, x.told.2, on_to b x.told.0 x.told.3) }

-- at a block of the file the walk has tallied the parts below it
pub tallied_at : (t map : List ℕ) (f n b : ℕ) → TalliedTo t map f n (Some b)
    → (b < blocks) × Tallied t (suc blocks) (λ (j : ℕ). record_cell f n (loaded_record map j)) b
tallied_at t map f n b m = (m.told.0, m.told.3)

-- past the last block of the file it has tallied all
pub tallied_all : (t map : List ℕ) (f n : ℕ) → TalliedTo t map f n None → Tallied t (suc blocks) (λ (j : ℕ). record_cell f n (loaded_record map j)) blocks
tallied_all t map f n m = m.told

module _ (first next : List (Option ℕ)) (map t : List ℕ) (f n b : ℕ) (h : n ≤ blocks) (c : Chained first next map 0) (m : TalliedTo t map f n (Some b)) where
  -- the walk goes on after block b, whose part is tallied
  pub tallied_next : (s x v : ℕ) → part_of f (loaded_record map b) ≡ Some s → x ≡ min s n → v ≡ get_or t x 0 + 1
      → TalliedTo (set t x v) map f n (get_or next b None)
  unfolding record_cell
  tallied_next s x v q ex ev =
      let e : x ≡ record_cell f n (loaded_record map b) = ex ∙ sym (ap (part_cell n) q) in
      tally_to map f n (b + 1) (set t x v) h (omega (arith, m.told.0))
      (tally_more t (suc blocks) (λ (j : ℕ). record_cell f n (loaded_record map j)) b m.told.3 x e v (omega arith) ev)
      (get_or next b None) (c.nexts b (omega arith) m.told.0 f m.told.1 m.told.2) (λ i z. m.told.1)

  -- the record of block b is a part of the file
  pub tallied_part : part_of f (loaded_record map b) ≢ None
  tallied_part = part_borne f (loaded_record map b) m.told.2
