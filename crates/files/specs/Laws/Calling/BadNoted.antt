-- A list of bad blocks as the code reads it: entry by entry, into a row that has each block.
-- Rests on the laws of lists of bad blocks (file_rules, Laws.Base.BadList).
use Rattle.std.specs.Prelude.{◌≡◌, Bool, true, false, ◌&&◌, ◌||◌, leb, ltb, eqb, length, set, replicate}
use Rattle.std.specs.List.{list_all}
use Rattle.std.proofs.Math.Path.{refl, sym, ap}
use Rattle.std.proofs.Common.{◌∙◌, arith, add-one, length-set, get_or-set_same, get_or-set_other}
use Rattle.std.proofs.lemmas.List.{length-replicate, get_or-replicate}
use Rattle.std.proofs.Math.Bool.{not, cond}
use mathlib.Core.List.{List, [], ◌∷◌}
use Prim.Native.Nat.{ℕ, zero, suc, ◌+◌, ◌≤◌, ◌<◌}
use Rattle.std.proofs.Math.ListN.{get_or}
use Rattle.laws.specs.Below.{all, count}
use Rattle.laws.specs.Laws.All.{all_at, all_front}
use Rattle.laws.specs.Laws.Count.{count_cong, count_two_out}
use Rattle.laws.specs.Laws.Cases.{by_equal}
use Rattle.laws.specs.Laws.Tests.{true_lt, eq_true, eq_false, and_false_left, and_right}
use Rattle.sector_rules.specs.Geometry.{blocks}
use Rattle.file_rules.specs.declared.Record.{Record}
use Rattle.file_rules.specs.declared.Record.TheVariants.{Free, Bad, System, File}
use Rattle.file_rules.specs.Arguments.{FormatArguments, listed, bad_list_right, count_listed}
use Rattle.file_rules.specs.Calls.{fresh_owner}
use Rattle.file_rules.proofs.Laws.Base.BadList.{right_each, low_unlisted}

-- ---- entry by entry

-- whether a number can be a bad block's
unfoldable pub can_be_bad : ℕ → Bool
can_be_bad x = leb 2 x && ltb x blocks

-- a list is right if each of its entries is
pub right_entries : (bad : List ℕ) → bad_list_right bad ≡ all (λ (i : ℕ). can_be_bad (get_or bad i 0)) (length bad)
unfolding bad_list_right can_be_bad all
right_entries [] = refl
right_entries (x ∷ xs) =
    ap (λ (t : Bool). (leb 2 x && ltb x blocks) && t) (right_entries xs) ∙ sym (all_front (λ (i : ℕ). can_be_bad (get_or (x ∷ xs) i 0)) (length xs))

-- the same along the list
pub right_list : (bad : List ℕ) → list_all can_be_bad bad ≡ bad_list_right bad
unfolding bad_list_right can_be_bad
right_list [] = refl
right_list (x ∷ xs) = ap (λ (t : Bool). (leb 2 x && ltb x blocks) && t) (right_list xs)

-- so each entry of a right list is a block
pub entry_block : (bad : List ℕ) → bad_list_right bad ≡ true → (i : ℕ) → i < length bad → get_or bad i 0 < blocks
unfolding can_be_bad
entry_block bad t i h =
    true_lt (and_right (leb 2 (get_or bad i 0)) (ltb (get_or bad i 0) blocks)
    (all_at (λ (j : ℕ). can_be_bad (get_or bad j 0)) (length bad) (sym (right_entries bad) ∙ t) i h))

not_both : (a c : Bool) → (a || not c) ≡ not (not a && c)
not_both true c = refl
not_both false c = refl

-- a list has a block if not every entry is another
listed_entries : (b : ℕ) (bad : List ℕ) → listed b bad ≡ not (all (λ (i : ℕ). not (eqb (get_or bad i 0) b)) (length bad))
unfolding listed all
listed_entries b [] = refl
listed_entries b (x ∷ xs) =
    ap (λ (t : Bool). eqb x b || t) (listed_entries b xs)
    ∙ not_both (eqb x b) (all (λ (i : ℕ). not (eqb (get_or xs i 0) b)) (length xs))
    ∙ sym (ap not (all_front (λ (i : ℕ). not (eqb (get_or (x ∷ xs) i 0) b)) (length xs)))

-- ---- the row of blocks

-- whether a block is noted
unfoldable pub is_noted : List Bool → ℕ → Bool
is_noted noted b = get_or noted b false

-- the blocks of the first n entries of a list are noted
pub record NotedFirst (noted : List Bool) (bad : List ℕ) (n : ℕ) : Type 0 where
  pub long : length noted ≡ blocks
  pub each : (b : ℕ) → b < blocks → is_noted noted b ≡ not (all (λ (i : ℕ). not (eqb (get_or bad i 0) b)) n)

-- the blocks of a list are noted
abbrev pub BadNoted : List Bool → List ℕ → Type 0
BadNoted noted bad = NotedFirst noted bad (length bad)

-- at first none is noted
pub noted_start : (bad : List ℕ) → NotedFirst (replicate blocks false) bad 0
unfolding is_noted all
noted_start bad = record { long = length-replicate {A = Bool} blocks false; each = λ b h. get_or-replicate blocks b false false h }

-- the block of one entry more is noted
pub noted_next : (noted : List Bool) (bad : List ℕ) (n x : ℕ) → NotedFirst noted bad n → x ≡ get_or bad n 0 → x < blocks
    → NotedFirst (set noted x true) bad (n + 1)
unfolding is_noted all
noted_next noted bad n x m e h =
    record {
      long = length-set noted x true ∙ m.long;
      each = λ b l.
          let others : Bool = all (λ (i : ℕ). not (eqb (get_or bad i 0) b)) n in
          rw (add-one)
          (by_equal b x
          (λ q.
          ap (λ (i : ℕ). get_or (set noted x true) i false) q ∙ get_or-set_same noted x true false (omega (arith, m.long))
          ∙ sym (ap not (and_false_left others (ap not (eq_true (sym e ∙ sym q))))))
          (λ q.
          get_or-set_other noted x b true false q ∙ m.each b l
          ∙ ap (λ (t : Bool). not (not t && others)) (sym (eq_false (λ z. q (sym z ∙ sym e))))));
    }

-- the record that is written for block b
unfoldable pub fresh_record : List Bool → ℕ → Record
fresh_record noted zero = System
fresh_record noted (suc zero) = File 0 0
fresh_record noted (suc (suc b)) = cond (is_noted noted (suc (suc b))) Bad Free

module _ (noted : List Bool) (bad : List ℕ) (n : BadNoted noted bad) where
  -- a block is noted if the list has it
  noted_listed : (b : ℕ) → b < blocks → is_noted noted b ≡ listed b bad
  noted_listed b l = n.each b l ∙ sym (listed_entries b bad)

  -- as many blocks are noted as the list has
  pub noted_count : count blocks (is_noted noted) ≡ count_listed bad
  unfolding count_listed
  noted_count = count_cong blocks (is_noted noted) (λ (b : ℕ). listed b bad) noted_listed

  -- they leave two blocks at least
  pub noted_most : bad_list_right bad ≡ true → count blocks (is_noted noted) + 2 ≤ blocks
  unfolding count_listed
  noted_most t =
      let each = right_each bad t in
      let few : count blocks (λ (b : ℕ). listed b bad) + 2 ≤ blocks =
      count_two_out blocks 0 1 (λ (b : ℕ). listed b bad) (omega arith) (omega arith) (λ e. omega arith) (low_unlisted bad each 0 (omega arith))
      (low_unlisted bad each 1 (omega arith)) in
      omega (arith, noted_count)

  -- the record that is written is that of the fresh disk
  pub fresh_is : (args : FormatArguments) → args.bad ≡ bad → (b : ℕ) → b < blocks → fresh_record noted b ≡ fresh_owner args b
  unfolding fresh_record fresh_owner
  fresh_is args e zero l = refl
  fresh_is args e (suc zero) l = refl
  fresh_is args e (suc (suc b)) l =
      ap (λ (t : Bool). cond t Bad Free) (noted_listed (suc (suc b)) l ∙ ap (λ (x : List ℕ). listed (suc (suc b)) x) (sym e))
