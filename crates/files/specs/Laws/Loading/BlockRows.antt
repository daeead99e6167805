-- Rows of blocks as they are stored: a number for each place, 0 for none, else one more than the block's.
-- Rests on the library's laws of lists.
use Rattle.std.specs.Prelude.{◌≡◌, refl, Option, Some, None, List, ℕ, zero, suc, ◌+◌, map, set, replicate}
use mathlib.Core.List.{[], ◌∷◌}
use Rattle.std.proofs.Math.Path.{ap}
use Rattle.std.proofs.Common.{ap₂, ◌∙◌, add-one}
use Rattle.std.proofs.lemmas.List.{map-set}

-- the block that a number stands for
abbrev pub stored_block : ℕ → Option ℕ
stored_block zero = None
stored_block (suc b) = Some b

-- a block's number and one more stands for the block
pub some_stored : (b : ℕ) → stored_block (b + 1) ≡ Some b
some_stored b = ap stored_block (add-one b)

-- the number that stands for a block, or for none
abbrev pub number_stored : Option ℕ → ℕ
number_stored None = 0
number_stored (Some b) = suc b

number_back : (x : ℕ) → number_stored (stored_block x) ≡ x
number_back zero = refl
number_back (suc b) = refl

-- a row tells which numbers stand in it
pub numbers_back : (l : List ℕ) → map number_stored (map stored_block l) ≡ l
numbers_back [] = refl
numbers_back (x ∷ l) = ap₂ (λ (y : ℕ) (m : List ℕ). y ∷ m) (number_back x) (numbers_back l)

-- a row of zeroes has no block
pub row_empty : (n : ℕ) → map stored_block (replicate n 0) ≡ replicate {A = Option ℕ} n None
row_empty zero = refl
row_empty (suc n) = ap (λ (l : List (Option ℕ)). None ∷ l) (row_empty n)

-- a row in which a number is set has the block that it stands for
pub row_put : (l : List ℕ) (k v : ℕ) (b : Option ℕ) → stored_block v ≡ b → map stored_block (set l k v) ≡ set (map stored_block l) k b
row_put l k v b e = map-set stored_block l k v ∙ ap (λ (x : Option ℕ). set (map stored_block l) k x) e
