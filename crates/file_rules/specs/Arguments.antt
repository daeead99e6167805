-- The arguments of a format, as one record: the header, the fresh disk, the model and the histories pass it on whole; and its list of bad blocks. Those of an
-- add as another: the model, the histories and the items of a batch have it.
-- Assumes nothing: these are definitions.
use Rattle.std.specs.Prelude.{Bool, true, false, ◌&&◌, ◌||◌, List, [], ◌∷◌, ◌≡◌, ℕ, ◌≤◌, leb, ltb, eqb}
use Rattle.laws.specs.Below.{count}
use Rattle.sector_rules.specs.Geometry.{blocks}

-- what the caller of a format gives besides the image: the disk's name, its number and a list of bad blocks (§8.4)
pub record FormatArguments : Type 0 where
  pub title : List ℕ
  pub number : ℕ
  pub bad : List ℕ

-- the record of a name, a number and a list, as contracts build it (§8.4)
abbrev pub arguments_of : List ℕ → ℕ → List ℕ → FormatArguments
arguments_of title number bad = record { title = title; number = number; bad = bad }

-- ---- a list of bad blocks

-- whether the list has block b, once or more than once (§8.4)
unfoldable pub listed : ℕ → List ℕ → Bool
listed b [] = false
listed b (x ∷ xs) = eqb x b || listed b xs

-- whether each number in the list is that of a block, and neither 0 nor 1 (§7.12)
unfoldable pub bad_list_right : List ℕ → Bool
bad_list_right [] = true
bad_list_right (x ∷ xs) = (leb 2 x && ltb x blocks) && bad_list_right xs

-- how many blocks of the disk the list has (§8.4)
unfoldable pub count_listed : List ℕ → ℕ
count_listed bad = count blocks (λ (b : ℕ). listed b bad)

-- each block in the list is one of 2 to 479, as statements ask it of the list of an accepted format (§7.12)
abbrev pub EachCanBeBad : List ℕ → Type 0
EachCanBeBad bad = (b : ℕ) → listed b bad ≡ true → (2 ≤ b) × (b ≤ 479)

-- ---- an add

-- a file as it is given to add: name, date and data (§8.9)
pub record NamedFile : Type 0 where
  pub name : List ℕ
  pub date : ℕ
  pub content : List ℕ
