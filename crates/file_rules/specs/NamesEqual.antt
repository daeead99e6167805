-- names_equal (§6.14): when two names are equal, that this is an equivalence, and which bytes are read as others.
-- Calls, model and history share the equality; this says what it is.
-- Assumes nothing: these are definitions. The proof is `names_equal` in Laws/Base/Names.antt.
use Rattle.std.specs.Prelude.{◌≡◌, true, false, List, [], ◌∷◌, ◌++◌, ℕ, ◌+◌, ◌<◌, length, get_or}
use Rattle.laws.specs.Lists.{tab}
use Rattle.file_rules.specs.Directory.{lowered, name_eq}

-- the small letters, which the capitals count as: a to z (§6.14)
unfoldable pub small_letters : List ℕ
small_letters =
    0x61 ∷ 0x62 ∷ 0x63 ∷ 0x64 ∷ 0x65 ∷ 0x66 ∷ 0x67 ∷ 0x68 ∷ 0x69 ∷ 0x6A ∷ 0x6B ∷ 0x6C ∷ 0x6D
    ∷ 0x6E ∷ 0x6F ∷ 0x70 ∷ 0x71 ∷ 0x72 ∷ 0x73 ∷ 0x74 ∷ 0x75 ∷ 0x76 ∷ 0x77 ∷ 0x78 ∷ 0x79 ∷ 0x7A ∷ []

-- the bytes 00 to FF as they are compared: 00 to 40 (hex) as they are, then a to z in the place of A to Z, then 5B to FF as they are (§6.14)
unfoldable pub bytes_compared : List ℕ
bytes_compared = tab (λ (i : ℕ). i) 0x41 ++ (small_letters ++ tab (λ (i : ℕ). 0x5B + i) 0xA5)

-- Reel_one (§6.14)
unfoldable pub reel_one : List ℕ
reel_one = 0x52 ∷ 0x65 ∷ 0x65 ∷ 0x6C ∷ 0x5F ∷ 0x6F ∷ 0x6E ∷ 0x65 ∷ []

-- REEL_ONE, the same name in capitals (§6.14)
unfoldable pub reel_capitals : List ℕ
reel_capitals = 0x52 ∷ 0x45 ∷ 0x45 ∷ 0x4C ∷ 0x5F ∷ 0x4F ∷ 0x4E ∷ 0x45 ∷ []

-- another name: it has 7F (hex) where Reel_one has 5F, which is no letter (§6.14)
unfoldable pub reel_other : List ℕ
reel_other = 0x52 ∷ 0x65 ∷ 0x65 ∷ 0x6C ∷ 0x7F ∷ 0x6F ∷ 0x6E ∷ 0x65 ∷ []

-- two names agree: their lengths are the same, and so is each byte once it is lowered (§6.14)
abbrev pub AgreeLowered : List ℕ → List ℕ → Type 0
AgreeLowered a b = (length a ≡ length b) × ((i : ℕ) → i < length a → lowered (get_or a i 0) ≡ lowered (get_or b i 0))

-- names_equal, for lists of any length and any numbers (§6.14)
pub record NamesEqual : Type 0 where
  -- names are equal exactly where they agree
  pub equal_agree : (a b : List ℕ) → name_eq a b ≡ true → AgreeLowered a b
  pub agree_equal : (a b : List ℕ) → AgreeLowered a b → name_eq a b ≡ true
  -- their equality is an equivalence
  pub reflexive : (a : List ℕ) → name_eq a a ≡ true
  pub symmetric : (a b : List ℕ) → name_eq a b ≡ true → name_eq b a ≡ true
  pub transitive : (a b c : List ℕ) → name_eq a b ≡ true → name_eq b c ≡ true → name_eq a c ≡ true
  -- 41 to 5A (hex) are lowered and no other byte, by all 256
  pub lowered_bytes : tab lowered 256 ≡ bytes_compared
  -- by value, in either order: two spellings of one name; another name; a name and its beginning
  pub spellings : (name_eq reel_one reel_capitals ≡ true) × (name_eq reel_capitals reel_one ≡ true)
  pub other_bytes : (name_eq reel_one reel_other ≡ false) × (name_eq reel_other reel_one ≡ false)
  pub other_lengths : (name_eq (0x61 ∷ []) (0x61 ∷ 0x61 ∷ []) ≡ false) × (name_eq (0x61 ∷ 0x61 ∷ []) (0x61 ∷ []) ≡ false)
