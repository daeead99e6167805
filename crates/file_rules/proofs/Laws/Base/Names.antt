-- Names (§6.14, §6.15): the proof of names_equal (NamesEqual.antt), and the model accepts those that the calls accept.
-- No other law unfolds the equality, but for values that are computed (Values/CheckValues); and only what reads names byte by byte (files, Loading) uses
-- more than that it is an equivalence.
-- Rests on the equality of lists (laws, Same).
use Rattle.std.specs.Prelude.{◌≡◌, refl, Bool, true, false, List, [], ◌∷◌, map, ℕ, ◌≤◌, ◌<◌, leb, length, get_or}
use Rattle.std.proofs.Common.{sym, ap, subst, ◌∙◌, ext_get_or}
use Rattle.std.proofs.lemmas.List.{length-map}
use Rattle.std.proofs.Math.ListN.{get_or-map}
use Rattle.laws.specs.Laws.Tests.{le_true, true_le, and_true, and_left, and_right}
use Rattle.laws.specs.Laws.Same.{same_eq, eq_same}
use Rattle.laws.specs.Lists.{tab, same}
use Rattle.file_rules.specs.Directory.{lowered, name_eq, name_right}
use Rattle.file_rules.specs.Model.{acceptable}
use Rattle.file_rules.specs.NamesEqual.{small_letters, bytes_compared, reel_one, reel_capitals, reel_other, NamesEqual}
use Rattle.file_rules.specs.Sizes.{name_most}

lowered_all : tab lowered 256 ≡ bytes_compared
unfolding tab lowered bytes_compared small_letters
lowered_all = refl

spellings_are : (name_eq reel_one reel_capitals ≡ true) × (name_eq reel_capitals reel_one ≡ true)
unfolding name_eq lowered same reel_one reel_capitals
spellings_are = (refl, refl)

other_bytes_are : (name_eq reel_one reel_other ≡ false) × (name_eq reel_other reel_one ≡ false)
unfolding name_eq lowered same reel_one reel_other
other_bytes_are = (refl, refl)

other_lengths_are : (name_eq (0x61 ∷ []) (0x61 ∷ 0x61 ∷ []) ≡ false) × (name_eq (0x61 ∷ 0x61 ∷ []) (0x61 ∷ []) ≡ false)
unfolding name_eq lowered same
other_lengths_are = (refl, refl)

module _ (a b : List ℕ) where
  compared_equal : map lowered a ≡ map lowered b → name_eq a b ≡ true
  unfolding name_eq
  compared_equal e = eq_same (map lowered a) (map lowered b) e

  as_compared : name_eq a b ≡ true → map lowered a ≡ map lowered b
  unfolding name_eq
  as_compared t = same_eq (map lowered a) (map lowered b) t

  -- equal names have the same length
  pub equal_length : name_eq a b ≡ true → length a ≡ length b
  equal_length t = sym (length-map a lowered) ∙ ap length (as_compared t) ∙ length-map b lowered

  -- equal names have the same byte at each place, once it is lowered
  pub equal_byte : name_eq a b ≡ true → (i : ℕ) → i < length a → lowered (get_or a i 0) ≡ lowered (get_or b i 0)
  equal_byte t i h = sym (get_or-map lowered a i 0) ∙ ap (λ (l : List ℕ). get_or l i (lowered 0)) (as_compared t) ∙ get_or-map lowered b i 0

  -- names of the same length whose bytes are the same, once they are lowered, are equal
  pub bytes_equal : length a ≡ length b → ((i : ℕ) → i < length a → lowered (get_or a i 0) ≡ lowered (get_or b i 0)) → name_eq a b ≡ true
  bytes_equal l e =
      compared_equal (ext_get_or (lowered 0) (map lowered a) (map lowered b) (length-map a lowered ∙ l ∙ sym (length-map b lowered))
      (λ i h. get_or-map lowered a i 0 ∙ e i (subst (λ (n : ℕ). i < n) (length-map a lowered) h) ∙ sym (get_or-map lowered b i 0)))

-- a name equals itself
pub name_refl : (a : List ℕ) → name_eq a a ≡ true
name_refl a = compared_equal a a refl

-- if a name equals another, that one equals it
pub name_sym : (a b : List ℕ) → name_eq a b ≡ true → name_eq b a ≡ true
name_sym a b e = compared_equal b a (sym (as_compared a b e))

-- names that equal the same name are equal
pub name_trans : (a b c : List ℕ) → name_eq a b ≡ true → name_eq b c ≡ true → name_eq a c ≡ true
name_trans a b c e f = compared_equal a c (as_compared a b e ∙ as_compared b c f)

-- names_equal: when names are equal, that this is an equivalence, and which bytes are read as others
pub names_equal : NamesEqual
names_equal =
    record {
      equal_agree = λ a b t. (equal_length a b t, equal_byte a b t);
      agree_equal = λ a b w. bytes_equal a b w.0 w.1;
      reflexive = name_refl;
      symmetric = name_sym;
      transitive = name_trans;
      lowered_bytes = lowered_all;
      spellings = spellings_are;
      other_bytes = other_bytes_are;
      other_lengths = other_lengths_are;
    }

-- a name that the calls accept has 1 to 36 bytes
pub name_bounds : (a : List ℕ) → name_right a ≡ true → (1 ≤ length a) × (length a ≤ name_most)
unfolding name_right
name_bounds a t =
    (true_le (and_left (leb 1 (length a)) (leb (length a) name_most) t), true_le (and_right (leb 1 (length a)) (leb (length a) name_most) t))

-- a name of 1 to 36 bytes is one that the calls accept
pub bounds_name : (a : List ℕ) → 1 ≤ length a → length a ≤ name_most → name_right a ≡ true
unfolding name_right
bounds_name a p q = and_true (le_true p) (le_true q)

-- the model accepts the names that the calls accept
pub name_is : (a : List ℕ) → name_right a ≡ acceptable a
unfolding name_right acceptable
name_is a = refl

-- a name that the calls accept or refuse is accepted or refused by the model
pub name_so : (a : List ℕ) {t : Bool} → name_right a ≡ t → acceptable a ≡ t
name_so a e = sym (name_is a) ∙ e
