-- Hashes of names: a number for each name, by which most names are told apart at once.
-- Rests on the slots (Slots) and on when names are equal (file_rules, Names).
use Rattle.std.specs.Prelude.{◌≡◌, ◌≢◌, refl, Bool, false, ◌&&◌, List, ℕ, zero, suc, ◌+◌, ◌*◌, ◌/◌, ◌%◌, ◌<◌, ltb, length, set, replicate}
use Rattle.std.specs.Int.{bit_at}
use Rattle.std.proofs.Math.Path.{sym, ap}
use Rattle.std.proofs.Common.{ap₂, ◌∙◌, add-one, arith, length-set, get_or-set_same, get_or-set_other}
use Rattle.std.proofs.Math.Bool.{true, not}
use Rattle.std.proofs.Math.ListN.{get_or}
use Rattle.std.proofs.lemmas.List.{length-replicate}
use Rattle.laws.specs.Below.{all}
use Rattle.laws.specs.Laws.Cases.{by_test, by_equal}
use Rattle.laws.specs.Laws.Tests.{true_lt, lt_true, true≢false, and_true, and_left, and_right, and_false_right}
use Rattle.laws.specs.Laws.All.{all_is}
use Rattle.file_rules.specs.Disk.{Disk}
use Rattle.file_rules.specs.declared.Entry.{Entry}
use Rattle.file_rules.specs.Directory.{lowered, name_eq, name_of, slot_entry, slot_name, held, dir_end}
use Rattle.file_rules.specs.Check.{new_name}
use Rattle.file_rules.proofs.Laws.Base.Names.{equal_length, equal_byte}

-- how many hashes there are
abbrev pub hash_count : ℕ
hash_count = 16384

-- the hash of the first n bytes of g, once they are lowered
unfoldable pub row_hash : (ℕ → ℕ) → ℕ → ℕ
row_hash g zero = 0
row_hash g (suc n) = (row_hash g n * 33 + lowered (g n)) % hash_count

-- the hash of a name
unfoldable pub name_hash : List ℕ → ℕ
name_hash name = row_hash (λ (i : ℕ). get_or name i 0) (length name)

-- the hash of the first n bytes of a name, once they are lowered
abbrev pub hash_of_first : List ℕ → ℕ → ℕ
hash_of_first name n = row_hash (λ (i : ℕ). get_or name i 0) n

-- no bytes have the hash 0
pub hash_start : (name : List ℕ) → 0 ≡ hash_of_first name 0
unfolding row_hash
hash_start name = refl

-- one byte more of a hash
pub hash_more : (name : List ℕ) (n m v : ℕ) → m ≡ hash_of_first name n → v ≡ lowered (get_or name n 0)
    → (m * 33 + v) % hash_count ≡ hash_of_first name (n + 1)
unfolding row_hash
hash_more name n m v e q = rw (add-one, e, q)

-- the hash of all bytes is the name's
pub hash_whole : (name : List ℕ) → hash_of_first name (length name) ≡ name_hash name
unfolding name_hash
hash_whole name = refl

row_cong : (f g : ℕ → ℕ) (n : ℕ) → ((i : ℕ) → i < n → lowered (f i) ≡ lowered (g i)) → row_hash f n ≡ row_hash g n
unfolding row_hash
row_cong f g zero e = refl
row_cong f g (suc n) e = ap₂ (λ (x y : ℕ). (x * 33 + y) % hash_count) (row_cong f g n (λ i h. e i (omega arith))) (e n (omega arith))

row_lt : (g : ℕ → ℕ) (n : ℕ) → row_hash g n < hash_count
unfolding row_hash
row_lt g zero = omega arith
row_lt g (suc n) = omega arith

-- a hash is below their number
pub hash_lt : (name : List ℕ) → name_hash name < hash_count
unfolding name_hash
hash_lt name = row_lt (λ (i : ℕ). get_or name i 0) (length name)

-- equal names have one hash; no other law here knows when names are equal
pub hash_same : (a b : List ℕ) → name_eq a b ≡ true → name_hash a ≡ name_hash b
unfolding name_hash
hash_same a b t =
    row_cong (λ (i : ℕ). get_or a i 0) (λ (i : ℕ). get_or b i 0) (length a) (equal_byte a b t)
    ∙ ap (row_hash (λ (i : ℕ). get_or b i 0)) (equal_length a b t)

-- the hash of the name in a slot's entry is that of the slot's name
pub hash_entry : (d : Disk) (k m : ℕ) (e : Entry) (name : List ℕ) → e ≡ slot_entry d k → name ≡ name_of e → m ≡ name_hash name → m ≡ name_hash (slot_name d k)
unfolding slot_name
hash_entry d k m e name q p h = rw (h, p, q)

-- whether slot k is one of the directory's and held
abbrev pub listed_slot : Disk → ℕ → Bool
listed_slot d k = ltb k (dir_end d) && held d k

-- the bit of a hash in the noted bytes: 1 where it is noted
abbrev pub noted_bit : List ℕ → ℕ → ℕ
noted_bit noted hash = bit_at (get_or noted (hash / 8) 0) (hash % 8)

-- the hashes of the names of all listed slots below k are noted
pub record HashesNoted (noted : List ℕ) (d : Disk) (k : ℕ) : Type 0 where
  pub long : length noted ≡ hash_count / 8
  pub below : (j : ℕ) → j < k → listed_slot d j ≡ true → noted_bit noted (name_hash (slot_name d j)) ≡ 1

-- what a hash that was not noted tells: the name of slot k is new
abbrev pub TellsNew : Bool → Disk → ℕ → Type 0
TellsNew unnoted d k = unnoted ≡ true → new_name d k ≡ true

-- at first none is noted
pub hashes_none : (d : Disk) → HashesNoted (replicate (hash_count / 8) 0) d 0
hashes_none d = record { long = length-replicate {A = ℕ} (hash_count / 8) 0; below = λ j h t. absurd (omega arith) }

module _ (noted : List ℕ) (hash v : ℕ) (room : hash / 8 < length noted) (own : bit_at v (hash % 8) ≡ 1)
    (others : (i : ℕ) → i ≢ hash % 8 → bit_at v i ≡ bit_at (get_or noted (hash / 8) 0) i) where
  -- a hash whose bit is set is noted
  bit_noted : noted_bit (set noted (hash / 8) v) hash ≡ 1
  bit_noted = ap (λ (x : ℕ). bit_at x (hash % 8)) (get_or-set_same noted (hash / 8) v 0 room) ∙ own

  -- every other hash stays noted
  bit_kept : (h : ℕ) → noted_bit noted h ≡ 1 → noted_bit (set noted (hash / 8) v) h ≡ 1
  bit_kept h t =
      by_equal (h / 8) (hash / 8)
      (λ q.
      by_equal (h % 8) (hash % 8)
      (λ r. ap₂ (λ (x i : ℕ). bit_at (get_or (set noted (hash / 8) v) x 0) i) q r ∙ bit_noted)
      (λ r.
      ap (λ (x : ℕ). bit_at (get_or (set noted (hash / 8) v) x 0) (h % 8)) q
      ∙ ap (λ (x : ℕ). bit_at x (h % 8)) (get_or-set_same noted (hash / 8) v 0 room) ∙ others (h % 8) r
      ∙ ap (λ (x : ℕ). bit_at (get_or noted x 0) (h % 8)) (sym q) ∙ t))
      (λ q. ap (λ (x : ℕ). bit_at x (h % 8)) (get_or-set_other noted (hash / 8) (h / 8) v 0 q) ∙ t)

module _ (noted : List ℕ) (d : Disk) (k : ℕ) (m : HashesNoted noted d k) where
  -- a slot that is not listed has no hash to note
  pub hashes_skip : listed_slot d k ≡ false → HashesNoted noted d (k + 1)
  hashes_skip t =
      record {
        long = m.long;
        below = λ j h u.
            by_equal j k (λ e. true≢false (listed_slot d j) u (ap (listed_slot d) e ∙ t)) (λ e. m.below j (omega arith) u);
      }

  module _ (hash : ℕ) (e : hash ≡ name_hash (slot_name d k)) where
    -- the hash of slot k is noted: its bit is set, and those of other hashes stay
    pub hashes_more : (v : ℕ) → bit_at v (hash % 8) ≡ 1
        → ((i : ℕ) → i ≢ hash % 8 → bit_at v i ≡ bit_at (get_or noted (hash / 8) 0) i)
        → HashesNoted (set noted (hash / 8) v) d (k + 1)
    hashes_more v own others =
        let room : hash / 8 < length noted = omega (arith, m.long, hash_lt (slot_name d k)) in
        record {
          long = length-set noted (hash / 8) v ∙ m.long;
          below = λ j h u.
              by_equal j k
              (λ i.
              ap (λ (x : ℕ). noted_bit (set noted (hash / 8) v) (name_hash (slot_name d x))) i
              ∙ ap (noted_bit (set noted (hash / 8) v)) (sym e) ∙ bit_noted noted hash v room own others)
              (λ i. bit_kept noted hash v room own others (name_hash (slot_name d j)) (m.below j (omega arith) u));
        }

    -- a hash that no lower slot has tells that the name is new
    pub unnoted_new : listed_slot d k ≡ true → noted_bit noted hash ≡ 0 → new_name d k ≡ true
    unfolding new_name
    unnoted_new t z =
        let end : k < dir_end d = true_lt (and_left (ltb k (dir_end d)) (held d k) t) in
        all_is (λ (j : ℕ). not (held d j && name_eq (slot_name d j) (slot_name d k))) k
        (λ j l.
        by_test (held d j && name_eq (slot_name d j) (slot_name d k))
        (λ u.
        let listed : listed_slot d j ≡ true =
        and_true (lt_true {a = j} {b = dir_end d} (omega arith)) (and_left (held d j) (name_eq (slot_name d j) (slot_name d k)) u) in
        let same : name_hash (slot_name d j) ≡ hash =
        hash_same (slot_name d j) (slot_name d k) (and_right (held d j) (name_eq (slot_name d j) (slot_name d k)) u) ∙ sym e in
        let one : noted_bit noted hash ≡ 1 = ap (noted_bit noted) (sym same) ∙ m.below j l listed in
        absurd (omega arith))
        (λ u. ap not u))

-- slot 0 is not listed
pub zero_unlisted : (d : Disk) → listed_slot d 0 ≡ false
unfolding held
zero_unlisted d = and_false_right (ltb 0 (dir_end d)) refl

-- what the name of slot k tells holds of every list that it is
pub new_so : (d : Disk) (k : ℕ) (name : List ℕ) → name ≡ slot_name d k → new_name d k ≡ true
    → true ≡ all (λ (j : ℕ). not (held d j && name_eq (slot_name d j) name)) k
unfolding new_name
new_so d k name e t = sym (ap (λ (l : List ℕ). all (λ (j : ℕ). not (held d j && name_eq (slot_name d j) l)) k) e ∙ t)
