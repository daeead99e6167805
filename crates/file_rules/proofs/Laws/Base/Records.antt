-- Map records in their three bytes: what the bytes say, and what a record that is written leaves of the others.
-- Rests on the laws of numbers in bytes and of changed rows (laws, Numbers and Changes).
use Rattle.std.specs.Prelude.{◌≡◌, ◌≢◌, true, false, ◌&&◌, ℕ, ◌+◌, ◌-◌, ◌*◌, ◌/◌, ◌%◌, ◌<◌, ltb, eqb}
use Rattle.std.proofs.Math.Path.{refl, ap}
use Rattle.std.proofs.Common.{sym, ap₂, ◌∙◌}
use Rattle.std.proofs.lemmas.Bool.{false≢true}
use native.Mathlib.Omega.{arith}
use Rattle.laws.specs.Changes.{patch}
use Rattle.laws.specs.Numbers.{big_endian}
use Rattle.laws.specs.Laws.Cases.{by_order, by_equal, by_test, by_cond}
use Rattle.laws.specs.Laws.Tests.{lt_true, lt_false, eq_true, eq_false, true_eq, false_eq, cond_true, cond_false, and_true}
use Rattle.laws.specs.Laws.Tests.{and_false_left, and_false_right}
use Rattle.laws.specs.Laws.Changes.{upd₂_same, patch_in, patch_below, patch_above}
use Rattle.laws.specs.Laws.Numbers.{high_is}
use Rattle.file_rules.specs.declared.Record.{Record}
use Rattle.file_rules.specs.declared.Record.TheVariants.{Free, Bad, System, File, Other}
use Rattle.file_rules.specs.Disk.{Disk}
use Rattle.file_rules.specs.Map.{file_bound, free_byte, tail_count, bad_number, system_number, sequences, decode, number_of, encode}
use Rattle.file_rules.specs.Map.{record_byte, number_at, record_at, is_free, is_bad_record, is_system, free_at, bad_at}
use Rattle.file_rules.specs.Sizes.{map_start, record_bytes}
use Rattle.file_rules.specs.Written.{set_record}

-- ---- a record's three bytes say the record

-- a record that a step can write: of a kind, with file number and sequence that fit its 24 bits (§6.8, §6.9)
abbrev pub Valid : Record → Type 0
Valid Free = Unit {0}
Valid Bad = Unit {0}
Valid System = Unit {0}
Valid (File f s) = (f < file_bound / sequences) × (s < sequences)
Valid Other = ⊥

-- a record's number says the record
pub decode_number : (r : Record) → Valid r → decode (number_of r) ≡ r
unfolding decode number_of
decode_number Free v = refl
decode_number Bad v = refl
decode_number System v = refl
decode_number (File f s) v =
    let a : (f * sequences + s) / sequences ≡ f = omega (arith, v.0, v.1) in
    let b : (f * sequences + s) % sequences ≡ s = omega (arith, v.0, v.1) in
    let c : f * sequences + s < file_bound = omega (arith, v.0, v.1) in
    cond_true _ _ (lt_true c) ∙ ap₂ File a b
decode_number Other v = absurd v

number_most : (r : Record) → Valid r → number_of r < 0x1000000
unfolding number_of
number_most Free v = omega arith
number_most Bad v = omega arith
number_most System v = omega arith
number_most (File f s) v = omega (arith, v.0, v.1)
number_most Other v = absurd v

-- three bytes that are those of a record say the record
pub decode_bytes : (f : ℕ → ℕ) (r : Record) → Valid r → ((i : ℕ) → i < record_bytes → f i ≡ encode r i) → decode (big_endian f record_bytes) ≡ r
unfolding encode
decode_bytes f r v e =
    let q : number_of r % 0x1000000 ≡ number_of r = omega (arith, number_most r v) in
    ap decode (high_is f record_bytes (number_of r) e ∙ q) ∙ decode_number r v

-- a record that is free is the free one
pub free_only : (r : Record) → is_free r ≡ true → r ≡ Free
unfolding is_free
free_only Free t = refl
free_only Bad t = absurd (false≢true t)
free_only System t = absurd (false≢true t)
free_only (File f s) t = absurd (false≢true t)
free_only Other t = absurd (false≢true t)

-- a record that is bad is the bad one
pub bad_only : (r : Record) → is_bad_record r ≡ true → r ≡ Bad
unfolding is_bad_record
bad_only Free t = absurd (false≢true t)
bad_only Bad t = refl
bad_only System t = absurd (false≢true t)
bad_only (File f s) t = absurd (false≢true t)
bad_only Other t = absurd (false≢true t)

-- the record of a disk's block is free by its first byte alone
pub free_by_byte : (d : Disk) (b : ℕ) → ((i : ℕ) → i < record_bytes → record_byte d b i < 256) → free_at d b ≡ eqb (record_byte d b 0) free_byte
unfolding free_at record_at number_at big_endian decode is_free
free_by_byte d b h =
    let first : ℕ = record_byte d b 0 in
    let n : ℕ = ((0 * 256 + first) * 256 + record_byte d b 1) * 256 + record_byte d b 2 in
    let top : n / tail_count ≡ first = omega (arith, h 0 (omega arith), h 1 (omega arith), h 2 (omega arith)) in
    by_order n file_bound
    (λ l. ap is_free (cond_true _ _ (lt_true l)) ∙ sym (eq_false {a = first} {b = free_byte} (λ e. omega arith)))
    (λ l.
    ap is_free (cond_false _ _ (lt_false l))
    ∙ by_test (eqb (n / tail_count) free_byte)
    (λ t. ap is_free (cond_true _ _ t) ∙ sym (eq_true (sym top ∙ true_eq t)))
    (λ t.
    ap is_free (cond_false _ _ t)
    ∙ by_cond (λ (r : Record). is_free r ≡ false) (eqb n system_number) System _ (λ u. refl)
    (λ u. by_cond (λ (r : Record). is_free r ≡ false) (eqb n bad_number) Bad Other (λ w. refl) (λ w. refl))
    ∙ sym (eq_false (λ e. false_eq t (top ∙ e)))))

-- a number's record is bad where the number is the bad one, which is of no other kind
pub bad_by_number : (n : ℕ) → is_bad_record (decode n) ≡ eqb n bad_number
unfolding decode is_bad_record
bad_by_number n =
    by_equal n bad_number
    (λ e. ap (λ (m : ℕ). is_bad_record (decode m)) e ∙ sym (eq_true {a = n} {b = bad_number} e))
    (λ e. not_bad e ∙ sym (eq_false {a = n} {b = bad_number} e))
  where
    not_bad : n ≢ bad_number → is_bad_record (decode n) ≡ false
    not_bad e =
        by_cond (λ (r : Record). is_bad_record r ≡ false) (ltb n file_bound) (File (n / sequences) (n % sequences)) _ (λ t. refl)
        (λ t. by_cond (λ (r : Record). is_bad_record r ≡ false) (eqb (n / tail_count) free_byte) Free _ (λ u. refl)
        (λ u. by_cond (λ (r : Record). is_bad_record r ≡ false) (eqb n system_number) System _ (λ v. refl)
        (λ v. by_cond (λ (r : Record). is_bad_record r ≡ false) (eqb n bad_number) Bad Other (λ w. absurd (e (true_eq w))) (λ w. refl))))

-- it is the system's where the number is the system's
pub system_by_number : (n : ℕ) → is_system (decode n) ≡ eqb n system_number
unfolding decode is_system
system_by_number n =
    by_equal n system_number
    (λ e. ap (λ (m : ℕ). is_system (decode m)) e ∙ sym (eq_true {a = n} {b = system_number} e))
    (λ e. not_system e ∙ sym (eq_false {a = n} {b = system_number} e))
  where
    not_system : n ≢ system_number → is_system (decode n) ≡ false
    not_system e =
        by_cond (λ (r : Record). is_system r ≡ false) (ltb n file_bound) (File (n / sequences) (n % sequences)) _ (λ t. refl)
        (λ t. by_cond (λ (r : Record). is_system r ≡ false) (eqb (n / tail_count) free_byte) Free _ (λ u. refl)
        (λ u. by_cond (λ (r : Record). is_system r ≡ false) (eqb n system_number) System _ (λ v. absurd (e (true_eq v)))
        (λ v. by_cond (λ (r : Record). is_system r ≡ false) (eqb n bad_number) Bad Other (λ w. refl) (λ w. refl))))

-- the record of a disk's block is bad by all three of its bytes
pub bad_by_bytes_lem : (d : Disk) (b : ℕ) → ((i : ℕ) → i < record_bytes → record_byte d b i < 256)
    → bad_at d b ≡ (eqb (record_byte d b 0) 0xFE && (eqb (record_byte d b 1) 0xFF && eqb (record_byte d b 2) 0xFF))
unfolding bad_at record_at number_at big_endian decode is_bad_record
bad_by_bytes_lem d b h =
    let x : ℕ = record_byte d b 0 in
    let y : ℕ = record_byte d b 1 in
    let z : ℕ = record_byte d b 2 in
    let n : ℕ = ((0 * 256 + x) * 256 + y) * 256 + z in
    by_equal n bad_number
    (λ e.
    let p : x ≡ 0xFE = omega (arith, h 0 (omega arith), h 1 (omega arith), h 2 (omega arith)) in
    let q : y ≡ 0xFF = omega (arith, h 0 (omega arith), h 1 (omega arith), h 2 (omega arith)) in
    let r : z ≡ 0xFF = omega (arith, h 0 (omega arith), h 1 (omega arith), h 2 (omega arith)) in
    ap (λ (m : ℕ). is_bad_record (decode m)) e ∙ sym (and_true (eq_true p) (and_true (eq_true q) (eq_true r))))
    (λ e.
    bad_by_number n ∙ eq_false {a = n} {b = bad_number} e
    ∙ sym (by_test (eqb x 0xFE)
    (λ p. by_test (eqb y 0xFF)
    (λ q. and_false_right (eqb x 0xFE) (and_false_right (eqb y 0xFF) (eq_false {a = z} {b = 0xFF}
    (λ r. e (omega (arith, r, true_eq {a = x} {b = 0xFE} p, true_eq {a = y} {b = 0xFF} q))))))
    (λ q. and_false_right (eqb x 0xFE) (and_false_left (eqb z 0xFF) q)))
    (λ p. and_false_left (eqb y 0xFF && eqb z 0xFF) p)))

-- a record in bytes that begins with FD is the free one
pub begins_free : (d : Disk) (b : ℕ) → ((i : ℕ) → i < record_bytes → record_byte d b i < 256) → record_byte d b 0 ≡ free_byte → record_at d b ≡ Free
unfolding free_at
begins_free d b bytes e = free_only (record_at d b) (free_by_byte d b bytes ∙ eq_true e)

-- ---- a record that is written

module _ (d : Disk) (b : ℕ) (r : Record) where
  abbrev row : ℕ → ℕ
  row = patch (d 0) (map_start + record_bytes * b) record_bytes (encode r)

  -- the record that is written has its bytes
  pub record_set : (i : ℕ) → i < record_bytes → record_byte (set_record d b r) b i ≡ encode r i
  unfolding set_record
  record_set i l =
      let e : map_start + record_bytes * b + i - (map_start + record_bytes * b) ≡ i = omega arith in
      upd₂_same d 0 row 0 (map_start + record_bytes * b + i) refl
      ∙ patch_in (d 0) (map_start + record_bytes * b) record_bytes (encode r) (map_start + record_bytes * b + i) (omega arith) (omega arith)
      ∙ ap (encode r) e

  -- every other record keeps its bytes
  pub record_beside : (j i : ℕ) → j ≢ b → i < record_bytes → record_byte (set_record d b r) j i ≡ record_byte d j i
  unfolding set_record
  record_beside j i h l =
      upd₂_same d 0 row 0 (map_start + record_bytes * j + i) refl
      ∙ by_order j b
      (λ q. patch_below (d 0) (map_start + record_bytes * b) record_bytes (encode r) (map_start + record_bytes * j + i) (omega arith))
      (λ q. patch_above (d 0) (map_start + record_bytes * b) record_bytes (encode r) (map_start + record_bytes * j + i) (omega arith))
