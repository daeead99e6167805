-- Map records: what their numbers say and what they are asked, by the kinds (§6.9).
-- Rests on the definitions alone.
use Rattle.std.specs.Prelude.{◌≡◌, Bool, true, false, not, [], ◌∷◌, ℕ, ◌/◌, ◌%◌, ◌<◌, eqb}
use Rattle.std.proofs.Common.{ap, ◌∙◌, div-one, arith}
use Rattle.laws.specs.Lists.{tab}
use Rattle.laws.specs.Numbers.{high_byte}
use Rattle.laws.specs.Laws.Cases.{by_order, by_test}
use Rattle.laws.specs.Laws.Tests.{lt_true, lt_false, cond_true, cond_false}
use Rattle.file_rules.specs.declared.Record.{Record}
use Rattle.file_rules.specs.declared.Record.TheVariants.{Free, Bad, System, File, Other}
use Rattle.file_rules.specs.Check.{record_fault}
use Rattle.file_rules.specs.Map.{file_bound, free_byte, tail_count, bad_number, system_number, sequences, decode, number_of, encode, is_system, is_other}
use Rattle.file_rules.specs.Sizes.{record_bytes}

-- ---- numbers

-- a test that fails for every kind, and for every file that a record can bear (below 3,968), fails for every number
pub decode_none : (n : ℕ) (p : Record → Bool) → p Free ≡ false → p Bad ≡ false → p System ≡ false → p Other ≡ false
    → ((f s : ℕ) → f < file_bound / sequences → p (File f s) ≡ false) → p (decode n) ≡ false
unfolding decode
decode_none n p free bad system other file =
    by_order n file_bound
    (λ h. ap p (cond_true _ _ (lt_true h)) ∙ file (n / sequences) (n % sequences) (omega arith))
    (λ h.
    ap p (cond_false _ _ (lt_false h))
    ∙ by_test (eqb (n / tail_count) free_byte)
    (λ t. ap p (cond_true _ _ t) ∙ free)
    (λ t. ap p (cond_false _ _ t)
    ∙ by_test (eqb n system_number)
    (λ u. ap p (cond_true _ _ u) ∙ system)
    (λ u. ap p (cond_false _ _ u) ∙ by_test (eqb n bad_number) (λ w. ap p (cond_true _ _ w) ∙ bad) (λ w. ap p (cond_false _ _ w) ∙ other))))

-- the three bytes of a record, written out, are its number's
pub record_row : (r : Record) (v : ℕ) → v ≡ number_of r → v / 65536 % 256 ∷ v / 256 % 256 ∷ v % 256 ∷ [] ≡ tab (encode r) record_bytes
unfolding tab encode high_byte
record_row r v e = rw (← e, div-one v)

-- ---- a record that may not stand at its block, by the kinds

module _ (b : ℕ) where
  -- a free record may stand anywhere but at block 0
  pub fault_free : eqb b 0 ≡ record_fault b Free
  unfolding record_fault is_system is_other
  fault_free = by_test (eqb b 0) (λ e. rw e) (λ e. rw e)

  -- so may a bad one
  pub fault_bad : eqb b 0 ≡ record_fault b Bad
  unfolding record_fault is_system is_other
  fault_bad = by_test (eqb b 0) (λ e. rw e) (λ e. rw e)

  -- the system's record may stand at block 0 alone
  pub fault_system : not (eqb b 0) ≡ record_fault b System
  unfolding record_fault is_system is_other
  fault_system = by_test (eqb b 0) (λ e. rw e) (λ e. rw e)

  -- a file's record may stand anywhere but at block 0
  pub fault_file : (f s : ℕ) → eqb b 0 ≡ record_fault b (File f s)
  unfolding record_fault is_system is_other
  fault_file f s = by_test (eqb b 0) (λ e. rw e) (λ e. rw e)

  -- a record of no kind may stand nowhere
  pub fault_other : true ≡ record_fault b Other
  unfolding record_fault is_system is_other
  fault_other = by_test (eqb b 0) (λ e. rw e) (λ e. rw e)
