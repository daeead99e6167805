-- What stands in a map record and in an entry, and how many blocks a file has.
-- Rests on the laws of numbers in bytes (laws, Numbers).
use Rattle.std.specs.Prelude.{◌≡◌, refl, true, false, eqb, length}
use Rattle.std.proofs.Math.Path.{ap}
use Rattle.std.proofs.Common.{ap₂, ◌∙◌}
use mathlib.Core.List.{List}
use Rattle.std.proofs.Math.Option.{none, some}
use Prim.Native.Nat.{ℕ, zero, suc, ◌+◌, ◌-◌, ◌*◌, ◌≤◌, ◌<◌}
use native.Mathlib.Omega.{arith}
use Rattle.std.proofs.Math.ListN.{get_or}
use Rattle.laws.specs.Lists.{tab}
use Rattle.laws.specs.Changes.{patch}
use Rattle.laws.specs.Numbers.{at16, at32, quotient_up, big_endian, high_byte}
use Rattle.laws.specs.Laws.Tests.{eq_true, true_eq, true≢false, and_true, and_left, and_right}
use Rattle.laws.specs.Laws.Tab.{tab_in}
use Rattle.laws.specs.Laws.Changes.{patch_in, patch_below}
use Rattle.laws.specs.Laws.Numbers.{high2_at, high4_at}
use Rattle.file_rules.specs.declared.Record.{Record}
use Rattle.file_rules.specs.declared.Record.TheVariants.{Free, Bad, System, File, Other}
use Rattle.file_rules.specs.Directory.{entry_byte, entry_for}
use Rattle.file_rules.proofs.Laws.InnerModel.Inner.{Inner}
use Rattle.file_rules.proofs.Laws.InnerModel.Invariant.{parts_of}
use Rattle.file_rules.specs.Map.{is_part}
use Rattle.file_rules.specs.Model.{NamedFile, held_blocks, dir_blocks}
use Rattle.file_rules.specs.Sizes.{slot_bytes, name_most, blocks_of}
use Rattle.file_rules.specs.Written.{blocks_for}

-- ---- tests of records

-- the record of a file's part passes the test for that part
pub is_part_true : (f s : ℕ) (r : Record) → r ≡ File f s → is_part f s r ≡ true
unfolding is_part
is_part_true f s r e = ap (is_part f s) e ∙ and_true (eq_true {a = f} {b = f} refl) (eq_true {a = s} {b = s} refl)

-- a record that passes the test for a file's part is the record of that part
pub true_is_part : (f s : ℕ) (r : Record) → is_part f s r ≡ true → r ≡ File f s
unfolding is_part
true_is_part f s Free e = true≢false false e refl
true_is_part f s Bad e = true≢false false e refl
true_is_part f s System e = true≢false false e refl
true_is_part f s (File g t) e = ap₂ File (true_eq (and_left (eqb g f) (eqb t s) e)) (true_eq (and_right (eqb g f) (eqb t s) e))
true_is_part f s Other e = true≢false false e refl

-- ---- an entry's fields

module _ (name : List ℕ) (date size : ℕ) where
  -- the length field of an entry is the content's length and that of the stored entry
  pub entry_length : slot_bytes + size < 4294967296 → at32 (entry_byte (entry_for name date size)) 0 ≡ slot_bytes + size
  unfolding at32 big_endian entry_byte entry_for patch
  entry_length h = high4_at (slot_bytes + size) h

  -- the name length field of an entry is the length of the name
  pub entry_name_length : length name ≤ name_most → at16 (entry_byte (entry_for name date size)) 14 ≡ length name
  unfolding at16 big_endian entry_byte entry_for patch
  entry_name_length h = high2_at (length name) (omega arith)

  -- byte i of the name field of an entry is byte i of the name, 0 past its end
  pub entry_name_byte : (i : ℕ) → i < name_most → entry_byte (entry_for name date size) (16 + i) ≡ get_or name i 0
  unfolding entry_byte entry_for
  entry_name_byte i h =
      let e : 16 + i - 16 ≡ i = omega arith in
      let whole : List ℕ = tab (λ (j : ℕ). get_or name j 0) name_most in
      patch_below _ 52 4 (high_byte 4 date) (16 + i) (omega arith)
      ∙ patch_in _ 16 name_most (λ (j : ℕ). get_or whole j 0) (16 + i) (omega arith) (omega arith)
      ∙ ap (λ (j : ℕ). get_or whole j 0) e
      ∙ tab_in (λ (j : ℕ). get_or name j 0) name_most i h

  -- the low byte of the name length field is the length of the name
  pub entry_low : length name ≤ name_most → entry_byte (entry_for name date size) 15 ≡ length name
  unfolding entry_byte entry_for patch high_byte
  entry_low h = omega arith

-- ---- how many blocks a file has

-- a file that is present has the blocks that its content and the stored entry take
pub parts_some : (m : Inner) (k : ℕ) (x : NamedFile) → m.slots k ≡ some x → 0 < k → parts_of m k ≡ blocks_of (slot_bytes + length x.content)
unfolding parts_of held_blocks blocks_for
parts_some m zero x e p = absurd (omega arith)
parts_some m (suc k) x e p = ap held_blocks e

-- an empty slot has no blocks
pub parts_none : (m : Inner) (k : ℕ) → m.slots k ≡ none → 0 < k → parts_of m k ≡ 0
unfolding parts_of held_blocks
parts_none m zero e p = absurd (omega arith)
parts_none m (suc k) e p = ap held_blocks e

-- the directory has the blocks that its slots up to the peak take
pub parts_dir : (m : Inner) → blocks_of (suc m.peak * slot_bytes) ≡ parts_of m 0
unfolding parts_of quotient_up dir_blocks
parts_dir m = omega arith
