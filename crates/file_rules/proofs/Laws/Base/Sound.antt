-- What a sound disk has: no refusal, block 0 as the system's and so no file in it. A disk that is not sound gets a refusal's number.
-- Rests on the definitions of 8, 9, 19, 10 and 11 and on the lowest number that passes a test (laws, Lowest).
use Rattle.std.specs.Prelude.{Some, None, ◌≡◌, refl, ◌≢◌, Bool, true, false, ℕ, ◌<◌}
use Rattle.std.proofs.Common.{sym, ap, ◌∙◌, arith}
use Rattle.std.proofs.Math.Option.{Option, none, some}
use Rattle.laws.specs.Below.{lowest}
use Rattle.laws.specs.Options.{or_else}
use Rattle.laws.specs.Laws.Cases.{by_order, by_cond}
use Rattle.laws.specs.Laws.Tests.{lt_true, true≢false, cond_true}
use Rattle.laws.specs.Laws.Lowest.{lowest_all, lowest_hit}
use Rattle.sector_rules.specs.Replies.{reply_with}
use Rattle.sector_rules.specs.declared.Reply.{Reply}
use Rattle.sector_rules.specs.Faults.{Fault}
use Rattle.sector_rules.specs.Faults.{fault_below, refusal_at}
use Rattle.sector_rules.specs.Geometry.{blocks}
use Rattle.file_rules.specs.Disk.{Disk}
use Rattle.file_rules.specs.declared.Record.{Record}
use Rattle.file_rules.specs.declared.Record.TheVariants.{Free, Bad, System, File, Other}
use Rattle.file_rules.specs.Map.{record_at, is_system, is_part, part_block}
use Rattle.file_rules.specs.Sizes.{slot_count}
use Rattle.file_rules.specs.Check.{disk_header_fault, record_fault, map_fault, file_fault, good_right, free_right, refusal8, refusal9, refusal19}
use Rattle.file_rules.specs.Check.{refusal10, refusal11}
use Rattle.file_rules.specs.Check.{start_refusal, disk_refusal}

-- ---- a disk without a refusal

-- if neither refuses, the first does not
pub or_none_left : {A : Type 0} (a b : Option A) → or_else a b ≡ none → a ≡ none
unfolding or_else
or_none_left none b e = refl
or_none_left (some x) b e = e

-- if neither refuses, the second does not
pub or_none_right : {A : Type 0} (a b : Option A) → or_else a b ≡ none → b ≡ none
unfolding or_else
or_none_right none b e = e
or_none_right (some x) b e = let z : ◌≡◌ {A = ℕ} 0 1 = cc in absurd (omega arith)

-- block 0 is the system's
system_only : (r : Record) → record_fault 0 r ≡ false → r ≡ System
unfolding record_fault is_system
system_only Free e = true≢false true refl e
system_only Bad e = true≢false true refl e
system_only System e = refl
system_only (File f s) e = true≢false true refl e
system_only Other e = true≢false true refl e

-- record 0 of a disk that passes 9 is the system's
pub first_passed : (d : Disk) → refusal9 d ≡ none → record_at d 0 ≡ System
unfolding refusal9 fault_below map_fault
first_passed d e =
    by_order (map_fault d) blocks
    (λ h.
    let q : some (reply_with 9 (map_fault d) 0 0) ≡ none = sym (ap (refusal_at 9) (cond_true (Some (map_fault d)) None (lt_true h))) ∙ e in
    let z : ◌≡◌ {A = ℕ} 0 1 = cc in absurd (omega arith))
    (λ h. system_only (record_at d 0) (lowest_all (λ (j : ℕ). record_fault j (record_at d j)) blocks h 0 (omega arith)))

-- ---- each judgement that was passed

module _ (d : Disk) (passed : start_refusal d ≡ none) where
  after_eight : or_else (refusal9 d) (refusal19 d) ≡ none
  unfolding start_refusal
  after_eight = or_none_right (refusal8 d) (or_else (refusal9 d) (refusal19 d)) passed

  -- a disk on which neither 8, 9 nor 19 is found passes 9
  pub start_nine : refusal9 d ≡ none
  start_nine = or_none_left (refusal9 d) (refusal19 d) after_eight

  -- and 19
  pub start_nineteen : refusal19 d ≡ none
  start_nineteen = or_none_right (refusal9 d) (refusal19 d) after_eight

module _ (d : Disk) (sound : disk_refusal d ≡ none) where
  -- a sound disk passes what a judgement begins with
  pub sound_start : start_refusal d ≡ none
  unfolding disk_refusal
  sound_start = or_none_left (start_refusal d) (or_else (refusal10 d) (refusal11 d)) sound

  after_start : or_else (refusal10 d) (refusal11 d) ≡ none
  unfolding disk_refusal
  after_start = or_none_right (start_refusal d) (or_else (refusal10 d) (refusal11 d)) sound

  -- and 10
  pub sound_ten : refusal10 d ≡ none
  sound_ten = or_none_left (refusal10 d) (refusal11 d) after_start

  -- and 11
  pub sound_eleven : refusal11 d ≡ none
  sound_eleven = or_none_right (refusal10 d) (refusal11 d) after_start

  -- record 0 of a sound disk is the system's
  pub first_system : record_at d 0 ≡ System
  first_system = first_passed d (start_nine d sound_start)

-- a block whose record is not a part of a file is not the block of that part
pub part_not : (d : Disk) (f s b : ℕ) → b < blocks → is_part f s (record_at d b) ≡ false → part_block d f s ≢ b
unfolding part_block
part_not d f s b l e z =
    let test : ℕ → Bool = λ (j : ℕ). is_part f s (record_at d j) in
    let h : lowest test blocks < blocks = omega arith in
    true≢false (test b) (ap test (sym z) ∙ lowest_hit test blocks h) e

-- so where block 0 is the system's, it is none
pub part_not_first : (d : Disk) → record_at d 0 ≡ System → (f s : ℕ) → part_block d f s ≢ 0
unfolding is_part
part_not_first d first f s = part_not d f s 0 (omega arith) (ap (is_part f s) first)

-- ---- a disk with a refusal

-- a refusal, where there is one, has another number than n
abbrev pub OtherNumber : ℕ → Option Reply → Type 0
OtherNumber n none = Unit {0}
OtherNumber n (some r) = r.number ≢ n

-- so the first of two has
pub other_or : (n : ℕ) (a b : Option Reply) → OtherNumber n a → OtherNumber n b → OtherNumber n (or_else a b)
unfolding or_else
other_or n none b p q = q
other_or n (some r) b p q = p

-- and one with this number that names a place
pub other_at : (n k : ℕ) → k ≢ n → (f : Fault) → OtherNumber n (refusal_at k f)
other_at n k h (Some o) = h
other_at n k h None = tt

-- and 11
pub other_eleven : (n : ℕ) (d : Disk) → 11 ≢ n → OtherNumber n (refusal11 d)
unfolding refusal11
other_eleven n d h = by_cond (OtherNumber n) (free_right d) _ _ (λ t. tt) (λ t. h)

-- and what a judgement begins with
pub other_start : (n : ℕ) (d : Disk) → 8 ≢ n → 9 ≢ n → 19 ≢ n → OtherNumber n (start_refusal d)
unfolding start_refusal refusal8 refusal9 refusal19
other_start n d e nine g =
    other_or n _ _ (other_at n 8 e (disk_header_fault d))
    (other_or n _ _ (other_at n 9 nine (fault_below blocks (map_fault d))) (by_cond (OtherNumber n) (good_right d) _ _ (λ t. tt) (λ t. g)))

-- what the judgement of a disk refuses gets one of its five numbers
pub other_disk : (n : ℕ) (d : Disk) → 8 ≢ n → 9 ≢ n → 19 ≢ n → 10 ≢ n → 11 ≢ n → OtherNumber n (disk_refusal d)
unfolding disk_refusal refusal10
other_disk n d e nine g t f =
    other_or n _ _ (other_start n d e nine g) (other_or n _ _ (other_at n 10 t (fault_below slot_count (file_fault d))) (other_eleven n d f))

-- a refusal, where there is one, has another number than 0
abbrev pub NotDone : Option Reply → Type 0
NotDone r = OtherNumber 0 r

-- so what the judgement of a disk refuses
pub refused_number : (d : Disk) → NotDone (disk_refusal d)
refused_number d = other_disk 0 d (λ e. omega arith) (λ e. omega arith) (λ e. omega arith) (λ e. omega arith) (λ e. omega arith)
