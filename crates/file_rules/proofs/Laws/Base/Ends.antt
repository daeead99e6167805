-- What a sound disk has: its directory ends within the disk.
-- Rests on what a sound disk has (Sound) and on counts (laws, Count): each block of the directory stands once in the map, so it has no more blocks than the
-- disk.
use Rattle.std.specs.Prelude.{Some, None, ◌≡◌, refl, ◌≢◌, true, false, not, eqb}
use Rattle.std.proofs.Common.{sym, ap, ◌∙◌, arith}
use Rattle.std.proofs.Math.Option.{none, some}
use Prim.Native.Nat.{ℕ, zero, suc, ◌+◌, ◌≤◌}
use Rattle.std.proofs.lemmas.Bool.{not-false}
use Rattle.laws.specs.Below.{all, count, sum}
use Rattle.laws.specs.Numbers.{quotient_up}
use Rattle.laws.specs.Laws.Cases.{by_order, by_test}
use Rattle.laws.specs.Laws.Tests.{lt_true, eq_false, true_eq, cond_true, and_right, and_false_right}
use Rattle.laws.specs.Laws.All.{all_at}
use Rattle.laws.specs.Laws.Lowest.{lowest_all}
use Rattle.laws.specs.Laws.Count.{count_yes, count_no, sum_cong, sum_change, sum_none}
use Rattle.sector_rules.specs.Replies.{reply_with}
use Rattle.sector_rules.specs.Faults.{fault_below, refusal_at}
use Rattle.sector_rules.specs.Geometry.{blocks}
use Rattle.file_rules.specs.declared.Record.{Record}
use Rattle.file_rules.specs.declared.Record.TheVariants.{Free, Bad, System, File, Other}
use Rattle.file_rules.specs.Check.{parts_right, file_right, file_fault, refusal10, disk_refusal}
use Rattle.file_rules.specs.Directory.{dir_bytes, dir_end}
use Rattle.file_rules.specs.Disk.{Disk}
use Rattle.file_rules.proofs.Laws.Base.Sound.{sound_ten}
use Rattle.file_rules.specs.Map.{record_at, is_part, within}
use Rattle.file_rules.specs.Sizes.{slot_count, blocks_of}

-- ---- at most as many parts as blocks

seq_of : Record → ℕ
seq_of Free = 0
seq_of Bad = 0
seq_of System = 0
seq_of (File g t) = t
seq_of Other = 0

-- a record is a part by one sequence alone
other_seq : (f s : ℕ) (r : Record) → s ≢ seq_of r → is_part f s r ≡ false
unfolding is_part seq_of
other_seq f s Free h = refl
other_seq f s Bad h = refl
other_seq f s System h = refl
other_seq f s (File g t) h = and_false_right (eqb g f) (eq_false {a = t} {b = s} (λ e. h (sym e)))
other_seq f s Other h = refl

one_more_lem : (n t : ℕ) (f g : ℕ → ℕ) → ((s : ℕ) → s ≢ t → f s ≡ g s) → f t ≤ g t + 1 → sum n f ≤ sum n g + 1
one_more_lem n t f g e h =
    by_order t n
    (λ l. omega (arith, sum_change n t f g l (λ j b q. e j q)))
    (λ l. omega (arith, sum_cong n f g (λ j b. e j (omega arith))))

ones : (n : ℕ) → sum n (λ (s : ℕ). 1) ≡ n
unfolding sum
ones zero = refl
ones (suc n) = omega (arith, ones n)

module _ (rec : ℕ → Record) (f n : ℕ) where
  count_step : (m s : ℕ) → count (suc m) (λ (b : ℕ). is_part f s (rec b)) ≤ count m (λ (b : ℕ). is_part f s (rec b)) + 1
  count_step m s =
      by_test (is_part f s (rec m))
      (λ t. omega (arith, count_yes m (λ (b : ℕ). is_part f s (rec b)) t))
      (λ t. omega (arith, count_no m (λ (b : ℕ). is_part f s (rec b)) t))

  parts_below : (m : ℕ) → sum n (λ (s : ℕ). count m (λ (b : ℕ). is_part f s (rec b))) ≤ m
  unfolding count
  parts_below zero = omega (arith, sum_none n (λ (s : ℕ). 0) (λ i h. refl))
  parts_below (suc m) =
      let F : ℕ → ℕ = λ (s : ℕ). count (suc m) (λ (b : ℕ). is_part f s (rec b)) in
      let G : ℕ → ℕ = λ (s : ℕ). count m (λ (b : ℕ). is_part f s (rec b)) in
      let others : (s : ℕ) → s ≢ seq_of (rec m) → F s ≡ G s = λ s q. count_no m (λ (b : ℕ). is_part f s (rec b)) (other_seq f s (rec m) q) in
      omega (arith, one_more_lem n (seq_of (rec m)) F G others (count_step m (seq_of (rec m))), parts_below m)

  -- sequences that have one block each are no more than the blocks
  pub once_most : all (λ (s : ℕ). eqb (count blocks (λ (b : ℕ). is_part f s (rec b))) 1) n ≡ true → n ≤ blocks
  once_most t =
      let c : ℕ → ℕ = λ (s : ℕ). count blocks (λ (b : ℕ). is_part f s (rec b)) in
      let e : sum n c ≡ sum n (λ (s : ℕ). 1) = sum_cong n c (λ (s : ℕ). 1) (λ s h. true_eq (all_at (λ (s : ℕ). eqb (c s) 1) n t s h)) in
      omega (arith, ones n, parts_below blocks)

-- ---- a sound disk's directory

parts_most : (d : Disk) (f n : ℕ) → parts_right d f n ≡ true → n ≤ blocks
unfolding parts_right
parts_most d f n t = once_most (record_at d) f n (and_right (all (λ (b : ℕ). within f n (record_at d b)) blocks) _ t)

-- a disk that passes 10 has no file at fault
pub files_right : (d : Disk) → refusal10 d ≡ none → slot_count ≤ file_fault d
unfolding refusal10 fault_below
files_right d e =
    by_order (file_fault d) slot_count
    (λ h.
    let q : some (reply_with 10 (file_fault d) 0 0) ≡ none = sym (ap (refusal_at 10) (cond_true (Some (file_fault d)) None (lt_true h))) ∙ e in
    let z : ◌≡◌ {A = ℕ} 0 1 = cc in absurd (omega arith))
    (λ h. h)

dir_right : (d : Disk) → slot_count ≤ file_fault d → parts_right d 0 (blocks_of (dir_bytes d)) ≡ true
unfolding file_fault file_right
dir_right d h = not-false (file_right d 0) (lowest_all (λ (f : ℕ). not (file_right d f)) slot_count h 0 (omega arith))

-- a sound disk's directory has no more slots than fit all blocks
pub end_within : (d : Disk) → disk_refusal d ≡ none → dir_end d ≤ slot_count
unfolding dir_end quotient_up
end_within d e = omega (arith, parts_most d 0 (blocks_of (dir_bytes d)) (dir_right d (files_right d (sound_ten d e))))
