-- The judgement of the first track (§8.14).
-- Rests on the laws of counts (laws, Count).
use Rattle.std.specs.Prelude.{◌≡◌, refl, ◌≢◌, Bool, not, List, ℕ, zero, suc, ◌+◌, ◌-◌, length}
use Rattle.std.proofs.Math.Path.{sym, ap}
use Rattle.std.proofs.Common.{◌∙◌, arith}
use Rattle.std.proofs.Math.Option.{Option, none, some}
use Rattle.laws.specs.Below.{count}
use Rattle.laws.specs.Numbers.{at16}
use Rattle.laws.specs.Options.{or_else}
use Rattle.laws.specs.Laws.Cases.{by_test}
use Rattle.laws.specs.Laws.Tests.{eq_true, eq_false, cond_true, cond_false}
use Rattle.laws.specs.Laws.Count.{count_yes, count_no}
use Rattle.sector_rules.specs.declared.Reply.{Reply}
use Rattle.sector_rules.specs.Replies.{done}
use Rattle.sector_rules.specs.Geometry.{blocks}
use Rattle.file_rules.specs.declared.FirstTrack.{FirstTrack}
use Rattle.file_rules.specs.Sizes.{first_track_bytes}
use Rattle.file_rules.specs.Disk.{Disk, disk_of}
use Rattle.file_rules.specs.Map.{free_at, free_count}
use Rattle.file_rules.specs.Check.{start_refusal, refusal11}
use Rattle.file_rules.specs.Calls.{unless, wrong_length}
use Rattle.file_rules.specs.FirstTrack.{refused_track, counted, first_track_result}

-- those that pass a test and those that do not are all
count_both : (n : ℕ) (p : ℕ → Bool) → count n p + count n (λ (i : ℕ). not (p i)) ≡ n
unfolding count
count_both zero p = refl
count_both (suc n) p =
    by_test (p n)
    (λ t. omega (arith, count_yes n p t, count_no n (λ (i : ℕ). not (p i)) (ap not t), count_both n p))
    (λ t. omega (arith, count_no n p t, count_yes n (λ (i : ℕ). not (p i)) (ap not t), count_both n p))

-- the three counts that are read are those of the definition
pub counted_is : (d : Disk) (r : Reply) (c f g : ℕ) → r ≡ done → c ≡ free_count d → f ≡ at16 (d 0) 20 → g ≡ at16 (d 0) 22
    → ◌≡◌ {A = FirstTrack} (record { reply = r; free = f; good = g; held = blocks - c }) (counted d)
unfolding counted free_count
counted_is d r c f g er ec ef eg =
    let h : blocks - c ≡ count blocks (λ (b : ℕ). not (free_at d b)) = omega (arith, count_both blocks (free_at d)) in
    rw (er, ef, eg, h)

-- what the first track is judged by
abbrev judged_track : Disk → Option Reply
judged_track d = or_else (start_refusal d) (refusal11 d)

-- ---- the call

module _ (l : List ℕ) where
  -- a first track of another length is refused with 1
  pub track_length_lem : length l ≢ first_track_bytes → refused_track wrong_length ≡ first_track_result l
  unfolding first_track_result
  track_length_lem h = sym (cond_false (unless (judged_track (disk_of l)) refused_track (counted (disk_of l))) (refused_track wrong_length) (eq_false h))

  module _ (long : length l ≡ first_track_bytes) where
    disk_refusal_track : first_track_result l ≡ unless (judged_track (disk_of l)) refused_track (counted (disk_of l))
    unfolding first_track_result
    disk_refusal_track = cond_true (unless (judged_track (disk_of l)) refused_track (counted (disk_of l))) (refused_track wrong_length) (eq_true long)

    -- a refused judgement is the call's reply, with three zeros
    pub track_refused : (r : Reply) → some r ≡ judged_track (disk_of l) → refused_track r ≡ first_track_result l
    unfolding unless
    track_refused r e =
        sym (disk_refusal_track ∙ ap (λ (v : Option Reply). unless v refused_track (counted (disk_of l))) (sym e))

    -- a judgement that passed gives the counts
    pub track_passed : none ≡ judged_track (disk_of l) → counted (disk_of l) ≡ first_track_result l
    unfolding unless
    track_passed e =
        sym (disk_refusal_track ∙ ap (λ (v : Option Reply). unless v refused_track (counted (disk_of l))) (sym e))
