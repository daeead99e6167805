-- Faults: the lowest wrong place that a judgement finds, and the refusal that names it (docs/RULES.md, section 7: places of 2, 3, 8, 9 and 10).
-- Assumes nothing: these are definitions.
use Rattle.std.specs.Prelude.{Some, None, Bool, cond, ℕ, ltb}
use Rattle.std.specs.Prelude as Prelude
use Rattle.std.proofs.Math.Option.{Option, none, some}
use Rattle.laws.specs.Below.{lowest}
use Rattle.sector_rules.specs.declared.Reply.{Reply}
use Rattle.sector_rules.specs.Replies.{reply_with}

-- what a judgement finds: the lowest place that is at fault, or none (§7.18)
abbrev pub Fault : Type 0
Fault = Prelude.Option ℕ

-- the fault of a field at offset o: none if it is right, and else this field (§7.18)
abbrev pub wrong_at : ℕ → Bool → Fault
wrong_at o right = cond right None (Some o)

-- the first of two faults, if there is one (§7.18)
abbrev pub or_fault : Fault → Fault → Fault
or_fault (Some o) f = Some o
or_fault None f = f

-- the fault of a number: this number if it is below n, and none else (§7.18)
unfoldable pub fault_below : ℕ → ℕ → Fault
fault_below n m = cond (ltb m n) (Some m) None

-- the lowest number below n at which the test holds, if there is one (§7.18)
unfoldable pub lowest_fault : (ℕ → Bool) → ℕ → Fault
lowest_fault p n = fault_below n (lowest p n)

-- the refusal with this number that names the place at fault, or none (§7.17 §7.18)
abbrev pub refusal_at : ℕ → Fault → Option Reply
refusal_at n (Some o) = some (reply_with n o 0 0)
refusal_at n None = none
