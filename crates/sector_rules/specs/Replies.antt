-- Replies (docs/RULES.md, section 7).
-- Assumes nothing: these are definitions.
use Rattle.std.proofs.Math.Option.{Option, none, some}
use Rattle.std.specs.Prelude.{ℕ}
use Rattle.sector_rules.specs.declared.Reply.{Reply}

-- a number and three places; a place that is not named is 0 (§7.17)
abbrev pub reply_with : ℕ → ℕ → ℕ → ℕ → Reply
reply_with n a b c = record { number = n; first = a; second = b; third = c }

-- done, with no place named (§7.17)
abbrev pub done : Reply
done = reply_with 0 0 0 0

-- a refusal that names no place (§7.17)
abbrev pub refusal : ℕ → Reply
refusal n = reply_with n 0 0 0

-- 1 with place 1: the length of the HFE image is wrong (§7.1)
abbrev pub wrong_hfe : Reply
wrong_hfe = reply_with 1 1 0 0

-- 1 with place 2: the length of the block image or of the first track is wrong (§7.1)
abbrev pub wrong_length : Reply
wrong_length = reply_with 1 2 0 0

-- what f makes of the refusal, and a where there is none (§7.18)
unfoldable pub unless : {A : Type 0} → Option Reply → (Reply → A) → A → A
unless none f a = a
unless (some r) f a = f r
