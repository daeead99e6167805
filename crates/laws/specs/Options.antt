-- Values that may be absent.
use Rattle.std.specs.Prelude.{Bool, true, false, ℕ, zero, suc}
use Rattle.std.proofs.Math.Option.{Option, none, some}

-- whether there is something
unfoldable pub is_some : {A : Type 0} → Option A → Bool
is_some none = false
is_some (some x) = true

-- the first of two that is there
unfoldable pub or_else : {A : Type 0} → Option A → Option A → Option A
or_else none y = y
or_else (some x) y = some x

-- the first that is there of f 0, f 1 .., n of them
unfoldable pub first_some : {A : Type 0} → (ℕ → Option A) → ℕ → Option A
first_some f zero = none
first_some f (suc n) = or_else (first_some f n) (f n)
