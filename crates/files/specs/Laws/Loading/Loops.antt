-- Tests of all numbers below a bound.
-- Rests on the definition alone.
use Rattle.std.specs.Prelude.{◌≡◌, refl, Bool, ◌&&◌, ℕ, zero, suc, ◌<◌}
use Rattle.std.proofs.Common.{ap₂, arith}
use Rattle.laws.specs.Below.{all}

-- tests that agree below n pass all or none alike
pub all_cong : (p q : ℕ → Bool) (n : ℕ) → ((i : ℕ) → i < n → p i ≡ q i) → all p n ≡ all q n
unfolding all
all_cong p q zero e = refl
all_cong p q (suc n) e = ap₂ (λ (x y : Bool). x && y) (e n (omega arith)) (all_cong p q n (λ i h. e i (omega arith)))
