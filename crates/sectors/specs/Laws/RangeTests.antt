-- What `any` tells of the numbers below a bound.
-- Rests on the library's laws of such lists.
use Rattle.std.specs.Prelude.{◌≡◌, ℕ, ◌+◌, ◌<◌, length}
use Rattle.std.proofs.Common.{arith}
use Rattle.std.specs.List.{AllWithin, range_with_len}
use Rattle.std.proofs.lemmas.List.FromFn.{get_or-range_with_len, length-range_with_len}

-- what holds of each element of the list of the numbers below n holds of each number below n
pub each_below : (P : ℕ → Type 0) (n : ℕ) → AllWithin P (range_with_len 0 n) 0 (length (range_with_len 0 n)) → (k : ℕ) → k < n → P k
each_below P n h k l =
    let z : k < length (range_with_len 0 n) = rw (length-range_with_len 0 n) l in
    let e : 0 + k ≡ k = omega arith in
    rw (get_or-range_with_len 0 n k 0 l, e) at (h k 0 (omega arith) z)
