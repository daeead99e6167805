-- `put_word` meets its contract.
-- Rests on: the laws in laws::Numbers and Writing/Stored; the contract of put_bytes.
-- Assumes nothing.
use Rattle.std.proofs.Common.{◌≡◌, ◌∙◌, ℕ, ◌-◌, ◌+◌, ◌≤◌, List, take, drop, ap, arith, take_all}
use Rattle.std.specs.Int.{bytes_high_first}
use Rattle.laws.specs.Lists.{tab}
use Rattle.laws.specs.Numbers.{high_byte}
use Rattle.laws.specs.Laws.Tab.{tab_length}
use Rattle.laws.specs.Laws.Numbers.{high_bytes_last}
use Rattle.files.specs.Laws.Writing.Stored.{patched_row}
use Rattle.files.proofs.store.put_word.Goals as goal

-- the last n of a number's eight bytes
last_bytes : (bytes : List ℕ) (n v : ℕ) → bytes ≡ bytes_high_first 8 v → n ≤ 8 → take (8 - (8 - n)) (drop (8 - n) bytes) ≡ tab (high_byte n v) n
last_bytes bytes n v e h =
    let k : 8 - n + n ≡ 8 = omega arith in
    let last = rw k at (high_bytes_last (8 - n) n v) in
    ap (λ (l : List ℕ). take (8 - (8 - n)) (drop (8 - n) l)) e ∙ ap (take (8 - (8 - n))) last
    ∙ take_all (8 - (8 - n)) (tab (high_byte n v) n) (omega (arith, tab_length (high_byte n v) n))

pub returns : goal.returns
returns g c = c.put_bytes.ensures ∙ patched_row _ _ _ _ _ _ (last_bytes _ g.row.N c.args.v c.to_be_bytes-bytes.ensures c.requires.2)
