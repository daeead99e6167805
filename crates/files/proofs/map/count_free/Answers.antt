-- `count_free` meets its contract.
-- Rests on: the laws in laws::Found and laws::Count; the contracts of record_of and is_free.
-- Assumes nothing.
use Rattle.std.proofs.Common.{rules, ◌≡◌, ◌∙◌, ℕ, length, arith, ap}
use Rattle.std.specs.List.{count_by}
use Rattle.laws.specs.Below.{count}
use Rattle.laws.specs.Laws.Count.{count_le}
use Rattle.laws.specs.Laws.Found.{count_by_is}
use Rattle.sector_rules.specs.Geometry.{blocks}
use Rattle.file_rules.specs.Map.{decode, is_free}
use Rattle.files.specs.Laws.Loading.Loaded.{loaded_record}
use Rattle.files.proofs.map.count_free.Goals as goal

pub returns : goal.returns
unfolding loaded_record
returns c =
    let n : c.count.result ≡ count_by (λ (x : ℕ). is_free (decode x)) c.args.map.now = search rules in
    let long : length c.args.map.now ≡ blocks = search rules in
    let e : c.count.result ≡ count blocks (λ (b : ℕ). is_free (loaded_record c.args.map.now b)) =
    n ∙ count_by_is (λ (x : ℕ). is_free (decode x)) c.args.map.now 0
    ∙ ap (λ (k : ℕ). count k (λ (b : ℕ). is_free (loaded_record c.args.map.now b))) long in
    (e, omega (arith, count_le blocks (λ (b : ℕ). is_free (loaded_record c.args.map.now b))))
