-- `part_block` meets its contract.
-- Rests on: the laws in laws::Found; the contracts of record_of and is_part.
-- Assumes nothing.
use Rattle.std.proofs.Common.{rules, ◌≡◌, ◌∙◌, ℕ, length, ap}
use Rattle.std.specs.List.{position}
use Rattle.std.proofs.lemmas.Iterator.{YieldsList-from_slice}
use Rattle.std.proofs.lemmas.Iterator.Search.{position_from_yields_List}
use borrow.Author.Tests.{tests}
use Rattle.laws.specs.Below.{first_below}
use Rattle.laws.specs.Laws.Found.{position_is}
use Rattle.sector_rules.specs.Geometry.{blocks}
use Rattle.file_rules.specs.Map.{decode, is_part}
use Rattle.files.specs.Laws.Loading.Loaded.{loaded_record}
use Rattle.files.proofs.map.part_block.Goals as goal

pub returns : goal.returns
unfolding loaded_record
returns c =
    let n : c.position.result ≡ position (λ (x : ℕ). is_part c.args.f c.args.s (decode x)) c.args.map.now =
    position_from_yields_List (λ (x : ℕ). is_part c.args.f c.args.s (decode x)) _ _ c.position.result c.position.ensures.ran
    (YieldsList-from_slice c.args.map.now cc) (λ x b q k. search (rules, tests)) in
    let long : length c.args.map.now ≡ blocks = search rules in
    n ∙ position_is (λ (x : ℕ). is_part c.args.f c.args.s (decode x)) c.args.map.now 0
    ∙ ap (λ (k : ℕ). first_below (λ (b : ℕ). is_part c.args.f c.args.s (loaded_record c.args.map.now b)) k) long
