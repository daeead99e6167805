-- `fields::fill` meets its contract: the part that lies in dst is written over.
-- Rests on: the law part_over.
-- Assumes nothing.
use Rattle.std.proofs.Common.{arith, rules}
use Rattle.std.proofs.lemmas.List.{places}
use Rattle.fields.proofs.Parts.{part_over}
use Rattle.fields.proofs.bytes.fill.Goals as goal

pub returns : goal.returns
returns c =
    let full = c.fill.ensures.after (λ y e. e) in
    part_over c.args.dst.now c.args.at c.args.n c.min-start.result c.min-end.result _ c.fill.new.self c.min-start.ensures (omega arith)
    (search (rules, places)) (λ k h. rw full (search (rules, places)))
