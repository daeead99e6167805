-- `fields::put_high2` meets its contract.
-- Rests on: the laws in laws::Overlay and laws::Numbers; the contract of copy_into.
-- Assumes nothing.
use Rattle.std.proofs.Common.{◌∙◌, ap}
use Rattle.laws.specs.Changes.{put}
use Rattle.laws.specs.Numbers.{high_byte}
use Rattle.laws.specs.Laws.Overlay.{put_tab}
use Rattle.laws.specs.Laws.Numbers.{high_row2}
use Rattle.fields.proofs.words.put_high2.Goals as goal

pub returns : goal.returns
returns c =
    c.copy_into.ensures ∙ ap (put c.args.s.now c.args.at) (c.to_be_bytes.ensures ∙ high_row2 c.args.v)
    ∙ put_tab c.args.s.now c.args.at (high_byte 2 c.args.v) 2
