-- `fields::put_low2` meets its contract.
-- Rests on: the laws in laws::Overlay and laws::Numbers; the contract of copy_into.
-- Assumes nothing.
use Rattle.std.proofs.Common.{◌∙◌, ap}
use Rattle.laws.specs.Changes.{put}
use Rattle.laws.specs.Numbers.{low_byte}
use Rattle.laws.specs.Laws.Overlay.{put_tab}
use Rattle.laws.specs.Laws.Numbers.{low_row2}
use Rattle.fields.proofs.words.put_low2.Goals as goal

pub returns : goal.returns
returns c =
    c.copy_into.ensures ∙ ap (put c.args.s.now c.args.at) (c.to_le_bytes.ensures ∙ low_row2 c.args.v)
    ∙ put_tab c.args.s.now c.args.at (low_byte c.args.v) 2
