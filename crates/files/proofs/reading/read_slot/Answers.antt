-- `read_slot` meets its contract.
-- Rests on: the laws in Calling/Delivered; the contracts of data_length and copy_data.
-- Assumes nothing.
use mathlib.Core.Path.{◌∙◌}
use Rattle.files.specs.Laws.Calling.Delivered.{fits_answer, fits_buffer, misses_answer, misses_buffer, data_length_lem, data_put}
use borrow.Author.Rules.{rules}
use Rattle.files.proofs.reading.read_slot.Goals as goal

pub data_length-needed-requires : goal.data_length-needed-requires
data_length-needed-requires c = c.requires

pub returns-then-out-needed : goal.returns-then-out-needed
returns-then-out-needed c = (
  misses_answer _ _ _ (data_length_lem _ _ _ c.data_length-needed.ensures.0)
      c.if-out-needed.true,
  misses_buffer _ _ _ (data_length_lem _ _ _ c.data_length-needed.ensures.0)
      c.if-out-needed.true,
)

pub copy_data-requires : goal.copy_data-requires
copy_data-requires c = (c.args.dir.now.whole, search rules, search rules)

pub returns : goal.returns
returns c = (
  fits_answer _ c.args.out.now _ (data_length_lem _ _ _ c.data_length-needed.ensures.0)
      c.if-out-needed.false,
  c.copy_data.ensures ∙ data_put _ _ _ _ c.data_length-needed.ensures.0 ∙
      fits_buffer _ c.args.out.now _ (data_length_lem _ _ _ c.data_length-needed.ensures.0) c.if-out-needed.false,
)
