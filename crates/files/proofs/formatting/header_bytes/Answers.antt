-- `header_bytes` meets its contract.
-- Rests on: the laws in Calling/Fresh; the contracts of put_title, put_dimensions and put_start.
-- Assumes nothing.
use mathlib.Core.Path.{refl}
use Rattle.laws.specs.Lists.{tab}
use Rattle.files.specs.Laws.Calling.Fresh.{header_row_lem}
use Rattle.files.proofs.formatting.header_bytes.Goals as goal

pub returns : goal.returns
unfolding tab
returns c = λ bad e. header_row_lem _ _ _ _ _ _ e refl c.put_title.ensures c.put_dimensions.ensures
    c.put_start.ensures
