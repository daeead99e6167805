-- `Exchange::with_new` meets its contract.
-- Rests on: the laws in Rewriting/Exchanged; the contracts of put_new and put_bytes.
-- Assumes nothing.
use mathlib.Core.Path.{◌∙◌}
use Rattle.sectors.specs.Laws.Rewriting.Exchanged.{goes_back}
use Rattle.sectors.proofs.Exchange.with_new.Goals as goal

pub returns : goal.returns
returns g c = ((_, c.look-told.ensures, c.put_new.ensures), c.put_bytes.ensures ∙ goes_back _ _ c.requires.0 _ c.put_new.ensures)
