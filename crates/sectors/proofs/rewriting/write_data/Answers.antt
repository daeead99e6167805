-- `write_data` meets its contract.
-- Rests on: the laws in Rewriting/Answered; the contracts of exchange_at, image_sector, reads_right and put_new.
-- Assumes nothing.
use mathlib.Core.Path.{refl, sym, ◌∙◌}
use Rattle.sectors.specs.Laws.Rewriting.Answered.{written_wrong, written_done}
use Rattle.sectors.proofs.rewriting.write_data.Goals as goal

pub reads_right-requires : goal.reads_right-requires
reads_right-requires c = c.exchange_at.ensures.0

pub returns-then-not-reads_right : goal.returns-then-not-reads_right
returns-then-not-reads_right c =
    written_wrong _ _ _ _ _ _ _ _ c.exchange_at.ensures.1
    (sym (rw c.image_sector.ensures.0 at c.reads_right.ensures.0) ∙ c.if-not-reads_right.true) refl c.reads_right.ensures.1

pub put_new-requires : goal.put_new-requires
put_new-requires c = rw c.reads_right.ensures.1 c.exchange_at.ensures.0.fits

pub returns : goal.returns
returns c =
    written_done _ _ _ _ _ _ _ _ c.exchange_at.ensures.1
    (sym (rw c.image_sector.ensures.0 at c.reads_right.ensures.0) ∙ c.if-not-reads_right.false) refl
    (rw c.reads_right.ensures.1 at c.put_new.ensures)
