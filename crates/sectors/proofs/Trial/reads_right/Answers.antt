-- `Trial::reads_right` meets its contract.
-- Rests on: the laws in Rewriting/Exchanged; the contracts of with_new, header_and_table_right and sides_right.
-- Assumes nothing.
use mathlib.Core.Path.{sym, ◌∙◌}
use Rattle.sectors.specs.Laws.Rewriting.Exchanged.{sound_plain, result_wrong, result_sectors}
use Rattle.sectors.proofs.Trial.reads_right.Goals as goal

pub sides_right-requires : goal.sides_right-requires
sides_right-requires c =
    let told = c.with_new.ensures.0 in
    rw c.with_new.ensures.1
    (record { exchange = c.requires; after = sound_plain _ (sym (rw told.2 at told.1) ∙ c.if-with_new.true) })

pub returns-then-with_new : goal.returns-then-with_new
returns-then-with_new c =
    let told = c.with_new.ensures.0 in (
      rw c.with_new.ensures.1 at c.sides_right.ensures.0 ∙ sym (result_sectors _ _ _ _ (sym (rw told.2 at told.1) ∙ c.if-with_new.true)),
      c.sides_right.ensures.1 ∙ c.with_new.ensures.1,
    )

pub returns-else-with_new : goal.returns-else-with_new
returns-else-with_new c =
    let told = c.with_new.ensures.0 in (
      c.if-with_new.false ∙ sym (result_wrong _ _ _ _ (sym (rw told.2 at told.1) ∙ c.if-with_new.false)),
      c.with_new.ensures.1,
    )
