-- `Trial::own_right` meets its contract.
-- Rests on: the laws in Rewriting/Compared; the contract of reads_after.
-- Assumes nothing.
use mathlib.Core.Path.{refl, sym, ◌∙◌}
use Rattle.sectors.specs.Laws.Rewriting.Compared.{fault_number, own_wrong, own_reads}
use Rattle.sectors.proofs.Trial.own_right.Goals as goal

pub returns-in-Ok : goal.returns-in-Ok
returns-in-Ok c = (
  own_reads _ _ _ _ _ _ (sym c.in-Ok.is ∙ c.requires.2) refl refl _ c.reads_after.ensures.0,
  c.reads_after.ensures.1,
)

pub returns-in-Err : goal.returns-in-Err
returns-in-Err c = (sym (own_wrong _ _ _ _ _ _ (sym c.in-Err.is ∙ c.requires.2) refl (fault_number _ _)), refl)
