-- `Trial::side_right` meets its contract.
-- Rests on: the laws in Rewriting/Skipped; the contracts of untouched and side_reads_right.
-- Assumes nothing.
use mathlib.Core.Path.{refl, sym, ◌∙◌}
use Rattle.sectors.specs.Laws.Rewriting.Skipped.{skipped_right}
use Rattle.sectors.proofs.Trial.side_right.Goals as goal

pub returns-then-untouched : goal.returns-then-untouched
returns-then-untouched c = (
  sym (skipped_right _ _ _ _ (c.requires.0.after.version ∙ sym c.requires.0.exchange.plain.version)
      (c.untouched.ensures c.if-untouched.true) _ _ c.if-n-self.true),
  refl,
)
