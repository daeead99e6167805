-- `Trial::other_right` meets its contract.
-- Rests on: the laws in Rewriting/Compared; the contracts of read_sector and reads_after.
-- Assumes nothing.
use denote.Enum.Bare.{sameb, same_true}
use mathlib.Core.Bool.{true}
use mathlib.Core.Path.{◌≡◌, refl, sym, ap, ◌∙◌}
use Rattle.std.proofs.Common.{rules, Err}
use Rattle.laws.specs.Laws.Cases.{by_test}
use Rattle.laws.specs.Laws.Tests.{true≢false}
use Rattle.sector_rules.specs.contracts.SectorFault.{the_type}
use Rattle.sector_rules.specs.declared.SectorFault.{SectorFault}
use Rattle.sector_rules.specs.declared.SectorFault.TheVariants.{Missing, Repeated, NoField, Damaged}
use Rattle.sector_rules.specs.Unpacked.{sector_reply}
use Rattle.sectors.specs.Laws.Rewriting.Compared.{fault_number, fault_same, other_wrong, other_bad, other_reads}
use Rattle.sectors.proofs.Trial.other_right.Goals as goal

same_self : (f : SectorFault) → sameb the_type f f ≡ true
same_self Missing = refl
same_self Repeated = refl
same_self NoField = refl
same_self Damaged = refl

pub returns-in-Ok-Ok : goal.returns-in-Ok-Ok
returns-in-Ok-Ok c = (
  other_reads _ _ _ _ _ _ (sym c.in-Ok-Ok.is-1 ∙ c.requires.4) _ (sym c.in-Ok-Ok.is-0 ∙ c.requires.3) c.requires.2 refl refl _
      c.read_sector-bytes.ensures _ c.reads_after.ensures.0,
  c.reads_after.ensures.1,
)

pub returns-in-Err-Err : goal.returns-in-Err-Err
returns-in-Err-Err c = (
  by_test c.eq.result
      (λ t.
      let e : c.in-Err-Err.old ≡ c.in-Err-Err.new = same_true the_type (search rules) _ _ (sym c.eq.ensures ∙ t) in
      t
      ∙ sym (other_bad _ _ _ _ _ _ (sym c.in-Err-Err.is-1 ∙ c.requires.4) _ (sym c.in-Err-Err.is-0 ∙ c.requires.3) c.requires.2
      (ap (λ (f : SectorFault). (sector_reply c.args.q (Err f)).number) e) (fault_number c.args.q c.in-Err-Err.new)))
      (λ t.
      t
      ∙ sym (other_wrong _ _ _ _ _ _ (sym c.in-Err-Err.is-1 ∙ c.requires.4) _ (sym c.in-Err-Err.is-0 ∙ c.requires.3) c.requires.2
      (λ e.
      let z = fault_same c.args.q c.in-Err-Err.old c.in-Err-Err.new e in
      true≢false c.eq.result (c.eq.ensures ∙ ap (sameb the_type c.in-Err-Err.old) (sym z) ∙ same_self c.in-Err-Err.old) t))),
  refl,
)

pub returns-in-Ok-Err : goal.returns-in-Ok-Err
returns-in-Ok-Err c = (
  sym (other_wrong _ _ _ _ _ _ (sym c.in-Ok-Err.is-1 ∙ c.requires.4) _ (sym c.in-Ok-Err.is-0 ∙ c.requires.3) c.requires.2
      (λ e. fault_number c.args.q c.in-Ok-Err.field-0-1 (sym e))),
  refl,
)

pub returns-in-Err-Ok : goal.returns-in-Err-Ok
returns-in-Err-Ok c = (
  sym (other_wrong _ _ _ _ _ _ (sym c.in-Err-Ok.is-1 ∙ c.requires.4) _ (sym c.in-Err-Ok.is-0 ∙ c.requires.3) c.requires.2
      (λ e. fault_number c.args.q c.in-Err-Ok.field-0-0 e)),
  refl,
)
