-- `rewrite` meets its contract.
-- Rests on: the laws in Rewriting/Answered and sector_rules::Rewrite.Judged; the contracts of SectorPlace::new, version1_fault, table_fault and
-- rewrite_sector.
-- Assumes nothing.
use mathlib.Core.Path.{sym, ◌∙◌}
use native.Mathlib.Omega.{arith}
use Rattle.sector_rules.proofs.Laws.Base.Versions.{version1_plain}
use Rattle.sector_rules.proofs.Laws.Rewrite.Judged.{rewrite_short, rewrite_arguments_lem, rewrite_header, rewrite_table}
use Rattle.sectors.specs.Laws.Rewriting.Answered.{arguments_unplaced, arguments_unlike, arguments_placed, call_kept, call_answered}
use Rattle.sectors.proofs.rewriting.rewrite.Goals as goal

pub returns-then-hfe-lt-LEAST_HFE : goal.returns-then-hfe-lt-LEAST_HFE
returns-then-hfe-lt-LEAST_HFE c = let e = rewrite_short c.args.hfe.now c.args.track c.args.head c.args.sector c.args.content.now
    c.if-hfe-lt-LEAST_HFE.true in (sym e, call_kept _ _ _ _ _ _ e (λ z. omega arith))

pub returns-in_default : goal.returns-in_default
returns-in_default c =
    let e = rewrite_arguments_lem c.args.hfe.now c.args.track c.args.head c.args.sector c.args.content.now (omega arith)
    (arguments_unplaced c.args.track c.args.head c.args.sector c.args.content.now (sym c.in_default.ensures.test)) in
    (sym e, call_kept _ _ _ _ _ _ e (λ z. omega arith))

pub returns-in_default-try_from : goal.returns-in_default-try_from
returns-in_default-try_from c =
    let e = rewrite_arguments_lem c.args.hfe.now c.args.track c.args.head c.args.sector c.args.content.now (omega arith)
    (arguments_unlike c.args.track c.args.head c.args.sector c.args.content.now c.in_default-try_from.ensures.1) in
    (sym e, call_kept _ _ _ _ _ _ e (λ z. omega arith))

pub returns-in-Some-version1_fault : goal.returns-in-Some-version1_fault
returns-in-Some-version1_fault c = let e = rewrite_header c.args.hfe.now c.args.track c.args.head c.args.sector c.args.content.now
    (omega arith) (arguments_placed c.args.track c.args.head c.args.sector c.args.content.now (sym c.in-Some.ensures.test) c.in-Ok.ensures.1.long) _
    (sym c.version1_fault.ensures ∙ c.in-Some-version1_fault.is) in
    (sym e, call_kept _ _ _ _ _ _ e (λ z. omega arith))

pub rewrite_sector-requires : goal.rewrite_sector-requires
rewrite_sector-requires c =
    record {
      table = sym c.table_fault.ensures ∙ c.in_default-table_fault.is;
      version = version1_plain _ (sym c.version1_fault.ensures ∙ c.in_default-version1_fault.is);
    }

pub returns-in-Some-table_fault : goal.returns-in-Some-table_fault
returns-in-Some-table_fault c = let e = rewrite_table c.args.hfe.now c.args.track c.args.head c.args.sector c.args.content.now
    (omega arith) (arguments_placed c.args.track c.args.head c.args.sector c.args.content.now (sym c.in-Some.ensures.test) c.in-Ok.ensures.1.long)
    (sym c.version1_fault.ensures ∙ c.in_default-version1_fault.is) _
    (sym c.table_fault.ensures ∙ c.in-Some-table_fault.is) in (sym e, call_kept _ _ _ _ _ _ e (λ z. omega arith))

pub returns : goal.returns
returns c =
    call_answered _ _ _ _ _ (omega arith)
    (arguments_placed c.args.track c.args.head c.args.sector c.args.content.now (sym c.in-Some.ensures.test) c.in-Ok.ensures.1.long)
    (sym c.version1_fault.ensures ∙ c.in_default-version1_fault.is) (sym c.table_fault.ensures ∙ c.in_default-table_fault.is) _ _
    (rw (c.in-Some.ensures.named.0, c.in-Some.ensures.named.1, c.in-Some.ensures.named.2, c.in-Ok.ensures.1.same) at c.rewrite_sector.ensures)
