-- `load_chains` meets its contract: the blocks from b on are chained.
-- Rests on: the laws in Loading/Chains; the contracts of loaded_record and bearer.
-- Assumes nothing.
use Rattle.std.proofs.Common.{◌≡◌, arith, sym, ◌∙◌, ap}
use Rattle.files.specs.Laws.Loading.Chains.{bearer, bearer_told, chain_more, chain_skip}
use Rattle.files.proofs.chains.load_chains.Goals as goal

pub loop-b-init : goal.loop-b-init
loop-b-init c = (omega arith, c.requires)

pub put-requires-in-Some : goal.put-requires-in-Some
put-requires-in-Some c = (omega arith, ((bearer_told _ _ (sym c.in-Some.ensures)).0, omega arith))

pub loop-b-preserved-in-Some : goal.loop-b-preserved-in-Some
loop-b-preserved-in-Some c = (
  omega arith,
  rw (c.put-in-Some.ensures, c.put.ensures, c.get-after.ensures)
      (chain_more _ _ _ _ _ (omega arith) (omega arith) c.loop-b.invariant.1 _
      (ap bearer (sym c.loaded_record.ensures) ∙ sym c.in-Some.ensures)),
)

pub loop-b-preserved : goal.loop-b-preserved
loop-b-preserved c = (
  omega arith,
  chain_skip _ _ _ _ _ (omega arith) (omega arith) c.loop-b.invariant.1
      (ap bearer (sym c.loaded_record.ensures) ∙ sym c.bearer.ensures ∙ c.in_default.is),
)

pub returns : goal.returns
returns c = let e : c.loop-b.b ≡ 0 = omega arith in rw e at c.loop-b.invariant.1
