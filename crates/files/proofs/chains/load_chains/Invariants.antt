-- `load_chains` meets its contract: the blocks from b on are chained.
use Rattle.std.proofs.Common.{◌≤◌}
use Rattle.sector_rules.specs.Geometry.{blocks}
use Rattle.files.specs.Laws.Loading.Chains.{Chained}
use Rattle.files.proofs.chains.load_chains.Given as goal

abbrev pub invariant-loop-b : goal.invariant-loop-b
invariant-loop-b l = (l.b ≤ blocks) × Chained l.chains.first l.chains.next l.map l.b
