-- `file_blocks` meets its contract: the blocks from b on are placed.
use Rattle.std.proofs.Common.{◌≤◌}
use Rattle.sector_rules.specs.Geometry.{blocks}
use Rattle.files.specs.Laws.Loading.Parts.{PartsFrom}
use Rattle.files.proofs.parts.file_blocks.Given as goal

abbrev pub invariant-loop-b : goal.invariant-loop-b
invariant-loop-b l = (l.b ≤ blocks) × PartsFrom l.row l.map l.f l.b
