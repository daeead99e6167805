-- `sector_reads` meets its contract: each byte that is read is compared.
-- Rests on: the laws in laws::Ranges and Rewriting/Compared; the contracts of sector_cells and Cells::data_byte.
-- Assumes nothing.
use mathlib.Core.Path.{◌∙◌}
use Prim.Native.Nat.{ℕ}
use lib.Dec.{eqb}
use lib.ListN.{get_or}
use native.Mathlib.Omega.{arith}
use Rattle.std.proofs.Common.{rules, tests}
use Rattle.std.proofs.lemmas.Iterator.{YieldsList-from_range}
use Rattle.std.proofs.lemmas.Iterator.Search.{all_from_yields_List}
use Rattle.laws.specs.Laws.Ranges.{all_listed}
use Rattle.sector_rules.specs.Geometry.{sector_bytes}
use Rattle.sector_rules.specs.Hfe.{side_stream}
use Rattle.sector_rules.specs.Search.{sector_byte}
use Rattle.sector_rules.specs.Unpacked.{track_of, side_of}
use Rattle.sectors.specs.Laws.Rewriting.Compared.{rule_same}
use Rattle.sectors.proofs.comparing.sector_reads.Goals as goal

pub returns : goal.returns
unfolding sector_byte
returns c =
    let cells = side_stream c.args.hfe.now (track_of c.args.q) (side_of c.args.q) in
    let test = λ (k : ℕ). eqb (sector_byte cells c.args.p k) (get_or c.args.bytes.now k 0) in
    all_from_yields_List test _ _ c.all.result c.all.ensures.ran (YieldsList-from_range 0 sector_bytes sector_bytes (cc) (omega arith))
    (λ x b q k. rw (← c.sector_cells-cells.ensures) (search (rules, tests)))
    ∙ all_listed test sector_bytes ∙ rule_same (sector_byte cells c.args.p) sector_bytes c.args.bytes.now c.told-bytes
