-- `scan` meets its contract: the answers are those of the places below i.
-- Rests on: the laws in Reading/Search; the contracts of Cells::len, header_at, sector_index and more.
-- Assumes nothing.
use mathlib.Core.Path.{◌≡◌, refl, ◌∙◌}
use native.Mathlib.Omega.{arith}
use lib.ListN.{length-set}
use Rattle.sectors.specs.Laws.Reading.Search.{scan_none, scan_all, scan_no, scan_yes}
use Rattle.sectors.proofs.search.scan.Goals as goal
use Rattle.sectors.proofs.search.scan.Goals.{in-Some, in_default}

pub loop-i-init : goal.loop-i-init
loop-i-init c = (omega arith, c.len-places.ensures.0, refl, scan_none _ _ _)

pub loop-i-preserved : goal.loop-i-preserved
loop-i-preserved c = (
  omega arith,
  c.loop-i.invariant.1,
  elim c.match-sector_index.branch [
    | in-Some w ↦ rw w.found-is (simp length-set c.loop-i.invariant.2)
    | in_default w ↦ rw w.found-is c.loop-i.invariant.2
  ],
  elim c.match-sector_index.branch [
    | in-Some w ↦ rw w.found-is
        (scan_yes _ _ _ _ _ _ c.header_at.ensures c.sector_index.ensures c.loop-i.found c.loop-i.invariant.3 _ _
        w.in-Some.is (rw w.in-Some.is at c.sector_index.ensures.inside) c.loop-i.invariant.2 w.more.ensures)
    | in_default w ↦ rw w.found-is
        (scan_no _ _ _ _ _ _ c.header_at.ensures c.sector_index.ensures c.loop-i.found c.loop-i.invariant.3 w.in_default.is)
  ],
)

pub returns : goal.returns
returns c = scan_all _ _ _ _ _
    (let e : c.loop-i.i ≡ c.len-places.result = omega arith in e ∙ c.loop-i.invariant.1)
    c.loop-i.invariant.2 c.loop-i.invariant.3
