-- `Trial::side_reads_right` meets its contract: the sectors below the count are as they must be, and from it on those that are left give what is left.
use Rattle.std.proofs.Common.{◌≡◌, ◌+◌, ◌*◌, ◌<◌, ℕ, true, length}
use Rattle.std.specs.Iterator.Adapters.{zip_first, zip_second}
use Rattle.std.specs.Slice.Iter.{iter_rest}
use Rattle.sector_rules.specs.Geometry.{sectors}
use Rattle.sector_rules.specs.Unpacked.{sector_at}
use Rattle.sectors.specs.Laws.Rewriting.Compared.{GiveFrom}
use Rattle.sectors.specs.Laws.Rewriting.Exchanged.{exchanged, tried}
use Rattle.sectors.proofs.Trial.side_reads_right.Given as goal

abbrev pub invariant-loop-k : goal.invariant-loop-k
invariant-loop-k l =
    ((goal.iterator-loop-k).can_next l.k-iterator × (goal.iterator-loop-k).is_finite l.k-iterator)
    × (l.hfe ≡ l.fn.hfe)
    × GiveFrom (sector_at l.fn.hfe) (sectors * l.n + l.k-iterator.count) (iter_rest (zip_first l.k-iterator.iter))
    × GiveFrom (sector_at (exchanged l.fn.hfe l.self.exchange)) (sectors * l.n + l.k-iterator.count) (iter_rest (zip_second l.k-iterator.iter))
    × (l.k-iterator.count + length (iter_rest (zip_first l.k-iterator.iter)) ≡ sectors)
    × (l.k-iterator.count + length (iter_rest (zip_second l.k-iterator.iter)) ≡ sectors)
    × ((i : ℕ) → i < l.k-iterator.count → tried l.fn.hfe l.self (sectors * l.n + i) ≡ true)
