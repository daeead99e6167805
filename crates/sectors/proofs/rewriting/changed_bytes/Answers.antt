-- `changed_bytes` meets its contract.
-- Rests on: the laws in Rewriting/Answered; the contracts of track_length and track_start.
-- Assumes nothing.
use mathlib.Core.Path.{refl, sym}
use borrow.Author.Rules.{rules}
use Rattle.sectors.specs.Laws.Rewriting.Skipped.{unit_start}
use native.Mathlib.Omega.{arith}
use Rattle.sectors.specs.Laws.Rewriting.Answered.{WindowOf, side_cells_length, window_first, window_fits}
use Rattle.sectors.proofs.rewriting.changed_bytes.Goals as goal

pub overflow_sub-left : goal.overflow_sub-left
overflow_sub-left c = let long = side_cells_length c.args.hfe.now c.args.at.track c.args.at.head 0
    c.requires.0 in
    omega (arith, long, c.track_length.ensures, c.requires.1)

pub invariant_of-result : goal.invariant_of-result
invariant_of-result c =
    record {
      near = search rules;
      aligned = rw c.track_start.ensures.0 (unit_start _ _);
      known = c.args.at.head_known;
      within = window_first _ _ _ _ c.requires.0 c.args.at.track_known c.args.at.head_known c.requires.1 (rw (sym c.track_length.ensures) (omega arith));
      few = omega (arith, c.min.ensures);
    }

pub returns : goal.returns
returns c =
    let is : WindowOf _ c.args.hfe.now c.args.at.track c.args.at.head c.args.p =
    record {
      start = c.track_start.ensures.0;
      side = refl;
      first = refl;
      count = rw (sym c.track_length.ensures, sym c.from.ensures) c.min.ensures;
    }
    in
    (is, window_fits _ _ _ _ c.requires.0 c.args.at.track_known c.args.at.head_known c.requires.1 _ is)
