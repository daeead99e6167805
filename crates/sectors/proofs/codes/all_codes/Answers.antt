-- `all_codes` meets its contract: no side below n has a wrong code.
-- Rests on: the laws in Unpacking/Codes; the contract of side_codes.
-- Assumes nothing.
use mathlib.Core.Path.{◌≡◌}
use Prim.Native.Nat.{◌*◌}
use native.Mathlib.Omega.{arith}
use Rattle.sector_rules.specs.Geometry.{tracks, sides}
use Rattle.sectors.specs.Laws.Unpacking.Codes.{sides_none, sides_right, sides_wrong, sides_done}
use Rattle.sectors.proofs.codes.all_codes.Goals as goal
use Rattle.std.proofs.lemmas.Result.{err_from_is_err_and}
use Rattle.sectors.specs.Refusals.{hfe_refused_number}
use Rattle.std.specs.Prelude.{refl}

pub loop-n-init : goal.loop-n-init
loop-n-init c = (omega arith, sides_none _)

pub returns-in_err-side_codes : goal.returns-in_err-side_codes
returns-in_err-side_codes c = let p = err_from_is_err_and c.from_residual.result c.from_residual.ensures.1 in
    rw (p.1, p.2) (sides_wrong _ c.requires _ _ (omega arith) c.loop-n.invariant.1 (c.in_err-side_codes.ensures) (hfe_refused_number _))

pub loop-n-preserved : goal.loop-n-preserved
loop-n-preserved c = (omega arith, sides_right _ _ _ c.loop-n.invariant.1 (c.in_ok-side_codes.ensures) refl)

pub returns : goal.returns
returns c = let e : c.loop-n.n ≡ tracks * sides = omega arith in
    sides_done _ c.requires (rw e at c.loop-n.invariant.1) _ refl
