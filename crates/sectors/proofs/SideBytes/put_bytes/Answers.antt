-- `put_bytes` meets its contract: the first j bytes are written.
-- Rests on: the laws in Rewriting/Changed; the contract of stored_place.
-- Assumes nothing.
use mathlib.Core.Path.{◌≡◌, ap}
use Prim.Native.Nat.{ℕ, ◌+◌, ◌-◌}
use lib.ListN.{get_or}
use Rattle.std.proofs.lemmas.List.{get_or-take, length-take}
use native.Mathlib.Omega.{arith}
use Rattle.sectors.specs.Laws.Rewriting.Changed.{changed, with_none, with_more}
use Rattle.sectors.proofs.SideBytes.put_bytes.Goals as goal

pub loop-j-init : goal.loop-j-init
loop-j-init c = with_none _ _ _ _ _

pub loop-j-preserved : goal.loop-j-preserved
loop-j-preserved c =
    rw (c.stored_place.ensures, get_or-take c.args.self.count c.args.bytes.now c.loop-j.j 0 (omega (arith, length-take c.args.self.count c.args.bytes.now)))
    (with_more _ _ _ _ _ c.args.self.known _ (c.requires.within _ (omega (arith, length-take c.args.self.count c.args.bytes.now))) _ c.loop-j.invariant _
    (let z : c.loop-j.j ≡ c.args.self.first + c.loop-j.j - c.args.self.first = omega arith in ap (λ (i : ℕ). get_or c.args.bytes.now i 0) z))

pub returns : goal.returns
unfolding changed
returns c =
    let e : c.loop-j.j ≡ c.args.self.count = omega (arith, length-take c.args.self.count c.args.bytes.now) in
    rw e at c.loop-j.invariant
