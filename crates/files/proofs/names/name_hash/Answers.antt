-- `name_hash` meets its contract: the hash of the bytes before this one.
-- Rests on: the laws in Loading/NameHashes; the contract of lowered_byte.
-- Assumes nothing.
use mathlib.Core.Path.{◌≡◌, ◌∙◌}
use lib.ListN.{length}
use native.Mathlib.Omega.{arith}
use Rattle.files.specs.Laws.Loading.NameHashes.{hash_start, hash_more, hash_whole}
use Rattle.files.proofs.names.name_hash.Goals as goal

pub loop-x-init : goal.loop-x-init
loop-x-init c = (omega arith, hash_start _)

pub loop-x-preserved : goal.loop-x-preserved
loop-x-preserved c = (omega arith, hash_more c.args.name.now c.loop-x.x-index _ _ c.loop-x.invariant.1 (c.from.ensures ∙ c.lowered_byte.ensures))

pub returns : goal.returns
returns c = let e : c.loop-x.x-index ≡ length c.args.name.now = omega arith in
    ((rw e at c.loop-x.invariant.1) ∙ hash_whole c.args.name.now, c.loop-x.invariant.0)
