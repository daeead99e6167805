-- `name_hash` meets its contract: the hash of the bytes before this one.
use mathlib.Core.Path.{◌≡◌}
use Prim.Native.Nat.{◌<◌}
use Rattle.files.specs.Laws.Loading.NameHashes.{hash_of_first, hash_count}
use Rattle.files.proofs.names.name_hash.Given as goal

abbrev pub invariant-loop-x : goal.invariant-loop-x
invariant-loop-x l = (l.hash < hash_count) × (l.hash ≡ hash_of_first l.name l.x-index)
