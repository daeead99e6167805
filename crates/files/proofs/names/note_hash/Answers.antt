-- `note_hash` meets its contract.
-- Rests on: the laws in Loading/NameHashes; the contracts of name_of and name_hash.
-- Assumes nothing.
use native.Mathlib.Omega.{arith}
use Rattle.std.proofs.Common.{rules, tests, w8}
use Rattle.std.proofs.lemmas.Nat.Bits.{bit_at_set_same, bit_at_set_other}
use Rattle.files.specs.Laws.Loading.NameHashes.{unnoted_new, hashes_more, hash_entry}
use Rattle.files.proofs.names.note_hash.Goals as goal

pub returns : goal.returns
returns c =
    let e = hash_entry _ _ _ _ _ c.requires.1 c.name_of.ensures c.name_hash-hash.ensures.0 in (
      λ t. unnoted_new _ _ _ c.requires.3 _ e c.requires.2 (search (rules, tests)),
      hashes_more _ _ _ c.requires.3 _ e _ (bit_at_set_same w8 _ _ (omega arith)) (bit_at_set_other w8 _ _ (omega arith)),
    )
