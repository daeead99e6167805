-- `block_byte` meets its contract.
-- Rests on: the laws in Loading/Blocks; the contracts of byte_place and fields::byte.
-- Assumes nothing.
use Rattle.std.proofs.Common.{◌∙◌, sym, arith, add-zero, ⊎_elim}
use Rattle.files.specs.Laws.Loading.Blocks.{disk_in, disk_far, disk_past}
use Rattle.files.proofs.blocks.block_byte.Goals as goal

pub returns-then-o-lt-BLOCK_BYTES : goal.returns-then-o-lt-BLOCK_BYTES
returns-then-o-lt-BLOCK_BYTES c = c.byte.ensures ∙ rw (add-zero, c.byte_place.ensures.0) (sym (disk_in _ _ _ (omega arith) (omega arith)))

pub returns-else-b-lt-BLOCKS : goal.returns-else-b-lt-BLOCKS
returns-else-b-lt-BLOCKS c =
    ⊎_elim (λ p. sym (disk_past _ _ _ p.1)) (λ p. sym (disk_far _ _ _ p)) c.else-b-lt-BLOCKS.either
