-- `load_number` meets its contract.
-- Rests on: the contract of block_byte.
-- Assumes nothing.
use Rattle.std.proofs.Common.{◌≡◌, ℕ, ◌+◌, ◌*◌, arith, add-zero, zero-add}
use Rattle.laws.specs.Numbers.{big_endian}
use Rattle.file_rules.specs.Sizes.{map_start, record_bytes}
use Rattle.file_rules.specs.Disk.{Disk}
use Rattle.file_rules.specs.Map.{number_at}
use Rattle.files.proofs.map.load_number.Goals as goal

-- the number of a record, from its three bytes
three_bytes : (d : Disk) (b x y z r : ℕ) → x ≡ d 0 (map_start + record_bytes * b) → y ≡ d 0 (map_start + record_bytes * b + 1)
    → z ≡ d 0 (map_start + record_bytes * b + 2) → r ≡ x * 65536 + y * 256 + z → r ≡ number_at d b
unfolding number_at big_endian
three_bytes d b x y z r ex ey ez e = rw (add-zero, zero-add, ← ex, ← ey, ← ez) (omega arith)

pub returns : goal.returns
returns c = three_bytes _ _ _ _ _ _ c.block_byte.ensures c.block_byte-2.ensures c.block_byte-3.ensures (omega arith)
