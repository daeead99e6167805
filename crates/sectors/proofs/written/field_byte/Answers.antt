-- `field_byte` meets its contract.
-- Rests on: the laws in Packing/Items; the contract of cells::crc_row.
-- Assumes nothing.
use mathlib.Core.Path.{◌≡◌, sym}
use Prim.Native.Nat.{◌+◌, ◌-◌}
use native.Mathlib.Omega.{arith}
use Rattle.sector_rules.specs.Geometry.{sector_bytes}
use Rattle.sectors.specs.Laws.Packing.Items.{row_mark, row_data, row_end, field_crc_lem}
use Rattle.sectors.proofs.written.field_byte.Goals as goal

pub returns-then-k-eq0 : goal.returns-then-k-eq0
returns-then-k-eq0 c = rw c.if-k-eq0.true (sym (row_mark _ _))

pub returns-then-k-le-SECTOR_BYTES : goal.returns-then-k-le-SECTOR_BYTES
returns-then-k-le-SECTOR_BYTES c = sym (row_data _ _ _ (omega arith) (omega arith) (omega arith))

pub returns : goal.returns
returns c =
    let e : c.args.at + sector_bytes - c.args.at ≡ sector_bytes = omega arith in
    rw (c.to_be_bytes.ensures, c.crc_row-crc.ensures, c.crc_row.ensures, e, field_crc_lem c.args.image.now c.args.at (omega arith))
    (row_end c.args.image.now c.args.at c.args.k (omega arith) (omega arith))
