-- `header_byte` meets its contract.
-- Rests on: the laws in Packing/Items and sector_rules::Base/Packed; the contract of cells::crc_row.
-- Assumes nothing.
use Rattle.sector_rules.specs.Packed.{header_row}
use native.Mathlib.Omega.{arith}
use Rattle.sectors.specs.Laws.Packing.Items.{header_row_crc, row_header, with_crc_end}
use Rattle.sectors.proofs.sector_place.SectorPlace.header_byte.Goals as goal

pub returns-then-k-lt5 : goal.returns-then-k-lt5
returns-then-k-lt5 c = row_header _ _ _ _ (omega arith)

pub returns : goal.returns
returns c =
    rw (c.to_be_bytes.ensures, c.crc_row.ensures, header_row_crc)
    (with_crc_end (header_row c.args.self.track c.args.self.head c.args.self.sector) c.args.k (omega arith) (omega arith))
