-- `write_hfe` meets its contract: header, table and tracks.
-- Rests on: the laws in Packing/Runs; the contracts of write_header, write_table and write_tracks.
-- Assumes nothing.
use Rattle.sectors.specs.Laws.Packing.Runs.{image_written}
use Rattle.sectors.proofs.packing.write_hfe.Goals as goal

pub returns : goal.returns
returns c = image_written _ _ _ _ _ c.requires c.write_header.ensures
    c.write_table.ensures c.write_tracks.ensures
