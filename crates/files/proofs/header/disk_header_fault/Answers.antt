-- `disk_header_fault` meets its contract.
-- Rests on: the laws in Judging/Header, sectors::Reading/Faults and sector_rules::Base/Geometry; the contracts of
-- sectors::Geometry::backward_table, side_place_table, fields::stands_at, sectors::wrong_at, word_fault,
-- length_right and dimensions_fault.
-- Assumes nothing.
use mathlib.Core.Path.{◌∙◌}
use native.Mathlib.Omega.{arith}
use Rattle.sector_rules.specs.Geometry.{side_place, backward}
use Rattle.sector_rules.proofs.Laws.Base.Geometry.{side_place_length, backward_length}
use Rattle.sectors.specs.Laws.Reading.Faults.{first_of_six}
use Rattle.file_rules.specs.Check.{disk_signature, disk_header_fault}
use Rattle.files.specs.Laws.Judging.Header.{bytes_fault, given_fault}
use Rattle.files.proofs.header.disk_header_fault.Goals as goal

pub returns : goal.returns
unfolding disk_header_fault disk_signature
returns c = rw (c.or-5.ensures, c.or-4.ensures, c.or-3.ensures, c.or-2.ensures, c.or.ensures)
    (first_of_six c.wrong_at.result c.dimensions_fault.result c.wrong_at-2.result c.word_fault.result c.wrong_at-3.result c.wrong_at-4.result ∙
    rw (
      bytes_fault _ _ _ 0 disk_signature c.requires (omega arith) c.wrong_at.ensures c.stands_at.ensures,
      c.dimensions_fault.ensures,
      c.wrong_at-2.ensures,
      c.length_right.ensures,
      c.word_fault.ensures,
      given_fault _ _ _ 40 _ side_place c.requires (omega (arith, side_place_length)) c.wrong_at-3.ensures
          c.stands_at-2.ensures c.side_place_table-places.ensures,
      given_fault _ _ _ 58 _ backward c.requires (omega (arith, backward_length)) c.wrong_at-4.ensures c.stands_at-3.ensures c.backward_table-backward.ensures,
    ))
