-- A side whose entry and bytes are the same in two images of one version has the same cells in both.
-- Rests on the cells of a side byte by byte (Base).
use Rattle.std.proofs.Common.{sym, ap, ◌∙◌}
use Rattle.laws.specs.Laws.Cases.{by_test}
use Rattle.cells.specs.Codes.{cells_of}
use Rattle.sector_rules.specs.Hfe.{is_version3, track_start, track_length}
use Rattle.sector_rules.specs.Rewriting.{SideUntouched}
use Rattle.sector_rules.proofs.Laws.Base.Versions.{coded_stream}
use Rattle.sector_rules.proofs.Laws.Rewrite.Base.{side_cells_at_lem, cells_same, coded_same}

-- a side with the same entry and the same bytes has the same cells
pub side_untouched : SideUntouched
side_untouched h g t s hs version start long same =
    by_test (is_version3 h)
    (λ v. coded_stream g t s (version ∙ v) ∙ ap cells_of (coded_same h g t s hs start long same) ∙ sym (coded_stream h t s v))
    (λ v.
    side_cells_at_lem g t s (version ∙ v)
    ∙ rw (start, long) (cells_same h g (track_start h t) (track_length h t) s hs same)
    ∙ sym (side_cells_at_lem h t s v))
