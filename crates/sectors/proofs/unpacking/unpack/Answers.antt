-- `unpack` meets its contract: each return is a reply of the definition, in its order.
-- Rests on: the laws in sector_rules::Base/Unpacked and Unpacking/SectorsJudged; the contracts of hfe_header_fault, HfeTracks::new
-- and unpack_sides.
-- Assumes nothing.
use mathlib.Core.Path.{sym, ◌∙◌}
use Rattle.sector_rules.proofs.Laws.Base.Unpacked.{short_reply, length_reply, header_reply, table_reply_lem, image_after_lem}
use Rattle.sectors.specs.Laws.Unpacking.SectorsJudged.{sides_reply}
use Rattle.std.proofs.lemmas.Result.{err_from_is_err_and}
use Rattle.sectors.proofs.unpacking.unpack.Goals as goal

pub returns-then-hfe-lt-LEAST_HFE : goal.returns-then-hfe-lt-LEAST_HFE
returns-then-hfe-lt-LEAST_HFE c = let e = short_reply _ _ c.if-hfe-lt-LEAST_HFE.true in (sym e, sym (image_after_lem _ _ _ e))

pub returns-then-image-ne-IMAGE_BYTES : goal.returns-then-image-ne-IMAGE_BYTES
returns-then-image-ne-IMAGE_BYTES c = let e = length_reply _ _ c.if-hfe-lt-LEAST_HFE.false c.if-image-ne-IMAGE_BYTES.true in
    (sym e, sym (image_after_lem _ _ _ e))

pub returns-in-Some : goal.returns-in-Some
returns-in-Some c = let e = header_reply _ _ c.if-hfe-lt-LEAST_HFE.false c.if-image-ne-IMAGE_BYTES.false _
    (sym c.hfe_header_fault.ensures ∙ c.in-Some.is) in
    (sym e, sym (image_after_lem _ _ _ e))

pub unpack_sides-requires : goal.unpack_sides-requires
unpack_sides-requires c = c.if-image-ne-IMAGE_BYTES.false

pub returns-in_err-new : goal.returns-in_err-new
returns-in_err-new c = let p = err_from_is_err_and c.from_residual.result c.from_residual.ensures.1 in
    let wrong = c.in_err-new.ensures in
    let e = table_reply_lem _ _ c.if-hfe-lt-LEAST_HFE.false c.if-image-ne-IMAGE_BYTES.false
    (sym c.hfe_header_fault.ensures ∙ c.in_default.is) _ wrong.1 in
    rw (p.1, p.2, wrong.2) (sym e, sym (image_after_lem _ _ _ e))

pub returns : goal.returns
returns c = let same = c.in_ok-new.ensures in
    let sides = rw same at c.unpack_sides.ensures in
    let e = sides_reply _ _ c.if-hfe-lt-LEAST_HFE.false c.if-image-ne-IMAGE_BYTES.false
    (sym c.hfe_header_fault.ensures ∙ c.in_default.is) (rw same at c.in_ok-new.field-0.good) ∙ sym sides.answer in
    (sym e, sides.after ∙ sym (image_after_lem _ _ _ e))
