-- `format_bad` meets its contract.
-- Rests on: the laws in Calling/Fresh and Calling/SoundDisk; the contracts of bad_list_right and write_fresh.
-- Assumes nothing.
use mathlib.Core.Path.{refl, sym, ◌∙◌}
use Rattle.files.specs.Laws.Calling.Fresh.{format_length, format_name, format_list, format_accepted}
use Rattle.files.specs.Laws.Calling.SoundDisk.{wrote_refused, wrote_done}
use Rattle.files.proofs.formatting.format_bad.Goals as goal

pub returns-then-image-ne-IMAGE_BYTES : goal.returns-then-image-ne-IMAGE_BYTES
returns-then-image-ne-IMAGE_BYTES c = wrote_refused _ _ _ _ (format_length _ _ c.if-image-ne-IMAGE_BYTES.true) refl

pub returns-then-name-gt-TITLE_MOST : goal.returns-then-name-gt-TITLE_MOST
returns-then-name-gt-TITLE_MOST c =
    wrote_refused _ _ _ _ (format_name _ _ c.if-image-ne-IMAGE_BYTES.false c.if-name-gt-TITLE_MOST.true) refl

pub returns-then-not-bad_list_right : goal.returns-then-not-bad_list_right
returns-then-not-bad_list_right c = wrote_refused _ _ _ _
    (format_list _ _ c.if-image-ne-IMAGE_BYTES.false (sym c.bad_list_right.ensures ∙ c.if-not-bad_list_right.true))
    refl

pub write_fresh-requires : goal.write_fresh-requires
write_fresh-requires c = (c.if-image-ne-IMAGE_BYTES.false, c.if-name-gt-TITLE_MOST.false, sym c.bad_list_right.ensures ∙ c.if-not-bad_list_right.false)

pub returns : goal.returns
returns c = wrote_done _ _ _ _
    (format_accepted _ _ c.if-image-ne-IMAGE_BYTES.false c.if-name-gt-TITLE_MOST.false
    (sym c.bad_list_right.ensures ∙ c.if-not-bad_list_right.false))
    refl c.write_fresh.ensures
