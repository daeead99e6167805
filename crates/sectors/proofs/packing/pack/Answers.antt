-- `pack` meets its contract.
-- Rests on: the laws in Packing/Items and sector_rules::Base/Packed; the contract of write_hfe.
-- Assumes nothing.
use mathlib.Core.Path.{sym, ◌∙◌}
use lib.ListN.{length}
use Rattle.sector_rules.proofs.Laws.Base.Packed.{pack_done, hfe_after}
use Rattle.sectors.specs.Laws.Packing.Items.{pack_hfe_lem, pack_image}
use Rattle.sectors.proofs.packing.pack.Goals as goal

pub returns-then-hfe-ne-HFE_BYTES : goal.returns-then-hfe-ne-HFE_BYTES
returns-then-hfe-ne-HFE_BYTES c = let e = pack_hfe_lem _ _ c.if-hfe-ne-HFE_BYTES.true in (sym e, sym (hfe_after _ _ _ e))

pub returns-in_default : goal.returns-in_default
returns-in_default c = let e = pack_image (length c.args.image.now) _ c.if-hfe-ne-HFE_BYTES.false c.in_default.ensures.1 in
    (sym e, sym (hfe_after _ _ _ e))

pub write_hfe-requires : goal.write_hfe-requires
write_hfe-requires c = c.if-hfe-ne-HFE_BYTES.false

pub returns : goal.returns
returns c = let e = pack_done (length c.args.image.now) _ c.if-hfe-ne-HFE_BYTES.false c.in-Ok.ensures.1.long in
    (sym e, rw c.in-Ok.ensures.1.same at c.write_hfe.ensures ∙ sym (hfe_after _ _ _ e))
