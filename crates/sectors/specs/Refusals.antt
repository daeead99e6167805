-- The replies that the refusals of the calls on HFE images and of place stand for (docs/RULES.md, section 7).
-- Assumes nothing: these are definitions, and laws about them.
use Rattle.std.specs.Prelude.{Result, Ok, Err, ℕ, ◌≡◌, ◌/◌, ◌%◌}
use native.Mathlib.Omega.{arith}
use Rattle.sector_rules.specs.declared.Reply.{Reply}
use Rattle.sector_rules.specs.declared.SectorFault.TheVariants.{Missing, Repeated, NoField, Damaged}
use Rattle.sector_rules.specs.Replies.{reply_with, done, refusal, wrong_hfe, wrong_length}
use Rattle.sector_rules.specs.Geometry.{sides}
use Rattle.sector_rules.specs.Unpacked.{sector_reply}
use Rattle.sectors.specs.declared.refusals.HfeRefusal.{HfeRefusal}
use Rattle.sectors.specs.declared.refusals.HfeRefusal.TheVariants.{HfeLength, ImageLength, HeaderField, TableEntry, BadSector, OutOfRange, Misread, CodeAt}

-- the reply of a refusal: its number and its places (§7.17)
abbrev pub hfe_refused : HfeRefusal → Reply
hfe_refused HfeLength = wrong_hfe
hfe_refused ImageLength = wrong_length
hfe_refused (HeaderField o) = reply_with 2 o 0 0
hfe_refused (TableEntry t) = reply_with 3 t 0 0
hfe_refused (BadSector f m) = sector_reply m (Err f)
hfe_refused OutOfRange = refusal 12
hfe_refused Misread = refusal 17
hfe_refused (CodeAt n p) = reply_with 18 (n / sides) (n % sides) p

-- the reply of a call that names no place where it is done (§7.17)
abbrev pub hfe_replied : Result (Unit {0}) HfeRefusal → Reply
hfe_replied (Ok x) = done
hfe_replied (Err e) = hfe_refused e

-- the reply of a call that names a place where it is done (§7.17)
abbrev pub hfe_replied_place : Result ℕ HfeRefusal → Reply
hfe_replied_place (Ok n) = reply_with 0 n 0 0
hfe_replied_place (Err e) = hfe_refused e

-- the number of a refusal is not 0
pub hfe_refused_number : (e : HfeRefusal) → (hfe_refused e).number ≡ 0 → ⊥
hfe_refused_number HfeLength z = omega (arith, z)
hfe_refused_number ImageLength z = omega (arith, z)
hfe_refused_number (HeaderField o) z = omega (arith, z)
hfe_refused_number (TableEntry t) z = omega (arith, z)
hfe_refused_number (BadSector Missing m) z = omega (arith, z)
hfe_refused_number (BadSector Repeated m) z = omega (arith, z)
hfe_refused_number (BadSector NoField m) z = omega (arith, z)
hfe_refused_number (BadSector Damaged m) z = omega (arith, z)
hfe_refused_number OutOfRange z = omega (arith, z)
hfe_refused_number Misread z = omega (arith, z)
hfe_refused_number (CodeAt n p) z = omega (arith, z)
