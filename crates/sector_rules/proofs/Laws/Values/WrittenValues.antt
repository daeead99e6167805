-- Written sides and the track table by value: the proof of written_values (WrittenValues.antt).
-- Rests on: the laws of the packed image (Base/Packed); all else is computed.
use Rattle.std.specs.Prelude.{List, ◌≡◌, refl, ℕ, ◌+◌, ◌≤◌, length}
use Rattle.std.proofs.Common.{ap, ◌∙◌, arith}
use Rattle.laws.specs.Laws.Tab.{tab_in, tab_ext}
use Rattle.laws.specs.Lists.{tab, element_at, window}
use Rattle.laws.specs.Numbers.{high_byte, low_byte}
use Rattle.cells.specs.Crc.{crc_bit, crc_bits, crc_from, crc}
use Rattle.cells.specs.Mfm.{bit_of}
use Rattle.sector_rules.specs.Geometry.{image_bytes}
use Rattle.sector_rules.proofs.Laws.Base.Packed.{pack_done, hfe_after}
use Rattle.sector_rules.specs.Packed.{hfe_bytes}
use Rattle.sector_rules.specs.Packed.{span, field_crc, with_crc, sector_item, side_item, hfe_table_byte, hfe_track_byte, hfe_byte, pack_hfe}
use Rattle.sector_rules.specs.Replies.{done}
use Rattle.sector_rules.specs.WrittenValues.{side_row, WrittenValues}

-- a part of a packed image, by the rule for each of its bytes
part_is : (image hfe : List ℕ) → length image ≡ image_bytes → length hfe ≡ hfe_bytes → (i n : ℕ) → i + n ≤ hfe_bytes
    → window (pack_hfe image hfe) i n ≡ tab (λ (k : ℕ). hfe_byte image (i + k)) n
unfolding window element_at
part_is image hfe li lh i n l =
    ap (λ (h : List ℕ). window h i n) (hfe_after image hfe done (pack_done (length image) (length hfe) lh li))
    ∙ tab_ext _ _ n (λ k h. tab_in (hfe_byte image) hfe_bytes (i + k) (omega arith))

-- written_values: all of these hold
pub written_values : WrittenValues
unfolding tab side_row side_item sector_item span with_crc field_crc crc crc_from crc_bits crc_bit bit_of high_byte low_byte hfe_byte hfe_table_byte
    hfe_track_byte
written_values =
    record {
      side_begins = λ t s d. refl;
      sector_begins = λ d. refl;
      sector_ends = λ d. refl;
      side_ends = λ t s d. refl;
      table_written = λ image hfe li lh. (part_is image hfe li lh 512 8 (omega arith), part_is image hfe li lh 828 196 (omega arith));
      ends_unused = λ image hfe li lh. (part_is image hfe li lh 25812 44 (omega arith), part_is image hfe li lh 26068 44 (omega arith));
    }
