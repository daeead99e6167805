-- The placement by value (docs/RULES.md, §1.4 to §1.6): rule_is_table, the two tables that the rule gives; placement_values, the image sectors of eleven
-- sectors; placement_rule, those of all blocks in one line of numbers.
-- Rests on computation alone.
use Rattle.std.specs.Prelude.{◌≡◌, refl, ℕ, ◌/◌, ◌%◌, ◌<◌}
use Rattle.std.proofs.Common.{ap₂, ◌∙◌, arith}
use Rattle.laws.specs.Below.{all}
use Rattle.laws.specs.Lists.{tab}
use Rattle.laws.specs.Laws.All.{all_eq}
use Rattle.sector_rules.specs.Geometry.{running, to_image_sector, side_place, backward}
use Rattle.sector_rules.specs.Values.{side_place_bytes, backward_bytes, placed_at, placements, defined_sectors, table_sectors, sector_by_block}

-- rule_is_table: the rule gives these 18 bytes, and back these 18 (§1.4 §1.6)
pub rule_is_table : (side_place ≡ side_place_bytes) × (backward ≡ backward_bytes)
unfolding side_place backward tab side_place_bytes backward_bytes
rule_is_table = (refl, refl)

-- placement_values: the definition gives the image sector of each row
pub placement_values : defined_sectors placements ≡ table_sectors placements
unfolding defined_sectors table_sectors placements placed_at to_image_sector side_place tab
placement_values = refl

every_sector : (n : ℕ) → n < 1440 → to_image_sector n ≡ sector_by_block (n / 3) (n % 3)
unfolding to_image_sector side_place tab sector_by_block all
every_sector = all_eq to_image_sector (λ (n : ℕ). sector_by_block (n / 3) (n % 3)) 1440 refl

-- placement_rule: each sector of each block is there
pub placement_rule : (b s : ℕ) → b < 480 → s < 3 → to_image_sector (running b s) ≡ sector_by_block b s
placement_rule b s h k =
    let q : running b s / 3 ≡ b = omega arith in
    let r : running b s % 3 ≡ s = omega arith in
    every_sector (running b s) (omega arith) ∙ ap₂ sector_by_block q r
