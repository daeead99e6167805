-- Codes by value.
-- Rests on the definitions alone: each part is computed.
use Rattle.std.specs.Prelude.{refl}
use Rattle.laws.specs.Lists.{tab}
use Rattle.cells.specs.Stream.{number}
use Rattle.cells.specs.Codes.{byte_cells, reversed_bits, is_code, after_code, expected_after, cells_given, cells_before, at_end, coded_from, coded}
use Rattle.cells.specs.CodeValues.{sample_cells, after_count, after_data, CodeValues}

-- code_values: all of these hold
pub code_values : CodeValues
unfolding tab number byte_cells reversed_bits is_code after_code expected_after cells_given cells_before at_end coded_from coded sample_cells
    after_count after_data
code_values =
    record {
      codes_stored = refl;
      counts_stored = refl;
      bits_reversed = refl;
      low_bits = refl;
      no_code = refl;
      any_rate = refl;
      cells_dropped = refl;
      data_always = refl;
      wrong_codes = refl;
      codes_cut = refl;
      wrong_counts = refl;
      first_named = refl;
    }
