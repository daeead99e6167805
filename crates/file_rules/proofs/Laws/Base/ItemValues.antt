-- How the bytes of a batch's list are read, by value (§7.27, §8.18): the proof of item_values (ItemsRead.antt).
-- Rests on computation alone. It stands before the laws that open the definitions, so that a wrong one is refused by a value first.
use Rattle.std.specs.Prelude.{refl}
use Rattle.laws.specs.Lists.{tab, element_at}
use Rattle.laws.specs.Numbers.{big_endian, high_first, high_byte}
use Rattle.file_rules.specs.Items.{is_remove, is_add, name_length, name_end, item_date, data_length, data_start, item_size, item_right, item_name, first_item}
use Rattle.file_rules.specs.Items.{item_before, items_from, read_items}
use Rattle.file_rules.specs.ItemsRead.{item_bytes, list_bytes}
use Rattle.file_rules.specs.ItemsRead.{remove_ab, add_c, add_front, file_c, ItemValues}

-- item_values: lists written out in bytes, and what they are read as
pub item_values : ItemValues
unfolding read_items items_from item_before item_right item_size first_item item_name is_remove is_add name_length name_end item_date data_length data_start
    high_first big_endian element_at tab high_byte item_bytes list_bytes remove_ab add_c add_front file_c
item_values =
    record {
      remove_add = refl;
      add_remove = refl;
      written_so = refl;
      no_items = refl;
      no_data = refl;
      long_data = refl;
      no_name = refl;
      add_no_name = refl;
      name_37 = refl;
      name_255 = refl;
      kind_0 = (refl, refl);
      kind_3 = (refl, refl);
      kind_255 = (refl, refl);
      cut_kind = (refl, refl);
      cut_name = (refl, refl, refl);
      cut_date = (refl, refl);
      cut_length = (refl, refl);
      cut_data = (refl, refl);
      length_most = refl;
      length_high = refl;
      length_second = refl;
      second_wrong = (refl, refl);
      second_length = refl;
      third_wrong = refl;
      first_only = refl;
    }
