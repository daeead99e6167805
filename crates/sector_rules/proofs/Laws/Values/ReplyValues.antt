-- Replies by value: the proof of reply_values (ReplyValues.antt).
-- Rests on: the tests of laws; all else is computed.
use Rattle.std.specs.Prelude.{List, ◌∷◌, ◌++◌, ◌≢◌, ◌≡◌, refl, ℕ, ◌≤◌, ◌<◌, length, replicate}
use Rattle.std.proofs.Common.{◌∙◌}
use Rattle.laws.specs.Below.{lowest}
use Rattle.laws.specs.Laws.Tests.{eq_false, lt_true, lt_false, cond_true, cond_false}
use Rattle.laws.specs.Lists.{same, bytes_are, stands_at, tab}
use Rattle.laws.specs.Numbers.{quotient_up, low_first}
use Rattle.laws.specs.Options.{or_else}
use Rattle.sector_rules.specs.Faults.{fault_below, lowest_fault}
use Rattle.sector_rules.specs.Geometry.{side_place, to_image_sector}
use Rattle.sector_rules.specs.HeaderValues.{hfe_header, version3_header}
use Rattle.sector_rules.specs.Hfe.{hfe_signature, version3_signature, is_version1, is_version3, field_fault, format_fault, flag_fault, hfe_header_fault}
use Rattle.sector_rules.specs.Hfe.{entry_place, track_start, track_length, track_unit_bytes, track_good, table_fault}
use Rattle.sector_rules.specs.Packed.{pack_reply}
use Rattle.sector_rules.specs.Replies.{reply_with, unless}
use Rattle.sector_rules.specs.Unpacked.{unpack_reply}
use Rattle.sector_rules.specs.ReplyValues.{with_table, table_reply, good_entries, ReplyValues}

pack_accepted_is : pack_reply 737280 2008064 ≡ reply_with 0 0 0 0
unfolding pack_reply
pack_accepted_is = refl

unpack_short_is : (hfe : List ℕ) (n : ℕ) → length hfe < 1024 → unpack_reply hfe n ≡ reply_with 1 1 0 0
unfolding unpack_reply
unpack_short_is hfe n h = cond_true _ _ (lt_true h)

unpack_length_is : (hfe : List ℕ) (n : ℕ) → 1024 ≤ length hfe → n ≢ 737280 → unpack_reply hfe n ≡ reply_with 1 2 0 0
unfolding unpack_reply
unpack_length_is hfe n h w = cond_false _ _ (lt_false h) ∙ cond_false _ _ (eq_false w)

pack_hfe_is : (n m : ℕ) → m ≢ 2008064 → pack_reply n m ≡ reply_with 1 1 0 0
unfolding pack_reply
pack_hfe_is n m w = cond_false _ _ (eq_false w)

pack_length_is : (n : ℕ) → n ≢ 737280 → pack_reply n 2008064 ≡ reply_with 1 2 0 0
unfolding pack_reply
pack_length_is n w = cond_false _ _ (eq_false w)

table_first : unpack_reply (version3_header ++ (replicate 486 0 ++ (1 ∷ 0 ∷ 0 ∷ 2 ∷ 0x2F ∷ replicate 507 0))) 737280 ≡ reply_with 3 1 0 0
unfolding hfe_header version3_header unpack_reply unless or_else hfe_header_fault is_version1 is_version3 field_fault format_fault flag_fault hfe_signature
    version3_signature stands_at bytes_are same tab low_first table_fault lowest_fault fault_below lowest track_good entry_place track_start
    track_length track_unit_bytes
    quotient_up
table_first = refl

-- reply_values: all of these hold
pub reply_values : ReplyValues
unfolding to_image_sector side_place table_reply with_table hfe_header unpack_reply unless or_else hfe_header_fault is_version1 field_fault
    format_fault flag_fault
    hfe_signature stands_at bytes_are same tab low_first table_fault
    lowest_fault fault_below lowest track_good entry_place track_start track_length track_unit_bytes
    quotient_up good_entries
reply_values =
    record {
      pack_accepted = pack_accepted_is;
      unpack_short = unpack_short_is;
      unpack_length = unpack_length_is;
      pack_hfe_length = pack_hfe_is;
      pack_length = pack_length_is;
      table_judged = refl;
      table_ends = (refl, refl);
      track_ends = refl;
      table_far = refl;
      table_before_codes = table_first;
      last_track = refl;
      sectors_named = refl;
      places_named = refl;
      place_judged = (refl, refl, refl, refl);
    }
