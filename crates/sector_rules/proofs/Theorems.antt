-- The promises of this crate. Passed on from the files where they are proved: all but two. Stated here, below: placement_bijective and tables_inverse.
-- Rests on the laws of the placement (Laws.Base.Geometry).

-- rule_is_table: the rule gives the 18 bytes of the table of sides and places and, back, the 18 of the other; placement_values: eleven sectors by block and
-- sector, and the image sector of each; placement_rule: the image sector of every sector of every block, in numbers
pub use Rattle.sector_rules.proofs.Values.{rule_is_table, placement_values, placement_rule}
-- ---- packing and unpacking

-- round_trip: for every block image of 737,280 bytes, what pack gives is accepted by unpack, which gives the same bytes back (RoundTrip.antt)
pub use Rattle.sector_rules.proofs.Laws.Trip.RoundTrip.{round_trip}
-- hfe_header_values: the packed HFE header as a row of bytes, and for its first 26 bytes, with the letters of either version, what 2 names where one of them is
-- one more or one less
pub use Rattle.sector_rules.proofs.Laws.Values.HeaderValues.{hfe_header_values}
-- written_values: the items of a written side beside headers and data, the track table and the unused bytes of a packed image, by value
pub use Rattle.sector_rules.proofs.Laws.Values.WrittenValues.{written_values}
-- reply_values: the lengths that 1 refuses, what 3 judges of a track table, the numbers 4 to 7, each with its places; the limits of the placement call
pub use Rattle.sector_rules.proofs.Laws.Values.ReplyValues.{reply_values}
-- ---- the two versions of HFE images (Versions.antt)

-- version_letters: bytes 0 to 7 decide of which version an image is; others are refused with 2 at 0; a rewrite takes version 1 alone
pub use Rattle.sector_rules.proofs.Laws.Versions.Replies.{version_letters}
-- version_3_plain: where no byte of its sides reads as a code, a version 3 image gets the reply, and gives the block image, that it would with the letters
-- of version 1
pub use Rattle.sector_rules.proofs.Laws.Versions.Plain.{version_3_plain}
-- version_1_cells: the cells of a side of a version 1 image are all that its bytes store; version_3_cells: those of a version 3 image are what its bytes
-- give, half of the track's length of them, and a side without codes gives what a version 1 side does
pub use Rattle.sector_rules.proofs.Laws.Versions.Replies.{version_1_cells, version_3_cells}
-- sectors_read: in either version the cells of the sides decide the reply for the sectors, and the block image has the bytes that they give
pub use Rattle.sector_rules.proofs.Laws.Versions.Sectors.{sectors_read}
-- code_replies: 2 and 3 come first, then in version 3 18 for the first wrong code of all sides, then the sectors
pub use Rattle.sector_rules.proofs.Laws.Versions.Replies.{code_replies}
-- ---- rewriting one sector (Rewriting.antt)

-- rewrite_reads: where rewrite answers 0, header and table of the result are right, this sector gives the data and every other sector what it gave; the cells
-- of data and CRC are those of MFM, and of the other cells and bytes only the clock cell after the CRC may be another
pub use Rattle.sector_rules.proofs.Laws.Rewrite.Reads.{rewrite_reads}
-- rewrite_packs: on a packed image every rewrite with right arguments is done, and gives what pack writes for the block image with that sector
-- replaced
pub use Rattle.sector_rules.proofs.Laws.Rewrite.Packs.{rewrite_packs}
-- rewrite_replies: the replies of rewrite in their order, with numbers and places; the limits of its arguments
pub use Rattle.sector_rules.proofs.Laws.Rewrite.Replies.{rewrite_replies}
-- side_untouched: a side with the same table entry and the same bytes in two images of one version has the same cells in both
pub use Rattle.sector_rules.proofs.Laws.Rewrite.Untouched.{side_untouched}
-- ---- damage (Caught.antt)

-- crc_counted: the test of a header's or field's CRC is, on its data bits, the test that one_in_65536 counts; field_longest: a data field has as many of them
-- as three_caught allows
pub use Rattle.sector_rules.proofs.Caught.{crc_counted, field_longest}
-- field_caught: a delivered field whose data bits differ detectably, one of them wrong, is refused; burst_refused: so is one whose changed cells lie among 32
-- neighbouring ones, a data bit of them wrong
pub use Rattle.sector_rules.proofs.Caught.{field_caught, burst_refused}
-- header_caught: a header that differs detectably is lost, or has no wrong bit
pub use Rattle.sector_rules.proofs.Caught.{header_caught}
-- sector_caught: what is delivered of a sector with a damaged field is what was recorded; side_caught: so on a damaged side
pub use Rattle.sector_rules.proofs.Caught.{sector_caught, side_caught}
-- unpack_caught: an HFE image whose fields are damaged unpacks as before or is refused; unpack_refused: with a wrong bit in such a field it is refused
pub use Rattle.sector_rules.proofs.Caught.{unpack_caught, unpack_refused}
-- packed_caught: a packed image whose sides are damaged unpacks to the block image that was packed, or is refused; packed_burst: so where on each side the
-- changed cells lie among 32 neighbouring ones
pub use Rattle.sector_rules.proofs.Caught.{packed_caught, packed_burst}
-- what the statements here cite
use Rattle.std.specs.Prelude.{◌≡◌, ℕ, ◌+◌, ◌*◌, ◌/◌, ◌%◌, ◌<◌, get_or}
use Rattle.sector_rules.specs.Geometry.{sectors, track_sectors, all_sectors, side_place, backward, to_image_sector, to_running_sector}
use Rattle.sector_rules.proofs.Laws.Base.Geometry.{forth_back, back_forth, image_lt, running_lt, running_image, image_running}

-- ---- stated here

-- the placement maps the 1,440 running sectors onto the 1,440 image sectors, and its inverse undoes it both ways (§1.6)
pub record Bijective : Type 0 where
  pub forth : (n : ℕ) → n < all_sectors → to_image_sector n < all_sectors
  pub back : (m : ℕ) → m < all_sectors → to_running_sector m < all_sectors
  pub forth_then_back : (n : ℕ) → n < all_sectors → to_running_sector (to_image_sector n) ≡ n
  pub back_then_forth : (m : ℕ) → m < all_sectors → to_image_sector (to_running_sector m) ≡ m

-- the placement is one-to-one and onto
pub placement_bijective : Bijective
placement_bijective = record { forth = image_lt; back = running_lt; forth_then_back = running_image; back_then_forth = image_running }

-- the two tables undo each other on track 0, by one computed test each way
pub tables_inverse :
    ((k : ℕ) → k < track_sectors → get_or backward (sectors * (get_or side_place k 0 / 128) + get_or side_place k 0 % 128) 0 ≡ k)
    × ((k : ℕ) → k < track_sectors → sectors * (get_or side_place (get_or backward k 0) 0 / 128) + get_or side_place (get_or backward k 0) 0 % 128 ≡ k)
tables_inverse = (forth_back, back_forth)
