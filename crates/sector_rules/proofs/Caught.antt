-- What is promised of a damaged track: detectable damage of a sector is refused, and never shown as data.
-- Rests on the laws of damage (Laws.Damage) and of one burst (Laws.Burst).
use Rattle.std.specs.Prelude.{Ok, Err, true, cond, List, ◌≢◌, ◌≡◌, refl, ℕ, ◌+◌, ◌*◌, ◌≤◌, ◌<◌, eqb, length, get_or}
use Rattle.std.proofs.Common.{sym, ap, ◌∙◌}
use Rattle.cells.specs.Stream.{from, data_byte}
use Rattle.cells.specs.Crc.{crc_follows}
use Rattle.cells.specs.Damage.{data_bit, bits_byte, burst_bits, longest_row, Detectable}
use Rattle.cells.proofs.Laws.Caught.{cells_burst}
use Rattle.sector_rules.specs.declared.Found.TheVariants.{One}
use Rattle.sector_rules.specs.declared.SectorFault.TheVariants.{NoField, Damaged}
use Rattle.sector_rules.specs.declared.Reply.{Reply}
use Rattle.sector_rules.specs.Geometry.{all_sectors, image_bytes}
use Rattle.sector_rules.specs.Search.{crc_holds, data_mark, field_cells, is_header, id_of, find_sector, field_at, sector_of}
use Rattle.sector_rules.specs.Unpacked.{track_of, side_of, r_of, sector_at, unpack_reply, unpack_image}
use Rattle.sector_rules.specs.Packed.{hfe_bytes, pack_hfe}
use Rattle.sector_rules.specs.Damage.{Binary, header_bits, field_bits, FieldDamage, SameField, side_with}
use Rattle.sector_rules.specs.Damage.{ImageFieldDamage, SideDamage, ImageSideDamage, RunsApart, ImageBurst}
use Rattle.sector_rules.proofs.Laws.Trip.RoundTrip.{round_trip}
use Rattle.sector_rules.proofs.Laws.Base.Told.{each_place}
use Rattle.sector_rules.proofs.Laws.Damage.FieldDamage.{holds_bits, field_refused, header_same, sector_same, same_images, sector_told_same, fields_bytes}
use Rattle.sector_rules.proofs.Laws.Damage.SideDamage.{side_same, sides_bytes}
use Rattle.sector_rules.proofs.Laws.Burst.SideBurst.{bursts_bytes}

-- ---- one field, one header, one sector

-- field_longest: a data field is as long as the row in which three wrong bits are detected
pub field_longest : field_bits ≡ longest_row
field_longest = refl

-- crc_counted: the test of a header's or a field's CRC is, on its data bits, the test that one_in_65536 counts.
-- So of all ways to replace one longer stretch of a field's data bits at most one in 65,536 passes
pub crc_counted : (f : List ℕ) (n : ℕ) → crc_holds f n ≡ crc_follows (bits_byte (data_bit f)) n
crc_counted f n = holds_bits f n

-- field_caught: of a field that was delivered the data bits differ detectably, and bit k is wrong.
-- Judged at its place it is Damaged (7) where its mark reads FB, and NoField (6) where not; never is it delivered
pub field_caught : (c d : List ℕ) → Binary c → Binary d → length c ≡ length d → (j p : ℕ) → field_at c j ≡ Ok p
    → Detectable (data_bit (from c j)) (data_bit (from d j)) field_bits → (k : ℕ) → k < field_bits → data_bit (from c j) k ≢ data_bit (from d j) k
    → field_at d j ≡ cond (eqb (data_byte (from d j) 48) data_mark) (Err Damaged) (Err NoField)
field_caught c d bc bd long j p e differ k h wrong = field_refused c d bc bd j differ p k e long h wrong

-- burst_refused: the same where the changed cells of the field lie among 32 neighbouring ones, clock cells counted
pub burst_refused : (c d : List ℕ) → Binary c → Binary d → length c ≡ length d → (j p a : ℕ) → field_at c j ≡ Ok p
    → ((k : ℕ) → k < field_cells → k < a → get_or (from c j) k 0 ≡ get_or (from d j) k 0)
    → ((k : ℕ) → k < field_cells → a + 2 * burst_bits ≤ k → get_or (from c j) k 0 ≡ get_or (from d j) k 0)
    → (k : ℕ) → k < field_bits → data_bit (from c j) k ≢ data_bit (from d j) k
    → field_at d j ≡ cond (eqb (data_byte (from d j) 48) data_mark) (Err Damaged) (Err NoField)
burst_refused c d bc bd long j p a e before after k h wrong =
    field_caught c d bc bd long j p e (cells_burst (from c j) (from d j) a field_bits before after) k h wrong

-- header_caught: a header whose data bits differ detectably, and which is a header still, has no wrong bit, and names the same sector
pub header_caught : (c d : List ℕ) → Binary c → Binary d → (i : ℕ) → is_header (from c i) ≡ true → is_header (from d i) ≡ true
    → Detectable (data_bit (from c i)) (data_bit (from d i)) header_bits
    → ((k : ℕ) → k < header_bits → data_bit (from c i) k ≡ data_bit (from d i) k) × (id_of (from c i) ≡ id_of (from d i))
header_caught c d bc bd i hc hd differ = header_same c d bc bd i differ hc hd

-- sector_caught: a sector whose field is damaged (FieldDamage) is delivered with the recorded bytes, or not at all
pub sector_caught : (c d : List ℕ) → Binary c → Binary d → (t s r i j q : ℕ) → find_sector c t s r ≡ One i → sector_of c t s r ≡ Ok (j + 64)
    → FieldDamage c d i j → sector_of d t s r ≡ Ok q → (q ≡ j + 64) × SameField c d j
sector_caught c d bc bd t s r i j q ei ec g ed = sector_same c d bc bd t s r i j q ei ec g ed

-- side_caught: so is a sector of a side with damage anywhere (SideDamage), if the side was recorded so that runs of sync bytes are apart
pub side_caught : (c d : List ℕ) → Binary c → Binary d → SideDamage c d → RunsApart c → (t s r j q : ℕ) → sector_of c t s r ≡ Ok (j + 64)
    → sector_of d t s r ≡ Ok q → (q ≡ j + 64) × SameField c d j
side_caught c d bc bd g away t s r j q ec ed = side_same c d bc bd g away t s r j q ec ed

-- ---- whole images

-- unpack_caught: an HFE image whose fields are damaged (FieldDamage) is refused, or it unpacks to the same block image as before
pub unpack_caught : (h g image : List ℕ) → ImageFieldDamage h g → (unpack_reply h (length image)).number ≡ 0 → (unpack_reply g (length image)).number ≡ 0
    → unpack_image h image ≡ unpack_image g image
unpack_caught h g image d eh eg = same_images h g image (fields_bytes h g d) eh eg

-- unpack_refused: where one sector's field is damaged so, and a data bit of it is wrong, the image is refused, whatever became of the other sectors
pub unpack_refused : (h g : List ℕ) (n m i j k : ℕ) → m < all_sectors → find_sector (side_with h m) (track_of m) (side_of m) (r_of m) ≡ One i
    → sector_at h m ≡ Ok (j + 64) → FieldDamage (side_with h m) (side_with g m) i j
    → k < field_bits → data_bit (from (side_with h m) j) k ≢ data_bit (from (side_with g m) j) k → (unpack_reply g n).number ≢ 0
unpack_refused h g n m i j k l ei e d hk wrong eg =
    let y = each_place g n eg m l in
    wrong ((sector_told_same h g m i j (y.0 + 64) ei e d y.1).1.bits k hk)

-- packed_caught: a packed image whose sides have damage anywhere (SideDamage: no new run of three sync bytes, each header and each field differs detectably)
-- is refused, or it unpacks to the block image that was packed
pub packed_caught : (image hfe old g : List ℕ) → length image ≡ image_bytes → ((k : ℕ) → get_or image k 0 < 256) → length hfe ≡ hfe_bytes
    → length old ≡ image_bytes → ImageSideDamage (pack_hfe image hfe) g → (unpack_reply g (length old)).number ≡ 0 → unpack_image g old ≡ image
packed_caught image hfe old g li small lh lo d eg =
    let r = round_trip image hfe old li small lh lo in
    sym (same_images (pack_hfe image hfe) g old (sides_bytes image hfe g li lh d) (ap (λ (x : Reply). x.number) r.1) eg) ∙ r.2

-- packed_burst: a packed image of which the changed cells lie, on each side by itself, among 32 neighbouring ones, wherever these are,
-- is refused, or it unpacks to the block image that was packed. No condition is made on sync bytes, headers or gaps
pub packed_burst : (image hfe old g : List ℕ) → length image ≡ image_bytes → ((k : ℕ) → get_or image k 0 < 256) → length hfe ≡ hfe_bytes
    → length old ≡ image_bytes → ImageBurst (pack_hfe image hfe) g → (unpack_reply g (length old)).number ≡ 0 → unpack_image g old ≡ image
packed_burst image hfe old g li small lh lo d eg =
    let r = round_trip image hfe old li small lh lo in
    sym (same_images (pack_hfe image hfe) g old (bursts_bytes image hfe g li lh d) (ap (λ (x : Reply). x.number) r.1) eg) ∙ r.2
