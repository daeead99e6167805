-- Damage of data fields: what is delivered of them is what was delivered before.
-- Rests on the cell layer's laws of detectable damage, on cells that agree (Agree) and on what an answer says (Base.Told).
use Rattle.std.proofs.Math.Bool.{true}
use Rattle.std.specs.Prelude.{Ok, Err, false, cond, List, ◌≡◌, ℕ, ◌+◌, ◌-◌, ◌*◌, ◌/◌, ◌%◌, ◌≤◌, ◌<◌, eqb, length, get_or}
use Rattle.std.proofs.Math.Path.{sym, ap}
use Rattle.std.proofs.Common.{◌∙◌, arith}
use Rattle.std.proofs.Math.Dec.{leb}
use Rattle.laws.specs.Lists.{tab}
use Rattle.laws.specs.Laws.Cases.{by_test}
use Rattle.laws.specs.Laws.Tests.{cond_true, eq_true, and_left}
use Rattle.laws.specs.Laws.Tab.{tab_ext}
use Rattle.cells.specs.Crc.{crc_follows}
use Rattle.cells.specs.Stream.{from, data_byte, hfe_side}
use Rattle.cells.specs.Sync.{three_sync}
use Rattle.cells.specs.Damage.{data_bit, bits_byte, Detectable}
use Rattle.cells.proofs.Laws.Bits.{cells_spelled}
use Rattle.cells.proofs.Laws.Caught.{cells_caught, cells_bits}
use Rattle.cells.proofs.Laws.Codes.{coded_binary}
use Rattle.cells.proofs.Laws.Crc.{follows_cong}
use Rattle.cells.proofs.Laws.Number.{byte_from}
use Rattle.cells.proofs.Laws.Stream.{from_length, from_bit, stream_bit}
use Rattle.sector_rules.specs.declared.Found.TheVariants.{One}
use Rattle.sector_rules.specs.declared.SectorFault.TheVariants.{NoField, Damaged}
use Rattle.sector_rules.specs.Geometry.{all_sectors, image_bytes}
use Rattle.sector_rules.specs.Search.{crc_holds, data_mark, header_cells, field_cells, gap_cells, is_header, id_of, header_at}
use Rattle.sector_rules.specs.Search.{find_sector, field_at, field_of, sector_of, sector_byte, delivered_bytes}
use Rattle.sector_rules.specs.Hfe.{is_version3, track_part, track_length, coded_side, side_stream}
use Rattle.sector_rules.specs.Unpacked.{track_of, side_of, r_of, sector_at, sector_bytes_at, unpack_reply, unpacked_byte, unpack_image}
use Rattle.sector_rules.specs.Damage.{Binary, header_bits, field_bits, FieldDamage, SameField, side_with, ImageFieldDamage}
use Rattle.sector_rules.proofs.Laws.Base.Search.{first_is}
use Rattle.sector_rules.proofs.Laws.Base.Versions.{plain_stream, coded_stream}
use Rattle.sector_rules.proofs.Laws.Base.Told.{field_told, field_place_lem, field_holds, told_header_crc, sector_told, header_told, gap_told, each_place}
use Rattle.sector_rules.proofs.Laws.Damage.Agree.{three_agree, header_agree}

-- the test of a header's or a field's CRC, as the cell layer has it
holds_follows : (f : List ℕ) (n : ℕ) → crc_holds f n ≡ true → crc_follows (λ (q : ℕ). data_byte f (16 * q)) n ≡ true
unfolding crc_holds
holds_follows f n e = e

-- the CRC of a field holds if the bytes that its data bits spell are followed by their CRC
pub holds_bits : (f : List ℕ) (n : ℕ) → crc_holds f n ≡ crc_follows (bits_byte (data_bit f)) n
unfolding crc_holds
holds_bits f n = follows_cong (λ (q : ℕ). data_byte f (16 * q)) (bits_byte (data_bit f)) n (λ q h. cells_spelled f q)

-- ---- one field, two sides

-- a byte of a delivered sector is a byte of its field
sector_byte_lem : (c : List ℕ) (j k : ℕ) → sector_byte c (j + 64) k ≡ data_byte (from c j) (16 * (4 + k))
unfolding sector_byte
sector_byte_lem c j k =
    let z : j + 64 + 16 * k ≡ j + 16 * (4 + k) = omega arith in
    byte_from c (j + 64) (16 * k) ∙ ap (data_byte c) z ∙ sym (byte_from c j (16 * (4 + k)))

module _ (c d : List ℕ) (bc : Binary c) (bd : Binary d) (j : ℕ) (differ : Detectable (data_bit (from c j)) (data_bit (from d j)) field_bits) where
  -- two fields whose CRC holds have the same data bits, and the same bytes
  field_same : crc_holds (from c j) 516 ≡ true → crc_holds (from d j) 516 ≡ true → SameField c d j
  unfolding delivered_bytes
  field_same hc hd =
      record {
        bits =
            cells_bits (from c j) (from d j) (from_bit c j bc) (from_bit d j bd) 516 (holds_follows (from c j) 516 hc) (holds_follows
            (from d j) 516 hd) differ;
        bytes =
            tab_ext (sector_byte c (j + 64)) (sector_byte d (j + 64)) 512
            (λ k l.
            sector_byte_lem c j k
            ∙ cells_caught (from c j) (from d j) (from_bit c j bc) (from_bit d j bd) 516 (holds_follows (from c j) 516 hc)
            (holds_follows (from d j) 516 hd) differ (4 + k) (omega arith)
            ∙ sym (sector_byte_lem d j k));
      }

  -- a field that is delivered before and after detectable damage has the same bits and bytes
  pub fields_same : (p q : ℕ) → field_at c j ≡ Ok p → field_at d j ≡ Ok q → (q ≡ j + 64) × SameField c d j
  fields_same p q ec ed = (sym (field_place_lem d j q ed), field_same (field_holds c j p ec) (field_holds d j q ed))

  -- a field of which a data bit is wrong is refused: as damaged where the mark is still there, else as absent
  pub field_refused : (p k : ℕ) → field_at c j ≡ Ok p → length c ≡ length d → k < field_bits → (data_bit (from c j) k ≡ data_bit (from d j) k → ⊥)
      → field_at d j ≡ cond (eqb (data_byte (from d j) 48) data_mark) (Err Damaged) (Err NoField)
  unfolding field_at
  field_refused p k ec long h wrong =
      let fits : leb field_cells (length (from d j)) ≡ true =
      ap (leb field_cells) (from_length d j ∙ ap (λ (n : ℕ). n - j) (sym long) ∙ sym (from_length c j)) ∙ and_left _ _ (field_told c j p ec).0 in
      by_test (crc_holds (from d j) 516)
      (λ t. absurd (wrong ((field_same (field_holds c j p ec) t).bits k h)))
      (λ t. rw (fits, t))

-- ---- one header, two sides

-- two headers whose data bits differ detectably have the same data bits, and name the same sector
pub header_same : (c d : List ℕ) → Binary c → Binary d → (i : ℕ) → Detectable (data_bit (from c i)) (data_bit (from d i)) header_bits
    → is_header (from c i) ≡ true → is_header (from d i) ≡ true
    → ((k : ℕ) → k < header_bits → data_bit (from c i) k ≡ data_bit (from d i) k) × (id_of (from c i) ≡ id_of (from d i))
unfolding id_of
header_same c d bc bd i differ hc hd = (
  cells_bits (from c i) (from d i) (from_bit c i bc) (from_bit d i bd) 8 (holds_follows (from c i) 8 (told_header_crc (from c i) hc))
      (holds_follows (from d i) 8 (told_header_crc (from d i) hd)) differ,
  λ k. record { c = same 4 (omega arith) k; h = same 5 (omega arith) k; r = same 6 (omega arith) k; n = same 7 (omega arith) k },
)
  where
    same : (q : ℕ) → q < 10 → data_byte (from c i) (16 * q) ≡ data_byte (from d i) (16 * q)
    same q h =
        cells_caught (from c i) (from d i) (from_bit c i bc) (from_bit d i bd) 8 (holds_follows (from c i) 8 (told_header_crc (from c i) hc))
        (holds_follows (from d i) 8 (told_header_crc (from d i) hd)) differ q h

-- ---- one sector, two sides

-- a side that agrees with c from the header at i to the end of the field's sync bytes has header and field there too
module _ (c d : List ℕ) (long : length c ≡ length d) (i k : ℕ)
    (same : (m : ℕ) → i ≤ m → m < i + header_cells + k + 48 → get_or c m 0 ≡ get_or d m 0) where
  field_there : k < gap_cells + 1 → ((j : ℕ) → j < k → three_sync (from c (i + header_cells + j)) ≡ false)
      → three_sync (from c (i + header_cells + k)) ≡ true → field_of d i ≡ field_at d (i + header_cells + k)
  unfolding field_of
  field_there h off on =
      first_is (λ (j : ℕ). three_sync (from d j)) (field_at d) (Err NoField) (gap_cells + 1) (i + header_cells) k h
      (λ j l. sym (agree (i + header_cells + j) (omega arith) (omega arith)) ∙ off j l)
      (sym (agree (i + header_cells + k) (omega arith) (omega arith)) ∙ on)
    where
      agree : (j : ℕ) → i ≤ j → j + 48 ≤ i + header_cells + k + 48 → three_sync (from c j) ≡ three_sync (from d j)
      agree j = three_agree c d long i (i + header_cells + k + 48) same j

  header_there : (t s r q : ℕ) → header_at c t s r i ≡ true → i < length c → find_sector d t s r ≡ One q → q ≡ i
  header_there t s r q e h f =
      sym ((header_told d t s r q f).1 i (omega arith)
      (sym (header_agree c d long i (i + header_cells + k + 48) same t s r i (omega arith) (omega arith)) ∙ e))

one_same : (i k : ℕ) → One i ≡ One k → i ≡ k
one_same i k e = cc

-- a sector whose field is damaged is delivered with the same bytes, or not at all
pub sector_same : (c d : List ℕ) → Binary c → Binary d → (t s r i j q : ℕ) → find_sector c t s r ≡ One i → sector_of c t s r ≡ Ok (j + 64)
    → FieldDamage c d i j → sector_of d t s r ≡ Ok q → (q ≡ j + 64) × SameField c d j
sector_same c d bc bd t s r i j q ei ec g ed =
    let x = sector_told c t s r (j + 64) ec in
    let ix : x.0 ≡ i = one_same x.0 i (sym x.1 ∙ ei) in
    let h = header_told c t s r i ei in
    let w = gap_told c i (j + 64) (ap (field_of c) (sym ix) ∙ x.2) in
    let z : i + header_cells + w.0 + 64 ≡ j + 64 = field_place_lem c (i + header_cells + w.0) (j + 64) w.4 in
    let u : i + header_cells + w.0 ≡ j = omega arith in
    let same : (m : ℕ) → i ≤ m → m < i + header_cells + w.0 + 48 → get_or c m 0 ≡ get_or d m 0 = λ m l n. g.unchanged m l (omega arith) in
    let y = sector_told d t s r q ed in
    let iy : y.0 ≡ i = header_there c d g.long i w.0 same t s r y.0 h.0 h.2 y.1 in
    fields_same c d bc bd j g.bits (j + 64) q (ap (field_at c) (sym u) ∙ w.4)
    (ap (field_at d) (sym u) ∙ sym (field_there c d g.long i w.0 same w.1 w.2 w.3) ∙ ap (field_of d) (sym iy) ∙ y.2)

-- ---- whole images

-- the cells of a side of an HFE image are 0 or 1
pub side_binary : (h : List ℕ) (t s : ℕ) → Binary (side_stream h t s)
unfolding coded_side
side_binary h t s i =
    by_test (is_version3 h)
    (λ v. rw (coded_stream h t s v) (coded_binary _ i))
    (λ v. rw (plain_stream h t s v) (stream_bit (track_part h t) (hfe_side s (track_length h t)) i))

-- a sector's bytes in two images
bytes_by : (h g : List ℕ) (m j q : ℕ) → sector_at h m ≡ Ok (j + 64) → sector_at g m ≡ Ok q
    → (q ≡ j + 64) × SameField (side_with h m) (side_with g m) j → sector_bytes_at h m ≡ sector_bytes_at g m
unfolding sector_bytes_at
bytes_by h g m j q eh eg same =
    ap (delivered_bytes (side_with h m)) eh ∙ same.1.bytes ∙ ap (delivered_bytes (side_with g m)) (sym (eg ∙ ap Ok same.0))

-- images whose sides give the same at each sector have the same bytes at each image sector
pub bytes_each : (h g : List ℕ)
    → ((t s x j q : ℕ) → t < 80 → s < 2 → x < 9 → sector_of (side_stream h t s) t s (x + 1) ≡ Ok (j + 64)
    → sector_of (side_stream g t s) t s (x + 1) ≡ Ok q → (q ≡ j + 64) × SameField (side_stream h t s) (side_stream g t s) j)
    → (m j q : ℕ) → m < all_sectors → sector_at h m ≡ Ok (j + 64) → sector_at g m ≡ Ok q → sector_bytes_at h m ≡ sector_bytes_at g m
unfolding sector_at
bytes_each h g same m j q l eh eg = bytes_by h g m j q eh eg (same (track_of m) (side_of m) (m % 9) j q (omega arith) (omega arith) (omega arith) eh eg)

-- an image sector whose field is damaged is delivered with the same bytes, or not at all
pub sector_told_same : (h g : List ℕ) (m i j q : ℕ) → find_sector (side_with h m) (track_of m) (side_of m) (r_of m) ≡ One i → sector_at h m ≡ Ok (j + 64)
    → FieldDamage (side_with h m) (side_with g m) i j → sector_at g m ≡ Ok q → (q ≡ j + 64) × SameField (side_with h m) (side_with g m) j
unfolding sector_at
sector_told_same h g m i j q ei eh d eg =
    sector_same (side_with h m) (side_with g m) (side_binary h (track_of m) (side_of m)) (side_binary g (track_of m) (side_of m))
    (track_of m) (side_of m) (r_of m) i j q ei eh d eg

-- images whose fields are damaged have the same bytes where both deliver them
pub fields_bytes : (h g : List ℕ) → ImageFieldDamage h g
    → (m j q : ℕ) → m < all_sectors → sector_at h m ≡ Ok (j + 64) → sector_at g m ≡ Ok q → sector_bytes_at h m ≡ sector_bytes_at g m
unfolding sector_at
fields_bytes h g d m j q l eh eg =
    let x = sector_told (side_with h m) (track_of m) (side_of m) (r_of m) (j + 64) eh in
    bytes_by h g m j q eh eg (sector_told_same h g m x.0 j q x.1 eh (d.each m x.0 j l x.1 eh) eg)

-- two images that are both accepted, and whose sectors have the same bytes, unpack to the same block image
pub same_images : (h g image : List ℕ)
    → ((m j q : ℕ) → m < all_sectors → sector_at h m ≡ Ok (j + 64) → sector_at g m ≡ Ok q → sector_bytes_at h m ≡ sector_bytes_at g m)
    → (unpack_reply h (length image)).number ≡ 0 → (unpack_reply g (length image)).number ≡ 0 → unpack_image h image ≡ unpack_image g image
unfolding unpack_image unpacked_byte
same_images h g image same eh eg =
    cond_true (tab (unpacked_byte h) image_bytes) image (eq_true eh)
    ∙ tab_ext (unpacked_byte h) (unpacked_byte g) image_bytes
    (λ k l.
    let m : k / 512 < 1440 = omega arith in
    let x = each_place h (length image) eh (k / 512) m in
    let y = each_place g (length image) eg (k / 512) m in
    ap (λ (b : List ℕ). get_or b (k % 512) 0) (same (k / 512) x.0 (y.0 + 64) m x.1 y.1))
    ∙ sym (cond_true (tab (unpacked_byte g) image_bytes) image (eq_true eg))
