-- Damage of a track, by what is detectable in a row of bits (docs/RULES.md, section 10): what the promises on damage (Caught.antt) are stated with.
-- Of two sides c is what was recorded and d what is read; so are the HFE images h and g. Cells may be changed; none is lost or added.
-- Assumes nothing: these are definitions.
use Rattle.std.specs.Prelude.{Ok, true, false, List, ◌≡◌, ℕ, ◌+◌, ◌*◌, ◌/◌, ◌≤◌, ◌<◌, length, get_or}
use Rattle.cells.specs.Stream.{from}
use Rattle.cells.specs.Sync.{three_sync}
use Rattle.cells.specs.Damage.{data_bit, burst_bits, Detectable}
use Rattle.sector_rules.specs.declared.Found.TheVariants.{One}
use Rattle.sector_rules.specs.Geometry.{tracks, sides, all_sectors}
use Rattle.sector_rules.specs.Search.{header_cells, field_cells, gap_cells, is_header, find_sector, field_at, delivered_bytes}
use Rattle.sector_rules.specs.Hfe.{side_stream}
use Rattle.sector_rules.specs.Unpacked.{track_of, side_of, r_of, sector_at}

-- every cell is 0 or 1, as on each side of an HFE image (§10.1)
abbrev pub Binary : List ℕ → Type 0
Binary c = (i : ℕ) → get_or c i 0 < 2

-- the data bits of a header, from its first sync byte to the end of its CRC (§10.1)
abbrev pub header_bits : ℕ
header_bits = header_cells / 2

-- the data bits of a data field, from its first sync byte to the end of its CRC (§10.1)
abbrev pub field_bits : ℕ
field_bits = field_cells / 2

-- ---- damage of data fields alone

-- a data field whose sync bytes begin at place j, and whose header begins at place i. From the header's first cell to the last one of the field's sync bytes
-- no cell is changed; the field's data bits, those of its mark and CRC among them, differ detectably; every other cell of the side may be changed (§10.3)
pub record FieldDamage (c d : List ℕ) (i j : ℕ) : Type 0 where
  pub long : length c ≡ length d
  pub unchanged : (k : ℕ) → i ≤ k → k < j + 48 → get_or c k 0 ≡ get_or d k 0
  pub bits : Detectable (data_bit (from c j)) (data_bit (from d j)) field_bits

-- the field at place j has the same data bits on both sides, and the same 512 bytes (§10.3)
pub record SameField (c d : List ℕ) (j : ℕ) : Type 0 where
  pub bits : (k : ℕ) → k < field_bits → data_bit (from c j) k ≡ data_bit (from d j) k
  pub bytes : delivered_bytes c (Ok (j + 64)) ≡ delivered_bytes d (Ok (j + 64))

-- the side of the track that image sector m is on (§1.2)
abbrev pub side_with : List ℕ → ℕ → List ℕ
side_with h m = side_stream h (track_of m) (side_of m)

-- of whole images: the field of each sector whose bytes h gives has such damage, or none (§10.3)
pub record ImageFieldDamage (h g : List ℕ) : Type 0 where
  pub each : (m i j : ℕ) → m < all_sectors → find_sector (side_with h m) (track_of m) (side_of m) (r_of m) ≡ One i → sector_at h m ≡ Ok (j + 64)
      → FieldDamage (side_with h m) (side_with g m) i j

-- ---- damage anywhere

-- any cell of the side may be changed, those of headers, gaps and sync bytes too, so that three conditions hold. No run of three sync bytes is in d where c has
-- none: such a run could make a header, or a data field, of what was recorded as data or as a gap. The data bits of each header differ detectably, and so do
-- those of each data field (§10.4)
pub record SideDamage (c d : List ℕ) : Type 0 where
  pub long : length c ≡ length d
  pub no_new_run : (k : ℕ) → three_sync (from d k) ≡ true → three_sync (from c k) ≡ true
  pub headers : (k : ℕ) → is_header (from c k) ≡ true → Detectable (data_bit (from c k)) (data_bit (from d k)) header_bits
  pub fields : (k p : ℕ) → three_sync (from c k) ≡ true → field_at c k ≡ Ok p → Detectable (data_bit (from c k)) (data_bit (from d k)) field_bits

-- of whole images: each side of each track (§10.4)
pub record ImageSideDamage (h g : List ℕ) : Type 0 where
  pub each : (t s : ℕ) → t < tracks → s < sides → SideDamage (side_stream h t s) (side_stream g t s)

-- how a side was recorded: after three sync bytes that begin no header there are no others for as far as a field is looked for after a header (§10.4)
abbrev pub RunsApart : List ℕ → Type 0
RunsApart c =
    (k j : ℕ) → three_sync (from c k) ≡ true → is_header (from c k) ≡ false → k < j → j ≤ k + header_cells + gap_cells → three_sync (from c j) ≡ false

-- ---- one burst

-- the changed cells of the side lie among 32 neighbouring ones, clock cells counted, wherever these are (§10.5)
pub record SideBurst (c d : List ℕ) : Type 0 where
  pub long : length c ≡ length d
  pub first : ℕ
  pub before : (k : ℕ) → k < first → get_or c k 0 ≡ get_or d k 0
  pub after : (k : ℕ) → first + 2 * burst_bits ≤ k → get_or c k 0 ≡ get_or d k 0

-- of whole images: each side of each track, with a place of its own (§10.5)
pub record ImageBurst (h g : List ℕ) : Type 0 where
  pub each : (t s : ℕ) → t < tracks → s < sides → SideBurst (side_stream h t s) (side_stream g t s)
