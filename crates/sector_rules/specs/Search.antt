-- Headers, the search for a sector, its data field, and what a sector gives, judged alone (docs/RULES.md, section 4).
-- Headers and fields are stated over the cells from a place on.
-- Assumes nothing: these are definitions.
use Rattle.std.specs.Prelude.{Option, Some, None, Result, Ok, Err, Bool, false, cond, ◌&&◌, List, [], ◌∷◌, ◌++◌, ℕ, zero, suc, ◌+◌, ◌*◌, leb, eqb, length}
use Rattle.laws.specs.Lists.{tab}
use Rattle.cells.specs.Stream.{from, data_byte}
use Rattle.cells.specs.Sync.{three_sync}
use Rattle.cells.specs.Crc.{crc_follows}
use Rattle.sector_rules.specs.Geometry.{sector_bytes}
use Rattle.sector_rules.specs.declared.Id.{Id}
use Rattle.sector_rules.specs.declared.Found.{Found}
use Rattle.sector_rules.specs.declared.Found.TheVariants.{One, Nothing, Several}
use Rattle.sector_rules.specs.declared.SectorFault.{SectorFault}
use Rattle.sector_rules.specs.declared.SectorFault.TheVariants.{Missing, Repeated, NoField, Damaged}

-- what stands at a cell place: a header that names a sector, or none (§4.1)
abbrev pub FoundHeader : Type 0
FoundHeader = Option Id

-- what a sector gives, judged alone: the cell place of its 512 bytes, or why there are none (§4.6)
abbrev pub Sector : Type 0
Sector = Result ℕ SectorFault

-- the n bytes at the list's beginning are followed by their CRC (§3.9)
unfoldable pub crc_holds : List ℕ → ℕ → Bool
crc_holds f n = crc_follows (λ (j : ℕ). data_byte f (16 * j)) n

-- the byte after the run of a header (§4.1)
abbrev pub header_mark : ℕ
header_mark = 0xFE

-- the byte after the run of a data field (§4.5)
abbrev pub data_mark : ℕ
data_mark = 0xFB

-- N of a header that belongs to a sector: it stands for 512 bytes (§4.2)
abbrev pub size_code : ℕ
size_code = 2

-- cells of a header: run, FE, C, H, R, N and CRC (§4.1)
abbrev pub header_cells : ℕ
header_cells = 160

-- cells of a data field: run, FB, 512 bytes and CRC (§4.5)
abbrev pub field_cells : ℕ
field_cells = 16 * (4 + sector_bytes + 2)

-- a header stands at the list's beginning: a run, FE, four bytes and their CRC, which holds; all of it is within the list (§4.1)
unfoldable pub is_header : List ℕ → Bool
is_header f = leb header_cells (length f) && three_sync f && eqb (data_byte f 48) header_mark && crc_holds f 8

-- C, H, R and N of a header (§4.1)
unfoldable pub id_of : List ℕ → Id
id_of f = record { c = data_byte f 64; h = data_byte f 80; r = data_byte f 96; n = data_byte f 112 }

-- the header at the list's beginning, or none (§4.1)
unfoldable pub header_of : List ℕ → FoundHeader
header_of f = cond (is_header f) (Some (id_of f)) None

-- a header belongs to sector R of this track and side: C is the track, H the side, R the sector and N is 2 (§4.2)
abbrev pub is_header_of : ℕ → ℕ → ℕ → FoundHeader → Bool
is_header_of t s r (Some id) = eqb id.c t && eqb id.h s && eqb id.n size_code && eqb id.r r
is_header_of t s r None = false

-- a header that belongs to sector R of this track and side stands at cell place i (§4.2)
unfoldable pub header_at : List ℕ → ℕ → ℕ → ℕ → ℕ → Bool
header_at c t s r i = is_header_of t s r (header_of (from c i))

-- the places below n where the test holds, in order (§4.3)
unfoldable pub places_below : (ℕ → Bool) → ℕ → List ℕ
places_below p zero = []
places_below p (suc n) = cond (p n) (places_below p n ++ (n ∷ [])) (places_below p n)

-- what the search answers: no header, one with its place, or several (§4.3)
unfoldable pub found_of : List ℕ → Found
found_of [] = Nothing
found_of (i ∷ []) = One i
found_of (i ∷ (j ∷ xs)) = Several

-- the answer for sector R of this track and side: every cell place is tried (§4.3)
unfoldable pub find_sector : List ℕ → ℕ → ℕ → ℕ → Found
find_sector c t s r = found_of (places_below (header_at c t s r) (length c))

-- what f gives at the first of the n places i, i + 1 .. where the test holds, and none where it holds at none of them (§4.4)
unfoldable pub first : {A : Type 0} → (ℕ → Bool) → (ℕ → A) → A → ℕ → ℕ → A
first p f none zero i = none
first p f none (suc n) i = cond (p i) (f i) (first p f none n (suc i))

-- how many cells after its header a data field may begin at the most (§4.4)
abbrev pub gap_cells : ℕ
gap_cells = 688

-- the field whose run begins at cell place j: present if FB follows and all its cells are before the end (§4.5); what the sector gives by it: its bytes,
-- which begin 64 cells after the run does, a CRC that does not hold, or no field (§4.6)
unfoldable pub field_at : List ℕ → ℕ → Sector
field_at c j =
    cond (leb field_cells (length (from c j)) && eqb (data_byte (from c j) 48) data_mark)
    (cond (crc_holds (from c j) (4 + sector_bytes)) (Ok (j + 64)) (Err Damaged))
    (Err NoField)

-- the field of the header at cell place i: at the first run that begins at the end of its CRC or at most 688 cells after it (§4.4)
unfoldable pub field_of : List ℕ → ℕ → Sector
field_of c i = first (λ (j : ℕ). three_sync (from c j)) (field_at c) (Err NoField) (gap_cells + 1) (i + header_cells)

-- what a sector gives, by the search's answer (§4.6)
unfoldable pub sector_found : List ℕ → Found → Sector
sector_found c (One i) = field_of c i
sector_found c Nothing = Err Missing
sector_found c Several = Err Repeated

-- what sector R of this track and side gives, judged alone (§4.6)
unfoldable pub sector_of : List ℕ → ℕ → ℕ → ℕ → Sector
sector_of c t s r = sector_found c (find_sector c t s r)

-- byte k of the sector whose first byte has its cells at place p (§4.6)
unfoldable pub sector_byte : List ℕ → ℕ → ℕ → ℕ
sector_byte c p k = data_byte (from c p) (16 * k)

-- its 512 bytes, where it gives them (§4.6)
unfoldable pub delivered_bytes : List ℕ → Sector → List ℕ
delivered_bytes c (Ok p) = tab (sector_byte c p) sector_bytes
delivered_bytes c (Err Missing) = []
delivered_bytes c (Err Repeated) = []
delivered_bytes c (Err NoField) = []
delivered_bytes c (Err Damaged) = []

-- what is found at one place more than those that gave the answer: a header found once, or more than once (§4.3)
abbrev pub more_found : Found → ℕ → Found
more_found Nothing i = One i
more_found (One j) i = Several
more_found Several i = Several
