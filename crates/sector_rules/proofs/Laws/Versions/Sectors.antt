-- sectors_read: what unpack answers and writes, by the cells of the sides alone.
-- Rests on the laws of the lowest number that passes a test and of lists that are given by a rule.
use Rattle.std.specs.Prelude.{Ok, true, false, ◌≡◌, ℕ, ◌+◌, ◌*◌, ◌/◌, ◌%◌, ◌<◌, length}
use mathlib.Core.List.{List}
use Rattle.std.proofs.Math.Path.{ap}
use Rattle.std.proofs.Common.{◌∙◌}
use native.Mathlib.Omega.{arith}
use Rattle.std.proofs.Math.ListN.{get_or}
use Rattle.laws.specs.Lists.{tab}
use Rattle.laws.specs.Laws.Tests.{cond_true, lt_true, eq_true}
use Rattle.laws.specs.Laws.Lowest.{lowest_none, lowest_some}
use Rattle.laws.specs.Laws.Tab.{tab_length, tab_in}
use Rattle.cells.specs.Stream.{from, data_byte}
use Rattle.sector_rules.specs.Replies.{done}
use Rattle.sector_rules.specs.Geometry.{all_sectors, sector_bytes, image_bytes}
use Rattle.sector_rules.specs.Search.{sector_byte, delivered_bytes}
use Rattle.sector_rules.specs.Unpacked.{sector_at, sector_bytes_at, is_bad, sector_reply, first_bad, sectors_reply, unpack_reply, unpacked_byte, unpack_image}
use Rattle.sector_rules.specs.Versions.{side_cells_of, sector_read, SectorsRead}

module _ (h : List ℕ) where
  first_bad_lem : (m : ℕ) → m < all_sectors → ((k : ℕ) → k < m → is_bad (sector_read h k) ≡ false) → is_bad (sector_read h m) ≡ true → first_bad h ≡ m
  unfolding first_bad sector_at
  first_bad_lem m l before here = lowest_some (λ (k : ℕ). is_bad (sector_at h k)) all_sectors m l before here

  bad_reply : (m : ℕ) → m < all_sectors → ((k : ℕ) → k < m → is_bad (sector_read h k) ≡ false) → is_bad (sector_read h m) ≡ true
      → sectors_reply h ≡ sector_reply m (sector_read h m)
  unfolding sectors_reply sector_at
  bad_reply m l before here = rw (first_bad_lem m l before here) (cond_true (sector_reply m (sector_at h m)) done (lt_true l))

  good_reply : ((k : ℕ) → k < all_sectors → is_bad (sector_read h k) ≡ false) → sectors_reply h ≡ done
  unfolding sectors_reply first_bad sector_at
  good_reply each = rw (lowest_none (λ (k : ℕ). is_bad (sector_at h k)) all_sectors each)

  -- the bytes of a sector whose data stand at place p
  sector_byte_lem : (m p k : ℕ) → k < sector_bytes → sector_read h m ≡ Ok p → get_or (sector_bytes_at h m) k 0 ≡ data_byte (from (side_cells_of h m) p)
      (16 * k)
  unfolding sector_bytes_at sector_at delivered_bytes sector_byte
  sector_byte_lem m p k l e = rw e (tab_in (sector_byte (side_cells_of h m) p) sector_bytes k l)

  module _ (image : List ℕ) (e : (unpack_reply h (length image)).number ≡ 0) where
    written : unpack_image h image ≡ tab (unpacked_byte h) image_bytes
    unfolding unpack_image
    written = cond_true (tab (unpacked_byte h) image_bytes) image (eq_true e)

    image_long : length (unpack_image h image) ≡ image_bytes
    image_long = ap length written ∙ tab_length (unpacked_byte h) image_bytes

    image_byte : (m p k : ℕ) → m < all_sectors → k < sector_bytes → sector_read h m ≡ Ok p
        → get_or (unpack_image h image) (sector_bytes * m + k) 0 ≡ data_byte (from (side_cells_of h m) p) (16 * k)
    unfolding unpacked_byte
    image_byte m p k l n d =
        let a : (sector_bytes * m + k) / sector_bytes ≡ m = omega arith in
        let b : (sector_bytes * m + k) % sector_bytes ≡ k = omega arith in
        ap (λ (x : List ℕ). get_or x (sector_bytes * m + k) 0) written
        ∙ tab_in (unpacked_byte h) image_bytes (sector_bytes * m + k) (omega arith)
        ∙ rw (a, b) (sector_byte_lem m p k n d)

-- the cells of the sides decide what the sectors give, and with it the reply and the block image
pub sectors_read : SectorsRead
sectors_read = record { bad = bad_reply; good = good_reply; whole = image_long; bytes = image_byte }
