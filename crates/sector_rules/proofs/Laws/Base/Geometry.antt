-- The placement: its tables' lengths, that they undo each other, that the placement is one-to-one, keeps each sector on its track and begins with 0.
-- Rests on computed tests. Beside these only the laws of the placement's code (sectors, Laws.Reading.Placement) and the statements by value open the tables.
use Rattle.std.specs.Prelude.{◌≡◌, refl, ℕ, ◌+◌, ◌*◌, ◌/◌, ◌%◌, ◌<◌, length, get_or}
use Rattle.std.proofs.Common.{sym, ap, ◌∙◌, lit<}
use Rattle.laws.specs.Below.{all}
use Rattle.laws.specs.Lists.{tab}
use Rattle.laws.specs.Laws.All.{all_eq, all_lt}
use Rattle.laws.specs.Laws.Tab.{tab_length}
use Rattle.sector_rules.specs.Geometry.{sectors, track_sectors, all_sectors, side_place, backward, to_image_sector, to_running_sector}

-- ---- the tables

-- the first table has an entry for each sector of a track
pub side_place_length : length side_place ≡ track_sectors
unfolding side_place
side_place_length = tab_length _ track_sectors

-- and so has the second
pub backward_length : length backward ≡ track_sectors
unfolding backward
backward_length = tab_length _ track_sectors

-- an entry of the first table as a sector of track 0, and back by the second
pub forth_back : (k : ℕ) → k < track_sectors → get_or backward (sectors * (get_or side_place k 0 / 128) + get_or side_place k 0 % 128) 0 ≡ k
unfolding side_place backward tab all
forth_back = all_eq (λ (k : ℕ). get_or backward (sectors * (get_or side_place k 0 / 128) + get_or side_place k 0 % 128) 0) (λ (k : ℕ). k) track_sectors refl

-- an entry of the second table, and back by the first
pub back_forth : (k : ℕ) → k < track_sectors
    → sectors * (get_or side_place (get_or backward k 0) 0 / 128) + get_or side_place (get_or backward k 0) 0 % 128 ≡ k
unfolding side_place backward tab all
back_forth =
    all_eq (λ (k : ℕ). sectors * (get_or side_place (get_or backward k 0) 0 / 128) + get_or side_place (get_or backward k 0) 0 % 128) (λ
    (k : ℕ). k) track_sectors refl

-- ---- the placement

-- the image sector of a running sector is on the disk
pub image_lt : (n : ℕ) → n < all_sectors → to_image_sector n < all_sectors
unfolding to_image_sector side_place tab all
image_lt = all_lt to_image_sector (λ (n : ℕ). all_sectors) all_sectors refl

-- the running sector of an image sector is on the disk
pub running_lt : (m : ℕ) → m < all_sectors → to_running_sector m < all_sectors
unfolding to_running_sector backward tab all
running_lt = all_lt to_running_sector (λ (n : ℕ). all_sectors) all_sectors refl

-- the running sector of the image sector of a running sector is that sector
pub running_image : (n : ℕ) → n < all_sectors → to_running_sector (to_image_sector n) ≡ n
unfolding to_image_sector to_running_sector side_place backward tab all
running_image = all_eq (λ (n : ℕ). to_running_sector (to_image_sector n)) (λ (n : ℕ). n) all_sectors refl

-- the image sector of the running sector of an image sector is that sector
pub image_running : (m : ℕ) → m < all_sectors → to_image_sector (to_running_sector m) ≡ m
unfolding to_image_sector to_running_sector side_place backward tab all
image_running = all_eq (λ (m : ℕ). to_image_sector (to_running_sector m)) (λ (m : ℕ). m) all_sectors refl

-- a sector stays on its track
pub image_track : (n : ℕ) → n < all_sectors → to_image_sector n / track_sectors ≡ n / track_sectors
unfolding to_image_sector side_place tab all
image_track = all_eq (λ (n : ℕ). to_image_sector n / track_sectors) (λ (n : ℕ). n / track_sectors) all_sectors refl

-- the first running sector, which has the header, is the first image sector
pub image_first : to_image_sector 0 ≡ 0
unfolding to_image_sector side_place tab
image_first = refl

-- and back
pub running_first : to_running_sector 0 ≡ 0
running_first = ap to_running_sector (sym image_first) ∙ running_image 0 (lit< tt)
