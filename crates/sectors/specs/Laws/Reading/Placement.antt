-- The placement as the code works it out, by side and place: the definition's, which reads the tables.
-- Rests on computed tests of the 18 entries, and on lists that are given by a rule.
use Rattle.std.specs.Prelude.{◌≡◌, refl, List, ℕ, ◌+◌, ◌-◌, ◌*◌, ◌/◌, ◌%◌, ◌<◌, length, get_or}
use Rattle.std.proofs.Common.{sym, ap, ap₂, ◌∙◌, arith}
use Rattle.laws.specs.Below.{all}
use Rattle.laws.specs.Lists.{tab}
use Rattle.laws.specs.Laws.All.{all_eq}
use Rattle.laws.specs.Laws.Tab.{tab_in, eq_tab}
use Rattle.sector_rules.specs.Geometry.{sides, sectors, block_sectors, track_offset, track_sectors, side_place, backward, to_image_sector, to_running_sector}
use Rattle.sector_rules.specs.Geometry.{side_bit, block_pair, block_side, sector_place, side_place_byte, remainder_at}

-- ---- the tables

-- a list of 18 bytes that the rule gives is the first table
pub side_place_is : (t : List ℕ) → length t ≡ track_sectors
    → ((l : ℕ) → l < track_sectors → get_or t l 0 ≡ side_place_byte (l / block_sectors) (l % block_sectors)) → t ≡ side_place
unfolding side_place
side_place_is t = eq_tab t (λ (l : ℕ). side_place_byte (l / block_sectors) (l % block_sectors)) track_sectors

-- and back, the second
pub backward_is : (t : List ℕ) → length t ≡ track_sectors → ((i : ℕ) → i < track_sectors → get_or t i 0 ≡ remainder_at (i / sectors) (i % sectors))
    → t ≡ backward
unfolding backward
backward_is t = eq_tab t (λ (i : ℕ). remainder_at (i / sectors) (i % sectors)) track_sectors

-- the entry of the second table for a side and place
backward_at : (side place : ℕ) → side < sides → place < sectors → get_or backward (sectors * side + place) 0 ≡ remainder_at side place
unfolding backward
backward_at side place h k =
    let a : (sectors * side + place) / sectors ≡ side = omega arith in
    let b : (sectors * side + place) % sectors ≡ place = omega arith in
    tab_in (λ (i : ℕ). remainder_at (i / sectors) (i % sectors)) track_sectors (sectors * side + place) (omega arith) ∙ ap₂ remainder_at a b

-- the side in a byte of the first table is the block's
byte_side : (l : ℕ) → l < track_sectors → get_or side_place l 0 / side_bit ≡ block_side (l / block_sectors)
unfolding side_place tab all
byte_side = all_eq (λ (l : ℕ). get_or side_place l 0 / side_bit) (λ (l : ℕ). block_side (l / block_sectors)) track_sectors refl

-- the place in it is that of sector and block pair
byte_place_lem : (l : ℕ) → l < track_sectors → get_or side_place l 0 % side_bit ≡ sector_place (l % block_sectors) (block_pair (l / block_sectors))
unfolding side_place tab all
byte_place_lem =
    all_eq (λ (l : ℕ). get_or side_place l 0 % side_bit) (λ (l : ℕ). sector_place (l % block_sectors) (block_pair (l / block_sectors))) track_sectors refl

-- what stands at a side and place is a sector of a track
pub remainder_lt : (side place : ℕ) → side < sides → place < sectors → remainder_at side place < track_sectors
remainder_lt side place h k = omega arith

-- ---- the placement

-- the image sector by side and place of the remainder
pub image_by_rule : (n side place : ℕ) → side ≡ block_side (n % track_sectors / block_sectors)
    → place ≡ sector_place (n % track_sectors % block_sectors) (block_pair (n % track_sectors / block_sectors))
    → track_sectors * (n / track_sectors) + sectors * side + (place + track_offset * (n / track_sectors)) % sectors ≡ to_image_sector n
unfolding to_image_sector
image_by_rule n side place e f =
    ap₂ (λ (x y : ℕ). track_sectors * (n / track_sectors) + sectors * x + (y + track_offset * (n / track_sectors)) % sectors)
    (e ∙ sym (byte_side (n % track_sectors) (omega arith))) (f ∙ sym (byte_place_lem (n % track_sectors) (omega arith)))

-- the running sector by the remainder at side and place
pub running_by_rule : (m remainder : ℕ)
    → remainder ≡ remainder_at (m % track_sectors / sectors) ((m % sectors + (sectors - track_offset) * (m / track_sectors)) % sectors)
    → track_sectors * (m / track_sectors) + remainder ≡ to_running_sector m
unfolding to_running_sector
running_by_rule m remainder e =
    ap (λ (x : ℕ). track_sectors * (m / track_sectors) + x) (e ∙ sym (backward_at (m % track_sectors / sectors) _ (omega arith) (omega arith)))
