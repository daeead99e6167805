-- round_trip (docs/PROMISES.md): for every block image, what packing gives is accepted by unpacking, and gives the image back.
-- Assumes nothing: these are definitions. The proof is `round_trip` in Laws/Trip/RoundTrip.antt.
use Rattle.std.specs.Prelude.{List, ◌≡◌, ℕ, ◌<◌, length, get_or}
use Rattle.sector_rules.specs.Replies.{done}
use Rattle.sector_rules.specs.Geometry.{image_bytes}
use Rattle.sector_rules.specs.Unpacked.{unpack_reply, unpack_image}
use Rattle.sector_rules.specs.Packed.{hfe_bytes, pack_reply, pack_hfe}

-- `image` is any block image of 737,280 bytes, `hfe` and `old` what the lent HFE image and the lent block image held before (§8.2)
abbrev pub RoundTrip : Type 0
RoundTrip =
    (image hfe old : List ℕ) → length image ≡ image_bytes → ((k : ℕ) → get_or image k 0 < 256)
    → length hfe ≡ hfe_bytes → length old ≡ image_bytes
    → (pack_reply (length image) (length hfe) ≡ done)
    × (unpack_reply (pack_hfe image hfe) (length old) ≡ done)
    × (unpack_image (pack_hfe image hfe) old ≡ image)
