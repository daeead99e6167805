-- reply_values: the lengths that 1 refuses and its places (§7.1), what 3 judges of a track table (§2.5, §7.3), the numbers 4 to 7 with their places, and
-- 12 of the placement call (§8.3), by value; and that 3 comes before 18 (§7.25).
-- Assumes nothing: these are definitions. The proof is `reply_values` in Laws/Values/ReplyValues.antt.
use Rattle.std.specs.Prelude.{Err, cond, List, [], ◌∷◌, ◌++◌, map, ◌≢◌, ◌≡◌, ℕ, ◌-◌, ◌*◌, ◌%◌, ◌≤◌, ◌<◌, eqb, length, set, replicate}
use Rattle.laws.specs.Lists.{tab}
use Rattle.sector_rules.specs.declared.Reply.{Reply}
use Rattle.sector_rules.specs.declared.SectorFault.TheVariants.{Missing, Repeated, NoField, Damaged}
use Rattle.sector_rules.specs.Geometry.{place_reply}
use Rattle.sector_rules.specs.HeaderValues.{hfe_header, version3_header}
use Rattle.sector_rules.specs.Packed.{pack_reply}
use Rattle.sector_rules.specs.Replies.{reply_with}
use Rattle.sector_rules.specs.Unpacked.{sector_reply, unpack_reply}

-- an image of 1,024 bytes with the header that pack writes and a track table that begins with these bytes; the rest is 0 (§2.4)
unfoldable pub with_table : List ℕ → List ℕ
with_table bytes = hfe_header ++ (replicate 486 0 ++ (bytes ++ replicate (512 - length bytes) 0))

-- the reply of unpack for such an image (§7.3)
unfoldable pub table_reply : List ℕ → Reply
table_reply bytes = unpack_reply (with_table bytes) 737280

-- n good entries: each of two bytes from the image's first byte on (§2.4 §2.5)
unfoldable pub good_entries : ℕ → List ℕ
good_entries n = tab (λ (j : ℕ). cond (eqb (j % 4) 2) 2 0) (4 * n)

-- by value: the lengths that 1 refuses, what 3 judges of a track table, and the numbers 4 to 7, each with its places (§7.1 §7.3 §7.4 §7.5 §7.6 §7.7);
-- the limits of the placement call, and what done names (§7.12 §7.17)
pub record ReplyValues : Type 0 where
  -- pack, done, names no place
  pub pack_accepted : pack_reply 737280 2008064 ≡ reply_with 0 0 0 0
  -- 1: an HFE image to read has 1,024 bytes or more, one to write 2,008,064, and a block image 737,280; the HFE image is judged first
  pub unpack_short : (hfe : List ℕ) (n : ℕ) → length hfe < 1024 → unpack_reply hfe n ≡ reply_with 1 1 0 0
  pub unpack_length : (hfe : List ℕ) (n : ℕ) → 1024 ≤ length hfe → n ≢ 737280 → unpack_reply hfe n ≡ reply_with 1 2 0 0
  pub pack_hfe_length : (n m : ℕ) → m ≢ 2008064 → pack_reply n m ≡ reply_with 1 1 0 0
  pub pack_length : (n : ℕ) → n ≢ 737280 → pack_reply n 2008064 ≡ reply_with 1 2 0 0
  -- 3 names track 0 or, where its entry is good, track 1, whose entry is 0: lengths 0, 2 and 3; of two units and more; a track that ends with the image,
  -- and past it
  pub table_judged : map table_reply
      ([]
      ∷ (0 ∷ 0 ∷ 2 ∷ 0 ∷ [])
      ∷ (0 ∷ 0 ∷ 3 ∷ 0 ∷ [])
      ∷ (0 ∷ 0 ∷ 0 ∷ 4 ∷ [])
      ∷ (0 ∷ 0 ∷ 2 ∷ 4 ∷ [])
      ∷ (1 ∷ 0 ∷ 0 ∷ 2 ∷ [])
      ∷ (1 ∷ 0 ∷ 2 ∷ 2 ∷ [])
      ∷ (2 ∷ 0 ∷ 2 ∷ 0 ∷ [])
      ∷ []) ≡ map (λ (t : ℕ). reply_with 3 t 0 0) (0 ∷ 1 ∷ 0 ∷ 1 ∷ 0 ∷ 1 ∷ 0 ∷ 0 ∷ [])
  -- the entry of track 0 is wholly within the image: here the table begins at byte 1,024
  pub table_ends : (unpack_reply (set hfe_header 18 2 ++ (replicate 998 0 ++ (0 ∷ 0 ∷ 2 ∷ []))) 737280 ≡ reply_with 3 0 0 0)
      × (unpack_reply (set hfe_header 18 2 ++ (replicate 998 0 ++ (0 ∷ 0 ∷ 2 ∷ 0 ∷ []))) 737280 ≡ reply_with 3 1 0 0)
  -- all units of a track are within the image, the last one whole: here a track of two bytes at byte 1,024 (§2.5)
  pub track_ends : map (λ (n : ℕ). unpack_reply (with_table (2 ∷ 0 ∷ 2 ∷ 0 ∷ []) ++ replicate n 0) 737280) (511 ∷ 512 ∷ [])
      ≡ reply_with 3 0 0 0 ∷ reply_with 3 1 0 0 ∷ []
  -- the table's unit has two bytes: at unit 257 it is past the end of this image, which has good entries at unit 1 (§2.3)
  pub table_far : unpack_reply (set (with_table (good_entries 2)) 19 1) 737280 ≡ reply_with 3 0 0 0
  -- 3 comes before 18 (§7.25): the table of a version 3 image, where track 0 has the table's own unit and the entry of track 1 is not good, nor is its first
  -- byte, 2F, a right code
  pub table_before_codes : unpack_reply (version3_header ++ (replicate 486 0 ++ (1 ∷ 0 ∷ 0 ∷ 2 ∷ 0x2F ∷ replicate 507 0))) 737280 ≡ reply_with 3 1 0 0
  -- the last track is judged too
  pub last_track : table_reply (good_entries 79) ≡ reply_with 3 79 0 0
  -- 4 to 7 with track, side and R, for the first and last sectors of sides
  pub sectors_named : map (sector_reply 1439) ((Err Missing) ∷ (Err Repeated) ∷ (Err NoField) ∷ (Err Damaged) ∷ [])
      ≡ reply_with 4 79 1 9 ∷ reply_with 5 79 1 9 ∷ reply_with 6 79 1 9 ∷ reply_with 7 79 1 9 ∷ []
  pub places_named : map (λ (m : ℕ). sector_reply m (Err Missing)) (0 ∷ 8 ∷ 9 ∷ 18 ∷ [])
      ≡ reply_with 4 0 0 1 ∷ reply_with 4 0 0 9 ∷ reply_with 4 0 1 1 ∷ reply_with 4 1 0 1 ∷ []
  -- 12 of the placement call: blocks are 0 to 479, sectors of a block 0 to 2
  pub place_judged : ((place_reply 479 2).number ≡ 0) × (place_reply 0 2 ≡ reply_with 0 6 0 0)
      × (place_reply 480 0 ≡ reply_with 12 0 0 0) × (place_reply 0 3 ≡ reply_with 12 0 0 0)
