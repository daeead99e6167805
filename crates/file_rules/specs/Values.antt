-- A directory entry by its bytes (§6.13). The statements on it and on map records stand in proofs/Values.antt.
-- Assumes nothing.
use Rattle.std.specs.Prelude.{List, ◌∷◌, ◌++◌, ℕ, replicate}

-- the entry of the file ab with date 01020304 (hex) and 256 bytes of data: length 64 + 256, length of the name 2, name and date; all else is zero (§6.13)
unfoldable pub entry_row : List ℕ
entry_row =
    0x00 ∷ 0x00 ∷ 0x01 ∷ 0x40 ∷ (replicate 10 0x00 ++ (0x00 ∷ 0x02 ∷ 0x61 ∷ 0x62 ∷ (replicate 34 0x00 ++ (0x01 ∷ 0x02 ∷ 0x03 ∷ 0x04 ∷ replicate 8 0x00))))
