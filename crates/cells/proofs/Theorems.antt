-- The promises of this crate. Passed on from where they are proved: those of wrong bits and of codes. Stated here, below: what is written is read, three sync
-- bytes in a row stand only where they were written, and values.
-- Rests on the laws of a written row.

-- ---- wrong bits: two lists of bytes that each end with their CRC

-- detectable_caught: they are the same where their bits differ detectably; by its three cases, among 16 neighbouring bits alone, at three places at most of up
-- to 4,144, at an odd number of places
pub use Rattle.cells.proofs.Caught.{detectable_caught, burst_caught, three_caught, odd_caught}
-- crc_zero: bytes are followed by their CRC exactly if the register is 0 after all bits, the CRC's own among them
pub use Rattle.cells.proofs.Caught.{crc_zero}
-- one_in_65536: where 16 or more neighbouring bits are replaced in all ways, at most one way in 65,536 is followed by its CRC
pub use Rattle.cells.proofs.Caught.{one_in_65536}
-- seventeen_pass: four wrong bits among 17 can pass
pub use Rattle.cells.proofs.Caught.{seventeen_pass}
-- ---- codes among the bytes of a side (CodeValues.antt)

-- code_values: codes and counts as they are stored, what bytes with codes give, and wrong codes with their places, by value
pub use Rattle.cells.proofs.Laws.CodeValues.{code_values}
-- code_steps: what each code, with the bytes that belong to it, and each byte of data gives, whatever follows
pub use Rattle.cells.proofs.Laws.CodeSteps.{code_steps}
-- what the statements here cite
use Rattle.std.specs.Prelude.{[], ◌∷◌, ◌≡◌, refl, true, ℕ, ◌*◌, ◌/◌, ◌<◌}
use Rattle.std.proofs.Common.{sym, ap, ◌∙◌, add-zero}
use Rattle.laws.specs.Lists.{tab}
use Rattle.cells.specs.Stream.{byte_place, cell_at, stream, hfe_side, from, number, word, data_byte, packed_bits, packed}
use Rattle.cells.specs.Mfm.{bit_of, clock, before, mfm_cell}
use Rattle.cells.specs.Sync.{sync_word, sync_at, three_sync}
use Rattle.cells.specs.Crc.{crc_bit, crc_bits, crc_from, crc}
use Rattle.cells.specs.Written.{item_byte, item_cell, item_word, written, Triple}
use Rattle.cells.specs.declared.Item.{Item}
use Rattle.cells.specs.declared.Item.TheVariants.{Plain, Sync, Index}
use Rattle.cells.proofs.Laws.Number.{byte_from}
use Rattle.cells.proofs.Laws.Sync.{sync_from, three_first, three_second, three_third}
use Rattle.cells.proofs.Laws.Written.{byte_at_lem, sync_here}
use Rattle.cells.proofs.Laws.Triple.{triple_at}

-- ---- stated here

-- any row of n items
module _ (items : ℕ → Item) (n : ℕ) where
  -- byte_back: the byte that was written at item q is read there
  pub byte_back : (q : ℕ) → q < n → item_byte (items q) < 256 → data_byte (from (written items n) (16 * q)) 0 ≡ item_byte (items q)
  byte_back q h hx = byte_from (written items n) (16 * q) 0 ∙ ap (data_byte (written items n)) (add-zero (16 * q)) ∙ byte_at_lem items n q h hx

  -- sync_back: a sync mark that was written is found there
  pub sync_back : (q : ℕ) → q < n → items q ≡ Sync → sync_at (from (written items n) (16 * q)) 0 ≡ true
  sync_back q h e = sync_from (written items n) (16 * q) 0 ∙ ap (sync_at (written items n)) (add-zero (16 * q)) ∙ sync_here items n q h e

  -- triple_only: where three sync bytes are found, at any cell place of either parity, three sync marks were written
  pub triple_only : (i : ℕ) → three_sync (from (written items n) i) ≡ true → (i ≡ 16 * (i / 16)) × Triple items (i / 16)
  triple_only i t =
      triple_at items n i
      (ap (sync_at (written items n)) (sym (add-zero i)) ∙ sym (sync_from (written items n) i 0) ∙ three_first (from (written items n) i) t)
      (sym (sync_from (written items n) i 16) ∙ three_second (from (written items n) i) t)
      (sym (sync_from (written items n) i 32) ∙ three_third (from (written items n) i) t)

-- ---- values to check, by computation

-- the CRC of a header
pub header_crc : crc (0xA1 ∷ 0xA1 ∷ 0xA1 ∷ 0xFE ∷ 0 ∷ 0 ∷ 1 ∷ 2 ∷ []) ≡ 0xCA6F
unfolding crc crc_from crc_bits crc_bit bit_of
header_crc = refl

-- the cells of a gap byte, 4E, after a 0
pub gap_byte_cells : item_word 0 (Plain 0x4E) ≡ 0x9254
unfolding item_word word number tab item_cell mfm_cell before clock bit_of
gap_byte_cells = refl

-- the same as stored
pub gap_stored : tab (packed (item_cell 0 (Plain 0x4E))) 2 ≡ 0x49 ∷ 0x2A ∷ []
unfolding tab packed packed_bits item_cell mfm_cell before clock bit_of
gap_stored = refl

-- the cells of a sync mark, whatever bit it follows
pub sync_cells : (p : ℕ) → item_word p Sync ≡ sync_word
unfolding item_word word number tab item_cell mfm_cell before clock bit_of
sync_cells p = refl

-- the same as stored
pub sync_stored : (p : ℕ) → tab (packed (item_cell p Sync)) 2 ≡ 0x22 ∷ 0x91 ∷ []
unfolding tab packed packed_bits item_cell mfm_cell before clock bit_of
sync_stored p = refl

-- the cells of an index mark, whatever bit it follows
pub index_cells : (p : ℕ) → item_word p Index ≡ 0x5224
unfolding item_word word number tab item_cell mfm_cell before clock bit_of
index_cells p = refl

-- a stored sync mark is read as one
pub sync_read : word (stream (0x22 ∷ 0x91 ∷ []) (hfe_side 0 4)) 0 ≡ sync_word
unfolding word number stream tab cell_at byte_place
sync_read = refl
