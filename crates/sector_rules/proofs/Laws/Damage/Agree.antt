-- Two sides whose cells agree from place a on and below b: bytes, sync bytes and headers that lie there are the same.
-- Rests on the cell layer's laws of numbers and of the sync test.
use Rattle.std.specs.Prelude.{Some, None, Bool, cond, List, ◌≡◌, ℕ, ◌+◌, ◌-◌, ◌*◌, ◌≤◌, ◌<◌, length, get_or}
use Rattle.std.proofs.Math.Bool.{◌&&◌}
use Rattle.std.proofs.Common.{sym, ap, ◌∙◌, arith}
use Rattle.std.proofs.Math.Path.{ap₂}
use Rattle.std.proofs.Math.Dec.{leb, eqb}
use Rattle.cells.specs.Stream.{from, word, data_byte}
use Rattle.cells.specs.Sync.{sync_word, sync_at, three_sync}
use Rattle.cells.proofs.Laws.Crc.{follows_cong}
use Rattle.cells.proofs.Laws.Number.{number_same, byte_from}
use Rattle.cells.proofs.Laws.Stream.{from_length}
use Rattle.cells.proofs.Laws.Sync.{sync_from}
use Rattle.sector_rules.specs.declared.Id.{Id}
use Rattle.sector_rules.specs.Search.{crc_holds, header_mark, header_cells, is_header, id_of, header_of, is_header_of, header_at}

module _ (c d : List ℕ) (long : length c ≡ length d) (a b : ℕ) (e : (k : ℕ) → a ≤ k → k < b → get_or c k 0 ≡ get_or d k 0) where
  byte_agree : (k : ℕ) → a ≤ k → k + 16 ≤ b → data_byte c k ≡ data_byte d k
  unfolding data_byte
  byte_agree k l h = number_same c d 2 (k + 1) (k + 1) 8 (λ j m. e (k + 1 + 2 * j) (omega arith) (omega arith))

  -- a byte whose cells lie there is the same on both sides
  pub byte_agrees : (i k : ℕ) → a ≤ i + k → i + k + 16 ≤ b → data_byte (from c i) k ≡ data_byte (from d i) k
  byte_agrees i k l h = byte_from c i k ∙ byte_agree (i + k) l h ∙ sym (byte_from d i k)

  sync_agree : (k : ℕ) → a ≤ k → k + 16 ≤ b → sync_at c k ≡ sync_at d k
  unfolding sync_at word
  sync_agree k l h =
      ap₂ (λ (n w : ℕ). leb (k + 16) n && eqb w sync_word) long (number_same c d 1 k k 16 (λ j m. e (k + 1 * j) (omega arith) (omega arith)))

  sync_agrees : (i k : ℕ) → a ≤ i + k → i + k + 16 ≤ b → sync_at (from c i) k ≡ sync_at (from d i) k
  sync_agrees i k l h = sync_from c i k ∙ sync_agree (i + k) l h ∙ sym (sync_from d i k)

  -- three sync bytes whose cells lie there stand on both sides or on none
  pub three_agree : (i : ℕ) → a ≤ i → i + 48 ≤ b → three_sync (from c i) ≡ three_sync (from d i)
  unfolding three_sync
  three_agree i l h =
      ap₂ ◌&&◌ (ap₂ ◌&&◌ (sync_agrees i 0 (omega arith) (omega arith)) (sync_agrees i 16 (omega arith) (omega arith)))
      (sync_agrees i 32 (omega arith) (omega arith))

  -- the CRC of n bytes whose cells lie there holds on both sides or on none
  pub holds_agree : (i n : ℕ) → a ≤ i → i + 16 * (n + 2) ≤ b → crc_holds (from c i) n ≡ crc_holds (from d i) n
  unfolding crc_holds
  holds_agree i n l h =
      follows_cong (λ (q : ℕ). data_byte (from c i) (16 * q)) (λ (q : ℕ). data_byte (from d i) (16 * q)) n
      (λ q m. byte_agrees i (16 * q) (omega arith) (omega arith))

  -- from each place on both sides have as many cells
  pub long_agree : (i : ℕ) → length (from c i) ≡ length (from d i)
  long_agree i = from_length c i ∙ ap (λ (n : ℕ). n - i) long ∙ sym (from_length d i)

  is_agree : (i : ℕ) → a ≤ i → i + 160 ≤ b → is_header (from c i) ≡ is_header (from d i)
  unfolding is_header
  is_agree i l h =
      ap₂ ◌&&◌
      (ap₂ ◌&&◌ (ap₂ ◌&&◌ (ap (leb header_cells) (long_agree i)) (three_agree i l (omega arith)))
      (ap (λ (x : ℕ). eqb x header_mark) (byte_agrees i 48 (omega arith) (omega arith))))
      (holds_agree i 8 l (omega arith))

  id_agree : (i : ℕ) → a ≤ i → i + 160 ≤ b → id_of (from c i) ≡ id_of (from d i)
  unfolding id_of
  id_agree i l h =
      λ k. record {
        c = byte_agrees i 64 (omega arith) (omega arith) k;
        h = byte_agrees i 80 (omega arith) (omega arith) k;
        r = byte_agrees i 96 (omega arith) (omega arith) k;
        n = byte_agrees i 112 (omega arith) (omega arith) k;
      }

  -- a header of the sector whose cells lie there stands on both sides or on none
  pub header_agree : (t s r i : ℕ) → a ≤ i → i + 160 ≤ b → header_at c t s r i ≡ header_at d t s r i
  unfolding header_at header_of
  header_agree t s r i l h = ap₂ (λ (x : Bool) (y : Id). is_header_of t s r (cond x (Some y) None)) (is_agree i l h) (id_agree i l h)
