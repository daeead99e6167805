-- Detectable damage is caught: rows of bits, of bytes and of cells that are both followed by their CRC and differ detectably are the same.
-- Rests on the laws of bursts, of few bits, of odd numbers of bits, and of rows of bits.
use Rattle.std.specs.Prelude.{List, ◌≡◌, eqb, get_or}
use Rattle.std.proofs.Math.Path.{refl, sym, ap}
use Rattle.std.proofs.Common.{ap₂, ◌∙◌}
use Rattle.std.proofs.Math.Bool.{true, false, not}
use Prim.Native.Nat.{ℕ, zero, suc, ◌+◌, ◌*◌, ◌/◌, ◌%◌, ◌^◌, ◌≤◌, ◌<◌}
use native.Mathlib.Omega.{arith}
use Rattle.std.specs.Int.Bits.{bit_xor}
use Rattle.laws.specs.Below.{count, sum}
use Rattle.laws.specs.Laws.Cases.{by_equal}
use Rattle.laws.specs.Laws.Tests.{eq_true, eq_false}
use Rattle.laws.specs.Laws.Count.{count_yes, count_no, count_none}
use Rattle.cells.specs.Stream.{data_byte}
use Rattle.cells.specs.Crc.{crc_start, crc_follows}
use Rattle.cells.specs.Damage.{data_bit, bits_from, bits_byte, register, wrong_bits, burst_bits, Detectable, burst, few, odd}
use Rattle.cells.proofs.Laws.Register.{difference, register_sum}
use Rattle.cells.proofs.Laws.Burst.{burst_none}
use Rattle.cells.proofs.Laws.Odd.{even_number}
use Rattle.cells.proofs.Laws.Few.{few_bits_lem}
use Rattle.cells.proofs.Laws.Bits.{follows_zero, cells_spelled}

-- ---- bits

module _ (f g : ℕ → ℕ) (bf : (i : ℕ) → f i < 2) (bg : (i : ℕ) → g i < 2) where
  wrong_bit : (i : ℕ) → difference f g i < 2
  unfolding difference
  wrong_bit i = omega arith

  right : (i : ℕ) → f i ≡ g i → difference f g i ≡ 0
  unfolding difference
  right i e = omega arith

  right_same : (i : ℕ) → difference f g i ≡ 0 → f i ≡ g i
  unfolding difference
  right_same i e = omega (arith, bf i, bg i)

  wrong : (i : ℕ) → (f i ≡ g i → ⊥) → difference f g i ≡ 1
  unfolding difference
  wrong i e = omega (arith, bf i, bg i)

  -- counted and summed
  wrong_sum : (n : ℕ) → wrong_bits f g n ≡ sum n (difference f g)
  unfolding wrong_bits sum count
  wrong_sum zero = refl
  wrong_sum (suc n) =
      by_equal (f n) (g n)
      (λ r.
      let t : not (eqb (f n) (g n)) ≡ false = ap not (eq_true r) in
      count_no n (λ (i : ℕ). not (eqb (f i) (g i))) t ∙ plus (sum n (difference f g)) (difference f g n) (right n r) (wrong_sum n))
      (λ r.
      let t : not (eqb (f n) (g n)) ≡ true = ap not (eq_false r) in
      count_yes n (λ (i : ℕ). not (eqb (f i) (g i))) t ∙ plus_one (sum n (difference f g)) (difference f g n) (wrong n r) (wrong_sum n))
    where
      plus : {d : ℕ} (s w : ℕ) → w ≡ 0 → d ≡ s → d ≡ s + w
      plus s w e h = omega arith

      plus_one : {d : ℕ} (s w : ℕ) → w ≡ 1 → d ≡ s → suc d ≡ s + w
      plus_one s w e h = omega arith

  wrong_zero : (s n : ℕ) → register s f n ≡ 0 → register s g n ≡ 0 → register 0 (difference f g) n ≡ 0
  wrong_zero s n zf zg = sym (register_sum s f g n) ∙ ap₂ bit_xor zf zg

  -- rows of bits whose registers come to 0 and that differ detectably are the same
  pub bits_caught : (s n : ℕ) → register s f n ≡ 0 → register s g n ≡ 0 → Detectable f g n → (i : ℕ) → i < n → f i ≡ g i
  bits_caught s n zf zg (burst a before after) i h =
      right_same i
      (burst_none (difference f g) wrong_bit a n (λ j l k. right j (before j l k)) (λ j l k. right j (after j l k)) (wrong_zero s n zf zg) i h)
  bits_caught s n zf zg (few l d) i h =
      right_same i (few_bits_lem (difference f g) wrong_bit n l (omega (arith, wrong_sum n)) (wrong_zero s n zf zg) i h)
  bits_caught s n zf zg (odd d) i h =
      absurd (omega (arith, even_number (difference f g) n (wrong_zero s n zf zg), ap (λ (x : ℕ). x % 2) (wrong_sum n)))

-- bits that agree spell the same number
pub bits_same : (f g : ℕ → ℕ) (k m : ℕ) → ((i : ℕ) → m ≤ i → i < m + k → f i ≡ g i) → bits_from f m k ≡ bits_from g m k
unfolding bits_from
bits_same f g zero m e = refl
bits_same f g (suc k) m e =
    ap₂ (λ (x y : ℕ). x * 2 ^ k + y) (e m (omega arith) (omega arith)) (bits_same f g k (suc m) (λ i l h. e i (omega arith) (omega arith)))

-- ---- bytes that bits spell

module _ (f g u v : ℕ → ℕ) (bf : (i : ℕ) → f i < 2) (bg : (i : ℕ) → g i < 2) (n : ℕ)
    (eu : (q : ℕ) → q < n + 2 → u q ≡ bits_byte f q) (ev : (q : ℕ) → q < n + 2 → v q ≡ bits_byte g q) where
  -- the bits of bytes that are followed by their CRC and whose bits differ detectably are the same
  pub spelled_caught : crc_follows u n ≡ true → crc_follows v n ≡ true → Detectable f g (8 * (n + 2))
      → (i : ℕ) → i < 8 * (n + 2) → f i ≡ g i
  spelled_caught hu hv s i h =
      let e : 8 * n + 16 ≡ 8 * (n + 2) = omega arith in
      let zu : register crc_start f (8 * (n + 2)) ≡ 0 = ap (register crc_start f) (sym e) ∙ follows_zero f u bf n eu hu in
      let zv : register crc_start g (8 * (n + 2)) ≡ 0 = ap (register crc_start g) (sym e) ∙ follows_zero g v bg n ev hv in
      bits_caught f g bf bg crc_start (8 * (n + 2)) zu zv s i h

  -- bytes that are followed by their CRC and whose bits differ detectably are the same
  pub bytes_caught : crc_follows u n ≡ true → crc_follows v n ≡ true → Detectable f g (8 * (n + 2))
      → (q : ℕ) → q < n + 2 → u q ≡ v q
  unfolding bits_byte
  bytes_caught hu hv s q h = eu q h ∙ bits_same f g 8 (8 * q) (λ i l k. spelled_caught hu hv s i (omega arith)) ∙ sym (ev q h)

-- ---- cells

-- the data bits of two rows of cells, and the bytes that they spell
module _ (c d : List ℕ) (bc : (i : ℕ) → get_or c i 0 < 2) (bd : (i : ℕ) → get_or d i 0 < 2) (n : ℕ)
    (hc : crc_follows (λ (q : ℕ). data_byte c (16 * q)) n ≡ true) (hd : crc_follows (λ (q : ℕ). data_byte d (16 * q)) n ≡ true)
    (s : Detectable (data_bit c) (data_bit d) (8 * (n + 2))) where
  -- the data bits of cells whose bytes are followed by their CRC and that differ detectably are the same
  pub cells_bits : (i : ℕ) → i < 8 * (n + 2) → data_bit c i ≡ data_bit d i
  unfolding data_bit
  cells_bits i h =
      spelled_caught (data_bit c) (data_bit d) (λ (j : ℕ). data_byte c (16 * j)) (λ (j : ℕ). data_byte d (16 * j))
      (λ j. bc (2 * j + 1)) (λ j. bd (2 * j + 1)) n (λ j l. cells_spelled c j) (λ j l. cells_spelled d j) hc hd s i h

  -- the bytes of cells that are followed by their CRC and whose data bits differ detectably are the same
  pub cells_caught : (q : ℕ) → q < n + 2 → data_byte c (16 * q) ≡ data_byte d (16 * q)
  unfolding data_bit
  cells_caught q h =
      bytes_caught (data_bit c) (data_bit d) (λ (j : ℕ). data_byte c (16 * j)) (λ (j : ℕ). data_byte d (16 * j))
      (λ j. bc (2 * j + 1)) (λ j. bd (2 * j + 1)) n (λ j l. cells_spelled c j) (λ j l. cells_spelled d j) hc hd s q h

-- cells that differ among 32 neighbouring ones alone differ detectably: 16 of these are data cells
pub cells_burst : (c d : List ℕ) (a n : ℕ) → ((k : ℕ) → k < 2 * n → k < a → get_or c k 0 ≡ get_or d k 0)
    → ((k : ℕ) → k < 2 * n → a + 2 * burst_bits ≤ k → get_or c k 0 ≡ get_or d k 0) → Detectable (data_bit c) (data_bit d) n
unfolding data_bit
cells_burst c d a n before after =
    burst (a / 2) (λ i h l. before (2 * i + 1) (omega arith) (omega arith)) (λ i h l. after (2 * i + 1) (omega arith) (omega arith))

-- rows that are the same have no wrong bit
pub wrong_none : (f g : ℕ → ℕ) (n : ℕ) → ((i : ℕ) → i < n → f i ≡ g i) → wrong_bits f g n ≡ 0
unfolding wrong_bits
wrong_none f g n e = count_none n (λ (i : ℕ). not (eqb (f i) (g i))) (λ i h. ap not (eq_true (e i h)))
