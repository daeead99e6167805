-- How many of the ways to fill some neighbouring bits of a row have a CRC that holds: at most one in 65,536.
-- Rests on the laws of detectable damage and of rows of bits.
use Rattle.std.specs.Prelude.{◌≡◌, refl, ℕ, ◌+◌, ◌-◌, ◌*◌, ◌/◌, ◌%◌, ◌^◌, ◌≤◌, ◌<◌, leb, ltb, eqb}
use Rattle.std.proofs.Common.{sym, ap, ◌∙◌, arith, shr-shr, pow-add}
use Rattle.laws.specs.Below.{count}
use Rattle.laws.specs.Laws.Cases.{by_order, by_test}
use Rattle.laws.specs.Laws.Tests.{le_true, le_false, lt_true, lt_false, and_true, and_false_left, and_false_right, cond_true, cond_false, true_eq}
use Rattle.laws.specs.Laws.Tests.{eq_true, true≢false}
use Rattle.laws.specs.Laws.Count.{count_cong, count_blocks}
use Rattle.cells.specs.Crc.{crc_start, crc_follows}
use Rattle.cells.specs.Damage.{bits_from, bits_byte, register, filled, burst}
use Rattle.cells.proofs.Laws.Bits.{follows_zero, zero_follows, digits_bits}
use Rattle.cells.proofs.Laws.Caught.{bits_caught, bits_same}

-- ---- a stretch of w + 16 bits

module _ (g : ℕ → ℕ) (a w x : ℕ) where
  filled_in : (i : ℕ) → a ≤ i → i < a + w → filled g a w x i ≡ x / 2 ^ (w - ((i - a) + 1)) % 2
  unfolding filled
  filled_in i l h = cond_true (x / 2 ^ (w - ((i - a) + 1)) % 2) (g i) (and_true (le_true l) (lt_true h))

  filled_before : (i : ℕ) → i < a → filled g a w x i ≡ g i
  unfolding filled
  filled_before i l = cond_false (x / 2 ^ (w - ((i - a) + 1)) % 2) (g i) (and_false_left (ltb i (a + w)) (le_false l))

  filled_after : (i : ℕ) → a + w ≤ i → filled g a w x i ≡ g i
  unfolding filled
  filled_after i l = cond_false (x / 2 ^ (w - ((i - a) + 1)) % 2) (g i) (and_false_right (leb a i) (lt_false l))

  filled_bit : ((i : ℕ) → g i < 2) → (i : ℕ) → filled g a w x i < 2
  filled_bit bit i =
      by_order i a (λ l. rw (filled_before i l) (bit i))
      (λ l. by_order i (a + w) (λ m. rw (filled_in i l m) (omega arith)) (λ m. rw (filled_after i m) (bit i)))

  -- the number that stands in the stretch is x
  filled_number : x < 2 ^ w → bits_from (filled g a w x) a w ≡ x
  filled_number h =
      let z : w - w ≡ 0 = omega arith in
      digits_bits (filled g a w x) a x w h
      (λ j l. let e : (a + j) - a ≡ j = omega arith in filled_in (a + j) (omega arith) (omega arith) ∙ ap (λ (k : ℕ). x / 2 ^ (w - (k + 1)) % 2) e)
      w (omega arith)
      ∙ rw z (omega arith)

module _ (s n : ℕ) (g : ℕ → ℕ) (bit : (i : ℕ) → g i < 2) (a w : ℕ) (fits : a + (w + 16) ≤ n) where
  -- two fillings that differ in their last 16 bits alone
  same_block : (x y : ℕ) → x < 2 ^ (w + 16) → y < 2 ^ (w + 16) → x / 65536 ≡ y / 65536
      → register s (filled g a (w + 16) x) n ≡ 0 → register s (filled g a (w + 16) y) n ≡ 0 → x ≡ y
  same_block x y hx hy e zx zy =
      sym (filled_number g a (w + 16) x hx)
      ∙ bits_same (filled g a (w + 16) x) (filled g a (w + 16) y) (w + 16) a (λ i l h. same i (omega arith))
      ∙ filled_number g a (w + 16) y hy
    where
      high : (i : ℕ) → a ≤ i → i < a + w → (z : ℕ) → z / 2 ^ ((w + 16) - ((i - a) + 1)) % 2 ≡ z / 65536 / 2 ^ (w - ((i - a) + 1)) % 2
      high i l h z =
          let q : (w + 16) - ((i - a) + 1) ≡ 16 + (w - ((i - a) + 1)) = omega arith in
          ap (λ (k : ℕ). z / 2 ^ k % 2) q ∙ ap (λ (v : ℕ). v % 2) (sym (shr-shr z 16 (w - ((i - a) + 1))))

      before : (i : ℕ) → i < n → i < a + w → filled g a (w + 16) x i ≡ filled g a (w + 16) y i
      before i h l =
          by_order i a
          (λ m. filled_before g a (w + 16) x i m ∙ sym (filled_before g a (w + 16) y i m))
          (λ m.
          filled_in g a (w + 16) x i m (omega arith) ∙ high i m l x ∙ ap (λ (v : ℕ). v / 2 ^ (w - ((i - a) + 1)) % 2) e
          ∙ sym (filled_in g a (w + 16) y i m (omega arith) ∙ high i m l y))

      after : (i : ℕ) → i < n → a + w + 16 ≤ i → filled g a (w + 16) x i ≡ filled g a (w + 16) y i
      after i h l = filled_after g a (w + 16) x i (omega arith) ∙ sym (filled_after g a (w + 16) y i (omega arith))

      same : (i : ℕ) → i < n → filled g a (w + 16) x i ≡ filled g a (w + 16) y i
      same =
          bits_caught (filled g a (w + 16) x) (filled g a (w + 16) y) (filled_bit g a (w + 16) x bit) (filled_bit g a (w + 16) y bit) s n zx zy
          (burst (a + w) before after)

  -- of the 2 ^ w * 65,536 fillings at most 2 ^ w bring the register to 0
  pub few_fillings : count (2 ^ w * 65536) (λ (x : ℕ). eqb (register s (filled g a (w + 16) x) n) 0) ≤ 2 ^ w
  few_fillings =
      count_blocks (λ (x : ℕ). eqb (register s (filled g a (w + 16) x) n) 0) 65536 (2 ^ w)
      (λ k x y h l m l' m' t u.
      let p : 2 ^ (w + 16) ≡ 2 ^ w * 65536 = pow-add 2 w 16 in
      same_block x y (omega arith) (omega arith) (omega arith) (true_eq t) (true_eq u))

-- bytes are followed by their CRC exactly where the register comes to 0
follows_test : (f : ℕ → ℕ) → ((i : ℕ) → f i < 2) → (n : ℕ) → crc_follows (bits_byte f) n ≡ eqb (register crc_start f (8 * n + 16)) 0
follows_test f bit n =
    by_test (eqb (register crc_start f (8 * n + 16)) 0)
    (λ t. zero_follows f (bits_byte f) bit n (λ q h. refl) (true_eq t) ∙ sym t)
    (λ t. by_test (crc_follows (bits_byte f) n)
    (λ u. true≢false (eqb (register crc_start f (8 * n + 16)) 0) (eq_true (follows_zero f (bits_byte f) bit n (λ q h. refl) u)) t)
    (λ u. u ∙ sym t))

-- of the 2 ^ w * 65,536 fillings at most 2 ^ w are followed by their CRC
pub fillings : (g : ℕ → ℕ) → ((i : ℕ) → g i < 2) → (n a w : ℕ) → a + (w + 16) ≤ 8 * (n + 2)
    → count (2 ^ w * 65536) (λ (x : ℕ). crc_follows (bits_byte (filled g a (w + 16) x)) n) ≤ 2 ^ w
fillings g bit n a w h =
    let c : count (2 ^ w * 65536) (λ (x : ℕ). crc_follows (bits_byte (filled g a (w + 16) x)) n)
    ≡ count (2 ^ w * 65536) (λ (x : ℕ). eqb (register crc_start (filled g a (w + 16) x) (8 * n + 16)) 0) =
    count_cong (2 ^ w * 65536) (λ (x : ℕ). crc_follows (bits_byte (filled g a (w + 16) x)) n)
    (λ (x : ℕ). eqb (register crc_start (filled g a (w + 16) x) (8 * n + 16)) 0)
    (λ x l. follows_test (filled g a (w + 16) x) (filled_bit g a (w + 16) x bit) n) in
    omega (arith, few_fillings crc_start (8 * n + 16) g bit a w (omega arith))
