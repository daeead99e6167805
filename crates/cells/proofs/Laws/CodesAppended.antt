-- Cells that are written after those of a buffer, eight to a byte.
-- Rests on the laws of lists that are given by a rule, and of codes.
use Rattle.cells.specs.Stream.{buffer_side}
use mathlib.Core.List.{List, ◌++◌}
use Rattle.std.specs.Prelude.{◌≡◌, ℕ, ◌+◌, ◌-◌, ◌*◌, ◌/◌, ◌%◌, ◌^◌, ◌≤◌, ◌<◌, length, take, drop, set}
use Rattle.std.proofs.Math.Path.{sym, ap}
use Rattle.std.proofs.Common.{ap₂, ◌∙◌, add_comm, mod-lt, mul-le-mul_right, le_of_suc-le-suc, length-set, length-drop, get_or-set_same, get_or-set_other}
use Rattle.std.proofs.Common.{get_or-drop, pow_pos, pow_mono, shl_exact, shr-shr}
use native.Mathlib.Omega.{arith}
use Rattle.std.proofs.Math.ListN.{get_or}
use Rattle.std.proofs.Math.Seq.{take-append-add}
use Rattle.std.proofs.Math.Pow.{high, low, field, mod-mod-pow}
use Rattle.laws.specs.Lists.{tab}
use Rattle.laws.specs.Laws.Cases.{by_order}
use Rattle.laws.specs.Laws.Tab.{tab_length, tab_in, tab_ext, take_tab, eq_tab}
use Rattle.cells.specs.Stream.{byte_place, cell_at, stream}
use Rattle.cells.specs.Codes.{byte_cells}
use Rattle.cells.proofs.Laws.Stream.{stream_length}
use Rattle.cells.proofs.Laws.Codes.{tab_join}

-- ---- bits of a number

-- the lowest r bits of a number have its bits
bit_mod : (n r t : ℕ) → t < r → n % 2 ^ r / 2 ^ t % 2 ≡ n / 2 ^ t % 2
bit_mod n r t h =
    let e : r ≡ (r - t) + t = omega arith in
    let f : r - t ≡ (r - t - 1) + 1 = omega arith in
    ap (λ (m : ℕ). n % 2 ^ m / 2 ^ t % 2) e ∙ ap (λ (m : ℕ). m % 2) (field n (r - t) t)
    ∙ ap (λ (m : ℕ). n / 2 ^ t % 2 ^ m % 2) f ∙ mod-mod-pow (n / 2 ^ t) (r - t - 1) 1

-- a shift of less than eight bits, as the code does it in 32 bits
pub shifted_one : (k : ℕ) → k < 8 → 1 * 2 ^ k % 2 ^ 32 ≡ 2 ^ k
shifted_one k h = let e : 1 * 2 ^ k ≡ 2 ^ k = omega arith in shl_exact 1 k 32 (omega arith) (omega arith) ∙ e

-- the lowest k bits of x, and those of v above them
module _ (x v k : ℕ) where
  joined_low : (t : ℕ) → t < k → (x % 2 ^ k + v * 2 ^ k) / 2 ^ t % 2 ≡ x / 2 ^ t % 2
  joined_low t h =
      sym (bit_mod (x % 2 ^ k + v * 2 ^ k) k t h)
      ∙ ap (λ (m : ℕ). m / 2 ^ t % 2) (ap (λ (m : ℕ). m % 2 ^ k) (add_comm (x % 2 ^ k) (v * 2 ^ k)) ∙ low v k (mod-lt x (pow_pos k)))
      ∙ bit_mod x k t h

  joined_high : (t : ℕ) → (x % 2 ^ k + v * 2 ^ k) / 2 ^ (k + t) % 2 ≡ v / 2 ^ t % 2
  joined_high t =
      ap (λ (m : ℕ). m % 2)
      (sym (shr-shr (x % 2 ^ k + v * 2 ^ k) k t)
      ∙ ap (λ (m : ℕ). m / 2 ^ t) (ap (λ (m : ℕ). m / 2 ^ k) (add_comm (x % 2 ^ k) (v * 2 ^ k)) ∙ high v k (mod-lt x (pow_pos k))))

  -- they make a number of two bytes
  pub joined_fits : v < 256 → k < 8 → x % 2 ^ k + v * 2 ^ k < 2 ^ 16
  joined_fits hv hk =
      let p : 2 ^ k ≤ 2 ^ 7 = pow_mono {i = k} {j = 7} (omega arith) in
      let m : x % 2 ^ k < 2 ^ k = mod-lt x (pow_pos k) in
      let q : v * 2 ^ k ≤ 255 * 2 ^ k = mul-le-mul_right (2 ^ k) (le_of_suc-le-suc hv) in
      omega arith

  -- they are the same as the code shifts them, in 32 bits
  pub joined_shifted : v < 256 → k < 8 → x % (1 * 2 ^ k % 2 ^ 32) + v * 2 ^ k % 2 ^ 32 ≡ x % 2 ^ k + v * 2 ^ k
  joined_shifted hv hk = ap₂ (λ (a b : ℕ). x % a + b) (shifted_one k hk) (shl_exact 8 k 32 hv (omega arith))

-- ---- cells of a buffer

buffer_cell : List ℕ → ℕ → ℕ
buffer_cell d i = get_or d (i / 8) 0 / 2 ^ (i % 8) % 2

buffer_stream : (d : List ℕ) (n : ℕ) → stream d (buffer_side n) ≡ tab (buffer_cell d) n
unfolding stream cell_at byte_place buffer_cell
buffer_stream d n =
    tab_ext (cell_at d (buffer_side n)) (buffer_cell d) n
    (λ i h. let e : 0 + 256 * (i / 8 / 256) + i / 8 % 256 ≡ i / 8 = omega arith in rw e)

-- a buffer with the number w in byte j and the one after it, lowest byte first
abbrev pub word_written : List ℕ → ℕ → ℕ → List ℕ
word_written d j w = set (set d j (w % 256)) (j + 1) (w / 256)

module _ (d : List ℕ) (j w : ℕ) (room : j + 1 < length d) where
  first_byte : get_or (word_written d j w) j 0 ≡ w % 256
  first_byte =
      get_or-set_other (set d j (w % 256)) (j + 1) j (w / 256) 0 (λ (e : j ≡ j + 1). omega arith)
      ∙ get_or-set_same d j (w % 256) 0 (omega arith)

  second_byte : get_or (word_written d j w) (j + 1) 0 ≡ w / 256
  second_byte = get_or-set_same (set d j (w % 256)) (j + 1) (w / 256) 0 (rw (length-set d j (w % 256)) room)

  byte_before : (i : ℕ) → i < j → get_or (word_written d j w) i 0 ≡ get_or d i 0
  byte_before i h =
      get_or-set_other (set d j (w % 256)) (j + 1) i (w / 256) 0 (λ (e : i ≡ j + 1). omega arith)
      ∙ get_or-set_other d j i (w % 256) 0 (λ (e : i ≡ j). omega arith)

  -- the cells of the two bytes are the bits of the number, lowest first
  word_cell : (t : ℕ) → t < 16 → buffer_cell (word_written d j w) (8 * j + t) ≡ w / 2 ^ t % 2
  unfolding buffer_cell
  word_cell t h =
      by_order t 8
      (λ l.
      let a : (8 * j + t) / 8 ≡ j = omega arith in
      let b : (8 * j + t) % 8 ≡ t = omega arith in
      rw (a, b, first_byte) (bit_mod w 8 t l))
      (λ l.
      let a : (8 * j + t) / 8 ≡ j + 1 = omega arith in
      let b : (8 * j + t) % 8 ≡ t - 8 = omega arith in
      let c : 8 + (t - 8) ≡ t = omega arith in
      rw (a, b, second_byte) (ap (λ (m : ℕ). m % 2) (shr-shr w 8 (t - 8) ∙ ap (λ (m : ℕ). w / 2 ^ m) c)))

module _ (d : List ℕ) (n v w : ℕ) (room : n / 8 + 1 < length d) (e : w ≡ get_or d (n / 8) 0 % 2 ^ (n % 8) + v * 2 ^ (n % 8)) where
  cell_stays : (i : ℕ) → i < n → buffer_cell (word_written d (n / 8) w) i ≡ buffer_cell d i
  unfolding buffer_cell
  cell_stays i h =
      by_order (i / 8) (n / 8)
      (λ l. rw (byte_before d (n / 8) w room (i / 8) l))
      (λ l.
      let a : 8 * (n / 8) + i % 8 ≡ i = omega arith in
      let b : i / 8 ≡ n / 8 = omega arith in
      let c : i % 8 < n % 8 = omega arith in
      ap (buffer_cell (word_written d (n / 8) w)) (sym a) ∙ word_cell d (n / 8) w room (i % 8) (omega arith)
      ∙ ap (λ (m : ℕ). m / 2 ^ (i % 8) % 2) e ∙ joined_low (get_or d (n / 8) 0) v (n % 8) (i % 8) c
      ∙ ap (λ (m : ℕ). get_or d m 0 / 2 ^ (i % 8) % 2) (sym b))

  cell_new : (i : ℕ) → i < 8 → v / 2 ^ i % 2 ≡ buffer_cell (word_written d (n / 8) w) (n + i)
  cell_new i h =
      let a : n + i ≡ 8 * (n / 8) + (n % 8 + i) = omega arith in
      sym (ap (buffer_cell (word_written d (n / 8) w)) a ∙ word_cell d (n / 8) w room (n % 8 + i) (omega arith)
      ∙ ap (λ (m : ℕ). m / 2 ^ (n % 8 + i) % 2) e ∙ joined_high (get_or d (n / 8) 0) v (n % 8) i)

  -- the first n cells stay, and after them stand the eight of v
  pub byte_appended : stream (word_written d (n / 8) w) (buffer_side (n + 8)) ≡ stream d (buffer_side n) ++ byte_cells v
  unfolding byte_cells
  byte_appended =
      buffer_stream (word_written d (n / 8) w) (n + 8)
      ∙ sym (tab_join (buffer_cell (word_written d (n / 8) w)) (λ (i : ℕ). v / 2 ^ i % 2) n 8 cell_new)
      ∙ ap (λ (l : List ℕ). l ++ tab (λ (i : ℕ). v / 2 ^ i % 2) 8)
      (tab_ext (buffer_cell (word_written d (n / 8) w)) (buffer_cell d) n cell_stays ∙ sym (buffer_stream d n))

-- ---- the last cells of a byte alone

dropped_cells : (b k : ℕ) → k ≤ 8 → drop k (byte_cells b) ≡ take (8 - k) (byte_cells (b / 2 ^ k))
unfolding byte_cells
dropped_cells b k h =
    eq_tab (drop k (tab bits 8)) later (8 - k)
    (length-drop k (tab bits 8) ∙ ap (λ (m : ℕ). m - k) (tab_length bits 8))
    (λ i l.
    get_or-drop k (tab bits 8) i 0 ∙ tab_in bits 8 (k + i) (omega arith) ∙ ap (λ (m : ℕ). m % 2) (sym (shr-shr b k i)))
    ∙ sym (take_tab later (8 - k) 8 (omega arith))
  where
    bits : ℕ → ℕ
    bits i = b / 2 ^ i % 2

    later : ℕ → ℕ
    later i = b / 2 ^ k / 2 ^ i % 2

-- where the eight cells of b / 2 ^ k stand after the first n, so do those of b without the first k
pub part_appended : (out d : List ℕ) (n b k : ℕ) → k ≤ 8
    → stream out (buffer_side (n + 8)) ≡ stream d (buffer_side n) ++ byte_cells (b / 2 ^ k)
    → stream out (buffer_side (n + (8 - k))) ≡ stream d (buffer_side n) ++ drop k (byte_cells b)
part_appended out d n b k h e =
    buffer_stream out (n + (8 - k)) ∙ sym (take_tab (buffer_cell out) (n + (8 - k)) (n + 8) (omega arith))
    ∙ ap (take (n + (8 - k))) (sym (buffer_stream out (n + 8)) ∙ e)
    ∙ ap (λ (m : ℕ). take (m + (8 - k)) (stream d (buffer_side n) ++ byte_cells (b / 2 ^ k))) (sym (stream_length d (buffer_side n)))
    ∙ take-append-add (stream d (buffer_side n)) (byte_cells (b / 2 ^ k)) (8 - k)
    ∙ ap (λ (l : List ℕ). stream d (buffer_side n) ++ l) (sym (dropped_cells b k h))
