-- What bytes with codes give, byte by byte; that all of it is cells; and that a side without codes gives its own cells.
-- Rests on the laws of lists that are given by a rule, and of streams.
use Rattle.std.specs.Prelude.{List, [], ◌∷◌, ◌++◌, false, ◌≡◌, min, length, drop}
use Rattle.std.proofs.Common.{append-nil, append_assoc, sym, ap₂, ◌∙◌, mod-lt, zero-lt-suc, add-one, length-append, drop_of_length-le, get_or-append-add}
use Rattle.std.proofs.Common.{get_or-drop, leb-false, le-leb}
use Rattle.std.proofs.Math.Path.{refl, ap}
use Prim.Native.Nat.{ℕ, zero, suc, ◌+◌, ◌-◌, ◌*◌, ◌/◌, ◌%◌, ◌^◌, ◌≤◌, ◌<◌}
use native.Mathlib.Omega.{arith}
use Rattle.std.proofs.Math.ListN.{get_or, get_or-append}
use Rattle.std.proofs.Math.Seq.{drop-cons}
use Rattle.std.specs.List.{fold, range_with_len}
use Rattle.std.proofs.lemmas.List.{drop_min}
use Rattle.laws.specs.Lists.{tab}
use Rattle.laws.specs.Laws.Cases.{by_order, by_test}
use Rattle.laws.specs.Laws.Tests.{cond_true, cond_false}
use Rattle.laws.specs.Laws.Tab.{tab_length, tab_in, tab_below, eq_tab}
use Rattle.cells.specs.declared.Side.{Side}
use Rattle.cells.specs.declared.Expected.{Expected}
use Rattle.cells.specs.declared.Expected.TheVariants.{Any, Rate, Count, Partial, Wrong}
use Rattle.cells.specs.Stream.{byte_place, cell_at, stream, buffer_side}
use Rattle.cells.specs.Codes.{stored_bytes, byte_cells, reversed_bits, is_code, after_code, expected_after, cells_given}
use Rattle.cells.specs.Codes.{Decoded, Cells, WrongCode, cells_before, at_end, coded_from, coded, cells_of, wrong_of}

-- ---- cells before others

-- cells before cells before others are both in a row before them
pub before_both : (c d : List ℕ) (x : Decoded) → cells_before c (cells_before d x) ≡ cells_before (c ++ d) x
unfolding cells_before
before_both c d (Cells e) = ap Cells (sym (append_assoc c d e))
before_both c d (WrongCode p) = refl

-- no cells before others change nothing
pub before_none : (x : Decoded) → cells_before [] x ≡ x
unfolding cells_before
before_none (Cells d) = refl
before_none (WrongCode p) = refl

-- cells before others make no code wrong and none right
pub wrong_before : (c : List ℕ) (x : Decoded) → wrong_of (cells_before c x) ≡ wrong_of x
unfolding cells_before wrong_of
wrong_before c (Cells d) = refl
wrong_before c (WrongCode p) = refl

-- ---- byte by byte

module _ (x : Expected) (k : ℕ) (bytes : List ℕ) where
  -- what bytes from place k on give: the cells of byte k, and then what those after it give
  pub coded_next : k < length bytes
      → coded_from x k (drop k bytes)
      ≡ cells_before (cells_given x (get_or bytes k 0)) (coded_from (expected_after x k (get_or bytes k 0)) (k + 1) (drop (k + 1) bytes))
  unfolding coded_from
  coded_next h = rw (add-one, drop-cons bytes k 0 h)

  -- past the last byte the end alone decides
  pub coded_end : length bytes ≤ k → coded_from x k (drop k bytes) ≡ at_end x
  unfolding coded_from
  coded_end h = rw (drop_of_length-le bytes h)

-- all bytes are those from place 0 on, with no cells before them
pub coded_start : (bytes : List ℕ) → coded bytes ≡ cells_before [] (coded_from Any 0 (drop 0 bytes))
unfolding coded
coded_start bytes = sym (before_none (coded_from Any 0 bytes))

-- ---- the bytes of a side

module _ (part : List ℕ) (s : Side) where
  -- as many bytes as a side has
  pub stored_length : length (stored_bytes part s) ≡ s.cells / 8
  unfolding stored_bytes
  stored_length = tab_length (λ (b : ℕ). get_or part (byte_place s b) 0) (s.cells / 8)

  -- byte b of a side
  pub stored_at : (b : ℕ) → b < s.cells / 8 → get_or (stored_bytes part s) b 0 ≡ get_or part (byte_place s b) 0
  unfolding stored_bytes
  stored_at b h = tab_in (λ (b : ℕ). get_or part (byte_place s b) 0) (s.cells / 8) b h

module _ (part : List ℕ) (s : Side) (x : Expected) (k : ℕ) where
  side_next : k < s.cells / 8 → coded_from x k (drop k (stored_bytes part s))
      ≡ cells_before (cells_given x (get_or part (byte_place s k) 0))
      (coded_from (expected_after x k (get_or part (byte_place s k) 0)) (k + 1) (drop (k + 1) (stored_bytes part s)))
  side_next h =
      coded_next x k (stored_bytes part s) (rw (stored_length part s) h)
      ∙ ap (λ (b : ℕ). cells_before (cells_given x b) (coded_from (expected_after x k b) (k + 1) (drop (k + 1) (stored_bytes part s)))) (stored_at part s k h)

  side_end : s.cells / 8 ≤ k → coded_from x k (drop k (stored_bytes part s)) ≡ at_end x
  side_end h = coded_end x k (stored_bytes part s) (rw (stored_length part s) h)

  -- where the bytes before place k gave the cells c, those up to k gave c and the cells of byte k
  pub cells_more : (c : List ℕ) (b : ℕ) → b ≡ get_or part (byte_place s k) 0 → k < s.cells / 8
      → coded (stored_bytes part s) ≡ cells_before c (coded_from x k (drop k (stored_bytes part s)))
      → coded (stored_bytes part s) ≡ cells_before (c ++ cells_given x b) (coded_from (expected_after x k b) (k + 1) (drop (k + 1) (stored_bytes part s)))
  cells_more c b e h g = rw e (g ∙ ap (cells_before c) (side_next h) ∙ before_both c _ _)

  -- past the last byte the end decides whether the cells are given
  pub cells_end : (c : List ℕ) → s.cells / 8 ≤ k → coded (stored_bytes part s) ≡ cells_before c (coded_from x k (drop k (stored_bytes part s)))
      → coded (stored_bytes part s) ≡ cells_before c (at_end x)
  cells_end c h g = g ∙ ap (cells_before c) (side_end h)

-- the bytes of a side one after another: what is expected after the m bytes from place k on decides at the end whether a code is wrong
pub wrong_in_turn : (part : List ℕ) (s : Side) (m k : ℕ) (x : Expected) → k + m ≡ s.cells / 8
    → wrong_of (at_end (fold (λ (y : Expected) (j : ℕ). expected_after y j (get_or part (byte_place s j) 0)) x (range_with_len k m)))
    ≡ wrong_of (coded_from x k (drop k (stored_bytes part s)))
wrong_in_turn part s zero k x e = sym (ap wrong_of (side_end part s x k (omega arith)))
wrong_in_turn part s (suc m) k x e =
    wrong_in_turn part s m (k + 1) (expected_after x k (get_or part (byte_place s k) 0)) (omega arith)
    ∙ sym (ap wrong_of (side_next part s x k (omega arith)) ∙ wrong_before _ _)

-- ---- what the buffer has at the end

-- where no code is wrong, the cells that stand in the buffer are given
pub ended_cells : (d : List ℕ) (n : ℕ) → stream d (buffer_side n) ≡ cells_of (cells_before (stream d (buffer_side n)) (Cells []))
unfolding cells_of cells_before
ended_cells d n = sym (append-nil _)

-- where a code is wrong, no cell is given
pub ended_wrong : (d c : List ℕ) (p : ℕ) → stream d (buffer_side 0) ≡ cells_of (cells_before c (WrongCode p))
unfolding cells_of cells_before stream tab
ended_wrong d c p = refl

-- ---- all that is given is cells

append_bit : (c d : List ℕ) → ((i : ℕ) → get_or c i 0 < 2) → ((i : ℕ) → get_or d i 0 < 2) → (i : ℕ) → get_or (c ++ d) i 0 < 2
append_bit c d hc hd i =
    by_order i (length c)
    (λ l. rw (get_or-append c d 0 i l) (hc i))
    (λ l.
    let e : i ≡ length c + (i - length c) = omega arith in
    rw (ap (λ (j : ℕ). get_or (c ++ d) j 0) e ∙ get_or-append-add c d (i - length c) 0) (hd (i - length c)))

-- the cells of a byte are 0 or 1
pub byte_cells_bit : (b i : ℕ) → get_or (byte_cells b) i 0 < 2
unfolding byte_cells
byte_cells_bit b i = tab_below (λ (j : ℕ). b / 2 ^ j % 2) 1 (λ j. mod-lt _ (zero-lt-suc 1)) 8 i

given_bit : (x : Expected) (b i : ℕ) → get_or (cells_given x b) i 0 < 2
unfolding cells_given
given_bit Any b i =
    by_test (is_code b)
    (λ t. rw (cond_true [] (byte_cells b) t) (zero-lt-suc 1))
    (λ t. rw (cond_false [] (byte_cells b) t) (byte_cells_bit b i))
given_bit (Rate p) b i = zero-lt-suc 1
given_bit (Count p) b i = zero-lt-suc 1
given_bit (Partial p n) b i = rw (get_or-drop n (byte_cells _) i 0) (byte_cells_bit _ (n + i))
given_bit (Wrong p) b i = zero-lt-suc 1

before_bit : (c : List ℕ) → ((i : ℕ) → get_or c i 0 < 2) → (x : Decoded) → ((i : ℕ) → get_or (cells_of x) i 0 < 2)
    → (i : ℕ) → get_or (cells_of (cells_before c x)) i 0 < 2
unfolding cells_of cells_before
before_bit c h (Cells d) g i = append_bit c d h g i
before_bit c h (WrongCode p) g i = zero-lt-suc 1

end_bit : (x : Expected) (i : ℕ) → get_or (cells_of (at_end x)) i 0 < 2
unfolding cells_of at_end
end_bit Any i = zero-lt-suc 1
end_bit (Rate p) i = zero-lt-suc 1
end_bit (Count p) i = zero-lt-suc 1
end_bit (Partial p n) i = zero-lt-suc 1
end_bit (Wrong p) i = zero-lt-suc 1

from_bit : (x : Expected) (k : ℕ) (bytes : List ℕ) (i : ℕ) → get_or (cells_of (coded_from x k bytes)) i 0 < 2
unfolding coded_from
from_bit x k [] i = end_bit x i
from_bit x k (b ∷ bs) i =
    before_bit (cells_given x b) (given_bit x b) (coded_from (expected_after x k b) (suc k) bs) (from_bit (expected_after x k b) (suc k) bs) i

-- every cell that bytes give is 0 or 1
pub coded_binary : (bytes : List ℕ) (i : ℕ) → get_or (cells_of (coded bytes)) i 0 < 2
unfolding coded
coded_binary bytes i = from_bit Any 0 bytes i

-- ---- what one byte gives

-- a byte that is no code, where one may stand, gives its eight cells
pub plain_given : (b : ℕ) → is_code b ≡ false → cells_given Any b ≡ byte_cells b
unfolding cells_given
plain_given b e = cond_false [] (byte_cells b) e

-- a byte that is no code, where one may stand, is followed by any byte
pub plain_after : (k b : ℕ) → is_code b ≡ false → expected_after Any k b ≡ Any
unfolding expected_after after_code is_code
plain_after k b e =
    let h : reversed_bits b < 0xF0 = leb-false 0xF0 (reversed_bits b) e in
    cond_true Any _ (le-leb (reversed_bits b) 0xF1 (omega arith))

-- a byte has eight cells
pub eight_cells : (b : ℕ) → drop 8 (byte_cells b) ≡ []
unfolding byte_cells tab
eight_cells b = refl

-- to drop more than eight is to drop all
pub part_dropped : (n b : ℕ) → drop (min n 8) (byte_cells b) ≡ drop n (byte_cells b)
unfolding byte_cells tab
part_dropped n b = drop_min n (byte_cells b)

-- ---- bytes without codes

-- two lists that are given by a rule, one after the other, where the second goes on with the rule of the first
pub tab_join : (f g : ℕ → ℕ) (n m : ℕ) → ((i : ℕ) → i < m → g i ≡ f (n + i)) → tab f n ++ tab g m ≡ tab f (n + m)
tab_join f g n m e =
    eq_tab (tab f n ++ tab g m) f (n + m)
    (length-append (tab f n) (tab g m) ∙ ap₂ (λ (a b : ℕ). a + b) (tab_length f n) (tab_length g m))
    (λ k h.
    by_order k n
    (λ l. get_or-append (tab f n) (tab g m) 0 k (rw (tab_length f n) l) ∙ tab_in f n k l)
    (λ l.
    let z : n + (k - n) ≡ k = omega arith in
    let y : k ≡ length (tab f n) + (k - n) = rw (tab_length f n) (sym z) in
    ap (λ (j : ℕ). get_or (tab f n ++ tab g m) j 0) y ∙ get_or-append-add (tab f n) (tab g m) (k - n) 0
    ∙ tab_in g m (k - n) (omega arith) ∙ e (k - n) (omega arith) ∙ ap f z))

module _ (part : List ℕ) (s : Side) where
  byte_cells_lem : (b i : ℕ) → i < 8 → get_or part (byte_place s b) 0 / 2 ^ i % 2 ≡ cell_at part s (8 * b + i)
  unfolding cell_at
  byte_cells_lem b i h =
      let d : (8 * b + i) / 8 ≡ b = omega arith in
      let m : (8 * b + i) % 8 ≡ i = omega arith in
      rw (d, m)

  cells_next : (b : ℕ) → tab (cell_at part s) (8 * b) ++ byte_cells (get_or part (byte_place s b) 0) ≡ tab (cell_at part s) (8 * (b + 1))
  unfolding byte_cells
  cells_next b =
      let e : 8 * b + 8 ≡ 8 * (b + 1) = omega arith in
      tab_join (cell_at part s) (λ (i : ℕ). get_or part (byte_place s b) 0 / 2 ^ i % 2) (8 * b) 8 (byte_cells_lem b) ∙ ap (tab (cell_at part s)) e

  plain_until : ((b : ℕ) → b < s.cells / 8 → is_code (get_or part (byte_place s b) 0) ≡ false) → (k : ℕ) → k ≤ s.cells / 8
      → coded (stored_bytes part s) ≡ cells_before (tab (cell_at part s) (8 * k)) (coded_from Any k (drop k (stored_bytes part s)))
  unfolding tab
  plain_until plain zero h = coded_start (stored_bytes part s)
  plain_until plain (suc k) h =
      cells_more part s Any k (tab (cell_at part s) (8 * k)) (get_or part (byte_place s k) 0) refl h (plain_until plain k (omega arith))
      ∙ rw (plain_given (get_or part (byte_place s k) 0) (plain k h), plain_after k (get_or part (byte_place s k) 0) (plain k h), cells_next k, add-one)

  -- a side without codes, with a multiple of eight cells, gives its own cells
  pub coded_plain : s.cells ≡ 8 * (s.cells / 8) → ((b : ℕ) → b < s.cells / 8 → is_code (get_or part (byte_place s b) 0) ≡ false)
      → coded (stored_bytes part s) ≡ Cells (stream part s)
  unfolding stream cells_before at_end
  coded_plain e plain =
      cells_end part s Any (s.cells / 8) (tab (cell_at part s) (8 * (s.cells / 8))) (omega arith) (plain_until plain (s.cells / 8) (omega arith))
      ∙ ap Cells (append-nil (tab (cell_at part s) (8 * (s.cells / 8))) ∙ ap (tab (cell_at part s)) (sym e))
