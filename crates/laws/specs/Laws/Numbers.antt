-- Numbers in bytes, highest or lowest byte first: what was written is read, the bytes written out, and bytes again from the number that they are read as.
-- Rests on the laws of lists given by a rule, and of what is written into a list.
use Rattle.std.specs.Prelude.{◌≡◌, refl, List, [], ◌∷◌, ◌++◌, ℕ, zero, suc, ◌+◌, ◌-◌, ◌*◌, ◌/◌, ◌%◌, ◌^◌, ◌<◌, ◌≤◌, length, get_or, take, drop}
use Rattle.std.proofs.Common.{◌∙◌, ap₂, add_assoc, add-zero, zero-add, div-one, not-suc-le-zero, pow-add, pow-suc, shr-shr, get_or-append-add}
use Rattle.std.proofs.Math.Path.{ap, sym}
use native.Mathlib.Omega.{arith}
use Rattle.std.proofs.Math.ListN.{get_or-append}
use Rattle.std.specs.Int.{byte_at, bytes_high_first}
use Rattle.std.proofs.lemmas.Nat.{mod-pow-add}
use Rattle.laws.specs.Lists.{tab, element_at, window}
use Rattle.laws.specs.Changes.{overlay}
use Rattle.laws.specs.Numbers.{big_endian, high_first, low_first, high_byte, low_byte, at16, at32}
use Rattle.laws.specs.Laws.Cases.{by_equal}
use Rattle.laws.specs.Laws.Overlay.{overlay_in}
use Rattle.laws.specs.Laws.Tab.{tab_length, tab_in, tab_ext, eq_tab, window_part}

-- ---- rows that agree

-- bytes that agree make the same number
pub big_ext : (f g : ℕ → ℕ) (n : ℕ) → ((k : ℕ) → k < n → f k ≡ g k) → big_endian f n ≡ big_endian g n
unfolding big_endian
big_ext f g zero e = refl
big_ext f g (suc n) e = ap₂ (λ (x y : ℕ). x * 256 + y) (big_ext f g n (λ k l. e k (omega arith))) (e n (omega arith))

-- the number in n bytes of s, read from a later place
pub high_row : (s : List ℕ) (at o n : ℕ) → high_first s (at + o) n ≡ big_endian (λ (i : ℕ). element_at s at (o + i)) n
unfolding high_first element_at
high_row s at o n = big_ext _ _ n (λ k l. ap (λ (x : ℕ). get_or s x 0) (add_assoc at o k))

-- ---- what was written is read

-- the first k bytes of f are the first k of the n of v
high_prefix : (f : ℕ → ℕ) (n v : ℕ) → ((k : ℕ) → k < n → f k ≡ high_byte n v k)
    → (k : ℕ) → k ≤ n → big_endian f k ≡ v / 2 ^ (8 * (n - k)) % 2 ^ (8 * k)
unfolding big_endian high_byte
high_prefix f n v e zero h = omega arith
high_prefix f n v e (suc k) h =
    let a : 8 * (n - k) ≡ 8 * (n - suc k) + 8 = omega arith in
    let b : 8 * suc k ≡ 8 * k + 8 = omega arith in
    let c : n - (k + 1) ≡ n - suc k = omega arith in
    let r : big_endian f k ≡ v / 2 ^ (8 * (n - k)) % 2 ^ (8 * k) = high_prefix f n v e k (omega arith) in
    let d : v / 2 ^ (8 * (n - k)) ≡ v / 2 ^ (8 * (n - suc k)) / 2 ^ 8 = rw a (sym (shr-shr v (8 * (n - suc k)) 8)) in
    rw (r, d, e k h, c, b) (sym (mod-pow-add (v / 2 ^ (8 * (n - suc k))) (8 * k) 8))

low_prefix : (s : List ℕ) (at v : ℕ) (n : ℕ) → ((k : ℕ) → k < n → get_or s (at + k) 0 ≡ low_byte v k) → low_first s at n ≡ v % 2 ^ (8 * n)
unfolding low_first low_byte
low_prefix s at v zero e = omega arith
low_prefix s at v (suc n) e =
    let a : 8 * suc n ≡ 8 + 8 * n = omega arith in
    rw (low_prefix s at v n (λ k l. e k (omega arith)), e n (omega arith), a, mod-pow-add v 8 (8 * n)) (omega arith)

-- at any width, the number in the bytes of v, highest first, is v, less what the width does not hold
pub high_is : (f : ℕ → ℕ) (n v : ℕ) → ((k : ℕ) → k < n → f k ≡ high_byte n v k) → big_endian f n ≡ v % 2 ^ (8 * n)
high_is f n v e = high_prefix f n v e n (omega arith) ∙ rest
  where
    rest : v / 2 ^ (8 * (n - n)) % 2 ^ (8 * n) ≡ v % 2 ^ (8 * n)
    rest = let e : 8 * (n - n) ≡ 0 = omega arith in rw (e, div-one v)

module _ (d : List ℕ) (at n v : ℕ) (h : at + n ≤ length d) where
  -- a number written highest byte first is read back, less what the width does not hold
  pub high_back : high_first (overlay d at n (high_byte n v)) at n ≡ v % 2 ^ (8 * n)
  unfolding high_first element_at
  high_back =
      high_is (element_at (overlay d at n (high_byte n v)) at) n v
      (λ k l.
      let e : at + k - at ≡ k = omega arith in
      overlay_in d at n (high_byte n v) (at + k) (omega arith) (omega arith) (omega arith) ∙ ap (high_byte n v) e)

  -- a number written lowest byte first is read back, less what the width does not hold
  pub low_back : low_first (overlay d at n (low_byte v)) at n ≡ v % 2 ^ (8 * n)
  low_back =
      low_prefix (overlay d at n (low_byte v)) at v n
      (λ k l.
      let e : at + k - at ≡ k = omega arith in
      overlay_in d at n (low_byte v) (at + k) (omega arith) (omega arith) (omega arith) ∙ ap (low_byte v) e)

-- ---- the bytes of two and of four, written out

-- the two bytes of a number, highest first, written out
pub high_row2 : (v : ℕ) → v / 256 % 256 ∷ v % 256 ∷ [] ≡ tab (high_byte 2 v) 2
unfolding tab high_byte
high_row2 v = rw (div-one v)

-- the four bytes of a number, highest first, written out
pub high_row4 : (v : ℕ) → v / 16777216 % 256 ∷ v / 65536 % 256 ∷ v / 256 % 256 ∷ v % 256 ∷ [] ≡ tab (high_byte 4 v) 4
unfolding tab high_byte
high_row4 v = rw (div-one v)

byte_high : (j v : ℕ) → byte_at j v ≡ v / 2 ^ (8 * j) % 256
byte_high zero v = ap (λ (x : ℕ). x % 256) (sym (div-one v))
byte_high (suc j) v = ap (λ (x : ℕ). v / x % 256) (power (suc j))
  where
    power : (i : ℕ) → 256 ^ i ≡ 2 ^ (8 * i)
    power zero = refl
    power (suc i) = let e : 8 * suc i ≡ 8 + 8 * i = omega arith in rw (pow-suc 256 i, e, pow-add 2 8 (8 * i), power i) (omega arith)

-- the bytes of a number, highest first, as the library gives them
pub high_bytes : (n v : ℕ) → bytes_high_first n v ≡ tab (high_byte n v) n
unfolding high_byte
high_bytes n v = eq_tab (bytes_high_first n v) (high_byte n v) n (long n) (λ k h. at n k h ∙ byte_high (n - (k + 1)) v)
  where
    long : (m : ℕ) → length (bytes_high_first m v) ≡ m
    long zero = refl
    long (suc m) = ap suc (long m)

    at : (m k : ℕ) → k < m → get_or (bytes_high_first m v) k 0 ≡ byte_at (m - (k + 1)) v
    at zero k h = absurd (omega arith)
    at (suc m) zero h = ap (λ (x : ℕ). byte_at x v) (omega arith)
    at (suc m) (suc k) h = at m k (omega arith) ∙ ap (λ (x : ℕ). byte_at x v) (omega arith)

-- the last n of more bytes of a number are its n bytes
pub high_bytes_last : (m n v : ℕ) → drop m (bytes_high_first (m + n) v) ≡ tab (high_byte n v) n
high_bytes_last zero n v = let e : zero + n ≡ n = omega arith in rw e (high_bytes n v)
high_bytes_last (suc m) n v = let e : suc m + n ≡ suc (m + n) = omega arith in rw e (high_bytes_last m n v)

-- the two bytes of a number, lowest first, written out
pub low_row2 : (v : ℕ) → v % 256 ∷ v / 256 % 256 ∷ [] ≡ tab (low_byte v) 2
unfolding tab low_byte
low_row2 v = rw (div-one v)

-- ---- numbers of two and of four bytes, written out

-- the number in two bytes, written out
pub at16_is : (f : ℕ → ℕ) (o : ℕ) → at16 f o ≡ f o * 256 + f (o + 1)
unfolding at16 big_endian
at16_is f o = rw (add-zero o, zero-add (f o))

-- the number in four bytes, written out
pub at32_is : (f : ℕ → ℕ) (o : ℕ) → at32 f o ≡ ((f o * 256 + f (o + 1)) * 256 + f (o + 2)) * 256 + f (o + 3)
unfolding at32 big_endian
at32_is f o = rw (add-zero o, zero-add (f o))

-- ---- the number in the bytes of v is v

-- the number in the two bytes of a number that fits them is that number
pub high2_at : (v : ℕ) → v < 65536 → big_endian (high_byte 2 v) 2 ≡ v
high2_at v h = let e = high_is (high_byte 2 v) 2 v (λ k l. refl) in omega (arith, e)

-- the number in the four bytes of a number that fits them is that number
pub high4_at : (v : ℕ) → v < 4294967296 → big_endian (high_byte 4 v) 4 ≡ v
high4_at v h = let e = high_is (high_byte 4 v) 4 v (λ k l. refl) in omega (arith, e)

-- ---- bytes between others

module _ (p q : List ℕ) where
  -- the number in the bytes of v, which stand after p, is v, less what the width does not hold
  pub high_stands : (n v at : ℕ) → length p ≡ at → high_first (p ++ (tab (high_byte n v) n ++ q)) at n ≡ v % 2 ^ (8 * n)
  unfolding high_first element_at
  high_stands n v at e =
      high_is (element_at (p ++ (tab (high_byte n v) n ++ q)) at) n v
      (λ k l.
      rw (← e)
      (get_or-append-add p (tab (high_byte n v) n ++ q) k 0
      ∙ get_or-append (tab (high_byte n v) n) q 0 k (rw (tab_length (high_byte n v) n) l) ∙ tab_in (high_byte n v) n k l))

  -- the number in the four bytes of a number that fits them, which stand after p, is that number
  pub high4_stands : (v at : ℕ) → length p ≡ at → v < 4294967296 → high_first (p ++ (tab (high_byte 4 v) 4 ++ q)) at 4 ≡ v
  high4_stands v at e h = let f = high_stands 4 v at e in omega (arith, f)

-- ---- the bytes of the number in n bytes are these bytes

-- byte k of the number in the n bytes of f is f k
pub byte_of_high : (f : ℕ → ℕ) (n : ℕ) → ((k : ℕ) → k < n → f k < 256) → (k : ℕ) → k < n → high_byte n (big_endian f n) k ≡ f k
unfolding big_endian high_byte
byte_of_high f zero h k l = absurd (not-suc-le-zero l)
byte_of_high f (suc n) h k l =
    let last : f n < 256 = h n (omega arith) in
    let v : ℕ = big_endian f n * 256 + f n in
    by_equal k n
    (λ e.
    let none : 8 * (suc n - (k + 1)) ≡ 0 = omega arith in
    rw (none, div-one v, e) (omega arith))
    (λ e.
    let one : 8 * (suc n - (k + 1)) ≡ 8 + 8 * (n - (k + 1)) = omega arith in
    let front : v / 2 ^ 8 ≡ big_endian f n = omega arith in
    rw (one, ← (shr-shr v 8 (8 * (n - (k + 1)))), front) (byte_of_high f n (λ i b. h i (omega arith)) k (omega arith)))

-- the n bytes of the number in n bytes are these
pub high_again : (f : ℕ → ℕ) (n : ℕ) → ((k : ℕ) → k < n → f k < 256) → tab (high_byte n (big_endian f n)) n ≡ tab f n
high_again f n h = tab_ext (high_byte n (big_endian f n)) f n (byte_of_high f n h)

-- the number in n bytes fits n bytes
pub high_below : (f : ℕ → ℕ) (n : ℕ) → ((k : ℕ) → k < n → f k < 256) → big_endian f n < 2 ^ (8 * n)
unfolding big_endian
high_below f zero h = omega arith
high_below f (suc n) h =
    let more : 8 * suc n ≡ 8 * n + 8 = omega arith in
    let last : f n < 256 = h n (omega arith) in
    let front : big_endian f n < 2 ^ (8 * n) = high_below f n (λ i b. h i (omega arith)) in
    rw (more, pow-add 2 (8 * n) 8) (omega arith)

module _ (s : List ℕ) (at n : ℕ) (h : (i : ℕ) → get_or s i 0 < 256) where
  -- the n bytes of the number that stands in a list of bytes are that part of the list
  pub high_part : at + n ≤ length s → tab (high_byte n (high_first s at n)) n ≡ take n (drop at s)
  unfolding high_first element_at window
  high_part l = high_again (element_at s at) n (λ k b. h (at + k)) ∙ sym (window_part s at n l)

  -- that number fits n bytes
  pub high_small : high_first s at n < 2 ^ (8 * n)
  unfolding high_first element_at
  high_small = high_below (element_at s at) n (λ k b. h (at + k))
