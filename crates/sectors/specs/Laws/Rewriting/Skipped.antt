-- A side that need not be read again: none of its bytes is exchanged, and its table entry says what it said.
-- Rests on side_untouched and the laws of an image with other side bytes (Rewrite of sector_rules).
use Rattle.std.specs.Prelude.{List, ◌⊎◌, ◌≢◌, ◌≡◌, ℕ, ◌+◌, ◌-◌, ◌*◌, ◌/◌, ◌%◌, ◌≤◌, ◌<◌, ltb}
use Rattle.std.proofs.Math.Bool.{true, false}
use Rattle.std.proofs.Common.{⊎_elim, sym, ◌∙◌}
use Rattle.std.proofs.Math.Path.{refl}
use native.Mathlib.Omega.{arith}
use Rattle.std.proofs.Math.ListN.{get_or}
use Rattle.std.proofs.lemmas.Bool.{lt-leb}
use Rattle.laws.specs.Below.{all}
use Rattle.laws.specs.Numbers.{quotient_up, low_first}
use Rattle.laws.specs.Laws.All.{all_is}
use Rattle.laws.specs.Laws.Cases.{by_test}
use Rattle.laws.specs.Laws.Tests.{true≢false, true_lt, lt_true}
use Rattle.sector_rules.specs.Geometry.{sides, sectors}
use Rattle.sector_rules.specs.Hfe.{is_version3, entry_place, track_start, track_length, track_unit_bytes, side_stream}
use Rattle.sector_rules.specs.Unpacked.{track_of, side_of, sector_at, sector_bytes_at}
use Rattle.sector_rules.specs.Rewritten.{side_byte_of, is_side_byte, sector_right}
use Rattle.sector_rules.proofs.Laws.Rewrite.Base.{in_side_is, in_side_parts, with_out}
use Rattle.sector_rules.proofs.Laws.Rewrite.Untouched.{side_untouched}
use Rattle.sectors.specs.declared.SideBytes.{SideBytes}
use Rattle.sectors.specs.Laws.Rewriting.Changed.{stored_place, changed}
use Rattle.sectors.specs.Laws.Rewriting.Compared.{right_same}

-- n bytes of the image from at on are not exchanged
pub record Kept (w : SideBytes) (at n : ℕ) : Type 0 where
  pub each : (j : ℕ) → j < n → is_side_byte w.start (w.first + w.count) w.side w.first w.count (at + j) ≡ false

-- the bytes are of another side, or the units that hold them end before the track begins or begin after it ends
pub record UnitsApart (w : SideBytes) (s start end : ℕ) : Type 0 where
  pub way : (s ≢ w.side) ⊎ ((end ≤ w.start + 512 * (w.first / 256)) ⊎ (w.start + 512 * ((w.first + w.count) / 256 + 1) ≤ start))

-- the place of the table, the entry of the n-th side and the bytes of that side are not exchanged
pub record Untouched (h : List ℕ) (w : SideBytes) (n : ℕ) : Type 0 where
  pub table : Kept w 18 2
  pub entry : Kept w (entry_place h (n / sides)) 4
  pub apart : UnitsApart w (n % sides) (track_start h (n / sides)) (track_start h (n / sides) + track_unit_bytes h (n / sides))

-- ---- as the code tells it

module _ (start s b n k : ℕ) where
  -- a byte before the track is not among the bytes
  pub among_before : k < start → is_side_byte start (b + n) s b n k ≡ false
  unfolding is_side_byte
  among_before l = rw (lt-leb start k l)

  -- a byte of the other side is not
  pub among_other : ((k - start) % 512 / 256 ≢ s) → is_side_byte start (b + n) s b n k ≡ false
  among_other e =
      by_test (is_side_byte start (b + n) s b n k) (λ t. absurd (e (in_side_parts start (b + n) s b n k t).1)) (λ t. t)

  -- a byte before the first of them is not
  pub among_low : side_byte_of (k - start) < b → is_side_byte start (b + n) s b n k ≡ false
  among_low l =
      by_test (is_side_byte start (b + n) s b n k)
      (λ t.
      let p = in_side_parts start (b + n) s b n k t in
      let q : b ≤ side_byte_of (k - start) = p.2 in absurd (omega arith))
      (λ t. t)

  -- from it on a byte of the side is before the last one's end
  pub among_high : start ≤ k → (k - start) % 512 / 256 ≡ s → b ≤ side_byte_of (k - start) →
      ltb (side_byte_of (k - start)) (b + n) ≡ is_side_byte start (b + n) s b n k
  among_high l e m =
      by_test (ltb (side_byte_of (k - start)) (b + n))
      (λ t. let h = true_lt t in t ∙ sym (in_side_is start (b + n) s b n k l e m h h))
      (λ t.
      by_test (is_side_byte start (b + n) s b n k)
      (λ u. let p = in_side_parts start (b + n) s b n k u in true≢false (ltb (side_byte_of (k - start)) (b + n)) (lt_true p.3) t)
      (λ u. t ∙ sym u))

-- ---- the table

module _ (h : List ℕ) (w : SideBytes) (new : List ℕ) where
  -- a byte that is not exchanged is as it was
  kept_byte : (k : ℕ) → is_side_byte w.start (w.first + w.count) w.side w.first w.count k ≡ false → get_or (changed h w new) k 0 ≡ get_or h k 0
  unfolding changed
  kept_byte k e = with_out h w.start (w.first + w.count) w.side w.first w.count (λ (b : ℕ). get_or new (b - w.first) 0) k e

  -- a word of two bytes that are not exchanged is as it was
  kept_word : (at : ℕ) → Kept w at 2 → low_first (changed h w new) at 2 ≡ low_first h at 2
  unfolding low_first
  kept_word at x = rw (kept_byte (at + 0) (x.each 0 (omega arith)), kept_byte (at + 1) (x.each 1 (omega arith)))

  module _ (t : ℕ) (table : Kept w 18 2) (entry : Kept w (entry_place h t) 4) where
    same_entry : entry_place (changed h w new) t ≡ entry_place h t
    unfolding entry_place
    same_entry = rw (kept_word 18 table)

    same_start : track_start (changed h w new) t ≡ track_start h t
    unfolding track_start
    same_start = rw (same_entry, kept_word (entry_place h t) (record { each = λ j l. entry.each j (omega arith) }))

    same_long : track_length (changed h w new) t ≡ track_length h t
    unfolding track_length
    same_long = rw (same_entry, kept_word (entry_place h t + 2) (record { each = λ j l. later j l }))
      where
        later : (j : ℕ) → j < 2 → is_side_byte w.start (w.first + w.count) w.side w.first w.count (entry_place h t + 2 + j) ≡ false
        later j l =
            let e : entry_place h t + 2 + j ≡ entry_place h t + (2 + j) = omega arith in
            rw e (entry.each (2 + j) (omega arith))

-- ---- the bytes

-- a track begins with a unit
pub unit_start : (h : List ℕ) (t : ℕ) → track_start h t % 512 ≡ 0
unfolding track_start
unit_start h t = omega arith

-- the unit that holds a byte of a side is one of the track's
pub unit_end : (h : List ℕ) (t b : ℕ) → b < track_length h t / 2 → 512 * (b / 256) + 512 ≤ track_unit_bytes h t
unfolding track_unit_bytes quotient_up
unit_end h t b l = omega arith

-- a byte of a half of side s, counted from the beginning of another unit, is of a half of side s
same_half : (start w s q r k : ℕ) → start % 512 ≡ 0 → w % 512 ≡ 0 → s < 2 → r < 256 → k ≡ start + 256 * s + 512 * q + r → w ≤ k → (k - w) % 512 / 256 ≡ s
same_half start w s q r k a b c e f l = omega arith

before_units : (o b : ℕ) → o < 512 * (b / 256) → b ≤ side_byte_of o → ⊥
before_units o b l m = omega arith

after_units : (o e : ℕ) → 512 * (e / 256 + 1) ≤ o → side_byte_of o < e → ⊥
after_units o e l m = omega arith

track_before : (start s b units : ℕ) → s < 2 → 512 * (b / 256) + 512 ≤ units → stored_place start s b < start + units
track_before start s b units a l = omega arith

module _ (h : List ℕ) (w : SideBytes) (t s : ℕ) (hs : s < 2) (aligned : w.start % 512 ≡ 0)
    (apart : UnitsApart w s (track_start h t) (track_start h t + track_unit_bytes h t)) where
  not_among : (b : ℕ) → b < track_length h t / 2
      → is_side_byte w.start (w.first + w.count) w.side w.first w.count (stored_place (track_start h t) s b) ≡ false
  not_among b l =
      by_test (is_side_byte w.start (w.first + w.count) w.side w.first w.count (stored_place (track_start h t) s b))
      (λ e.
      let k : ℕ = stored_place (track_start h t) s b in
      let p = in_side_parts w.start (w.first + w.count) w.side w.first w.count k e in
      let a : w.start ≤ k = p.0 in
      let z : k < track_start h t + track_unit_bytes h t = track_before (track_start h t) s b (track_unit_bytes h t) hs (unit_end h t b l) in
      absurd
      (⊎_elim
      (λ n. n (sym (same_half (track_start h t) w.start s (b / 256) (b % 256) k (unit_start h t) aligned hs (omega arith) refl a) ∙ p.1))
      (⊎_elim (λ n. before_units (k - w.start) w.first (omega (arith, n, a, z)) p.2)
      (λ n. after_units (k - w.start) (w.first + w.count) (omega (arith, n, a)) p.3))
      apart.way))
      (λ e. e)

-- ---- the side

module _ (h : List ℕ) (w : SideBytes) (new : List ℕ) (n : ℕ) (version : is_version3 (changed h w new) ≡ is_version3 h)
    (x : Untouched h w n) where
  same_side : side_stream (changed h w new) (n / sides) (n % sides) ≡ side_stream h (n / sides) (n % sides)
  same_side =
      side_untouched h (changed h w new) (n / sides) (n % sides) (omega arith) version (same_start h w new (n / sides) x.table x.entry)
      (same_long h w new (n / sides) x.table x.entry)
      (λ b l. kept_byte h w new _ (not_among h w (n / sides) (n % sides) (omega arith) w.aligned x.apart b l))

  sector_same : (k : ℕ) → k < sectors → sector_at (changed h w new) (sectors * n + k) ≡ sector_at h (sectors * n + k)
  unfolding sector_at
  sector_same k l =
      let t : track_of (sectors * n + k) ≡ n / sides = omega arith in
      let s : side_of (sectors * n + k) ≡ n % sides = omega arith in
      rw (t, s, same_side)

  bytes_same : (k : ℕ) → k < sectors → sector_bytes_at (changed h w new) (sectors * n + k) ≡ sector_bytes_at h (sectors * n + k)
  unfolding sector_bytes_at
  bytes_same k l =
      let t : track_of (sectors * n + k) ≡ n / sides = omega arith in
      let s : side_of (sectors * n + k) ≡ n % sides = omega arith in
      rw (sector_same k l, t, s, same_side)

  -- where the sector that got the data is on another side, each of the nine sectors is as it must be
  pub skipped_right : (m : ℕ) (d : List ℕ) → n ≢ m / sectors → all (λ (k : ℕ). sector_right h (changed h w new) m d (sectors * n + k)) sectors ≡ true
  skipped_right m d ne = all_is (λ (k : ℕ). sector_right h (changed h w new) m d (sectors * n + k)) sectors each
    where
      each : (k : ℕ) → k < sectors → sector_right h (changed h w new) m d (sectors * n + k) ≡ true
      each k l = right_same h (changed h w new) m d (sectors * n + k) (λ e. ne (omega arith)) (sector_same k l) (bytes_same k l)
