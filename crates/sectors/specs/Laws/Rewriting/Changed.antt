-- The bytes of a side that a rewrite exchanges: where they lie in the image, the image with other bytes there, and the way back.
-- Rests on the laws of an image with other side bytes (Rewrite.Base of sector_rules).
use Rattle.std.proofs.Math.Bool.{false}
use mathlib.Core.List.{List}
use Rattle.std.specs.Prelude.{◌≢◌, ◌≡◌, ℕ, ◌+◌, ◌-◌, ◌*◌, ◌/◌, ◌%◌, ◌≤◌, ◌<◌, set}
use Rattle.std.proofs.Math.Path.{sym, ap}
use Rattle.std.proofs.Common.{◌∙◌, arith}
use Rattle.std.proofs.Math.ListN.{length, get_or, length-set}
use Rattle.std.proofs.Math.Seq.{ext_get_or, get_or-set_same, get_or-set_other}
use Rattle.laws.specs.Laws.Cases.{by_test, by_equal}
use Rattle.laws.specs.Laws.Tests.{true≢false}
use Rattle.sector_rules.specs.Rewritten.{side_byte_of, is_side_byte, with_side_bytes}
use Rattle.sector_rules.proofs.Laws.Rewrite.Base.{in_side_is, in_side_parts, with_length, with_in, with_out, with_byte}
use Rattle.sectors.specs.declared.SideBytes.{SideBytes}

-- where byte b of side s of a track that begins at `start` lies in the image
abbrev pub stored_place : ℕ → ℕ → ℕ → ℕ
stored_place start s b = start + 256 * s + 512 * (b / 256) + b % 256

-- the bytes are bytes of an image of so many bytes
pub record SideBytesFit (w : SideBytes) (size : ℕ) : Type 0 where
  pub within : (j : ℕ) → j < w.count → stored_place w.start w.side (w.first + j) < size

-- the image with the bytes xs in these places
unfoldable pub changed : List ℕ → SideBytes → List ℕ → List ℕ
changed h w xs = with_side_bytes h w.start (w.first + w.count) w.side w.first w.count (λ (b : ℕ). get_or xs (b - w.first) 0)

-- the bytes xs are those of the image in these places
pub record Taken (h : List ℕ) (w : SideBytes) (xs : List ℕ) : Type 0 where
  pub each : (j : ℕ) → j < w.count → get_or xs j 0 ≡ get_or h (stored_place w.start w.side (w.first + j)) 0

-- a byte of a half of side s lies where its number on its side says
stored_here : (start s k : ℕ) → start ≤ k → (k - start) % 512 / 256 ≡ s → k ≡ stored_place start s (side_byte_of (k - start))
stored_here start s k l e = omega arith

-- ---- the same bytes said in two ways

module _ (h : List ℕ) (start s b size n : ℕ) (f : ℕ → ℕ) (size' n' : ℕ) (g : ℕ → ℕ)
    (into : (x : ℕ) → b ≤ x → x < b + n → x < size → (x < b + n') × (x < size') × (f x ≡ g x))
    (back : (x : ℕ) → b ≤ x → x < b + n' → x < size' → (x < b + n) × (x < size)) where
  same_byte : (k : ℕ) → k < length h → get_or (with_side_bytes h start size s b n f) k 0 ≡ get_or (with_side_bytes h start size' s b n' g) k 0
  same_byte k l =
      by_test (is_side_byte start size s b n k)
      (λ e.
      let p = in_side_parts start size s b n k e in
      let q = into (side_byte_of (k - start)) p.2 p.3 p.4 in
      with_in h start size s b n f k l e ∙ q.2
      ∙ sym (with_in h start size' s b n' g k l (in_side_is start size' s b n' k p.0 p.1 p.2 q.0 q.1)))
      (λ e. with_out h start size s b n f k e ∙ sym (with_out h start size' s b n' g k (other e)))
    where
      other : is_side_byte start size s b n k ≡ false → is_side_byte start size' s b n' k ≡ false
      other e =
          by_test (is_side_byte start size' s b n' k)
          (λ t.
          let p = in_side_parts start size' s b n' k t in
          let q = back (side_byte_of (k - start)) p.2 p.3 p.4 in
          true≢false (is_side_byte start size s b n k) (in_side_is start size s b n k p.0 p.1 p.2 q.0 q.1) e)
          (λ t. t)

  -- the same bytes of a side, with the same values, make the same image
  pub with_equal : with_side_bytes h start size s b n f ≡ with_side_bytes h start size' s b n' g
  with_equal =
      ext_get_or 0 (with_side_bytes h start size s b n f) (with_side_bytes h start size' s b n' g)
      (with_length h start size s b n f ∙ sym (with_length h start size' s b n' g))
      (λ k l. let m : k < length h = rw (with_length h start size s b n f) at l in same_byte k m)

-- ---- byte after byte

module _ (h : List ℕ) (start s b : ℕ) (f : ℕ → ℕ) where
  -- to write no byte leaves the image as it is
  pub with_none : h ≡ with_side_bytes h start (b + 0) s b 0 f
  with_none =
      ext_get_or 0 h (with_side_bytes h start (b + 0) s b 0 f) (sym (with_length h start (b + 0) s b 0 f))
      (λ k l. sym (with_out h start (b + 0) s b 0 f k (out k)))
    where
      out : (k : ℕ) → is_side_byte start (b + 0) s b 0 k ≡ false
      out k =
          by_test (is_side_byte start (b + 0) s b 0 k)
          (λ t.
          let p = in_side_parts start (b + 0) s b 0 k t in
          let x : b ≤ side_byte_of (k - start) = p.2 in
          let y : side_byte_of (k - start) < b + 0 = p.3 in
          absurd (omega arith))
          (λ t. t)

  module _ (hs : s < 2) (j : ℕ) (within : stored_place start s (b + j) < length h) (out : List ℕ)
      (was : out ≡ with_side_bytes h start (b + j) s b j f) (v : ℕ) (is : v ≡ f (b + j)) where
    place : ℕ
    place = stored_place start s (b + j)

    long : length out ≡ length h
    long = ap length was ∙ with_length h start (b + j) s b j f

    here : get_or (set out place v) place 0 ≡ get_or (with_side_bytes h start (b + (j + 1)) s b (j + 1) f) place 0
    unfolding place
    here =
        get_or-set_same out place v 0 (omega (arith, long))
        ∙ is
        ∙ sym (with_byte h start (b + (j + 1)) s b (j + 1) f (b + j) hs (omega arith) (omega arith) (omega arith) within)

    other : (k : ℕ) → k ≢ place → k < length h
        → get_or (with_side_bytes h start (b + j) s b j f) k 0 ≡ get_or (with_side_bytes h start (b + (j + 1)) s b (j + 1) f) k 0
    unfolding place
    other k ne l =
        by_test (is_side_byte start (b + (j + 1)) s b (j + 1) k)
        (λ e.
        let q = in_side_parts start (b + (j + 1)) s b (j + 1) k e in
        by_equal (side_byte_of (k - start)) (b + j)
        (λ z. absurd (ne (stored_here start s k q.0 q.1 ∙ ap (stored_place start s) z)))
        (λ z.
        let lt : side_byte_of (k - start) < b + (j + 1) = q.3 in
        with_in h start (b + j) s b j f k l (in_side_is start (b + j) s b j k q.0 q.1 q.2 (omega arith) (omega arith))
        ∙ sym (with_in h start (b + (j + 1)) s b (j + 1) f k l e)))
        (λ e. with_out h start (b + j) s b j f k (fewer e) ∙ sym (with_out h start (b + (j + 1)) s b (j + 1) f k e))
      where
        fewer : is_side_byte start (b + (j + 1)) s b (j + 1) k ≡ false → is_side_byte start (b + j) s b j k ≡ false
        fewer e =
            by_test (is_side_byte start (b + j) s b j k)
            (λ t.
            let q = in_side_parts start (b + j) s b j k t in
            let lt : side_byte_of (k - start) < b + j = q.3 in
            true≢false (is_side_byte start (b + (j + 1)) s b (j + 1) k)
            (in_side_is start (b + (j + 1)) s b (j + 1) k q.0 q.1 q.2 (omega arith) (omega arith)) e)
            (λ t. t)

    -- to set the next byte after j that were written is to write j + 1
    pub with_more : set out (stored_place start s (b + j)) v ≡ with_side_bytes h start (b + (j + 1)) s b (j + 1) f
    unfolding place
    with_more =
        ext_get_or 0 (set out place v) (with_side_bytes h start (b + (j + 1)) s b (j + 1) f)
        (simp length-set (long ∙ sym (with_length h start (b + (j + 1)) s b (j + 1) f)))
        (λ k l.
        let m : k < length h = rw long at (simp length-set at l) in
        by_equal k place (λ z. rw z here)
        (λ z. get_or-set_other out place k v 0 z ∙ ap (λ (o : List ℕ). get_or o k 0) was ∙ other k z m))

-- ---- there and back

module _ (h : List ℕ) (w : SideBytes) where
  -- the image keeps its length
  pub changed_size : (xs : List ℕ) → length (changed h w xs) ≡ length h
  unfolding changed
  changed_size xs = with_length h w.start (w.first + w.count) w.side w.first w.count _

  -- with the bytes that it had, the image is what it was
  pub changed_back : (old new : List ℕ) → Taken h w old → changed (changed h w new) w old ≡ h
  unfolding changed
  changed_back old new taken = ext_get_or 0 (changed (changed h w new) w old) h whole byte
    where
      whole : length (changed (changed h w new) w old) ≡ length h
      whole = with_length (changed h w new) w.start (w.first + w.count) w.side w.first w.count _ ∙ changed_size new

      byte : (k : ℕ) → k < length (changed (changed h w new) w old) → get_or (changed (changed h w new) w old) k 0 ≡ get_or h k 0
      byte k l =
          let m : k < length (changed h w new) = omega (arith, l, whole, changed_size new) in
          by_test (is_side_byte w.start (w.first + w.count) w.side w.first w.count k)
          (λ e.
          let p = in_side_parts w.start (w.first + w.count) w.side w.first w.count k e in
          let x : w.first ≤ side_byte_of (k - w.start) = p.2 in
          let y : side_byte_of (k - w.start) < w.first + w.count = p.3 in
          let z : w.first + (side_byte_of (k - w.start) - w.first) ≡ side_byte_of (k - w.start) = omega arith in
          with_in (changed h w new) w.start (w.first + w.count) w.side w.first w.count (λ (b : ℕ). get_or old (b - w.first) 0) k m e
          ∙ taken.each (side_byte_of (k - w.start) - w.first) (omega arith)
          ∙ ap (λ (b : ℕ). get_or h (stored_place w.start w.side b) 0) z
          ∙ ap (λ (i : ℕ). get_or h i 0) (sym (stored_here w.start w.side k p.0 p.1)))
          (λ e.
          with_out (changed h w new) w.start (w.first + w.count) w.side w.first w.count (λ (b : ℕ). get_or old (b - w.first) 0) k e
          ∙ with_out h w.start (w.first + w.count) w.side w.first w.count (λ (b : ℕ). get_or new (b - w.first) 0) k e)
