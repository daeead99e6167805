-- List and read: the parts of which the result is made, one after the other, and read by its cases.
-- Rests on slots as rows (Loading.Slots) and on the laws of written rows (laws, Overlay).
use Rattle.std.specs.Prelude.{◌≡◌, true, false, cond, Some, None}
use Rattle.std.proofs.Math.Path.{refl, sym, ap}
use Rattle.std.proofs.Common.{ap₂, ◌∙◌, zero-add, not-suc-le-zero, add-one, arith}
use mathlib.Core.List.{List, [], ◌++◌}
use Prim.Native.Nat.{ℕ, zero, suc, ◌+◌, ◌-◌, ◌*◌, ◌/◌, ◌%◌, ◌≤◌, ◌<◌}
use Rattle.std.proofs.Math.ListN.{length, length-append}
use Rattle.laws.specs.Lists.{tab, element_at}
use Rattle.laws.specs.Changes.{overlay, put}
use Rattle.laws.specs.Below.{count}
use Rattle.laws.specs.Laws.Cases.{by_equal, by_test}
use Rattle.laws.specs.Laws.Tests.{lt_true, lt_false, le_true, le_false, cond_true, cond_false}
use Rattle.laws.specs.Laws.Tab.{tab_length}
use Rattle.laws.specs.Laws.Overlay.{overlay_none, overlay_length, put_append, put_tab}
use Rattle.laws.specs.Laws.Count.{count_yes, count_no}
use Rattle.sector_rules.specs.declared.Reply.{Reply}
use Rattle.sector_rules.specs.Replies.{reply_with, refusal}
use Rattle.file_rules.specs.Sizes.{block_bytes, slot_bytes}
use Rattle.file_rules.specs.Disk.{Disk}
use Rattle.file_rules.specs.Map.{part_block, file_byte}
use Rattle.file_rules.specs.Directory.{name_right, slot_byte, slot_entry, held, dir_end}
use Rattle.file_rules.specs.Calls.{Outcome, buffer_kept, deliver, entries, data_of, read_sound}
use Rattle.files.specs.Laws.Loading.Slots.{named_slot, searched_slot, found_none}

-- ---- put, one list after the other

-- no bytes put leave the list as it is
pub put_none : (d : List ℕ) (at : ℕ) → d ≡ put d at []
unfolding put
put_none d at = overlay_none d at (element_at [] 0)

-- a list put after the one at the beginning
pub put_next : (d out xs ys : List ℕ) → out ≡ put d 0 xs → put out (length xs) ys ≡ put d 0 (xs ++ ys)
put_next d out xs ys e = ap₂ (λ (l : List ℕ) (n : ℕ). put l n ys) e (sym (zero-add (length xs))) ∙ put_append d xs ys 0

-- ---- the slots of a list

-- what slot k adds to a list
unfoldable pub slot_part : Disk → ℕ → List ℕ
slot_part d k = cond (held d k) (tab (slot_byte d k) slot_bytes) []

module _ (d : Disk) where
  -- one slot more of the entries
  pub entries_more : (k : ℕ) → entries d (k + 1) ≡ entries d k ++ slot_part d k
  unfolding entries slot_part
  entries_more k = ap (entries d) (add-one k)

  part_length_held : (k : ℕ) → held d k ≡ true → length (slot_part d k) ≡ slot_bytes
  unfolding slot_part
  part_length_held k e = ap length (cond_true (tab (slot_byte d k) slot_bytes) [] e) ∙ tab_length (slot_byte d k) slot_bytes

  -- a vacant slot adds nothing
  pub part_vacant : (k : ℕ) → held d k ≡ false → slot_part d k ≡ []
  unfolding slot_part
  part_vacant k e = cond_false (tab (slot_byte d k) slot_bytes) [] e

  -- a held slot adds 64 bytes
  pub part_held : (k : ℕ) → held d k ≡ true → slot_bytes ≡ length (slot_part d k)
  part_held k e = sym (part_length_held k e)

  entries_step : (k : ℕ) → length (entries d (suc k)) ≡ length (entries d k) + length (slot_part d k)
  unfolding entries slot_part
  entries_step k = length-append (entries d k) (slot_part d k)

  -- the entries have 64 bytes for each held slot
  pub entries_length : (n : ℕ) → slot_bytes * count n (held d) ≡ length (entries d n)
  unfolding entries count
  entries_length zero = refl
  entries_length (suc n) =
      by_test (held d n)
      (λ t. omega (arith, entries_step n, entries_length n, count_yes n (held d) t, part_length_held n t))
      (λ t. omega (arith, entries_step n, entries_length n, count_no n (held d) t, ap length (part_vacant n t)))

  -- there is room for each slot where there is for all
  pub entries_room : (n k : ℕ) → k < n → length (entries d k) + length (slot_part d k) ≤ length (entries d n)
  entries_room zero k h = absurd (not-suc-le-zero h)
  entries_room (suc n) k h =
      by_equal k n
      (λ q. rw q (omega (arith, entries_step n)))
      (λ q. omega (arith, entries_step n, entries_room n k (omega arith)))

-- the bytes of a held slot are its part of the list
pub part_row : (d : Disk) (k : ℕ) → held d k ≡ true → tab (slot_byte d k) slot_bytes ≡ slot_part d k
unfolding slot_part
part_row d k t = sym (cond_true (tab (slot_byte d k) slot_bytes) [] t)

-- ---- delivery

module _ (bytes buf : List ℕ) (n : ℕ) (e : n ≡ length bytes) where
  fits : n ≤ length buf → deliver bytes buf ≡ record { answer = reply_with 0 (length bytes) 0 0; buffer = put buf 0 bytes }
  unfolding deliver
  fits h = cond_true _ _ (le_true {a = length bytes} {b = length buf} (omega arith))

  misses : length buf < n → deliver bytes buf ≡ buffer_kept buf (reply_with 16 (length bytes) 0 0)
  unfolding deliver
  misses h = cond_false _ _ (le_false {a = length bytes} {b = length buf} (omega arith))

  -- a result that fits is done, with its length
  pub fits_answer : n ≤ length buf → reply_with 0 n 0 0 ≡ (deliver bytes buf).answer
  fits_answer h = ap (λ (x : ℕ). reply_with 0 x 0 0) e ∙ ap (λ (o : Outcome). o.answer) (sym (fits h))

  -- a result that fits stands at the beginning of the buffer
  pub fits_buffer : n ≤ length buf → put buf 0 bytes ≡ (deliver bytes buf).buffer
  fits_buffer h = ap (λ (o : Outcome). o.buffer) (sym (fits h))

  -- a result that does not fit is refused with 16 and its length
  pub misses_answer : length buf < n → reply_with 16 n 0 0 ≡ (deliver bytes buf).answer
  unfolding buffer_kept
  misses_answer h = ap (λ (x : ℕ). reply_with 16 x 0 0) e ∙ ap (λ (o : Outcome). o.answer) (sym (misses h))

  -- a result that does not fit leaves the buffer as it was
  pub misses_buffer : length buf < n → buf ≡ (deliver bytes buf).buffer
  unfolding buffer_kept
  misses_buffer h = ap (λ (o : Outcome). o.buffer) (sym (misses h))

-- ---- a file's bytes

-- bytes of a file in one block stand in a row there
pub file_run : (d : Disk) (k i j b : ℕ) → b ≡ part_block d k ((slot_bytes + i) / block_bytes) → (slot_bytes + i) % block_bytes + j < block_bytes
    → d b ((slot_bytes + i) % block_bytes + j) ≡ file_byte d k (slot_bytes + (i + j))
unfolding file_byte
file_run d k i j b e h =
    let q : (slot_bytes + (i + j)) / block_bytes ≡ (slot_bytes + i) / block_bytes = omega arith in
    let r : (slot_bytes + (i + j)) % block_bytes ≡ (slot_bytes + i) % block_bytes + j = omega arith in
    ap (λ (x : ℕ). d x ((slot_bytes + i) % block_bytes + j)) e
    ∙ ap₂ (λ (x y : ℕ). d (part_block d k x) y) (sym q) (sym r)

module _ (d : Disk) (k : ℕ) where
  -- the data is as long as the entry says
  pub data_length_lem : (n : ℕ) → n ≡ (slot_entry d k).length - slot_bytes → n ≡ length (data_of d k)
  unfolding data_of
  data_length_lem n e = e ∙ sym (tab_length (λ (i : ℕ). file_byte d k (slot_bytes + i)) ((slot_entry d k).length - slot_bytes))

  -- the file's bytes from 64 on, put into the buffer, are the data
  pub data_put : (buf : List ℕ) (n : ℕ) → n ≡ (slot_entry d k).length - slot_bytes
      → overlay buf 0 n (λ (i : ℕ). file_byte d k (slot_bytes + i)) ≡ put buf 0 (data_of d k)
  unfolding data_of
  data_put buf n e =
      ap (λ (x : ℕ). overlay buf 0 x (λ (i : ℕ). file_byte d k (slot_bytes + i))) e
      ∙ sym (put_tab buf 0 (λ (i : ℕ). file_byte d k (slot_bytes + i)) ((slot_entry d k).length - slot_bytes))

-- ---- read of a sound disk

module _ (d : Disk) (name buf : List ℕ) where
  -- a read of a name that is not acceptable is refused with 12
  pub read_misnamed : name_right name ≡ false → read_sound d name buf ≡ buffer_kept buf (refusal 12)
  unfolding read_sound
  read_misnamed t = cond_false _ _ t

  module _ (t : name_right name ≡ true) where
    -- a read of a name that no slot has is refused with 14
    pub read_absent : named_slot d name ≡ None → read_sound d name buf ≡ buffer_kept buf (refusal 14)
    unfolding read_sound
    read_absent e = rw (t, found_none d name e, lt_false {a = dir_end d} {b = dir_end d} (omega arith))

    -- a read of a slot's name delivers its data
    pub read_present : (k : ℕ) → named_slot d name ≡ Some k → read_sound d name buf ≡ deliver (data_of d k) buf
    unfolding read_sound
    read_present k e = let f = searched_slot d name k e in rw (t, f.1, lt_true f.0)

-- ---- what a call that reads gave, by its refusal or by what it is equal to

-- a refusal gives its reply and the buffer as it was
pub gave_kept : (buf : List ℕ) (o : Outcome) (r q : Reply) → o ≡ buffer_kept buf q → r ≡ q → (r ≡ o.answer) × (buf ≡ o.buffer)
unfolding buffer_kept
gave_kept buf o r q e h = (h ∙ sym (ap (λ (x : Outcome). x.answer) e), sym (ap (λ (x : Outcome). x.buffer) e))

-- what equals an outcome gives its reply and buffer
pub gave_same : (o o' : Outcome) (r : Reply) (l : List ℕ) → o ≡ o' → (r ≡ o'.answer) × (l ≡ o'.buffer) → (r ≡ o.answer) × (l ≡ o.buffer)
gave_same o o' r l e h = (h.0 ∙ sym (ap (λ (x : Outcome). x.answer) e), h.1 ∙ sym (ap (λ (x : Outcome). x.buffer) e))

-- ---- one slot more of a list

module _ (d : Disk) (k c : ℕ) (e : c ≡ length (entries d k)) where
  -- after one slot more the entries end there
  pub next_place : (r : ℕ) → r ≡ c + length (slot_part d k) → r ≡ length (entries d (k + 1))
  next_place r q =
      q ∙ ap (λ (x : ℕ). x + length (slot_part d k)) e ∙ sym (length-append (entries d k) (slot_part d k)) ∙ ap length (sym (entries_more d k))

  -- one slot more put after the entries before it
  pub next_put : (buf out out' : List ℕ) → out ≡ put buf 0 (entries d k) → out' ≡ put out c (slot_part d k) → out' ≡ put buf 0 (entries d (k + 1))
  next_put buf out out' p q =
      q ∙ ap (λ (x : ℕ). put out x (slot_part d k)) e ∙ put_next buf out (entries d k) (slot_part d k) p ∙ ap (put buf 0) (sym (entries_more d k))

-- a list put into another leaves its length
pub put_length : (d : List ℕ) (at : ℕ) (vs : List ℕ) → length (put d at vs) ≡ length d
unfolding put
put_length d at vs = overlay_length d at (length vs) (element_at vs 0)

-- no entries put leave the buffer as it is
pub entries_none : (d : Disk) (buf : List ℕ) → buf ≡ put buf 0 (entries d 0)
unfolding entries
entries_none d buf = put_none buf 0
