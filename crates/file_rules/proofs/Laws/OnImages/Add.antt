-- Add on the inner model's disk gives the disk of the inner model after it, step by step:
-- the directory's new block, the file's blocks, its slot, the directory's end, the header.
-- Rests on the slot that is filled (Slot) and on the inner model after the call (Added).
use Rattle.std.specs.Prelude.{◌≡◌, refl, false, length}
use Rattle.std.proofs.Math.Path.{sym, ap, ap₂, subst}
use Rattle.std.proofs.Common.{◌∙◌, arith}
use mathlib.Core.List.{List}
use Rattle.std.proofs.Math.Option.{some}
use Prim.Native.Nat.{ℕ, zero, suc, ◌+◌, ◌*◌, ◌/◌, ◌%◌, ◌≤◌, ◌<◌}
use Rattle.laws.specs.Changes.{upd}
use Rattle.laws.specs.Below.{count, firsts}
use Rattle.laws.specs.Laws.Cases.{by_order}
use Rattle.laws.specs.Laws.Tests.{lt_true, eq_true, eq_false, cond_true, cond_false}
use Rattle.laws.specs.Laws.Changes.{upd_same, upd_other}
use Rattle.laws.specs.Laws.Firsts.{firsts_picks, firsts_cong}
use Rattle.sector_rules.specs.Geometry.{blocks}
use Rattle.file_rules.specs.declared.Record.{Record}
use Rattle.file_rules.specs.declared.Record.TheVariants.{Free, Bad, System, File, Other}
use Rattle.file_rules.specs.Calls.{grow_dir, end_after, add_at}
use Rattle.file_rules.specs.Directory.{entry_byte, entry_for, dir_end}
use Rattle.file_rules.specs.Disk.{Disk}
use Rattle.file_rules.proofs.Laws.InnerModel.Fields.{parts_none}
use Rattle.file_rules.proofs.Laws.InnerModel.Reads.{dir_end_is}
use Rattle.file_rules.proofs.Laws.InnerModel.Inner.{Inner, file_blocks, inner_bad, header, render, inner_find, empty_slot, give, free_of, grow_owner}
use Rattle.file_rules.proofs.Laws.InnerModel.Inner.{peak_after}
use Rattle.file_rules.proofs.Laws.InnerModel.Inner.{inner_add_at}
use Rattle.file_rules.proofs.Laws.InnerModel.Invariant.{parts_of, Inv}
use Rattle.file_rules.proofs.Laws.InnerModel.Last.{end_step, finish, slot_step}
use Rattle.file_rules.proofs.Laws.Base.Whole.{With, with_is, with_only, free_is, with_same}
use Rattle.file_rules.specs.Map.{is_free, free_at}
use Rattle.file_rules.specs.Model.{NamedFile, HeldFile, entry_from, dir_blocks, usable, free_word, slot_of, held_bytes, dir_byte, content, wrap}
use Rattle.file_rules.specs.Sizes.{block_bytes, slot_bytes, block_slots, name_most, free_sectors}
use Rattle.file_rules.specs.Written.{disk_header_byte, stored_byte, part, blocks_for, zeros, set_slot, set_end, give_blocks}
use Rattle.file_rules.proofs.Laws.OnImages.Slot.{picks_inside, give_step, k_le, k_pos, k_none, peak_same, peak_more, grows_is, by_growth}
use Rattle.file_rules.proofs.Laws.OnImages.Added.{owned₁, owned₂, k_in, add_inv}

file_content : (E F : ℕ → HeldFile) (f s o : ℕ) → 0 < f → content E F (File f s) o ≡ part (held_bytes (F f)) s o
unfolding content
file_content E F zero s o h = absurd (omega arith)
file_content E F (suc f) s o h = refl

-- files that no block belongs to do not matter
other_file : (E F G : ℕ → HeldFile) (r : Record) (o : ℕ) → ((f s : ℕ) → r ≡ File f s → F f ≡ G f) → content E F r o ≡ content E G r o
unfolding content
other_file E F G Free o e = refl
other_file E F G Bad o e = refl
other_file E F G System o e = refl
other_file E F G Other o e = refl
other_file E F G (File zero s) o e = refl
other_file E F G (File (suc f) s) o e = ap (λ (x : HeldFile). part (held_bytes x) s o) (e (suc f) s refl)

module _ (m : Inner) (v : Inv m) (x : NamedFile) (right : (1 ≤ length x.name) × (length x.name ≤ name_most))
    (new : suc m.peak ≤ inner_find m x.name)
    (room : inner_bad m + (dir_blocks (peak_after m) + (file_blocks m + blocks_for (length x.content))) ≤ usable) where
  abbrev kk : ℕ
  kk = empty_slot m

  abbrev n : ℕ
  n = blocks_for (length x.content)

  abbrev m' : Inner
  m' = inner_add_at m kk x

  abbrev owner₁ : ℕ → Record
  owner₁ = grow_owner m (peak_after m)

  abbrev L' : ℕ → HeldFile
  L' = upd m.slots kk (some x)

  abbrev first : List ℕ
  first = firsts blocks 1 (free_of m.owner)

  abbrev rest : List ℕ
  rest = firsts blocks n (free_of owner₁)

  owner_free : free_of m.owner 0 ≡ false
  unfolding free_of is_free
  owner_free = ap is_free v.own.own_zero

  owner₁_free : free_of owner₁ 0 ≡ false
  unfolding free_of is_free
  owner₁_free = ap is_free (owned₁ m v x right new room).own_zero

  abbrev d₀ : Disk
  d₀ = render m

  start : With d₀ (header m) m.owner (content m.slots L')
  unfolding render
  start =
      with_same d₀ (header m) m.owner (content m.slots m.slots) (with_is (header m) m.owner (content m.slots m.slots))
      (header m) m.owner (content m.slots L') (λ o l. refl) (λ b l. refl)
      (λ b o i j l. other_file m.slots m.slots L' (m.owner b) o
      (λ f s e. sym (upd_other m.slots kk (some x) f
      (λ q. omega (arith, v.own.own_below b f s j e, ap (parts_of m) q, parts_none m kk (k_none m v) (k_pos m v))))))

  -- a new block of the directory has no entries
  new_dir : (t o : ℕ) → dir_blocks m.peak ≤ t → o < block_bytes → part zeros t o ≡ content m.slots L' (File 0 t) o
  unfolding part zeros content dir_byte dir_blocks slot_of
  new_dir t o h l =
      cond_true _ _ (lt_true l)
      ∙ sym (ap (λ (y : HeldFile). slot_of y (o % slot_bytes)) (v.slot_past (t * block_slots + o / slot_bytes) (omega arith)))

  abbrev d₁ : Disk
  d₁ = grow_dir d₀ kk

  grown : With d₁ (header m) owner₁ (content m.slots L')
  unfolding grow_dir grow_owner
  grown =
      by_growth m v
      (λ t e q r.
      let same_first : firsts blocks 1 (free_at d₀) ≡ first =
      firsts_cong blocks 1 (free_at d₀) (free_of m.owner)
      (λ j l. unfold free_of in free_is d₀ (header m) m.owner (content m.slots L') start v.own.own_valid j l) in
      let p : With (give_blocks d₀ 0 zeros (dir_blocks m.peak) first) (header m) (give m.owner 0 (dir_blocks m.peak) first) (content m.slots L') =
      give_step first d₀ (header m) m.owner (content m.slots L') 0 (dir_blocks m.peak) zeros
      (picks_inside (free_of m.owner) 0 first owner_free (firsts_picks blocks 1 (free_of m.owner))) new_dir start in
      let dd : d₁ ≡ give_blocks d₀ 0 zeros (dir_blocks m.peak) first =
      cond_true _ _ (grows_is m v ∙ t) ∙ ap₂ (λ (s : ℕ) (bs : List ℕ). give_blocks d₀ 0 zeros s bs) q same_first in
      let oo : owner₁ ≡ give m.owner 0 (dir_blocks m.peak) first = cond_true _ _ t in
      subst (λ (z : Disk). With z (header m) owner₁ (content m.slots L')) (sym dd)
      (subst (λ (z : ℕ → Record). With (give_blocks d₀ 0 zeros (dir_blocks m.peak) first) (header m) z (content m.slots L')) (sym oo) p))
      (λ t r.
      let dd : d₁ ≡ d₀ = cond_false _ _ (grows_is m v ∙ t) in
      let oo : owner₁ ≡ m.owner = cond_false _ _ t in
      subst (λ (z : Disk). With z (header m) owner₁ (content m.slots L')) (sym dd)
      (subst (λ (z : ℕ → Record). With d₀ (header m) z (content m.slots L')) (sym oo) start))

  abbrev stored : ℕ → ℕ
  stored = stored_byte (entry_for x.name x.date (length x.content)) x.content

  abbrev d₂ : Disk
  d₂ = give_blocks d₁ kk stored 0 (firsts blocks n (free_at d₁))

  filled : With d₂ (header m) (give owner₁ kk 0 rest) (content m.slots L')
  unfolding held_bytes
  filled =
      let same_rest : firsts blocks n (free_at d₁) ≡ rest =
      firsts_cong blocks n (free_at d₁) (free_of owner₁)
      (λ j l. unfold free_of in free_is d₁ (header m) owner₁ (content m.slots L') grown (owned₁ m v x right new room).own_valid j l) in
      subst (λ (bs : List ℕ). With (give_blocks d₁ kk stored 0 bs) (header m) (give owner₁ kk 0 rest) (content m.slots L')) (sym same_rest)
      (give_step rest d₁ (header m) owner₁ (content m.slots L') kk 0 stored
      (picks_inside (free_of owner₁) 0 rest owner₁_free (firsts_picks blocks n (free_of owner₁)))
      (λ t o h l. sym (file_content m.slots L' kk t o (k_pos m v) ∙ ap (λ (y : HeldFile). part (held_bytes y) t o) (upd_same m.slots kk (some x) kk refl)))
      grown)

  abbrev entry : ℕ → ℕ
  entry = entry_byte (entry_for x.name x.date (length x.content))

  abbrev d₃ : Disk
  d₃ = set_slot d₂ kk entry

  in_dir : kk / block_slots < parts_of m' 0
  unfolding parts_of inner_add_at dir_blocks
  in_dir = omega (arith, k_in m v x right new room)

  slotted : With d₃ (header m) m'.owner (content L' L')
  unfolding inner_add_at slot_of
  slotted = slot_step d₂ (header m) m'.owner (parts_of m') (owned₂ m v x right new room) m.slots L' filled kk (some x) entry (λ i l. refl) in_dir

  abbrev d₄ : Disk
  d₄ = end_after kk (dir_end d₀) d₃

  ended : With d₄ (disk_header_byte m.arguments m.updates (free_word (inner_bad m) m.peak (file_blocks m)) (suc (peak_after m))) m'.owner (content L' L')
  unfolding end_after header
  ended =
      let w : ℕ = free_word (inner_bad m) m.peak (file_blocks m) in
      by_order kk (suc m.peak)
      (λ h.
      let e : suc m.peak ≡ suc (peak_after m) = ap suc (sym (peak_same m v (omega arith))) in
      let dd : d₄ ≡ d₃ = cond_false _ _ (eq_false {a = kk} {b = dir_end d₀} (omega (arith, dir_end_is m v))) in
      subst (λ (z : Disk). With z (disk_header_byte m.arguments m.updates w (suc (peak_after m))) m'.owner (content L' L')) (sym dd)
      (subst (λ (z : ℕ). With d₃ (disk_header_byte m.arguments m.updates w z) m'.owner (content L' L')) e slotted))
      (λ h.
      let k₁ : kk ≡ suc m.peak = omega (arith, k_le m v) in
      let e : suc kk ≡ suc (peak_after m) = ap suc (k₁ ∙ sym (peak_more m v k₁)) in
      let dd : d₄ ≡ set_end d₃ (suc kk) = cond_true _ _ (eq_true {a = kk} {b = dir_end d₀} (omega (arith, dir_end_is m v))) in
      subst (λ (z : Disk). With z (disk_header_byte m.arguments m.updates w (suc (peak_after m))) m'.owner (content L' L')) (sym dd)
      (subst (λ (z : ℕ). With (set_end d₃ (suc kk)) (disk_header_byte m.arguments m.updates w z) m'.owner (content L' L')) e
      (end_step m.arguments m.updates w (suc m.peak) m'.owner (content L' L') d₃ slotted (suc kk))))

  -- the disk after an add is that of the inner model after it
  pub add_image : add_at (render m) kk (entry_from x) x.content ≡ render m'
  unfolding add_at render inner_add_at header
  add_image =
      let w : free_sectors (count blocks (free_of m'.owner)) ≡ free_word (inner_bad m) (peak_after m) (file_blocks m') =
      unfold free_word in omega (arith, (add_inv m v x right new room).free_sum) in
      let p =
      finish m.arguments m.updates (free_word (inner_bad m) m.peak (file_blocks m)) (suc (peak_after m)) m'.owner (content L' L') d₄ ended
      (owned₂ m v x right new room).own_valid v.updates_fit in
      with_only (header m') m'.owner (content L' L') (add_at (render m) kk (entry_from x) x.content)
      (subst (λ (y : ℕ). With (add_at (render m) kk (entry_from x) x.content)
      (disk_header_byte m.arguments (wrap (m.updates + 1)) y (suc (peak_after m))) m'.owner (content L' L')) w p)
