-- One call gives in the model what it gives in the inner model.
-- Rests on lists and owners that agree (Listed) and on what add and remove leave (OnImages).
use Rattle.std.specs.Prelude.{◌≡◌, ◌≢◌, Bool, ltb}
use Rattle.std.proofs.Math.Path.{refl, sym, ap, ap₂, subst, fun_ext}
use Rattle.std.proofs.Common.{◌∙◌, arith}
use Rattle.std.proofs.Math.Bool.{true, false, cond}
use mathlib.Core.List.{List, [], ◌++◌}
use Rattle.std.proofs.Math.Option.{Option, none, some}
use Prim.Native.Nat.{ℕ, zero, suc, ◌+◌, ◌≤◌, ◌<◌}
use Rattle.std.proofs.Math.ListN.{length}
use Rattle.laws.specs.Changes.{upd}
use Rattle.laws.specs.Below.{firsts}
use Rattle.laws.specs.Options.{is_some}
use Rattle.laws.specs.Laws.Cases.{by_order, by_equal, by_test}
use Rattle.laws.specs.Laws.Tests.{lt_true, lt_false, true_le, true≢false, cond_true, cond_false}
use Rattle.laws.specs.Laws.Changes.{upd_same, upd_other}
use Rattle.laws.specs.Laws.Firsts.{firsts_picks, firsts_cong}
use Rattle.sector_rules.specs.Geometry.{blocks}
use Rattle.sector_rules.specs.Replies.{refusal}
use Rattle.sector_rules.specs.declared.Reply.{Reply}
use Rattle.file_rules.specs.declared.Record.{Record}
use Rattle.file_rules.specs.Calls.{Outcome, buffer_kept}
use Rattle.file_rules.specs.Directory.{name_eq, name_right}
use Rattle.file_rules.specs.Items.{Item, removing, adding}
use Rattle.file_rules.proofs.Laws.OnImages.Slot.{k_pos, k_none, by_growth}
use Rattle.file_rules.proofs.Laws.OnImages.Added.{dir_parts, first_length, owned₁, bad₁, parts₁_k, parts_after}
use Rattle.file_rules.proofs.Laws.InnerModel.Fields.{parts_none}
use Rattle.file_rules.proofs.Laws.InnerModel.Reads.{found_slot}
use Rattle.file_rules.proofs.Laws.InnerModel.Inner.{Inner, present_count, file_blocks, inner_bad, header, render}
use Rattle.file_rules.proofs.Laws.InnerModel.Inner.{inner_find, empty_slot}
use Rattle.file_rules.proofs.Laws.InnerModel.Inner.{give, free_of, inner_list, inner_read, InnerChanged, inner_refused, inner_remove_at, inner_remove}
use Rattle.file_rules.proofs.Laws.InnerModel.Inner.{grow_owner}
use Rattle.file_rules.proofs.Laws.InnerModel.Inner.{peak_after, inner_add_at, room_for, inner_add, inner_item}
use Rattle.file_rules.proofs.Laws.InnerModel.Invariant.{parts_of, Inv}
use Rattle.file_rules.proofs.Laws.InModel.Listed.{listed_blocks, with_owner, BlocksListed, owner_is, give_listed, freed_listed, listed_cong}
use Rattle.file_rules.proofs.Laws.Base.Names.{name_bounds, name_is, name_so}
use Rattle.file_rules.proofs.Laws.OnImages.Remove.{parts_other, parts_gone}
use Rattle.file_rules.proofs.Laws.Base.Results.{result_is}
use Rattle.file_rules.proofs.Laws.Base.Whole.{with_is, with_only, with_same, unowned}
use Rattle.file_rules.specs.Map.{is_free}
use Rattle.file_rules.specs.Model.{NamedFile, HeldFile, FilledSlot, Model, file_of, taken_by, present_in, blocks_present, dir_blocks, usable}
use Rattle.file_rules.specs.Model.{content, model_record, model_header, model_disk, acceptable, slot_named, slot_vacant, held_entries, held_data}
use Rattle.file_rules.specs.Model.{model_list, model_read, wrap, peak_then, fits, free_in, dir_then, fill, clear, ModelChanged, model_add, model_remove}
use Rattle.file_rules.specs.Model.{model_item}
use Rattle.file_rules.specs.Sizes.{name_most}
use Rattle.file_rules.specs.Written.{blocks_for}

-- the inner model's reply to a call
abbrev inner_reply : InnerChanged → Reply
inner_reply c = c.answer

-- the inner model after a call
abbrev inner_next : InnerChanged → Inner
inner_next c = c.model_after

-- the model's reply to a call
abbrev model_reply : ModelChanged → Reply
model_reply c = c.answer

-- the model after a call
abbrev model_next : ModelChanged → Model
model_next c = c.model_after

file_none : (h : Option FilledSlot) → file_of h ≡ none → h ≡ none
unfolding file_of is_some
file_none none e = refl
file_none (some h) e = true≢false (is_some (file_of (some h))) refl (ap is_some e)

upd_file : (L : ℕ → Option FilledSlot) (k : ℕ) (v : Option FilledSlot) → upd (λ (j : ℕ). file_of (L j)) k (file_of v) ≡ (λ (j : ℕ). file_of (upd L k v j))
upd_file L k v =
    fun_ext (λ (j : ℕ).
    by_equal j k
    (λ q. upd_same (λ (i : ℕ). file_of (L i)) k (file_of v) j q ∙ ap file_of (sym (upd_same L k v j q)))
    (λ q. upd_other (λ (i : ℕ). file_of (L i)) k (file_of v) j q ∙ ap file_of (sym (upd_other L k v j q))))

blocks_other : (L : ℕ → Option FilledSlot) (dir : List ℕ) (k : ℕ) (v : Option FilledSlot) (j : ℕ)
    → j ≢ k → listed_blocks (upd L k v) dir j ≡ listed_blocks L dir j
unfolding listed_blocks
blocks_other L dir k v zero q = refl
blocks_other L dir k v (suc j) q = ap taken_by (upd_other L k v (suc j) q)

blocks_this : (L : ℕ → Option FilledSlot) (dir : List ℕ) (k : ℕ) (v : Option FilledSlot) → 0 < k → listed_blocks (upd L k v) dir k ≡ taken_by v
unfolding listed_blocks
blocks_this L dir zero v h = absurd (omega arith)
blocks_this L dir (suc k) v h = ap taken_by (upd_same L (suc k) v (suc k) refl)

blocks_empty : (L : ℕ → Option FilledSlot) (dir : List ℕ) (k : ℕ) → 0 < k → L k ≡ none → listed_blocks L dir k ≡ []
unfolding listed_blocks taken_by
blocks_empty L dir zero h e = absurd (omega arith)
blocks_empty L dir (suc k) h e = ap taken_by e

-- what holds of the two models: with owners o the model is the inner model, and its lists say the same as o
abbrev pub ModelsAgree : Inner → Model → Type 0
ModelsAgree inner m = (o : ℕ → Record) × (inner ≡ with_owner m o) × BlocksListed m.slots m.dir o (parts_of inner)

module _ (m : Model) (o : ℕ → Record) (v : Inv (with_owner m o)) (r : BlocksListed m.slots m.dir o (parts_of (with_owner m o))) where
  abbrev inner : Inner
  inner = with_owner m o

  no_zero : m.slots 0 ≡ none
  unfolding with_owner
  no_zero = file_none (m.slots 0) v.slot_zero

  past : (k : ℕ) → m.peak < k → parts_of inner k ≡ 0
  unfolding with_owner
  past k h = parts_none inner k (v.slot_past k h) (omega arith)

  owner_same : (x : ℕ) → x < blocks → o x ≡ model_record m.arguments.bad m.slots m.dir m.peak x
  unfolding with_owner
  owner_same x l = sym (owner_is m.slots m.dir o (parts_of inner) v.own r no_zero m.arguments.bad v.bad_is m.peak past x l)

  -- the model's disk is the inner model's
  pub image_same : render inner ≡ model_disk m
  unfolding render model_disk model_header blocks_present with_owner header file_blocks
  image_same =
      let c = content inner.slots inner.slots in
      let records : ℕ → Record = model_record m.arguments.bad m.slots m.dir m.peak in
      with_only (header inner) records c (render inner)
      (with_same (render inner) (header inner) o c (with_is (header inner) o c) (header inner)
      records c (λ i l. refl) owner_same (λ x i p l q. refl))

  -- a list in the inner model gives what it gives in the model
  pub list_same : (buf : List ℕ) → inner_list inner buf ≡ model_list m buf
  unfolding model_list inner_list with_owner
  list_same buf = result_is (held_entries inner.slots (suc inner.peak)) buf

  -- a read in the inner model gives what it gives in the model
  pub read_same : (name buf : List ℕ) → inner_read inner name buf ≡ model_read m name buf
  unfolding model_read inner_read with_owner slot_named inner_find buffer_kept
  read_same name buf =
      ap₂ (λ (t : Bool) (o : Outcome).
      cond t (cond (ltb (inner_find inner name) (suc inner.peak)) o (buffer_kept buf (refusal 14))) (buffer_kept buf (refusal 12)))
      (name_is name) (result_is (held_data (inner.slots (inner_find inner name))) buf)

  -- the inner model's reply to an add or a remove is the model's
  pub item_same : (x : Item) → (inner_item inner x).answer ≡ (model_item m x).answer
  unfolding inner_item model_item model_add model_remove inner_add inner_remove inner_refused with_owner slot_named inner_find fits
      room_for peak_then peak_after present_in present_count blocks_present file_blocks
  item_same (removing name) =
      by_test (name_right name)
      (λ t. let u : acceptable name ≡ true = name_so name t in
      by_order (inner_find inner name) (suc inner.peak)
      (λ h. ap inner_reply (cond_true _ _ t ∙ cond_true _ _ (lt_true h)) ∙ sym (ap model_reply (cond_true _ _ u ∙ cond_true _ _ (lt_true h))))
      (λ h. ap inner_reply (cond_true _ _ t ∙ cond_false _ _ (lt_false h)) ∙ sym (ap model_reply (cond_true _ _ u ∙ cond_false _ _ (lt_false h)))))
      (λ t. let u : acceptable name ≡ false = name_so name t in ap inner_reply (cond_false _ _ t) ∙ sym (ap model_reply (cond_false _ _ u)))
  item_same (adding x) =
      by_test (name_right x.name)
      (λ t. let u : acceptable x.name ≡ true = name_so x.name t in
      by_order (inner_find inner x.name) (suc inner.peak)
      (λ h. ap inner_reply (cond_true _ _ t ∙ cond_true _ _ (lt_true h)) ∙ sym (ap model_reply (cond_true _ _ u ∙ cond_true _ _ (lt_true h))))
      (λ h. by_test (room_for inner x)
      (λ s. ap inner_reply (cond_true _ _ t ∙ cond_false _ _ (lt_false h) ∙ cond_true _ _ s)
      ∙ sym (ap model_reply (cond_true _ _ u ∙ cond_false _ _ (lt_false h) ∙ cond_true _ _ s)))
      (λ s. ap inner_reply (cond_true _ _ t ∙ cond_false _ _ (lt_false h) ∙ cond_false _ _ s)
      ∙ sym (ap model_reply (cond_true _ _ u ∙ cond_false _ _ (lt_false h) ∙ cond_false _ _ s)))))
      (λ t. let u : acceptable x.name ≡ false = name_so x.name t in ap inner_reply (cond_false _ _ t) ∙ sym (ap model_reply (cond_false _ _ u)))

  stay : ModelsAgree inner m
  stay = (o, refl, r)

  remove_next : (k : ℕ) → 0 < k → k ≤ inner.peak → ModelsAgree (inner_remove_at inner k) (clear m k)
  unfolding inner_remove_at clear with_owner file_of taken_by
  remove_next k h l = (
    (λ (x : ℕ). unowned k (o x)),
    ap (λ (ls : ℕ → HeldFile). record {
      arguments = m.arguments;
      updates = wrap (m.updates + 1);
      peak = m.peak;
      slots = ls;
      owner = λ (x : ℕ). unowned k (o x);
    }) (upd_file m.slots k none),
    freed_listed m.slots (upd m.slots k none) m.dir m.dir o (parts_of inner) r k
        (parts_of (inner_remove_at inner k)) (parts_other inner v k h l) (parts_gone inner v k h l)
        (λ j q. blocks_other m.slots m.dir k none j q) (blocks_this m.slots m.dir k none h),
  )

  module _ (x : NamedFile) (right : (1 ≤ length x.name) × (length x.name ≤ name_most)) (new : suc inner.peak ≤ inner_find inner x.name)
      (room : inner_bad inner + (dir_blocks (peak_after inner) + (file_blocks inner + blocks_for (length x.content))) ≤ usable) where
    abbrev k : ℕ
    k = empty_slot inner

    abbrev owner₁ : ℕ → Record
    owner₁ = grow_owner inner (peak_after inner)

    abbrev parts₁ : ℕ → ℕ
    parts₁ = upd (parts_of inner) 0 (dir_blocks (peak_after inner))

    abbrev n : ℕ
    n = blocks_for (length x.content)

    first_same : firsts blocks 1 (free_in m.arguments.bad m.slots m.dir m.peak) ≡ firsts blocks 1 (free_of o)
    unfolding free_in free_of
    first_same = firsts_cong blocks 1 (free_in m.arguments.bad m.slots m.dir m.peak) (free_of o) (λ j l. ap is_free (sym (owner_same j l)))

    listed₁ : BlocksListed m.slots (dir_then m) owner₁ parts₁
    unfolding dir_then grow_owner with_owner peak_then present_in peak_after present_count listed_blocks
    listed₁ =
        let first : List ℕ = firsts blocks 1 (free_of o) in
        by_growth inner v
        (λ t e q s.
        let w : BlocksListed m.slots (m.dir ++ first) (give o 0 (dir_blocks inner.peak) first)
        (upd (parts_of inner) 0 (dir_blocks inner.peak + length first)) =
        give_listed m.slots m.slots m.dir (m.dir ++ first) o (parts_of inner) r first 0 (dir_blocks inner.peak) 0 (firsts_picks blocks 1 (free_of o))
        (dir_parts inner v x right new room) (λ j p. dir_other j p) refl in
        let d : dir_blocks inner.peak + length first ≡ dir_blocks (peak_after inner) = omega (arith, first_length inner v x right new room s) in
        let dd : dir_then m ≡ m.dir ++ first = cond_true _ _ t ∙ ap (λ (bs : List ℕ). m.dir ++ bs) first_same in
        let oo : owner₁ ≡ give o 0 (dir_blocks inner.peak) first = cond_true _ _ t in
        subst (λ (z : List ℕ). BlocksListed m.slots z owner₁ parts₁) (sym dd)
        (subst (λ (z : ℕ → Record). BlocksListed m.slots (m.dir ++ first) z parts₁) (sym oo)
        (subst (λ (z : ℕ). BlocksListed m.slots (m.dir ++ first) (give o 0 (dir_blocks inner.peak) first) (upd (parts_of inner) 0 z)) d w)))
        (λ t s.
        let dd : dir_then m ≡ m.dir = cond_false _ _ t in
        let oo : owner₁ ≡ o = cond_false _ _ t in
        subst (λ (z : List ℕ). BlocksListed m.slots z owner₁ parts₁) (sym dd)
        (subst (λ (z : ℕ → Record). BlocksListed m.slots m.dir z parts₁) (sym oo)
        (listed_cong m.slots m.dir o (parts_of inner) parts₁
        (λ f. by_equal f 0
        (λ p. ap (parts_of inner) p ∙ dir_parts inner v x right new room ∙ sym s ∙ sym (upd_same (parts_of inner) 0 (dir_blocks (peak_after inner)) f p))
        (λ p. sym (upd_other (parts_of inner) 0 (dir_blocks (peak_after inner)) f p))) r)))
      where
        dir_other : (j : ℕ) → j ≢ 0 → listed_blocks m.slots (m.dir ++ firsts blocks 1 (free_of o)) j ≡ listed_blocks m.slots m.dir j
        dir_other zero p = absurd (p refl)
        dir_other (suc j) p = refl

    past₁ : (j : ℕ) → m.peak < j → parts₁ j ≡ 0
    past₁ j h = upd_other (parts_of inner) 0 (dir_blocks (peak_after inner)) j (omega arith) ∙ past j h

    rest_same : firsts blocks n (free_in m.arguments.bad m.slots (dir_then m) m.peak) ≡ firsts blocks n (free_of owner₁)
    unfolding free_in free_of with_owner
    rest_same =
        firsts_cong blocks n (free_in m.arguments.bad m.slots (dir_then m) m.peak) (free_of owner₁)
        (λ j l. ap is_free (owner_is m.slots (dir_then m) owner₁ parts₁ (owned₁ inner v x right new room) listed₁ no_zero
        m.arguments.bad (bad₁ inner v x right new room) m.peak past₁ j l))

    add_next : ModelsAgree (inner_add_at inner k x) (fill m k x)
    unfolding inner_add_at fill with_owner file_of taken_by peak_then present_in peak_after present_count
    add_next =
        let bs : List ℕ = firsts blocks n (free_in m.arguments.bad m.slots (dir_then m) m.peak) in
        let rest : List ℕ = firsts blocks n (free_of owner₁) in
        let h : Option FilledSlot = some (record { file = x; taken = bs }) in
        let o' : ℕ → Record = give owner₁ k 0 rest in
        let empty : m.slots k ≡ none = file_none (m.slots k) (k_none inner v) in (
          o',
          ap (λ (ls : ℕ → HeldFile). record {
            arguments = m.arguments;
            updates = wrap (m.updates + 1);
            peak = peak_after inner;
            slots = ls;
            owner = o';
          }) (upd_file m.slots k h),
          listed_cong (upd m.slots k h) (dir_then m) o' (upd parts₁ k (0 + length rest))
              (parts_of (inner_add_at inner k x)) (parts_after inner v x right new room)
              (give_listed m.slots (upd m.slots k h) (dir_then m) (dir_then m) owner₁ parts₁ listed₁ rest k 0 0 (firsts_picks blocks n (free_of owner₁))
              (parts₁_k inner v x right new room)
              (λ j q. blocks_other m.slots (dir_then m) k h j q)
              (blocks_this m.slots (dir_then m) k h (k_pos inner v) ∙ rest_same
              ∙ ap (λ (l : List ℕ). l ++ rest) (sym (blocks_empty m.slots (dir_then m) k (k_pos inner v) empty)))),
        )

  -- after an add or a remove the two models agree again
  pub item_agrees : (x : Item) → ModelsAgree (inner_item inner x).model_after (model_item m x).model_after
  unfolding inner_item model_item model_add model_remove inner_remove inner_add inner_refused with_owner slot_named inner_find fits room_for slot_vacant
      empty_slot peak_then peak_after present_in present_count blocks_present file_blocks
  item_agrees (removing name) =
      by_test (name_right name)
      (λ t. by_order (inner_find inner name) (suc inner.peak)
      (λ h.
      let w : (x : NamedFile) × (inner.slots (inner_find inner name) ≡ some x) × (name_eq x.name name ≡ true) × (0 < inner_find inner name) =
      found_slot inner v name h in
      let em : (inner_remove inner name).model_after ≡ inner_remove_at inner (inner_find inner name) = ap inner_next (cond_true _ _ t
      ∙ cond_true _ _ (lt_true h)) in
      let eb : (model_remove m name).model_after ≡ clear m (inner_find inner name) = ap model_next (cond_true _ _ (name_so name t)
      ∙ cond_true _ _ (lt_true h)) in
      subst (λ (z : Inner). ModelsAgree z (model_remove m name).model_after) (sym em)
      (subst (λ (z : Model). ModelsAgree (inner_remove_at inner (inner_find inner name)) z) (sym eb) (remove_next (inner_find inner name) w.3 (omega arith))))
      (λ h.
      let em : (inner_remove inner name).model_after ≡ inner = ap inner_next (cond_true _ _ t ∙ cond_false _ _ (lt_false h)) in
      let eb : (model_remove m name).model_after ≡ m = ap model_next (cond_true _ _ (name_so name t) ∙ cond_false _ _ (lt_false h)) in
      subst (λ (z : Inner). ModelsAgree z (model_remove m name).model_after) (sym em) (subst (λ (z : Model). ModelsAgree inner z) (sym eb) stay)))
      (λ t.
      let em : (inner_remove inner name).model_after ≡ inner = ap inner_next (cond_false _ _ t) in
      let eb : (model_remove m name).model_after ≡ m = ap model_next (cond_false _ _ (name_so name t)) in
      subst (λ (z : Inner). ModelsAgree z (model_remove m name).model_after) (sym em) (subst (λ (z : Model). ModelsAgree inner z) (sym eb) stay))
  item_agrees (adding x) =
      by_test (name_right x.name)
      (λ t. by_order (inner_find inner x.name) (suc inner.peak)
      (λ h.
      let em : (inner_add inner x).model_after ≡ inner = ap inner_next (cond_true _ _ t ∙ cond_true _ _ (lt_true h)) in
      let eb : (model_add m x).model_after ≡ m = ap model_next (cond_true _ _ (name_so x.name t) ∙ cond_true _ _ (lt_true h)) in
      subst (λ (z : Inner). ModelsAgree z (model_add m x).model_after) (sym em) (subst (λ (z : Model). ModelsAgree inner z) (sym eb) stay))
      (λ h. by_test (room_for inner x)
      (λ s.
      let right : (1 ≤ length x.name) × (length x.name ≤ name_most) = name_bounds x.name t in
      let em : (inner_add inner x).model_after ≡ inner_add_at inner (empty_slot inner) x =
      ap inner_next (cond_true _ _ t ∙ cond_false _ _ (lt_false h) ∙ cond_true _ _ s) in
      let eb : (model_add m x).model_after ≡ fill m (empty_slot inner) x =
      ap model_next (cond_true _ _ (name_so x.name t) ∙ cond_false _ _ (lt_false h) ∙ cond_true _ _ s) in
      subst (λ (z : Inner). ModelsAgree z (model_add m x).model_after) (sym em)
      (subst (λ (z : Model). ModelsAgree (inner_add_at inner (empty_slot inner) x) z) (sym eb) (add_next x right h (true_le s))))
      (λ s.
      let em : (inner_add inner x).model_after ≡ inner = ap inner_next (cond_true _ _ t ∙ cond_false _ _ (lt_false h) ∙ cond_false _ _ s) in
      let eb : (model_add m x).model_after ≡ m = ap model_next (cond_true _ _ (name_so x.name t) ∙ cond_false _ _ (lt_false h) ∙ cond_false _ _ s) in
      subst (λ (z : Inner). ModelsAgree z (model_add m x).model_after) (sym em) (subst (λ (z : Model). ModelsAgree inner z) (sym eb) stay))))
      (λ t.
      let em : (inner_add inner x).model_after ≡ inner = ap inner_next (cond_false _ _ t) in
      let eb : (model_add m x).model_after ≡ m = ap model_next (cond_false _ _ (name_so x.name t)) in
      subst (λ (z : Inner). ModelsAgree z (model_add m x).model_after) (sym em) (subst (λ (z : Model). ModelsAgree inner z) (sym eb) stay))
