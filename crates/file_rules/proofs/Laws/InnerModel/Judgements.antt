-- The inner model's disk passes every judgement: 8 (header), 9 (map), 19 (good word), 10 (files), 11 (free word).
-- Rests on what is read of the disk (Reads).
use Rattle.std.specs.Prelude.{Some, None, ◌≡◌, true, false, cond, ◌&&◌, ℕ, suc, ◌+◌, ◌≤◌, ◌<◌, ltb}
use Rattle.std.proofs.Math.Path.{refl, sym, ap, ap₂}
use Rattle.std.proofs.Common.{◌∙◌, subst, arith}
use Rattle.std.proofs.Math.Bool.{not}
use Rattle.std.proofs.Math.Option.{none, some}
use Rattle.std.proofs.Math.Dec.{eqb}
use Rattle.std.proofs.Math.ListN.{length}
use Rattle.laws.specs.Below.{count}
use Rattle.laws.specs.Numbers.{at16}
use Rattle.laws.specs.Options.{is_some, or_else}
use Rattle.laws.specs.Laws.Cases.{by_order, by_equal, by_test}
use Rattle.laws.specs.Laws.Tests.{lt_true, lt_false, le_true, eq_true, eq_false, true≢false, cond_true, cond_false, and_true, and_false_left}
use Rattle.laws.specs.Laws.Tests.{and_false_right}
use Rattle.laws.specs.Laws.All.{all_is}
use Rattle.laws.specs.Laws.Lowest.{lowest_none}
use Rattle.laws.specs.Laws.Count.{count_cong, count_one}
use Rattle.sector_rules.specs.Faults.{fault_below, refusal_at}
use Rattle.sector_rules.specs.Geometry.{blocks}
use Rattle.file_rules.specs.declared.Record.{Record}
use Rattle.file_rules.specs.declared.Record.TheVariants.{Free, Bad, System, File, Other}
use Rattle.file_rules.specs.Check.{disk_header_fault}
use Rattle.file_rules.specs.Check.{record_fault, map_fault, parts_right, no_record_bears, new_name}
use Rattle.file_rules.specs.Check.{entry_right, file_right, file_fault, good_right, free_right, refusal8, refusal9, refusal19, start_refusal}
use Rattle.file_rules.specs.Check.{refusal10, refusal11, disk_refusal}
use Rattle.file_rules.specs.Directory.{name_eq, slot_entry, slot_name, held, dir_bytes, dir_end}
use Rattle.file_rules.specs.Disk.{Disk}
use Rattle.file_rules.proofs.Laws.InnerModel.Inner.{Inner, header, render}
use Rattle.file_rules.proofs.Laws.InnerModel.Invariant.{parts_of, Inv}
use Rattle.file_rules.proofs.Laws.Base.Header.{header_none, header_passes}
use Rattle.file_rules.proofs.Laws.Base.Records.{Valid}
use Rattle.file_rules.specs.Map.{record_at, is_system, is_other, bears, is_part, within, free_count, bad_count}
use Rattle.file_rules.specs.Model.{NamedFile, HeldFile, free_word}
use Rattle.file_rules.specs.Sizes.{slot_bytes, slot_count, name_most, free_sectors, good_sectors, blocks_of}
use Rattle.file_rules.proofs.Laws.InnerModel.Fields.{is_part_true, true_is_part, parts_some, parts_none, parts_dir}
use Rattle.file_rules.proofs.Laws.InnerModel.Reads.{rec, head_byte, dir_bytes_is, dir_end_is, word20, word22, free_count_at, bad_count_at, not_zero}
use Rattle.file_rules.proofs.Laws.InnerModel.Reads.{held_is, slot_length_is, slot_name_length_is, slot_name_is}

module _ (m : Inner) (v : Inv m) where
  abbrev d : Disk
  d = render m

  -- ---- judgement 8

  header_right : disk_header_fault d ≡ None
  unfolding header
  header_right =
      header_passes _ _ _ (suc m.peak) (omega arith) (omega (arith, v.peak_most)) d
      (λ o h. head_byte m v o (omega arith)) (λ o l h. head_byte m v o (omega arith))

  -- ---- judgement 9

  record_right : (b : ℕ) → b < blocks → (r : Record) → m.owner b ≡ r → record_fault b r ≡ false
  unfolding record_fault is_system is_other
  record_right b h Free e = cond_false _ _ (eq_false (not_zero m v b Free e refl))
  record_right b h Bad e = cond_false _ _ (eq_false (not_zero m v b Bad e refl))
  record_right b h System e = cond_true _ _ (eq_true (v.own.own_system b h e))
  record_right b h (File f s) e = cond_false _ _ (eq_false (not_zero m v b (File f s) e refl))
  record_right b h Other e = absurd (subst Valid e (v.own.own_valid b h))

  map_right : map_fault d ≡ blocks
  unfolding map_fault
  map_right =
      lowest_none (λ (b : ℕ). record_fault b (record_at d b)) blocks
      (λ b h. ap (record_fault b) (rec m v b h) ∙ record_right b h (m.owner b) refl)

  -- ---- judgement 10

  within_right : (f b : ℕ) → b < blocks → (r : Record) → m.owner b ≡ r → within f (parts_of m f) r ≡ true
  unfolding within
  within_right f b h Free e = refl
  within_right f b h Bad e = refl
  within_right f b h System e = refl
  within_right f b h Other e = refl
  within_right f b h (File g t) e =
      by_equal g f
      (λ q. cond_true _ _ (eq_true q) ∙ lt_true (subst (λ (x : ℕ). t < parts_of m x) q (v.own.own_below b g t h e)))
      (λ q. cond_false _ _ (eq_false q))

  parts_right_lem : (f n : ℕ) → n ≡ parts_of m f → parts_right d f n ≡ true
  unfolding parts_right
  parts_right_lem f n q =
      and_true
      (all_is (λ (b : ℕ). within f n (record_at d b)) blocks
      (λ b h. ap₂ (λ (x : ℕ) (r : Record). within f x r) q (rec m v b h) ∙ within_right f b h (m.owner b) refl))
      (all_is (λ (s : ℕ). eqb (count blocks (λ (b : ℕ). is_part f s (record_at d b))) 1) n
      (λ s h.
      let w : (b : ℕ) × (b < blocks) × (m.owner b ≡ File f s) = v.own.own_part f s (subst (λ (x : ℕ). s < x) q h) in
      eq_true
      (count_cong blocks (λ (b : ℕ). is_part f s (record_at d b)) (λ (b : ℕ). is_part f s (m.owner b)) (λ b k. ap (is_part f s) (rec m v b k))
      ∙ count_one blocks w.0 (λ (b : ℕ). is_part f s (m.owner b)) w.1 (is_part_true f s (m.owner w.0) w.2)
      (λ j k t. v.own.own_once j w.0 f s k w.1 (true_is_part f s (m.owner j) t) w.2))))

  none_bears : (f b : ℕ) → parts_of m f ≡ 0 → b < blocks → (r : Record) → m.owner b ≡ r → bears f r ≡ false
  unfolding bears
  none_bears f b z h Free e = refl
  none_bears f b z h Bad e = refl
  none_bears f b z h System e = refl
  none_bears f b z h Other e = refl
  none_bears f b z h (File g t) e =
      eq_false {a = g} {b = f} (λ q. omega (arith, v.own.own_below b g t h e, ap (parts_of m) q))

  no_record_right : (f : ℕ) → parts_of m f ≡ 0 → no_record_bears d f ≡ true
  unfolding no_record_bears
  no_record_right f z =
      all_is (λ (b : ℕ). not (bears f (record_at d b))) blocks
      (λ b h. ap (λ (r : Record). not (bears f r)) (rec m v b h) ∙ ap not (none_bears f b z h (m.owner b) refl))

  module _ (k : ℕ) (h : k ≤ m.peak) (x : NamedFile) (e : m.slots k ≡ some x) where
    other_name : (j : ℕ) → j < k → (l : HeldFile) → m.slots j ≡ l → (held d j && name_eq (slot_name d j) (slot_name d k)) ≡ false
    unfolding is_some
    other_name j q none a = and_false_left (name_eq (slot_name d j) (slot_name d k)) (held_is m v j (omega arith) none a)
    other_name j q (some y) a =
        and_false_right (held d j)
        (ap₂ name_eq (slot_name_is m v j (omega arith) y a) (slot_name_is m v k h x e)
        ∙ by_test (name_eq y.name x.name) (λ t. absurd (omega (arith, v.slot_once j k y x a e t))) (λ t. t))

    new_name_right : new_name d k ≡ true
    unfolding new_name
    new_name_right =
        all_is (λ (j : ℕ). not (held d j && name_eq (slot_name d j) (slot_name d k))) k
        (λ j q. ap not (other_name j q (m.slots j) refl))

    entry_right_lem : 0 < k → entry_right d k ≡ true
    unfolding entry_right
    entry_right_lem pos =
        let size : (slot_entry d k).length ≡ slot_bytes + length x.content = slot_length_is m v k h x e in
        let long : (slot_entry d k).namelen ≡ length x.name = slot_name_length_is m v k h x e in
        and_true (le_true {a = slot_bytes} {b = (slot_entry d k).length} (omega arith))
        (and_true (le_true {a = 1} {b = (slot_entry d k).namelen} (omega (arith, (v.slot_name_lem k x e).0)))
        (and_true (le_true {a = (slot_entry d k).namelen} {b = name_most} (omega (arith, (v.slot_name_lem k x e).1)))
        (and_true new_name_right (parts_right_lem k (blocks_of (slot_entry d k).length) (ap blocks_of size ∙ sym (parts_some m k x e pos))))))

  vacant_right : (f : ℕ) → 0 < f → (l : HeldFile) → m.slots f ≡ l → cond (ltb f (dir_end d) && held d f) (entry_right d f) (no_record_bears d f) ≡ true
  unfolding is_some
  vacant_right f p none e =
      by_order f (suc m.peak)
      (λ h. cond_false _ _ (and_false_right (ltb f (dir_end d)) (held_is m v f (omega arith) none e)))
      (λ h. cond_false _ _ (and_false_left (held d f) (lt_false {a = f} {b = dir_end d} (omega (arith, dir_end_is m v)))))
      ∙ no_record_right f (parts_none m f e p)
  vacant_right f p (some x) e =
      by_order m.peak f
      (λ h. true≢false (is_some (m.slots f)) (ap is_some e) (ap is_some (v.slot_past f h)))
      (λ h. cond_true _ _ (and_true (lt_true {a = f} {b = dir_end d} (omega (arith, dir_end_is m v))) (held_is m v f h (some x) e)) ∙ entry_right_lem f h x e p)

  file_right_lem : (f : ℕ) → file_right d f ≡ true
  unfolding file_right
  file_right_lem f =
      by_equal f 0
      (λ z. cond_true _ _ (eq_true z) ∙ parts_right_lem 0 (blocks_of (dir_bytes d)) (ap blocks_of (dir_bytes_is m v) ∙ parts_dir m))
      (λ z. cond_false _ _ (eq_false z) ∙ vacant_right f (omega arith) (m.slots f) refl)

  files_right : file_fault d ≡ slot_count
  unfolding file_fault
  files_right = lowest_none (λ (f : ℕ). not (file_right d f)) slot_count (λ f h. ap not (file_right_lem f))

  -- ---- the check passes

  eight_right : refusal8 d ≡ none
  eight_right = header_none d header_right

  nine_right : refusal9 d ≡ none
  unfolding refusal9 fault_below
  nine_right = ap (refusal_at 9) (cond_false (Some (map_fault d)) None (lt_false {a = map_fault d} {b = blocks} (omega (arith, map_right))))

  nineteen_right : refusal19 d ≡ none
  unfolding refusal19 good_right
  nineteen_right = cond_true _ _ (eq_true {a = at16 (d 0) 22} {b = good_sectors (bad_count d)} (word22 m v ∙ ap good_sectors (sym (bad_count_at m v))))

  ten_right : refusal10 d ≡ none
  unfolding refusal10 fault_below
  ten_right = ap (refusal_at 10) (cond_false (Some (file_fault d)) None (lt_false {a = file_fault d} {b = slot_count} (omega (arith, files_right))))

  eleven_right : refusal11 d ≡ none
  unfolding refusal11 free_right free_word
  eleven_right = cond_true _ _ (eq_true {a = at16 (d 0) 20} {b = free_sectors (free_count d)} (omega (arith, word20 m v, free_count_at m v, v.free_sum)))

  -- the check of the inner model's disk finds no fault
  pub disk_refusal_none : disk_refusal d ≡ none
  unfolding disk_refusal start_refusal or_else
  disk_refusal_none = rw (eight_right, nine_right, nineteen_right, ten_right, eleven_right)
