-- A fresh disk as it is written: zeros, then the header's 96 bytes, then the records from block 0 upwards.
-- Rests on rows and steps (Writing) and on a whole disk (file_rules, Laws.Base.Whole).
use Rattle.std.specs.Prelude.{◌≡◌, ◌≢◌, Bool, true, false, List, [], ◌∷◌, leb, length}
use Rattle.std.proofs.Math.Path.{refl, sym, ap, ap₂, subst}
use Rattle.std.proofs.Common.{◌∙◌, zero-add, not-suc-le-zero, le_of_suc-le-suc, add-one}
use Prim.Native.Nat.{ℕ, zero, suc, ◌+◌, ◌-◌, ◌*◌, ◌/◌, ◌%◌, ◌≤◌, ◌<◌}
use native.Mathlib.Omega.{arith}
use Rattle.std.proofs.Math.ListN.{get_or, get_or-eq_default}
use Rattle.laws.specs.Lists.{tab, element_at}
use Rattle.laws.specs.Changes.{patch, overlay, put}
use Rattle.laws.specs.Numbers.{high_byte}
use Rattle.laws.specs.Laws.Cases.{by_order, by_equal, by_cond}
use Rattle.laws.specs.Laws.Tests.{le_false, eq_true, eq_false, cond_true, cond_false, and_false_left, and_false_right}
use Rattle.laws.specs.Laws.Changes.{upd₂_same, upd₂_other, patch_in, patch_below}
use Rattle.laws.specs.Laws.Overlay.{overlay_length, overlay_in, overlay_before, overlay_after, overlay_is, overlay_all}
use Rattle.sector_rules.specs.Geometry.{tracks, sectors, block_sectors, track_offset, track_sectors, all_sectors, blocks, image_bytes, side_place, backward}
use Rattle.sector_rules.proofs.Laws.Base.Geometry.{side_place_length, backward_length}
use Rattle.sector_rules.specs.Replies.{done, refusal}
use Rattle.file_rules.specs.declared.Record.{Record}
use Rattle.file_rules.specs.declared.Record.TheVariants.{Free, Bad, System, File}
use Rattle.file_rules.specs.Arguments.{FormatArguments, bad_list_right, count_listed}
use Rattle.file_rules.specs.Calls.{fresh_owner, fresh_header, format_disk, image_right, image_kept, wrong_length, format}
use Rattle.file_rules.specs.Check.{disk_signature}
use Rattle.file_rules.specs.Disk.{Disk, disk_of, image_of}
use Rattle.file_rules.proofs.Laws.Base.Disk.{image_cong, image_disk}
use Rattle.files.specs.Laws.Writing.Given.{inside_set}
use Rattle.files.specs.Laws.Writing.Steps.{FitsRecord, overlay_tab, put_row, inside_patched}
use Rattle.files.specs.Laws.Writing.Stored.{EqualInside, inside_step, patched, patched_row}
use Rattle.files.specs.Laws.Calling.BadNoted.{BadNoted, is_noted, fresh_record, fresh_is}
use Rattle.file_rules.proofs.Laws.Base.BadList.{right_each}
use Rattle.file_rules.proofs.Laws.Base.Whole.{with_is}
use Rattle.file_rules.proofs.Laws.OnImages.Run.{format_done}
use Rattle.file_rules.specs.Map.{encode}
use Rattle.file_rules.specs.Sizes.{slot_bytes, map_start, record_bytes, title_most, free_sectors, good_sectors}
use Rattle.file_rules.specs.Written.{fixed_byte, disk_header_byte, disk_with, set_record}

-- ---- the header, field by field

-- header h with signature, name filled with spaces, number
unfoldable pub titled : List ℕ → List ℕ → ℕ → List ℕ
titled h title number = overlay (overlay (put h 0 disk_signature) 4 title_most (λ (i : ℕ). get_or title i 32)) 14 2 (high_byte 2 number)

-- header h with the good word for n bad blocks, the sizes of the disk kind and its track offset
unfoldable pub sized : List ℕ → ℕ → List ℕ
sized h n =
    overlay (overlay (overlay (overlay (overlay (overlay (overlay h
    22 2 (high_byte 2 (good_sectors n)))
    24 2 (high_byte 2 all_sectors))
    26 2 (high_byte 2 sectors))
    28 2 (high_byte 2 track_sectors))
    30 2 (high_byte 2 tracks))
    32 2 (high_byte 2 block_sectors))
    38 2 (high_byte 2 track_offset)

-- header h with the two tables of places, no update yet, the free word for n bad blocks, and a directory of one slot
unfoldable pub started : List ℕ → ℕ → List ℕ
started h n =
    overlay (overlay (overlay (overlay (put (put h 40 side_place) 58 backward)
    16 4 (high_byte 4 0))
    20 2 (high_byte 2 (free_sectors (blocks - 2 - n))))
    34 2 (high_byte 2 0))
    36 2 (high_byte 2 slot_bytes)

-- the three parts of the header, written into 96 bytes FF, are the fresh header
pub header_row_lem : (h₀ h₁ h₂ h₃ : List ℕ) (args : FormatArguments) (n : ℕ) → n ≡ count_listed args.bad → h₀ ≡ tab (λ (i : ℕ). 0xFF) map_start
    → h₁ ≡ titled h₀ args.title args.number → h₂ ≡ sized h₁ n → h₃ ≡ started h₂ n → h₃ ≡ tab (fresh_header args) map_start
unfolding disk_header_byte fixed_byte titled sized started disk_signature
header_row_lem h₀ h₁ h₂ h₃ args n q e₀ e₁ f₂ f₃ =
    let e₂ = f₂ ∙ ap (sized h₁) q in
    let e₃ = f₃ ∙ ap (started h₂) q in
    let a₁ = put_row h₀ 0 disk_signature 4 refl ∙ overlay_tab _ map_start 0 4 _ _ e₀ in
    let a₂ = overlay_tab _ map_start 4 title_most (λ (i : ℕ). get_or args.title i 32) _ a₁ in
    let a₃ = e₁ ∙ overlay_tab _ map_start 14 2 (high_byte 2 args.number) _ a₂ in
    let b₁ = overlay_tab _ map_start 22 2 (high_byte 2 (good_sectors (count_listed args.bad))) _ a₃ in
    let b₂ = overlay_tab _ map_start 24 2 (high_byte 2 all_sectors) _ b₁ in
    let b₃ = overlay_tab _ map_start 26 2 (high_byte 2 sectors) _ b₂ in
    let b₄ = overlay_tab _ map_start 28 2 (high_byte 2 track_sectors) _ b₃ in
    let b₅ = overlay_tab _ map_start 30 2 (high_byte 2 tracks) _ b₄ in
    let b₆ = overlay_tab _ map_start 32 2 (high_byte 2 block_sectors) _ b₅ in
    let b₇ = e₂ ∙ overlay_tab _ map_start 38 2 (high_byte 2 track_offset) _ b₆ in
    let c₁ = put_row h₂ 40 side_place track_sectors side_place_length ∙ overlay_tab _ map_start 40 track_sectors (λ (i : ℕ). get_or side_place i 0) _ b₇ in
    let c₂ = put_row (put h₂ 40 side_place) 58 backward track_sectors backward_length
    ∙ overlay_tab _ map_start 58 track_sectors (λ (i : ℕ). get_or backward i 0) _ c₁ in
    let c₃ = overlay_tab _ map_start 16 4 (high_byte 4 0) _ c₂ in
    let c₄ = overlay_tab _ map_start 20 2 (high_byte 2 (free_sectors (blocks - 2 - count_listed args.bad))) _ c₃ in
    let c₅ = overlay_tab _ map_start 34 2 (high_byte 2 0) _ c₄ in
    e₃ ∙ overlay_tab _ map_start 36 2 (high_byte 2 slot_bytes) _ c₅

-- inside a list the default does not matter
get_d_any : (l : List ℕ) (i a b : ℕ) → i < length l → get_or l i a ≡ get_or l i b
get_d_any [] i a b h = absurd (not-suc-le-zero h)
get_d_any (x ∷ l) zero a b h = refl
get_d_any (x ∷ l) (suc i) a b h = get_d_any l i a b (le_of_suc-le-suc h)

-- spaces, then the name over them
module _ (h title : List ℕ) (short : length title ≤ title_most) where
  abbrev spaces : List ℕ
  spaces = overlay h 4 title_most (λ (i : ℕ). 32)

  abbrev n : ℕ
  n = length title

  abbrev g : ℕ → ℕ
  g = element_at title 0

  in_new : (k : ℕ) → 4 ≤ k → k < 4 + title_most → k < length h → get_or (overlay spaces 4 n g) k 0 ≡ get_or title (k - 4) 32
  unfolding element_at
  in_new k a b l =
      by_order k (4 + n)
      (λ m.
      overlay_in spaces 4 n g k a m (omega (arith, overlay_length h 4 title_most (λ (i : ℕ). 32)))
      ∙ ap (λ (j : ℕ). get_or title j 0) (zero-add (k - 4))
      ∙ get_d_any title (k - 4) 0 32 (omega arith))
      (λ m.
      overlay_after spaces 4 n g k m
      ∙ overlay_in h 4 title_most (λ (i : ℕ). 32) k a b l
      ∙ sym (get_or-eq_default title 32 (omega arith)))

  -- spaces, then the name over them, are the name filled with spaces
  pub padded : put spaces 4 title ≡ overlay h 4 title_most (λ (i : ℕ). get_or title i 32)
  unfolding put
  padded =
      overlay_is h 4 title_most (λ (i : ℕ). get_or title i 32) (overlay spaces 4 n g)
      (overlay_length spaces 4 n g ∙ overlay_length h 4 title_most (λ (i : ℕ). 32)) in_new
      (λ k l. overlay_before spaces 4 n g k l ∙ overlay_before h 4 title_most (λ (i : ℕ). 32) k l)
      (λ k l. overlay_after spaces 4 n g k (omega arith) ∙ overlay_after h 4 title_most (λ (i : ℕ). 32) k l)

-- signature, spaces, name and number written one after the other
pub titled_is : (h title : List ℕ) (number : ℕ) (h₁ h₂ h₃ h₄ : List ℕ) → length title ≤ title_most
    → h₁ ≡ put h 0 disk_signature → h₂ ≡ overlay h₁ 4 title_most (λ (i : ℕ). 32) → h₃ ≡ put h₂ 4 title → h₄ ≡ overlay h₃ 14 2 (high_byte 2 number)
    → h₄ ≡ titled h title number
unfolding titled
titled_is h title number h₁ h₂ h₃ h₄ short e₁ e₂ e₃ e₄ =
    e₄
    ∙ ap (λ (l : List ℕ). overlay l 14 2 (high_byte 2 number))
    (e₃ ∙ ap (λ (l : List ℕ). put l 4 title) e₂ ∙ padded h₁ title short
    ∙ ap (λ (l : List ℕ). overlay l 4 title_most (λ (i : ℕ). get_or title i 32)) e₁)

-- the good word, the sizes and the track offset written one after the other
pub sized_is : (h : List ℕ) (n : ℕ) (h₁ h₂ h₃ h₄ h₅ h₆ h₇ : List ℕ)
    → h₁ ≡ overlay h 22 2 (high_byte 2 (good_sectors n))
    → h₂ ≡ overlay h₁ 24 2 (high_byte 2 all_sectors)
    → h₃ ≡ overlay h₂ 26 2 (high_byte 2 sectors)
    → h₄ ≡ overlay h₃ 28 2 (high_byte 2 track_sectors)
    → h₅ ≡ overlay h₄ 30 2 (high_byte 2 tracks)
    → h₆ ≡ overlay h₅ 32 2 (high_byte 2 block_sectors)
    → h₇ ≡ overlay h₆ 38 2 (high_byte 2 track_offset)
    → h₇ ≡ sized h n
unfolding sized
sized_is h n h₁ h₂ h₃ h₄ h₅ h₆ h₇ e₁ e₂ e₃ e₄ e₅ e₆ e₇ =
    let a₂ = e₂ ∙ ap (λ (l : List ℕ). overlay l 24 2 (high_byte 2 all_sectors)) e₁ in
    let a₃ = e₃ ∙ ap (λ (l : List ℕ). overlay l 26 2 (high_byte 2 sectors)) a₂ in
    let a₄ = e₄ ∙ ap (λ (l : List ℕ). overlay l 28 2 (high_byte 2 track_sectors)) a₃ in
    let a₅ = e₅ ∙ ap (λ (l : List ℕ). overlay l 30 2 (high_byte 2 tracks)) a₄ in
    let a₆ = e₆ ∙ ap (λ (l : List ℕ). overlay l 32 2 (high_byte 2 block_sectors)) a₅ in
    e₇ ∙ ap (λ (l : List ℕ). overlay l 38 2 (high_byte 2 track_offset)) a₆

-- the tables, update count, free word and directory's length written one after the other
pub started_is : (h : List ℕ) (n : ℕ) (h₁ h₂ h₃ h₄ h₅ h₆ first second : List ℕ)
    → first ≡ side_place → h₁ ≡ put h 40 first
    → second ≡ backward → h₂ ≡ put h₁ 58 second
    → h₃ ≡ overlay h₂ 16 4 (high_byte 4 0)
    → h₄ ≡ overlay h₃ 20 2 (high_byte 2 (free_sectors (blocks - 2 - n)))
    → h₅ ≡ overlay h₄ 34 2 (high_byte 2 0)
    → h₆ ≡ overlay h₅ 36 2 (high_byte 2 slot_bytes)
    → h₆ ≡ started h n
unfolding started
started_is h n h₁ h₂ h₃ h₄ h₅ h₆ first second f e₁ s e₂ e₃ e₄ e₅ e₆ =
    let a₁ = e₁ ∙ ap (put h 40) f in
    let a₂ = e₂ ∙ ap₂ (λ (l t : List ℕ). put l 58 t) a₁ s in
    let a₃ = e₃ ∙ ap (λ (l : List ℕ). overlay l 16 4 (high_byte 4 0)) a₂ in
    let a₄ = e₄ ∙ ap (λ (l : List ℕ). overlay l 20 2 (high_byte 2 (free_sectors (blocks - 2 - n)))) a₃ in
    let a₅ = e₅ ∙ ap (λ (l : List ℕ). overlay l 34 2 (high_byte 2 0)) a₄ in
    e₆ ∙ ap (λ (l : List ℕ). overlay l 36 2 (high_byte 2 slot_bytes)) a₅

-- ---- the map, record by record

-- disk d with the records below n written
unfoldable pub with_records : Disk → (ℕ → Record) → ℕ → Disk
with_records d owner zero = d
with_records d owner (suc n) = set_record (with_records d owner n) n (owner n)

-- records written on disks that agree leave disks that agree
pub inside_records : (d e : Disk) → EqualInside d e → (owner : ℕ → Record) (n : ℕ) → EqualInside (with_records d owner n) (with_records e owner n)
unfolding with_records
inside_records d e near owner zero = near
inside_records d e near owner (suc n) = inside_set (with_records d owner n) (with_records e owner n) (inside_records d e near owner n) n (owner n)

-- no record written leaves the image as it is
pub records_none : (l : List ℕ) (owner : ℕ → Record) → length l ≡ image_bytes → l ≡ image_of (with_records (disk_of l) owner 0)
unfolding with_records
records_none l owner e = sym (image_disk l e)

-- one record more is written
pub records_more : (d : Disk) (owner : ℕ → Record) (n : ℕ) (l m : List ℕ) (r : Record)
    → l ≡ image_of (with_records d owner n) → m ≡ image_of (set_record (disk_of l) n r) → r ≡ owner n → m ≡ image_of (with_records d owner (n + 1))
unfolding with_records
records_more d owner n l m r e q w =
    inside_step (λ (x : Disk). set_record x n r) (λ x y z. inside_set x y z n r) l m (with_records d owner n) e q
    ∙ ap (λ (x : Record). image_of (set_record (with_records d owner n) n x)) w
    ∙ ap (λ (k : ℕ). image_of (with_records d owner k)) (sym (add-one n))

module _ (d : Disk) (owner : ℕ → Record) where
  records_other : (n b o : ℕ) → b ≢ 0 → with_records d owner n b o ≡ d b o
  unfolding with_records set_record
  records_other zero b o z = refl
  records_other (suc n) b o z =
      upd₂_other (with_records d owner n) 0 (patch (with_records d owner n 0) (map_start + record_bytes * n) record_bytes (encode (owner n))) b o z
      ∙ records_other n b o z

  records_head : (n o : ℕ) → o < map_start → with_records d owner n 0 o ≡ d 0 o
  unfolding with_records set_record
  records_head zero o h = refl
  records_head (suc n) o h =
      upd₂_same (with_records d owner n) 0 (patch (with_records d owner n 0) (map_start + record_bytes * n) record_bytes (encode (owner n))) 0 o refl
      ∙ patch_below (with_records d owner n 0) (map_start + record_bytes * n) record_bytes (encode (owner n)) o (omega arith)
      ∙ records_head n o h

  records_at : (n b i : ℕ) → b < n → i < 3 → with_records d owner n 0 (map_start + record_bytes * b + i) ≡ encode (owner b) i
  unfolding with_records set_record
  records_at zero b i h k = absurd (not-suc-le-zero h)
  records_at (suc n) b i h k =
      upd₂_same (with_records d owner n) 0 (patch (with_records d owner n 0) (map_start + record_bytes * n) record_bytes (encode (owner n))) 0
      (map_start + record_bytes * b + i) refl
      ∙ by_equal b n
      (λ e.
      let q : map_start + record_bytes * b + i - (map_start + record_bytes * n) ≡ i = omega arith in
      patch_in (with_records d owner n 0) (map_start + record_bytes * n) record_bytes
      (encode (owner n)) (map_start + record_bytes * b + i) (omega arith) (omega arith)
      ∙ ap₂ (λ (x j : ℕ). encode (owner x) j) (sym e) q)
      (λ e.
      patch_below (with_records d owner n 0) (map_start + record_bytes * n) record_bytes (encode (owner n)) (map_start + record_bytes * b + i) (omega arith)
      ∙ records_at n b i (omega arith) k)

module _ (noted : List Bool) where
  -- record 0 of a fresh disk is the system's
  pub fresh_zero : (b : ℕ) → b ≡ 0 → System ≡ fresh_record noted b
  unfolding fresh_record
  fresh_zero b e = ap (fresh_record noted) (sym e)

  -- record 1 of a fresh disk is the directory's first
  pub fresh_one : (b : ℕ) → b ≡ 1 → File 0 0 ≡ fresh_record noted b
  unfolding fresh_record
  fresh_one b e = ap (fresh_record noted) (sym e)

  -- of all others those that are tallied are bad
  pub fresh_bad : (b : ℕ) → b ≢ 0 → b ≢ 1 → get_or noted b false ≡ true → Bad ≡ fresh_record noted b
  unfolding fresh_record is_noted
  fresh_bad zero p q h = absurd (p refl)
  fresh_bad (suc zero) p q h = absurd (q refl)
  fresh_bad (suc (suc b)) p q h = sym (cond_true Bad Free h)

  -- and those that are not are free
  pub fresh_free : (b : ℕ) → b ≢ 0 → b ≢ 1 → get_or noted b false ≡ false → Free ≡ fresh_record noted b
  unfolding fresh_record is_noted
  fresh_free zero p q h = absurd (p refl)
  fresh_free (suc zero) p q h = absurd (q refl)
  fresh_free (suc (suc b)) p q h = sym (cond_false Bad Free h)

  -- the records of a fresh disk fit their three bytes
  pub fresh_fits : (b : ℕ) → FitsRecord (fresh_record noted b)
  unfolding fresh_record
  fresh_fits zero = tt
  fresh_fits (suc zero) = (omega arith, omega arith)
  fresh_fits (suc (suc b)) = by_cond FitsRecord (is_noted noted (suc (suc b))) Bad Free (λ t. tt) (λ t. tt)

-- ---- the whole disk

abbrev nothing : Disk
nothing b o = 0

zero_image : tab (λ (i : ℕ). 0) image_bytes ≡ image_of nothing
unfolding image_of
zero_image = refl

module _ (args : FormatArguments) (noted : List Bool) (is : BadNoted noted args.bad) where
  abbrev H : ℕ → ℕ
  H = fresh_header args

  abbrev headed : Disk
  headed = patched nothing 0 0 map_start H

  fresh_inside : EqualInside (with_records headed (fresh_record noted) blocks) (format_disk args)
  unfolding format_disk
  fresh_inside b o hb ho =
      let whole = with_is H (fresh_owner args) (λ (r : Record) (o : ℕ). 0) in
      by_equal b 0
      (λ z. subst (λ (x : ℕ). with_records headed (fresh_record noted) blocks x o ≡ disk_with H (fresh_owner args) (λ (r : Record) (o : ℕ). 0) x o) (sym z)
      (by_order o map_start
      (λ h.
      let k : o - 0 ≡ o = omega arith in
      records_head headed (fresh_record noted) blocks o h
      ∙ upd₂_same nothing 0 (patch (nothing 0) 0 map_start H) 0 o refl
      ∙ patch_in (nothing 0) 0 map_start H o (omega arith) (omega arith)
      ∙ ap H k
      ∙ sym (whole.head o h))
      (λ h.
      let e : map_start + record_bytes * ((o - map_start) / 3) + (o - map_start) % 3 ≡ o = omega arith in
      subst (λ (x : ℕ). with_records headed (fresh_record noted) blocks 0 x ≡ disk_with H (fresh_owner args) (λ (r : Record) (o : ℕ). 0) 0 x) e
      (records_at headed (fresh_record noted) blocks ((o - map_start) / 3) ((o - map_start) % 3) (omega arith) (omega arith)
      ∙ ap (λ (r : Record). encode r ((o - map_start) % 3)) (fresh_is noted args.bad is args refl ((o - map_start) / 3) (omega arith))
      ∙ sym (whole.map ((o - map_start) / 3) ((o - map_start) % 3) (omega arith) (omega arith))))))
      (λ z.
      records_other headed (fresh_record noted) blocks b o z
      ∙ upd₂_other nothing 0 (patch (nothing 0) 0 map_start H) b o z
      ∙ sym (whole.block b o (omega arith) hb ho))

  -- zeros, then header, then records are the formatted disk
  pub fresh_written : (l₀ l₁ l₂ l₃ h : List ℕ) → length l₀ ≡ image_bytes → l₁ ≡ overlay l₀ 0 image_bytes (λ (i : ℕ). 0)
      → h ≡ tab H map_start
      → l₂ ≡ image_of (patched (disk_of l₁) 0 0 (length h) (λ (i : ℕ). get_or h i 0))
      → l₃ ≡ image_of (with_records (disk_of l₂) (fresh_record noted) blocks)
      → l₃ ≡ image_of (format_disk args)
  fresh_written l₀ l₁ l₂ l₃ h e e₁ eh e₂ e₃ =
      let q₁ : l₁ ≡ image_of nothing = e₁ ∙ overlay_all l₀ image_bytes (λ (i : ℕ). 0) e ∙ zero_image in
      let q₂ : l₂ ≡ image_of headed =
      inside_step (λ (d : Disk). patched d 0 0 map_start H) (λ d x n. inside_patched d x n 0 0 map_start H) l₁ l₂ nothing q₁
      (e₂ ∙ patched_row (disk_of l₁) 0 0 h map_start H eh) in
      inside_step (λ (d : Disk). with_records d (fresh_record noted) blocks) (λ d x n. inside_records d x n (fresh_record noted) blocks) l₂ l₃ headed q₂ e₃
      ∙ image_cong (with_records headed (fresh_record noted) blocks) (format_disk args) fresh_inside

-- ---- the call

module _ (image : List ℕ) (args : FormatArguments) where
  -- a format of another length is refused with 1
  pub format_length : length image ≢ image_bytes → format image args ≡ image_kept image wrong_length
  unfolding format image_right
  format_length h = cond_false _ _ (eq_false h)

  -- a format with a name over ten bytes is refused with 12
  pub format_name : length image ≡ image_bytes → title_most < length args.title → format image args ≡ image_kept image (refusal 12)
  unfolding format image_right
  format_name e h = cond_true _ _ (eq_true e) ∙ cond_false _ _ (and_false_left (bad_list_right args.bad) (le_false h))

  -- so is one with a list that is not right
  pub format_list : length image ≡ image_bytes → bad_list_right args.bad ≡ false → format image args ≡ image_kept image (refusal 12)
  unfolding format image_right
  format_list e h = cond_true _ _ (eq_true e) ∙ cond_false _ _ (and_false_right (leb (length args.title) title_most) h)

  -- every other is done
  pub format_accepted : length image ≡ image_bytes → length args.title ≤ title_most → bad_list_right args.bad ≡ true
      → format image args ≡ record { answer = done; image = image_of (format_disk args) }
  format_accepted long short right = format_done image args long short (right_each args.bad right)
