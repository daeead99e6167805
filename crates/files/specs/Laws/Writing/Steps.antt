-- What the single steps write, as rows of bytes; and what the steps on block 0 leave of two disks that agree inside their blocks.
-- Rests on rows of bytes (Stored) and on the loaded map's numbers (Loading.Loaded).
use Rattle.std.specs.Prelude.{◌≡◌, refl, cond, ◌&&◌, List, ℕ, ◌+◌, ◌-◌, ◌*◌, ◌≤◌, ◌<◌, leb, ltb, length, get_or}
use Rattle.std.proofs.Common.{sym, ◌∙◌, zero-add, add-zero, arith}
use Rattle.std.proofs.Math.Path.{ap, fun_ext}
use Rattle.laws.specs.Lists.{tab, element_at}
use Rattle.laws.specs.Changes.{upd, patch, overlay, put}
use Rattle.laws.specs.Numbers.{at32, big_endian, high_byte}
use Rattle.laws.specs.Laws.Cases.{by_order, by_equal}
use Rattle.laws.specs.Laws.Tests.{lt_true, lt_false, cond_true, cond_false}
use Rattle.laws.specs.Laws.Tab.{tab_length, tab_in, tab_ext}
use Rattle.laws.specs.Laws.Changes.{upd₂_same, upd₂_other, patch_cong}
use Rattle.laws.specs.Laws.Overlay.{overlay_cong}
use Rattle.laws.specs.Laws.Count.{count_cong}
use Rattle.sector_rules.specs.Geometry.{blocks}
use Rattle.file_rules.specs.declared.Record.{Record}
use Rattle.file_rules.specs.declared.Record.TheVariants.{Free, Bad, System, File, Other}
use Rattle.file_rules.specs.declared.Entry.{Entry}
use Rattle.file_rules.specs.Directory.{entry_byte}
use Rattle.file_rules.specs.Disk.{Disk, disk_of, image_of}
use Rattle.files.specs.Laws.Loading.Loaded.{number_cong}
use Rattle.files.specs.Laws.Writing.Stored.{EqualInside, inside_step, patched, patched_block}
use Rattle.file_rules.specs.Map.{decode, record_at, is_free, free_at, free_count, sequences}
use Rattle.file_rules.specs.Sizes.{block_bytes, slot_bytes, name_most, free_sectors, whole_blocks, bytes_over}
use Rattle.file_rules.specs.Written.{stored_byte, part, zeros, set_block, set_word, set_free, set_end, step_update}

-- the record fits its three bytes: file number and sequence have 12 bits
abbrev pub FitsRecord : Record → Type 0
FitsRecord Free = Unit {0}
FitsRecord Bad = Unit {0}
FitsRecord System = Unit {0}
FitsRecord (File f s) = (f < sequences) × (s < sequences)
FitsRecord Other = Unit {0}

-- ---- a row that is written field by field

-- a row written into a row given by a rule is given by the changed rule
pub overlay_tab : (f : ℕ → ℕ) (m at n : ℕ) (g : ℕ → ℕ) (l : List ℕ) → l ≡ tab f m → overlay l at n g ≡ tab (patch f at n g) m
unfolding overlay patch
overlay_tab f m at n g l e =
    ap (λ (r : List ℕ). overlay r at n g) e
    ∙ ap (tab (patch (λ (i : ℕ). get_or (tab f m) i 0) at n g)) (tab_length f m)
    ∙ tab_ext (patch (λ (i : ℕ). get_or (tab f m) i 0) at n g) (patch f at n g) m
    (λ k h. ap (λ (x : ℕ). cond (leb at k && ltb k (at + n)) (g (k - at)) x) (tab_in f m k h))

-- a list of n elements is put as a row
pub put_row : (l : List ℕ) (at : ℕ) (vs : List ℕ) (n : ℕ) → length vs ≡ n → put l at vs ≡ overlay l at n (λ (i : ℕ). get_or vs i 0)
unfolding put element_at
put_row l at vs n e =
    ap (λ (k : ℕ). overlay l at k (element_at vs 0)) e
    ∙ overlay_cong l at n (element_at vs 0) (λ (i : ℕ). get_or vs i 0) (λ i h. ap (λ (k : ℕ). get_or vs k 0) (zero-add i))

-- an entry's fields, written one after another into 64 zeros, are the entry
pub entry_row_lem : (e : Entry) → length e.name ≡ name_most → (r₀ r₁ r₂ r₃ r₄ : List ℕ) → r₀ ≡ tab (λ (i : ℕ). 0) slot_bytes
    → r₁ ≡ overlay r₀ 0 4 (high_byte 4 e.length)
    → r₂ ≡ overlay r₁ 14 2 (high_byte 2 e.namelen)
    → r₃ ≡ put r₂ 16 e.name
    → r₄ ≡ overlay r₃ 52 4 (high_byte 4 e.date)
    → r₄ ≡ tab (entry_byte e) slot_bytes
unfolding entry_byte
entry_row_lem e long r₀ r₁ r₂ r₃ r₄ e₀ e₁ e₂ e₃ e₄ =
    let t₁ = e₁ ∙ overlay_tab _ slot_bytes 0 4 (high_byte 4 e.length) r₀ e₀ in
    let t₂ = e₂ ∙ overlay_tab _ slot_bytes 14 2 (high_byte 2 e.namelen) r₁ t₁ in
    let t₃ = e₃ ∙ put_row r₂ 16 e.name name_most long ∙ overlay_tab _ slot_bytes 16 name_most (λ (i : ℕ). get_or e.name i 0) r₂ t₂ in
    e₄ ∙ overlay_tab _ slot_bytes 52 4 (high_byte 4 e.date) r₃ t₃

-- ---- a block of a file

-- byte i of a file with these 64 bytes at its beginning
unfoldable pub stored_row : List ℕ → List ℕ → ℕ → ℕ
stored_row head content i = cond (ltb i slot_bytes) (get_or head i 0) (get_or content (i - slot_bytes) 0)

-- with an entry's 64 bytes at the beginning these are the bytes of a stored file
pub stored_row_lem : (e : Entry) (head content : List ℕ) → head ≡ tab (entry_byte e) slot_bytes → stored_row head content ≡ stored_byte e content
unfolding stored_row stored_byte
stored_row_lem e head content q =
    fun_ext (λ (i : ℕ).
    by_order i slot_bytes
    (λ h. cond_true _ _ (lt_true h) ∙ ap (λ (l : List ℕ). get_or l i 0) q ∙ tab_in (entry_byte e) slot_bytes i h ∙ sym (cond_true _ _ (lt_true h)))
    (λ h. cond_false _ _ (lt_false h) ∙ sym (cond_false _ _ (lt_false h))))

-- the first 64 bytes of a stored file are its entry's
pub stored_head : (head content : List ℕ) (i : ℕ) → i < slot_bytes → get_or head (i + 0) 0 ≡ stored_row head content i
unfolding stored_row
stored_head head content i h = ap (λ (k : ℕ). get_or head k 0) (add-zero i) ∙ sym (cond_true _ _ (lt_true h))

-- the bytes after these are its data
pub stored_rest : (head content : List ℕ) (i : ℕ) → slot_bytes ≤ i → get_or content (i - slot_bytes + 0) 0 ≡ stored_row head content i
unfolding stored_row
stored_rest head content i h = ap (λ (k : ℕ). get_or content k 0) (add-zero (i - slot_bytes)) ∙ sym (cond_false _ _ (lt_false h))

-- a block filled with a part's bytes is the block of that part
pub part_written : (d : Disk) (b s : ℕ) (c : ℕ → ℕ) → image_of (patched d b 0 block_bytes (λ (o : ℕ). c (s * block_bytes + o))) ≡ image_of (set_block d b
    (part c s))
unfolding set_block part
part_written d b s c = patched_block d b (λ (o : ℕ). c (s * block_bytes + o)) (part c s) (λ o h. sym (cond_true _ _ (lt_true h)))

-- a block filled with zeros is a block of zeros
pub zeros_written : (d : Disk) (b : ℕ) → image_of (patched d b 0 block_bytes (λ (o : ℕ). 0)) ≡ image_of (set_block d b zeros)
unfolding set_block zeros
zeros_written d b = patched_block d b (λ (o : ℕ). 0) zeros (λ o h. refl)

-- ---- the steps on block 0, of disks that agree

module _ (d e : Disk) (near : EqualInside d e) where
  -- a row written on disks that agree leaves disks that agree
  pub inside_patched : (b o n : ℕ) (g : ℕ → ℕ) → EqualInside (patched d b o n g) (patched e b o n g)
  inside_patched b o n g b' i hb hi =
      by_equal b' b
      (λ z.
      upd₂_same d b (patch (d b) o n g) b' i z ∙ patch_cong (d b) (e b) o n g i (near b i (omega arith) hi) ∙ sym (upd₂_same e b (patch (e b) o n g) b' i z))
      (λ z. upd₂_other d b (patch (d b) o n g) b' i z ∙ near b' i hb hi ∙ sym (upd₂_other e b (patch (e b) o n g) b' i z))

  -- disks that agree have the same records
  pub inside_record : (b : ℕ) → b < blocks → record_at d b ≡ record_at e b
  unfolding record_at
  inside_record b h = ap decode (number_cong d e b h (λ o a c. near 0 o (omega arith) c))

  -- a word written in block 0 of disks that agree leaves disks that agree
  pub inside_word : (o v : ℕ) → EqualInside (set_word d o v) (set_word e o v)
  unfolding set_word
  inside_word o v = inside_patched 0 o 2 (high_byte 2 v)

  -- disks that agree have the same number of free blocks
  pub inside_count : free_count d ≡ free_count e
  unfolding free_count free_at
  inside_count = count_cong blocks (free_at d) (free_at e) (λ b h. ap is_free (inside_record b h))

  -- the free word written on disks that agree leaves disks that agree
  pub inside_free : EqualInside (set_free d) (set_free e)
  unfolding set_free
  inside_free b o hb ho = inside_word 20 (free_sectors (free_count d)) b o hb ho ∙ ap (λ (n : ℕ). set_word e 20 (free_sectors n) b o) inside_count

  -- the update count written on disks that agree leaves disks that agree
  pub inside_update : EqualInside (step_update d) (step_update e)
  unfolding step_update at32 big_endian
  inside_update b o hb ho =
      let count : at32 (d 0) 16 ≡ at32 (e 0) 16 =
      rw (
        near 0 16 (omega arith) (omega arith),
        near 0 17 (omega arith) (omega arith),
        near 0 18 (omega arith) (omega arith),
        near 0 19 (omega arith) (omega arith),
      ) in
      inside_patched 0 16 4 (high_byte 4 (at32 (d 0) 16 + 1)) b o hb ho ∙ ap (λ (n : ℕ). upd e 0 (patch (e 0) 16 4 (high_byte 4 (n + 1))) b o) count

-- the directory's length written on disks that agree leaves disks that agree
pub inside_end : (d e : Disk) → EqualInside d e → (k : ℕ) → EqualInside (set_end d k) (set_end e k)
unfolding set_end
inside_end d e near k =
    inside_word (set_word d 34 (whole_blocks k)) (set_word e 34 (whole_blocks k)) (inside_word d e near 34 (whole_blocks k)) 36 (bytes_over k)

-- the two words of the directory's length, written one after the other, are the step
pub end_written : (l₀ l₁ l₂ : List ℕ) (k : ℕ) → l₁ ≡ image_of (set_word (disk_of l₀) 34 (whole_blocks k))
    → l₂ ≡ image_of (set_word (disk_of l₁) 36 (bytes_over k)) → l₂ ≡ image_of (set_end (disk_of l₀) k)
unfolding set_end
end_written l₀ l₁ l₂ k p q =
    inside_step (λ (d : Disk). set_word d 36 (bytes_over k)) (λ d e n. inside_word d e n 36 (bytes_over k)) l₁ l₂
    (set_word (disk_of l₀) 34 (whole_blocks k)) p q
