-- The inner model, which the proofs alone use: slots without their blocks, and for each block the record that it has (its owner).
-- Definitions whose names begin with `inner` are its calls and steps; they mirror those of the model (Model.antt).
-- Rests on the record that a removed file leaves (`unowned`, Base.Whole).
use Rattle.std.specs.Prelude.{Bool, not, cond, ◌&&◌, List, [], ◌∷◌, ℕ, suc, ◌+◌, max, leb, ltb, eqb, length}
use Rattle.std.proofs.Math.Option.{none, some}
use Rattle.laws.specs.Changes.{upd}
use Rattle.laws.specs.Below.{count, sum, firsts, lowest}
use Rattle.laws.specs.Options.{is_some}
use Rattle.sector_rules.specs.Geometry.{blocks}
use Rattle.sector_rules.specs.Replies.{reply_with, done, refusal}
use Rattle.sector_rules.specs.declared.Reply.{Reply}
use Rattle.file_rules.specs.declared.Record.{Record}
use Rattle.file_rules.specs.declared.Record.TheVariants.{File}
use Rattle.file_rules.specs.Batch.{at_item}
use Rattle.file_rules.specs.Items.{Item, removing, adding, ItemList, Items, WrongItem, read_items}
use Rattle.file_rules.specs.Calls.{Outcome, buffer_kept, fresh_owner, deliver}
use Rattle.file_rules.specs.Directory.{name_right}
use Rattle.file_rules.specs.Arguments.{FormatArguments}
use Rattle.file_rules.specs.Disk.{Disk}
use Rattle.file_rules.specs.Histories.{Call, to_add, to_remove, to_list, to_read, to_batch}
use Rattle.file_rules.proofs.Laws.Base.Whole.{unowned}
use Rattle.file_rules.specs.Map.{is_free}
use Rattle.file_rules.specs.Model.{NamedFile, HeldFile, held_blocks, dir_blocks, different_blocks, usable, free_word, content, has_name, held_entries}
use Rattle.file_rules.specs.Model.{held_data, wrap}
use Rattle.file_rules.specs.Written.{disk_header_byte, disk_with, blocks_for}

-- the inner model's state
pub record Inner : Type 0 where
  -- given at format
  pub arguments : FormatArguments
  -- accepted adds and removes
  pub updates : ℕ
  -- the greatest number of files present at once since the format
  pub peak : ℕ
  -- slot k has the file of slot k; slot 0 stays empty
  pub slots : ℕ → HeldFile
  -- what each block is given to: a file, by its slot, and the block's place in it; file 0 is the directory
  pub owner : ℕ → Record

-- ---- sizes

-- how many files are present
unfoldable pub present_count : Inner → ℕ
present_count m = count (suc m.peak) (λ (k : ℕ). is_some (m.slots k))

-- S: the blocks of all files present (§9.7)
unfoldable pub file_blocks : Inner → ℕ
file_blocks m = sum (suc m.peak) (λ (k : ℕ). held_blocks (m.slots k))

-- B: the different blocks in the list of bad ones (§9.7)
abbrev pub inner_bad : Inner → ℕ
inner_bad m = different_blocks m.arguments.bad

-- ---- the image of a model

-- the header of the inner model's disk
unfoldable pub header : Inner → ℕ → ℕ
header m = disk_header_byte m.arguments m.updates (free_word (inner_bad m) m.peak (file_blocks m)) (suc m.peak)

-- the inner model's disk
unfoldable pub render : Inner → Disk
render m = disk_with (header m) m.owner (content m.slots m.slots)

-- ---- the steps

-- slots without a file
unfoldable pub empty_slots : ℕ → HeldFile
empty_slots k = none

-- the inner model after a format: no file, and block 1 is the directory's
unfoldable pub inner_format : FormatArguments → Inner
inner_format args = record { arguments = args; updates = 0; peak = 0; slots = empty_slots; owner = fresh_owner args }

-- the slot of the file with that name, or the first past the peak
unfoldable pub inner_find : Inner → List ℕ → ℕ
inner_find m name = lowest (λ (k : ℕ). has_name name (m.slots k)) (suc m.peak)

-- the lowest empty slot from 1 on, or the first past the peak
unfoldable pub empty_slot : Inner → ℕ
empty_slot m = lowest (λ (k : ℕ). (ltb 0 k && not (is_some (m.slots k)))) (suc m.peak)

-- the owners after these blocks are given to file f, with sequences from s on
unfoldable pub give : (ℕ → Record) → ℕ → ℕ → List ℕ → ℕ → Record
give owner f s [] = owner
give owner f s (b ∷ bs) = give (upd owner b (File f s)) f (suc s) bs

-- whether a block is free by its owner
unfoldable pub free_of : (ℕ → Record) → ℕ → Bool
free_of owner b = is_free (owner b)

-- the inner model's list: 16 or the entries
unfoldable pub inner_list : Inner → List ℕ → Outcome
inner_list m buf = deliver (held_entries m.slots (suc m.peak)) buf

-- the inner model's read: 12, 14, 16 or the data
unfoldable pub inner_read : Inner → List ℕ → List ℕ → Outcome
inner_read m name buf =
    cond (name_right name)
    (cond (ltb (inner_find m name) (suc m.peak)) (deliver (held_data (m.slots (inner_find m name))) buf) (buffer_kept buf (refusal 14)))
    (buffer_kept buf (refusal 12))

-- a reply, and the inner model after it
pub record InnerChanged : Type 0 where
  pub answer : Reply
  pub model_after : Inner

-- a refusal leaves the inner model as it was
unfoldable pub inner_refused : Inner → Reply → InnerChanged
inner_refused m r = record { answer = r; model_after = m }

-- slot k is emptied, and its file's blocks are free
unfoldable pub inner_remove_at : Inner → ℕ → Inner
inner_remove_at m k =
    record {
      arguments = m.arguments;
      updates = wrap (m.updates + 1);
      peak = m.peak;
      slots = upd m.slots k none;
      owner = λ (b : ℕ). unowned k (m.owner b);
    }

-- the inner model's remove: 12, 14 or done
unfoldable pub inner_remove : Inner → List ℕ → InnerChanged
inner_remove m name =
    cond (name_right name)
    (cond (ltb (inner_find m name) (suc m.peak)) (record { answer = done; model_after = inner_remove_at m (inner_find m name) })
    (inner_refused m (refusal 14)))
    (inner_refused m (refusal 12))

-- the owners once the directory has the blocks for this peak: a new one is the lowest free
unfoldable pub grow_owner : Inner → ℕ → ℕ → Record
grow_owner m peak =
    cond (ltb (dir_blocks m.peak) (dir_blocks peak))
    (give m.owner 0 (dir_blocks m.peak) (firsts blocks 1 (free_of m.owner))) m.owner

-- the peak once a file more is present
unfoldable pub peak_after : Inner → ℕ
peak_after m = max m.peak (suc (present_count m))

-- slot k is filled; its file takes the lowest free blocks, by sequence
unfoldable pub inner_add_at : Inner → ℕ → NamedFile → Inner
inner_add_at m k x =
    let owner₁ : ℕ → Record = grow_owner m (peak_after m) in
    record {
      arguments = m.arguments;
      updates = wrap (m.updates + 1);
      peak = peak_after m;
      slots = upd m.slots k (some x);
      owner = give owner₁ k 0 (firsts blocks (blocks_for (length x.content)) (free_of owner₁));
    }

-- whether bad blocks, directory and files, this file counted, are no more blocks than there are (§9.7)
unfoldable pub room_for : Inner → NamedFile → Bool
room_for m x = leb (inner_bad m + (dir_blocks (peak_after m) + (file_blocks m + blocks_for (length x.content)))) usable

-- the inner model's add: 12, 13 with the slot, 15 or done
unfoldable pub inner_add : Inner → NamedFile → InnerChanged
inner_add m x =
    cond (name_right x.name)
    (cond (ltb (inner_find m x.name) (suc m.peak)) (inner_refused m (reply_with 13 (inner_find m x.name) 0 0))
    (cond (room_for m x) (record { answer = done; model_after = inner_add_at m (empty_slot m) x }) (inner_refused m (refusal 15))))
    (inner_refused m (refusal 12))

-- ---- batch

-- an item in the inner model
unfoldable pub inner_item : Inner → Item → InnerChanged
inner_item m (removing name) = inner_remove m name
inner_item m (adding x) = inner_add m x

-- the items from number n on, in turn, up to the first refusal
unfoldable pub inner_items : Inner → ℕ → List Item → InnerChanged
inner_items m n [] = record { answer = done; model_after = m }
inner_items m n (x ∷ xs) =
    cond (eqb (inner_item m x).answer.number 0) (inner_items (inner_item m x).model_after (suc n) xs)
    (record { answer = at_item n (inner_item m x).answer; model_after = (inner_item m x).model_after })

-- the inner model's batch: 20, which names the first wrong item, or the items
unfoldable pub inner_batch : Inner → ItemList → InnerChanged
inner_batch m (Items xs) = inner_items m 1 xs
inner_batch m (WrongItem n) = inner_refused m (reply_with 20 0 0 n)

-- ---- histories

-- the inner model after a call
unfoldable pub inner_step : Inner → Call → Inner
inner_step m (to_add x) = (inner_add m x).model_after
inner_step m (to_remove name) = (inner_remove m name).model_after
inner_step m (to_list buf) = m
inner_step m (to_read name buf) = m
inner_step m (to_batch list) = (inner_batch m (read_items list)).model_after

-- reply and result buffer of a call
unfoldable pub inner_out : Inner → Call → Outcome
inner_out m (to_add x) = buffer_kept [] (inner_add m x).answer
inner_out m (to_remove name) = buffer_kept [] (inner_remove m name).answer
inner_out m (to_list buf) = inner_list m buf
inner_out m (to_read name buf) = inner_read m name buf
inner_out m (to_batch list) = buffer_kept [] (inner_batch m (read_items list)).answer

-- replies and result buffers of a history, each call on what the last left
unfoldable pub inner_outs : Inner → List Call → List Outcome
inner_outs m [] = []
inner_outs m (c ∷ cs) = inner_out m c ∷ inner_outs (inner_step m c) cs

-- the inner model at the end of a history
unfoldable pub inner_end : Inner → List Call → Inner
inner_end m [] = m
inner_end m (c ∷ cs) = inner_end (inner_step m c) cs
