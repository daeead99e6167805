-- Histories: a list of calls, each on what the one before left, on an image and in the model; and what the calls and their replies alone say
-- (docs/RULES.md, section 9).
-- Assumes nothing: these are definitions.
use Rattle.std.specs.Prelude.{◌≡◌, ◌⊎◌, Bool, cond, List, [], ◌∷◌, ◌++◌, ℕ, ◌+◌, ◌-◌, max, eqb, length, take}
use Rattle.std.proofs.Math.Option.{Option, none, some}
use Rattle.file_rules.specs.Batch.{batch}
use Rattle.file_rules.specs.Calls.{Outcome, buffer_kept, list, read, add, remove}
use Rattle.file_rules.specs.Directory.{name_eq}
use Rattle.file_rules.specs.Items.{Item, removing, adding, read_items, items_of}
use Rattle.file_rules.specs.Model.{NamedFile, Model, model_list, model_read, model_add, model_remove, model_batch}
use Rattle.file_rules.specs.Written.{blocks_for}

-- a call with its arguments; list and read have their buffer as it is before (§9.1)
pub data Call : Type 0 where
  to_add : NamedFile → Call
  to_remove : List ℕ → Call
  to_list : List ℕ → Call
  to_read : List ℕ → List ℕ → Call
  to_batch : List ℕ → Call

-- ---- on an image

-- the reply of one call on an image, and the buffer after it, which add, remove and batch have none of (§9.1)
unfoldable pub image_out : List ℕ → Call → Outcome
image_out image (to_add x) = buffer_kept [] (add image x.name x.date x.content).answer
image_out image (to_remove name) = buffer_kept [] (remove image name).answer
image_out image (to_list buf) = list image buf
image_out image (to_read name buf) = read image name buf
image_out image (to_batch bytes) = buffer_kept [] (batch image bytes).answer

-- the image after one call (§9.1)
unfoldable pub image_step : List ℕ → Call → List ℕ
image_step image (to_add x) = (add image x.name x.date x.content).image
image_step image (to_remove name) = (remove image name).image
image_step image (to_list buf) = image
image_step image (to_read name buf) = image
image_step image (to_batch bytes) = (batch image bytes).image

-- the replies and buffers of all calls in order, each call on what the one before left (§9.1)
unfoldable pub image_outs : List ℕ → List Call → List Outcome
image_outs image [] = []
image_outs image (c ∷ cs) = image_out image c ∷ image_outs (image_step image c) cs

-- the image after all calls (§9.1)
unfoldable pub image_end : List ℕ → List Call → List ℕ
image_end image [] = image
image_end image (c ∷ cs) = image_end (image_step image c) cs

-- ---- in the model

-- the reply of one call in the model, and the buffer after it (§9.2)
unfoldable pub model_out : Model → Call → Outcome
model_out m (to_add x) = record { answer = (model_add m x).answer; buffer = [] }
model_out m (to_remove name) = record { answer = (model_remove m name).answer; buffer = [] }
model_out m (to_list buf) = model_list m buf
model_out m (to_read name buf) = model_read m name buf
model_out m (to_batch bytes) = record { answer = (model_batch m (read_items bytes)).answer; buffer = [] }

-- the model after one call (§9.2)
unfoldable pub model_step : Model → Call → Model
model_step m (to_add x) = (model_add m x).model_after
model_step m (to_remove name) = (model_remove m name).model_after
model_step m (to_list buf) = m
model_step m (to_read name buf) = m
model_step m (to_batch bytes) = (model_batch m (read_items bytes)).model_after

-- the replies and buffers of all calls in order, in the model (§9.2)
unfoldable pub model_outs : Model → List Call → List Outcome
model_outs m [] = []
model_outs m (c ∷ cs) = model_out m c ∷ model_outs (model_step m c) cs

-- the model after all calls (§9.2)
unfoldable pub model_end : Model → List Call → Model
model_end m [] = m
model_end m (c ∷ cs) = model_end (model_step m c) cs

-- ---- by the calls and their replies alone

-- whether a call is accepted: its reply has the number 0 (§9.6 §7.17)
unfoldable pub accepted : Outcome → Bool
accepted o = eqb o.answer.number 0

-- these files without the one of this name (§9.6)
unfoldable pub without : List ℕ → List NamedFile → List NamedFile
without name [] = []
without name (x ∷ xs) = cond (name_eq x.name name) xs (x ∷ without name xs)

-- the accepted adds and removes of a call, by its reply: of a batch that is done all items, else those before the one that the third place names; none of a
-- list with a wrong item (§9.6 §9.9)
unfoldable pub changes_of : Call → Outcome → List Item
changes_of (to_add x) o = cond (accepted o) (adding x ∷ []) []
changes_of (to_remove name) o = cond (accepted o) (removing name ∷ []) []
changes_of (to_list buf) o = []
changes_of (to_read name buf) o = []
changes_of (to_batch bytes) o = cond (accepted o) (items_of (read_items bytes)) (take (o.answer.third - 1) (items_of (read_items bytes)))

-- the accepted adds and removes of all calls, in order (§9.6 §9.9)
unfoldable pub changes : List Call → List Outcome → List Item
changes [] os = []
changes (c ∷ cs) [] = []
changes (c ∷ cs) (o ∷ os) = changes_of c o ++ changes cs os

-- the files present after an accepted add, which brings one, or an accepted remove, which takes one away (§9.6)
unfoldable pub left_by : List NamedFile → Item → List NamedFile
left_by fs (adding x) = x ∷ fs
left_by fs (removing name) = without name fs

-- the files that these adds and removes leave (§9.6)
unfoldable pub left_by_all : List NamedFile → List Item → List NamedFile
left_by_all fs [] = fs
left_by_all fs (x ∷ xs) = left_by_all (left_by fs x) xs

-- the greatest number of files present at once, before, between and after them (§9.6)
unfoldable pub most_by : List NamedFile → List Item → ℕ
most_by fs [] = length fs
most_by fs (x ∷ xs) = max (length fs) (most_by (left_by fs x) xs)

-- the files that the accepted adds and removes leave (§9.6)
unfoldable pub files_left : List NamedFile → List Call → List Outcome → List NamedFile
files_left fs cs os = left_by_all fs (changes cs os)

-- the greatest number of files present at once (§9.6)
unfoldable pub most_present : List NamedFile → List Call → List Outcome → ℕ
most_present fs cs os = most_by fs (changes cs os)

-- S: the blocks of these files, each (64 + length of data) / 1,536, rounded up (§9.7)
unfoldable pub blocks_of_files : List NamedFile → ℕ
blocks_of_files [] = 0
blocks_of_files (x ∷ xs) = blocks_of_files xs + blocks_for (length x.content)

-- the file of this name, if there is one (§9.6)
unfoldable pub file_named : List ℕ → List NamedFile → Option NamedFile
file_named name [] = none
file_named name (x ∷ xs) = cond (name_eq x.name name) (some x) (file_named name xs)

-- whether a file is one of these (§9.6)
abbrev pub IsPresent : NamedFile → List NamedFile → Type 0
IsPresent x [] = ⊥
IsPresent x (y ∷ ys) = (x ≡ y) ⊎ IsPresent x ys
