-- refusals_keep: a call that is refused changes no lent byte. An add or a remove that is refused on a sound disk leaves the disk, and so the image of it
-- (image_disk); each other refusal gives back what was lent.
-- Rests on calls that judge a disk first (Base.OnSound) and on the disk and its image (Base.Disk).
use Rattle.std.specs.Prelude.{◌≡◌, refl, Bool, true, false, cond, ◌&&◌, List, [], ◌∷◌, ◌≢◌, ◌⊎◌, ℕ, suc, leb, ltb, eqb, length}
use Rattle.std.proofs.Common.{sym, ap, ◌∙◌, subst, ⊎_elim, arith}
use Rattle.std.proofs.Math.Option.{Option, none, some}
use Rattle.laws.specs.Laws.Cases.{by_cond}
use Rattle.laws.specs.Laws.Tests.{eq_true, eq_false, true_eq, cond_true, cond_false}
use Rattle.sector_rules.specs.Geometry.{image_bytes}
use Rattle.sector_rules.specs.Replies.{done, refusal}
use Rattle.sector_rules.specs.declared.Reply.{Reply}
use Rattle.sector_rules.specs.Packed.{pack_reply, pack_hfe}
use Rattle.sector_rules.specs.Unpacked.{unpack_reply, unpack_image}
use Rattle.sector_rules.proofs.Laws.Rewrite.Judged.{rewrite_kept}
use Rattle.file_rules.specs.Batch.{item_call, at_item, items_in_turn, batch_of, batch}
use Rattle.file_rules.specs.Items.{Item, removing, adding, ItemList, Items, WrongItem, read_items}
use Rattle.file_rules.specs.Check.{disk_refusal}
use Rattle.file_rules.proofs.Laws.OnAnyDisk.Cases.{OwnRefusal, add_cases, remove_cases}
use Rattle.file_rules.proofs.Laws.Base.Sound.{OtherNumber, other_disk}
use Rattle.file_rules.specs.Calls.{Outcome, DiskChanged, ImageChanged, buffer_kept, disk_kept, image_kept, image_right, wrong_length, unless, on_sound}
use Rattle.file_rules.specs.Calls.{format, deliver, list_sound, list, read_sound, read, imaged, add, remove}
use Rattle.file_rules.specs.Directory.{name_right, dir_end, find_name}
use Rattle.file_rules.specs.Arguments.{FormatArguments, bad_list_right}
use Rattle.file_rules.specs.Disk.{Disk, disk_of, image_of}
use Rattle.file_rules.proofs.Laws.Base.Disk.{image_disk, length_image}
use Rattle.file_rules.proofs.Laws.Base.OnSound.{by_sound}
use Rattle.file_rules.specs.Refusals.{Refuses, RefusalsKeep}
use Rattle.file_rules.specs.Sizes.{title_most}

-- ---- on a disk

abbrev KeepsDisk : Disk → DiskChanged → Type 0
KeepsDisk d c = Refuses c.answer → c.disk_after ≡ d

disk_kept_keeps : (d : Disk) (r : Reply) → KeepsDisk d (disk_kept d r)
unfolding disk_kept
disk_kept_keeps d r n = refl

done_keeps : (d d' : Disk) → KeepsDisk d (record { answer = done; disk_after = d' })
done_keeps d d' n = absurd (n refl)

-- ---- on an image

abbrev KeepsImage : List ℕ → ImageChanged → Type 0
KeepsImage image w = Refuses w.answer → w.image ≡ image

image_kept_keeps : (image : List ℕ) (r : Reply) → KeepsImage image (image_kept image r)
unfolding image_kept
image_kept_keeps image r n = refl

imaged_keeps : (image : List ℕ) → length image ≡ image_bytes → (c : DiskChanged) → KeepsDisk (disk_of image) c → KeepsImage image (imaged c)
unfolding imaged
imaged_keeps image long c k n = ap image_of (k n) ∙ image_disk image long

-- a refused add leaves the image
pub add_unchanged : (image name : List ℕ) (date : ℕ) (content : List ℕ) → KeepsImage image (add image name date content)
unfolding add
add_unchanged image name date content =
    by_sound image _ _ (KeepsImage image) (image_kept_keeps image)
    (λ long e. imaged_keeps image long _
    (add_cases (KeepsDisk (disk_of image)) (disk_of image) name date content (λ r o. disk_kept_keeps _ r) (done_keeps _ _)))

-- a refused remove leaves the image
pub remove_unchanged : (image name : List ℕ) → KeepsImage image (remove image name)
unfolding remove
remove_unchanged image name =
    by_sound image _ _ (KeepsImage image) (image_kept_keeps image)
    (λ long e. imaged_keeps image long _ (remove_cases (KeepsDisk (disk_of image)) (disk_of image) name (λ r o. disk_kept_keeps _ r) (done_keeps _ _)))

by_image : (image : List ℕ) (b : Bool) (x y : ImageChanged) → KeepsImage image x → KeepsImage image y → KeepsImage image (cond b x y)
by_image image true x y p q = p
by_image image false x y p q = q

format_unchanged : (image : List ℕ) (args : FormatArguments) → KeepsImage image (format image args)
unfolding format
format_unchanged image args =
    by_image image (image_right image) _ _
    (by_image image (leb (length args.title) title_most && bad_list_right args.bad) _ _ (λ n. absurd (n refl)) (image_kept_keeps image (refusal 12)))
    (image_kept_keeps image wrong_length)

-- ---- a batch

-- neither of the numbers that a batch gives before it tries an item
abbrev ItemNumber : Reply → Type 0
ItemNumber r = (r.number ≢ 1) × (r.number ≢ 20)

-- a reply on a sound disk has none of them, and leaves an image
abbrev ItemAnswered : ImageChanged → Type 0
ItemAnswered w = ItemNumber w.answer × (length w.image ≡ image_bytes)

numbered : (image : List ℕ) → length image ≡ image_bytes → (r : Option Reply) → OtherNumber 1 r → OtherNumber 20 r
    → (act : ImageChanged) → ItemAnswered act → ItemAnswered (unless r (image_kept image) act)
unfolding unless image_kept
numbered image long none p q act w = w
numbered image long (some r) p q act w = ((p, q), long)

on_disk_numbered : (image : List ℕ) → length image ≡ image_bytes → (act : Disk → ImageChanged) → ItemAnswered (act (disk_of image))
    → ItemAnswered (on_sound image (image_kept image) act)
unfolding on_sound image_right
on_disk_numbered image long act w =
    let d : Disk = disk_of image in
    subst ItemAnswered (sym (cond_true _ _ (eq_true long)))
    (numbered image long (disk_refusal d)
    (other_disk 1 d (λ e. omega arith) (λ e. omega arith) (λ e. omega arith) (λ e. omega arith) (λ e. omega arith))
    (other_disk 20 d (λ e. omega arith) (λ e. omega arith) (λ e. omega arith) (λ e. omega arith) (λ e. omega arith)) (act d) w)

own : (d : Disk) (r : Reply) → OwnRefusal r → ItemAnswered (imaged (disk_kept d r))
unfolding imaged disk_kept
own d r o = (((λ e. omega arith), (λ e. omega arith)), length_image d)

changed : (d : Disk) → ItemAnswered (imaged (record { answer = done; disk_after = d }))
unfolding imaged
changed d = (((λ e. omega arith), (λ e. omega arith)), length_image d)

-- an add or a remove on an image of the right length gives neither, and leaves such an image
item_answered : (image : List ℕ) → length image ≡ image_bytes → (x : Item) → ItemAnswered (item_call image x)
unfolding item_call add remove
item_answered image long (removing name) =
    on_disk_numbered image long _ (remove_cases (λ (c : DiskChanged). ItemAnswered (imaged c)) (disk_of image) name (own (disk_of image)) (changed _))
item_answered image long (adding x) =
    on_disk_numbered image long _
    (add_cases (λ (c : DiskChanged). ItemAnswered (imaged c)) (disk_of image) x.name x.date x.content (own (disk_of image)) (changed _))

items_numbered : (xs : List Item) (n : ℕ) (image : List ℕ) → length image ≡ image_bytes → ItemNumber (items_in_turn image n xs).answer
unfolding items_in_turn at_item
items_numbered [] n image long = ((λ e. omega arith), (λ e. omega arith))
items_numbered (x ∷ xs) n image long =
    by_cond (λ (w : ImageChanged). ItemNumber w.answer) (eqb (item_call image x).answer.number 0) _ _
    (λ t. items_numbered xs (suc n) (item_call image x).image (item_answered image long x).1) (λ t. (item_answered image long x).0)

-- what a batch leaves that gives one of the two numbers
abbrev KeepsTried : List ℕ → ImageChanged → Type 0
KeepsTried image w = (w.answer.number ≡ 1) ⊎ (w.answer.number ≡ 20) → w.image ≡ image

tried_keeps : (l : ItemList) (image : List ℕ) → length image ≡ image_bytes → KeepsTried image (batch_of image l)
unfolding batch_of image_kept
tried_keeps (Items xs) image long = λ e. ⊎_elim (λ p. absurd ((items_numbered xs 1 image long).0 p)) (λ p. absurd ((items_numbered xs 1 image long).1 p)) e
tried_keeps (WrongItem n) image long = λ e. refl

batch_unchanged : (image list : List ℕ) → KeepsTried image (batch image list)
unfolding batch image_right image_kept
batch_unchanged image list =
    by_cond (KeepsTried image) (image_right image) _ _ (λ t. tried_keeps (read_items list) image (true_eq t)) (λ t e. refl)

-- ---- on a result buffer

abbrev KeepsBuffer : List ℕ → Outcome → Type 0
KeepsBuffer buf o = Refuses o.answer → o.buffer ≡ buf

buffer_kept_keeps : (buf : List ℕ) (r : Reply) → KeepsBuffer buf (buffer_kept buf r)
unfolding buffer_kept
buffer_kept_keeps buf r n = refl

by_buffer : (buf : List ℕ) (b : Bool) (x y : Outcome) → KeepsBuffer buf x → KeepsBuffer buf y → KeepsBuffer buf (cond b x y)
by_buffer buf true x y p q = p
by_buffer buf false x y p q = q

deliver_keeps : (bytes buf : List ℕ) → KeepsBuffer buf (deliver bytes buf)
unfolding deliver
deliver_keeps bytes buf = by_buffer buf (leb (length bytes) (length buf)) _ _ (λ n. absurd (n refl)) (buffer_kept_keeps buf _)

list_unchanged : (image buf : List ℕ) → KeepsBuffer buf (list image buf)
unfolding list list_sound
list_unchanged image buf = by_sound image _ _ (KeepsBuffer buf) (buffer_kept_keeps buf) (λ long e. deliver_keeps _ buf)

read_unchanged : (image name buf : List ℕ) → KeepsBuffer buf (read image name buf)
unfolding read read_sound
read_unchanged image name buf =
    by_sound image _ _ (KeepsBuffer buf) (buffer_kept_keeps buf)
    (λ long e. by_buffer buf (name_right name) _ _
    (by_buffer buf (ltb (find_name (disk_of image) name) (dir_end (disk_of image))) _ _ (deliver_keeps _ buf) (buffer_kept_keeps buf (refusal 14)))
    (buffer_kept_keeps buf (refusal 12)))

-- ---- the sector layer's calls

unpack_unchanged : (hfe image : List ℕ) → Refuses (unpack_reply hfe (length image)) → unpack_image hfe image ≡ image
unfolding unpack_image
unpack_unchanged hfe image n = cond_false _ _ (eq_false n)

pack_unchanged : (image hfe : List ℕ) → Refuses (pack_reply (length image) (length hfe)) → pack_hfe image hfe ≡ hfe
unfolding pack_hfe
pack_unchanged image hfe n = cond_false _ _ (eq_false n)

-- ---- the whole

-- no refused call changes a lent byte
pub refusals_keep : RefusalsKeep
refusals_keep =
    record {
      unpack_keeps = unpack_unchanged;
      pack_keeps = pack_unchanged;
      rewrite_keeps = rewrite_kept;
      format_keeps = format_unchanged;
      list_keeps = list_unchanged;
      read_keeps = read_unchanged;
      add_keeps = add_unchanged;
      remove_keeps = remove_unchanged;
      batch_keeps = batch_unchanged;
    }
