-- A call that judges a disk first (§8.5), by its three cases: another length, a refusal of the disk, and a sound disk.
-- Rests on the definition of `on_sound` alone.
use Rattle.std.specs.Prelude.{◌≡◌, refl, ◌≢◌, List, ℕ, length}
use Rattle.std.proofs.Common.{sym, ◌∙◌, subst}
use Rattle.std.proofs.Math.Option.{Option, none, some}
use Rattle.laws.specs.Laws.Cases.{by_equal}
use Rattle.laws.specs.Laws.Tests.{eq_true, eq_false, cond_true, cond_false}
use Rattle.sector_rules.specs.Geometry.{image_bytes}
use Rattle.sector_rules.specs.declared.Reply.{Reply}
use Rattle.file_rules.specs.Calls.{unless, wrong_length, image_right, on_sound}
use Rattle.file_rules.specs.Check.{disk_refusal}
use Rattle.file_rules.specs.Disk.{Disk, disk_of}

module _ {A : Type 0} (image : List ℕ) (refuse : Reply → A) (act : Disk → A) where
  -- an image of another length is refused before anything is judged
  pub sound_length : length image ≢ image_bytes → on_sound image refuse act ≡ refuse wrong_length
  unfolding on_sound image_right
  sound_length h = cond_false _ _ (eq_false h)

  module _ (long : length image ≡ image_bytes) where
    -- a disk that is refused is refused with that reply
    pub sound_refused : (r : Reply) → disk_refusal (disk_of image) ≡ some r → on_sound image refuse act ≡ refuse r
    unfolding on_sound image_right unless
    sound_refused r e = cond_true _ _ (eq_true long) ∙ rw e

    -- on a sound disk the call acts
    pub sound_passed : disk_refusal (disk_of image) ≡ none → on_sound image refuse act ≡ act (disk_of image)
    unfolding on_sound image_right unless
    sound_passed e = cond_true _ _ (eq_true long) ∙ rw e

  by_disk_refusal : (P : A → Type 0) → ((r : Reply) → P (refuse r)) → (length image ≡ image_bytes → disk_refusal (disk_of image) ≡ none
      → P (act (disk_of image)))
      → (long : length image ≡ image_bytes) (v : Option Reply) → disk_refusal (disk_of image) ≡ v → P (on_sound image refuse act)
  by_disk_refusal P f g long none e = subst P (sym (sound_passed long e)) (g long e)
  by_disk_refusal P f g long (some r) e = subst P (sym (sound_refused long r e)) (f r)

  -- what holds of every refusal, and of what is done on a sound disk, holds of the call
  pub by_sound : (P : A → Type 0) → ((r : Reply) → P (refuse r)) → (length image ≡ image_bytes → disk_refusal (disk_of image) ≡ none → P (act (disk_of image)))
      → P (on_sound image refuse act)
  by_sound P f g =
      by_equal (length image) image_bytes
      (λ long. by_disk_refusal P f g long (disk_refusal (disk_of image)) refl)
      (λ h. subst P (sym (sound_length h)) (f wrong_length))
