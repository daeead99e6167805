-- What the calls begin with: an image whose disk is sound, or the refusal of the image's length or of its disk.
-- Rests on calls that judge a disk first (file_rules, Base.OnSound).
use Rattle.std.specs.Prelude.{List, ℕ, ◌≡◌, ◌≢◌, ◌⊎◌, refl, length}
use Rattle.std.proofs.Common.{inl, inr, sym, ◌∙◌, ap}
use Rattle.std.proofs.Math.Option.{Option, none, some}
use Rattle.std.specs.Coded.{Coded, Coded-set, coded_ℕ, coded×, coded⊎, code_by}
use base.Stored.{coded_unit}
use Rattle.sector_rules.specs.declared.Reply.{Reply}
use Rattle.sector_rules.specs.Replies.{wrong_length}
use Rattle.sector_rules.specs.Geometry.{image_bytes}
use Rattle.file_rules.specs.Disk.{Disk, disk_of}
use Rattle.file_rules.specs.Check.{disk_refusal}
use Rattle.file_rules.specs.Calls.{on_sound}
use Rattle.file_rules.proofs.Laws.Base.OnSound.{sound_length, sound_refused, sound_passed}

-- the image has its length and its disk is sound
pub record SoundImage (image : List ℕ) : Type 0 where
  pub long : length image ≡ image_bytes
  pub passed : disk_refusal (disk_of image) ≡ none
  deriving IsProp as sound_parts

-- a refusal as numbers, and back
abbrev numbers : Option Reply → Unit {0} ⊎ (ℕ × (ℕ × (ℕ × ℕ)))
numbers none = inl tt
numbers (some r) = inr (r.number, (r.first, (r.second, r.third)))

abbrev refused : Unit {0} ⊎ (ℕ × (ℕ × (ℕ × ℕ))) → Option Reply
refused (inl x) = none
refused (inr (n, (a, (b, c)))) = some (record { number = n; first = a; second = b; third = c })

numbers_back : (r : Option Reply) → refused (numbers r) ≡ r
numbers_back none = refl
numbers_back (some r) = refl

abbrev coded_refusal : Coded (Option Reply)
coded_refusal =
    code_by (Unit {0} ⊎ (ℕ × (ℕ × (ℕ × ℕ)))) (coded⊎ coded_unit (coded× coded_ℕ (coded× coded_ℕ (coded× coded_ℕ coded_ℕ)))) numbers refused numbers_back

-- an image is sound in one way
pub sound_image_prop : (image : List ℕ) → IsProp (SoundImage image)
sound_image_prop image = sound_parts (Prim.hlevel (Coded-set coded_ℕ)) (Prim.hlevel (Coded-set coded_refusal))

-- the image's length or its disk is refused so
abbrev pub NotSound : List ℕ → Reply → Type 0
NotSound image r = ((length image ≢ image_bytes) × (r ≡ wrong_length)) ⊎ ((length image ≡ image_bytes) × (disk_refusal (disk_of image) ≡ some r))

-- a call on it is refused so
pub not_sound : {A : Type 0} (image : List ℕ) (refuse : Reply → A) (act : Disk → A) (r : Reply) → NotSound image r → on_sound image refuse act ≡ refuse r
not_sound image refuse act r (inl x) = sound_length image refuse act x.0 ∙ ap refuse (sym x.1)
not_sound image refuse act r (inr x) = sound_refused image refuse act x.0 r x.1

-- on a sound image a call acts
pub sound_acts : {A : Type 0} (image l : List ℕ) (refuse : Reply → A) (act : Disk → A) → l ≡ image → SoundImage l → on_sound image refuse act ≡ act (disk_of l)
sound_acts image l refuse act e s = rw (← e) (sound_passed l refuse act s.long s.passed)
