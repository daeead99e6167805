-- What holds of the inner model throughout a history. A format makes it hold and every step keeps it (OnImages).
-- Rests on the inner model's definitions (Inner).
use Rattle.std.specs.Prelude.{◌≡◌, true, ℕ, zero, suc, ◌+◌, ◌≤◌, ◌<◌, length}
use Rattle.std.proofs.Math.Option.{none, some}
use Rattle.laws.specs.Below.{count}
use Rattle.sector_rules.specs.Geometry.{blocks}
use Rattle.file_rules.specs.declared.Record.{Record}
use Rattle.file_rules.specs.declared.Record.TheVariants.{System, File}
use Rattle.file_rules.specs.Arguments.{listed}
use Rattle.file_rules.specs.Directory.{name_eq}
use Rattle.file_rules.proofs.Laws.InnerModel.Inner.{Inner, file_blocks, inner_bad, free_of}
use Rattle.file_rules.proofs.Laws.Base.Records.{Valid}
use Rattle.file_rules.specs.Map.{is_bad_record}
use Rattle.file_rules.specs.Model.{NamedFile, held_blocks, dir_blocks, usable}
use Rattle.file_rules.specs.Sizes.{name_most}

-- how many blocks file f has
unfoldable pub parts_of : Inner → ℕ → ℕ
parts_of m zero = dir_blocks m.peak
parts_of m (suc f) = held_blocks (m.slots (suc f))

-- the blocks are owned so that file f has `parts f` of them, each sequence once; block 0 and no other is the system's
pub record Owned (owner : ℕ → Record) (parts : ℕ → ℕ) : Type 0 where
  pub own_valid : (b : ℕ) → b < blocks → Valid (owner b)
  pub own_zero : owner 0 ≡ System
  pub own_system : (b : ℕ) → b < blocks → owner b ≡ System → b ≡ 0
  pub own_below : (b f s : ℕ) → b < blocks → owner b ≡ File f s → s < parts f
  pub own_part : (f s : ℕ) → s < parts f → (b : ℕ) × (b < blocks) × (owner b ≡ File f s)
  pub own_once : (b b' f s : ℕ) → b < blocks → b' < blocks → owner b ≡ File f s → owner b' ≡ File f s → b ≡ b'

-- the invariant
pub record Inv (m : Inner) : Type 0 where
  pub own : Owned m.owner (parts_of m)
  -- bad are the blocks of the format's list
  pub bad_is : (b : ℕ) → b < blocks → is_bad_record (m.owner b) ≡ listed b m.arguments.bad
  -- the slots: none but 1 to the peak has a file, names are acceptable, and no name is in two slots
  pub slot_zero : m.slots 0 ≡ none
  pub slot_past : (k : ℕ) → m.peak < k → m.slots k ≡ none
  pub slot_name_lem : (k : ℕ) (x : NamedFile) → m.slots k ≡ some x → (1 ≤ length x.name) × (length x.name ≤ name_most)
  pub slot_once : (j k : ℕ) (x y : NamedFile) → m.slots j ≡ some x → m.slots k ≡ some y → name_eq x.name y.name ≡ true → j ≡ k
  -- the counts; free blocks, bad blocks, directory and files are all blocks but block 0
  pub free_sum : count blocks (free_of m.owner) + (inner_bad m + (dir_blocks m.peak + file_blocks m)) ≡ usable
  -- every file has a block, so that 1 + P / 24 + P is at most 479 (§9.7): fewer than 460 files
  pub peak_most : m.peak ≤ 460
  -- the update count has 32 bits (§6.3)
  pub updates_fit : m.updates < 4294967296
