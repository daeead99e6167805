-- `file_right` meets its contract.
-- Rests on: the laws in Loading/Chains, Loading/NameHashes and Judging/Sound; the contracts of dir_bytes, blocks_of,
-- parts_right, is_listed, read_entry, note_hash, entry_right and first_block.
-- Assumes nothing.
use mathlib.Core.Path.{◌≡◌, sym, ap, ◌∙◌}
use mathlib.Core.Bool.{Bool, true, false, not, ◌&&◌}
use Prim.Native.Nat.{ℕ}
use lib.Dec.{ltb}
use Rattle.std.specs.Prelude.{is_none}
use Rattle.file_rules.specs.Disk.{Disk, disk_of}
use Rattle.file_rules.specs.Directory.{held, dir_end}
use Rattle.file_rules.specs.Check.{parts_right}
use Rattle.files.specs.Laws.Loading.Chains.{chain_empty}
use Rattle.files.specs.Laws.Loading.NameHashes.{listed_slot, zero_unlisted, hashes_skip}
use Rattle.files.specs.Laws.Judging.Sound.{parts_loaded, no_record_loaded, file_zero, file_listed, file_unlisted}
use Rattle.files.proofs.checking.file_right.Goals as goal

pub parts_right-requires : goal.parts_right-requires
parts_right-requires c = c.requires.0.loaded_chains

pub returns-then-f-eq0 : goal.returns-then-f-eq0
returns-then-f-eq0 c = (
  rw c.if-f-eq0.true (c.parts_right.ensures ∙ parts_loaded _ _ c.requires.0.loaded_map _ _ ∙
      ap (parts_right (disk_of c.args.dir.now.disk.now.image.now) 0) c.blocks_of.ensures.0 ∙
      file_zero _ _ c.dir_bytes.ensures.0),
  hashes_skip _ _ _ c.requires.3
      (ap (listed_slot (disk_of c.args.dir.now.disk.now.image.now)) c.if-f-eq0.true ∙ zero_unlisted (disk_of c.args.dir.now.disk.now.image.now)),
)

pub is_listed-requires : goal.is_listed-requires
is_listed-requires c = c.requires.1

-- Slot f is one of the directory's and held, or it is not.
-- slot f is one of the directory's and held, or it is not, as was told
listed_so : (d : Disk) (f end : ℕ) (r t : Bool) → end ≡ dir_end d → r ≡ (ltb f end && held d f) → r ≡ t → listed_slot d f ≡ t
listed_so d f end r t e q h = ap (λ (x : ℕ). ltb f x && held d f) (sym e) ∙ sym q ∙ h

pub note_hash-unnoted-requires : goal.note_hash-unnoted-requires
note_hash-unnoted-requires c = (
  c.requires.1,
  c.read_entry-entry.ensures,
  listed_so _ _ _ _ true c.requires.2 c.is_listed.ensures c.if-is_listed.true,
  c.requires.3,
)

pub entry_right-requires : goal.entry_right-requires
entry_right-requires c = (c.requires.0, c.requires.1, c.read_entry-entry.ensures, c.note_hash-unnoted.ensures.0)

pub returns-then-is_listed : goal.returns-then-is_listed
returns-then-is_listed c = (
  c.entry_right.ensures ∙ file_listed _ _ c.if-f-eq0.false (listed_so _ _ _ _ true c.requires.2 c.is_listed.ensures c.if-is_listed.true),
  c.note_hash-unnoted.ensures.1,
)

-- the test that nothing is there, from the test that something is
not_back : (t r : Bool) → t ≡ not r → r ≡ not t
not_back t true e = rw e
not_back t false e = rw e

pub returns : goal.returns
returns c = let unlisted = listed_so _ _ _ _ false c.requires.2 c.is_listed.ensures c.if-is_listed.false in (
  not_back _ _ c.is_none.ensures ∙ ap is_none c.first_block.ensures ∙ chain_empty _ _ _ _ c.requires.0.loaded_chains ∙
      no_record_loaded _ _ c.requires.0.loaded_map _ ∙ file_unlisted _ _ c.if-f-eq0.false unlisted,
  hashes_skip _ _ _ c.requires.3 unlisted,
)
