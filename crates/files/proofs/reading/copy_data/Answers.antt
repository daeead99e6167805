-- `copy_data` meets its contract: the first i bytes are copied.
-- Rests on: the laws in Loading/Parts, Loading/Loaded, Calling/Delivered and laws::Overlay; the contracts of
-- file_blocks, nth_block, part_length and copy_part.
-- Assumes nothing.
use mathlib.Core.Path.{◌≡◌, refl, sym, ◌∙◌}
use Prim.Native.Nat.{ℕ, ◌+◌, ◌%◌}
use native.Mathlib.Omega.{arith}
use Rattle.laws.specs.Laws.Overlay.{overlay_none, overlay_next}
use Rattle.laws.specs.Laws.FirstBelow.{first_lowest, none_lowest}
use Rattle.sector_rules.specs.Geometry.{blocks}
use Rattle.file_rules.specs.Disk.{disk_of}
use Rattle.file_rules.specs.Map.{file_byte}
use Rattle.files.specs.Laws.Loading.Blocks.{disk_far}
use Rattle.files.specs.Laws.Loading.Loaded.{part_loaded}
use Rattle.files.specs.Laws.Calling.Delivered.{file_run}
use Rattle.file_rules.specs.Sizes.{block_bytes, slot_bytes}
use Rattle.files.proofs.reading.copy_data.Goals as goal
use Rattle.files.proofs.reading.copy_data.Goals.{in-Some, in-None}

pub loop-i-init : goal.loop-i-init
loop-i-init c = (omega arith, refl, overlay_none _ _ _)

pub nth_block-requires : goal.nth_block-requires
nth_block-requires c = c.file_blocks-row.ensures

pub loop-i-preserved : goal.loop-i-preserved
loop-i-preserved c = (
  omega arith,
  c.match-nth_block.auto.out ∙ c.loop-i.invariant.1,
  elim c.match-nth_block.branch [
    | in-Some w ↦
        w.out-is ∙ w.copy_part.ensures
        ∙ overlay_next _ _ _ _ (λ (j : ℕ). file_byte (disk_of c.args.disk.now.image.now) c.args.k (slot_bytes + j)) _ c.loop-i.invariant.2
        (λ j h. file_run (disk_of c.args.disk.now.image.now) c.args.k c.loop-i.i j _
        (sym (first_lowest _ _ _ (sym c.nth_block.ensures ∙ w.in-Some.is)).1 ∙ part_loaded _ _ c.args.disk.now.loaded _ _) (omega arith))
    | in-None w ↦
        w.out-is ∙ w.fill.ensures
        ∙ overlay_next _ _ _ _ (λ (j : ℕ). file_byte (disk_of c.args.disk.now.image.now) c.args.k (slot_bytes + j)) _ c.loop-i.invariant.2
        (λ j h.
        sym (disk_far c.args.disk.now.image.now blocks ((slot_bytes + c.loop-i.i) % block_bytes + j) (omega arith))
        ∙ file_run (disk_of c.args.disk.now.image.now) c.args.k c.loop-i.i j blocks
        (sym (none_lowest _ _ (sym c.nth_block.ensures ∙ w.in-None.is)) ∙ part_loaded _ _ c.args.disk.now.loaded _ _) (omega arith))
  ],
)

pub returns : goal.returns
returns c = let e : c.loop-i.i ≡ c.args.n = omega arith in rw e at c.loop-i.invariant.2
