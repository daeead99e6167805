-- `judge_files` meets its contract: the files below f are sound.
-- Rests on: the laws in Loading/NameHashes, Loading/Parts, Loading/Chains, Loading/Slots and Judging/Sound; the
-- contracts of Directory::of, load_chains, dir_end and file_right.
-- Assumes nothing.
use borrow.Author.Count.{below_none, below_more}
use Rattle.sector_rules.specs.Geometry.{blocks}
use Rattle.file_rules.specs.Map.{sequences}
use Rattle.files.specs.Laws.Loading.Chains.{chain_none}
use Rattle.files.specs.Laws.Loading.NameHashes.{hashes_none}
use Rattle.files.specs.Laws.Judging.Sound.{fault_here, file_fault_none, refused_files, passed_files}
use native.Mathlib.Omega.{arith}
use mathlib.Core.Path.{refl, sym, ap, ◌∙◌}
use mathlib.Core.Bool.{not}
use Rattle.files.proofs.checking.judge_files.Goals as goal

pub load_chains-requires : goal.load_chains-requires
load_chains-requires c = rw (c.none.ensures, c.none-2.ensures) (chain_none sequences blocks refl refl _)

pub loop-f-init : goal.loop-f-init
loop-f-init c = (omega arith, below_none _, hashes_none _)

pub file_right-requires : goal.file_right-requires
file_right-requires c = (
  record {
    long = c.of-dir.result.whole;
    loaded_map = c.of-dir.result.disk.now.loaded;
    loaded_directory = c.of-dir.result.located;
    loaded_chains = rw c.of-dir.ensures c.load_chains.ensures;
  },
  omega
      arith,
  rw c.of-dir.ensures c.dir_end-end.ensures.0,
  c.loop-f.invariant.2,
)

pub returns-then-not-file_right : goal.returns-then-not-file_right
returns-then-not-file_right c = refused_files _ _
    (rw c.of-dir.ensures at (fault_here _ _ (omega arith) c.loop-f.invariant.1 (ap not (sym c.file_right.ensures.0 ∙ c.if-not-file_right.true)))) (omega arith)

pub loop-f-preserved : goal.loop-f-preserved
loop-f-preserved c = (
  omega arith,
  below_more _ _ c.loop-f.invariant.1
      (ap not (sym c.file_right.ensures.0 ∙ c.if-not-file_right.false)),
  c.file_right.ensures.1,
)

pub returns : goal.returns
returns c = passed_files _ _ (rw c.of-dir.ensures at (file_fault_none _ (λ j h. c.loop-f.invariant.1 j (omega arith)))) (omega arith)
