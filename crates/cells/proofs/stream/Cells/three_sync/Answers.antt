-- `Cells::three_sync` meets its contract.
-- Rests on: the contract of sync_at.
-- Assumes nothing.
use mathlib.Core.Bool.{true, false}
use mathlib.Core.Path.{◌≡◌, sym, ◌∙◌}
use Rattle.laws.specs.Laws.Tests.{true≢false}
use Rattle.cells.specs.Stream.{from}
use Rattle.cells.specs.Sync.{sync_at, three_sync}
use Rattle.cells.proofs.stream.Cells.three_sync.Goals.{then-sync_at, else-sync_at}
use Rattle.cells.proofs.stream.Cells.three_sync.Goals as goal

pub returns-then-sync_at-2 : goal.returns-then-sync_at-2
unfolding three_sync
returns-then-sync_at-2 c = elim c.if-sync_at.branch [
  | then-sync_at w ↦
      let first : sync_at (from c.args.self.now c.args.i) 0 ≡ true = sym c.sync_at.ensures ∙ w.if-sync_at.true in
      let second : sync_at (from c.args.self.now c.args.i) 16 ≡ true = sym w.sync_at-then-sync_at.ensures ∙ sym w.value-is ∙ c.if-sync_at-2.true in
      rw (first, second) c.sync_at-then-sync_at-2.ensures
  | else-sync_at w ↦ true≢false _ c.if-sync_at-2.true (w.value-is ∙ w.if-sync_at.false)
]

pub returns-else-sync_at-2 : goal.returns-else-sync_at-2
unfolding three_sync
returns-else-sync_at-2 c = elim c.if-sync_at.branch [
  | then-sync_at w ↦
      let first : sync_at (from c.args.self.now c.args.i) 0 ≡ true = sym c.sync_at.ensures ∙ w.if-sync_at.true in
      let second : sync_at (from c.args.self.now c.args.i) 16 ≡ false = sym w.sync_at-then-sync_at.ensures ∙ sym w.value-is ∙ c.if-sync_at-2.false in
      rw (first, second) c.if-sync_at-2.false
  | else-sync_at w ↦
      let first : sync_at (from c.args.self.now c.args.i) 0 ≡ false = sym c.sync_at.ensures ∙ w.if-sync_at.false in
      rw first c.if-sync_at-2.false
]
