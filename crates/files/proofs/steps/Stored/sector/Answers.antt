-- `sector` meets its contract.
-- Rests on: the laws in laws::Made; the contract of byte.
-- Assumes nothing.
use Rattle.std.proofs.Common.{ℕ, ◌+◌, rules}
use Rattle.laws.specs.Laws.Made.{made_tab}
use Rattle.files.specs.Laws.Writing.Steps.{stored_row}
use Rattle.files.proofs.steps.Stored.sector.Goals as goal

pub returns : goal.returns
returns c =
    made_tab _ _ (λ (k : ℕ). stored_row c.args.self.now.head.now c.args.self.now.content.now (c.args.i + k)) (λ k y q h. search rules) _ _
    c.from_fn.ensures.items
