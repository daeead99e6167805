-- `fields::bytes_at` meets its contract.
-- Rests on: the law made_tab; the contract of byte.
-- Assumes nothing.
use Rattle.std.proofs.Common.{rules}
use Rattle.laws.specs.Lists.{window, element_at}
use Rattle.laws.specs.Laws.Made.{made_tab}
use Rattle.fields.proofs.words.bytes_at.Goals as goal

pub returns : goal.returns
unfolding window element_at
returns g c = made_tab _ _ (element_at c.args.s.now c.args.at) (λ k y q h. search rules) _ _ c.from_fn.ensures.items
