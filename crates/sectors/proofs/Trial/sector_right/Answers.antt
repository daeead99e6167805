-- `Trial::sector_right` meets its contract.
-- Rests on: the contracts of own_right and other_right.
-- Assumes nothing.
use Rattle.sectors.proofs.Trial.sector_right.Goals as goal

pub own_right-requires : goal.own_right-requires
own_right-requires c = (c.requires.0, rw c.if-q-self.true at c.requires.1, rw c.if-q-self.true at c.requires.3)

pub returns-then-q-self : goal.returns-then-q-self
returns-then-q-self c = rw c.if-q-self.true c.own_right.ensures

pub other_right-requires : goal.other_right-requires
other_right-requires c = (c.requires.0, c.requires.1, c.if-q-self.false, c.requires.2, c.requires.3)
