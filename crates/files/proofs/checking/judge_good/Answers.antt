-- `judge_good` meets its contract.
-- Rests on: the laws in Judging/Sound; the contracts of head_word and count_bad.
-- Assumes nothing.
use Rattle.files.specs.Laws.Judging.Sound.{refused_good, passed_good}
use Rattle.files.proofs.checking.judge_good.Goals as goal

pub returns-then-head_word-count_bad : goal.returns-then-head_word-count_bad
returns-then-head_word-count_bad c = passed_good _ _ _ c.head_word.ensures.0
    c.count_bad.ensures.0 c.if-head_word-count_bad.true

pub returns : goal.returns
returns c = refused_good _ _ _ c.head_word.ensures.0
    c.count_bad.ensures.0 c.if-head_word-count_bad.false
