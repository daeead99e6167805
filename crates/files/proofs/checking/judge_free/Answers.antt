-- `judge_free` meets its contract.
-- Rests on: the laws in Judging/Sound; the contracts of head_word and count_free.
-- Assumes nothing.
use Rattle.files.specs.Laws.Judging.Sound.{refused_free, passed_free}
use Rattle.files.proofs.checking.judge_free.Goals as goal

pub returns-then-head_word-count_free : goal.returns-then-head_word-count_free
returns-then-head_word-count_free c = passed_free _ _ _ c.head_word.ensures.0
    c.count_free.ensures.0 c.if-head_word-count_free.true

pub returns : goal.returns
returns c = refused_free _ _ _ c.head_word.ensures.0
    c.count_free.ensures.0 c.if-head_word-count_free.false
