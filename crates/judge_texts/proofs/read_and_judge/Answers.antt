-- `judge_texts::read_and_judge` meets its contract: the verdict is that on what was read.
-- Assumes nothing.
use Rattle.judge_texts.specs.TextVerdictLaws.{read_well, texts_read}
use Rattle.judge_texts.proofs.read_and_judge.Goals as goal

pub judge_read-verdict-requires : goal.judge_read-verdict-requires
judge_read-verdict-requires c =
    let p = c.read_patterns-p in
    let q = c.read_scheme-s in
    read_well _ _ p.result p.ensures.0 p.ensures.1 q.result q.ensures.0 q.ensures.1

pub returns : goal.returns
returns c =
    let p = c.read_patterns-p in
    let q = c.read_scheme-s in
    texts_read _ _ p.result p.ensures.0 p.ensures.1 q.result q.ensures.0 q.ensures.1 c.judge_read-verdict.result
    c.judge_read-verdict.ensures
