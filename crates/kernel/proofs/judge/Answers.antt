-- `kernel::judge` meets its contract: the number of the verdict.
-- Assumes nothing.
use Rattle.kernel.specs.CallLaws.{called}
use Rattle.kernel.proofs.judge.Goals as goal

pub returns : goal.returns
returns c =
    let v = c.judge_texts_without_page-verdict in
    called _ _ v.result c.refusal_number.result v.ensures c.refusal_number.ensures
