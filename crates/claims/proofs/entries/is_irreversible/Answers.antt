-- `claims::entries::is_irreversible` meets its contract: by the cases of the rule.
-- Assumes nothing.
use Rattle.claims.proofs.RuleLaws.{expands_answer}
use Rattle.forms.specs.SetMemory.{held_in}
use Rattle.claims.proofs.entries.is_irreversible.Goals as goal

pub returns-in-Expand : goal.returns-in-Expand
returns-in-Expand c =
    let a = c.args in
    expands_answer a.m (held_in a.patterns.now) a.e c.in-Expand.is
