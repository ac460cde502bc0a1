-- `judge::judging::formed_fault` meets its contract: the patterns are judged before the scheme.
-- Assumes nothing.
use mathlib.Core.Path.{◌≡◌, sym, ◌∙◌}
use borrow.Author.Rules.{rules}
use Rattle.std.specs.Prelude.{Ok}
use Rattle.scheme.specs.FindingLaws.{goes}
use Rattle.judge.proofs.judging.formed_fault.Goals as goal

pub returns : goal.returns
returns c =
    let passed : c.patterns_fault.result ≡ Ok (tt {0}) = search rules in
    c.scheme_fault.ensures ∙ sym (goes _ _ (sym c.patterns_fault.ensures ∙ passed))
