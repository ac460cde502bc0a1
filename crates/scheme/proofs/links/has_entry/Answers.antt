-- `scheme::links::has_entry` meets its contract: a listed prefix is found.
-- Assumes nothing.
use mathlib.Core.Path.{ap, ◌∙◌}
use Rattle.std.specs.Prelude.{is_some}
use Rattle.scheme.proofs.LookupLaws.{found_listed}
use Rattle.scheme.proofs.links.has_entry.Goals as goal

pub returns : goal.returns
returns c =
    λ ps w. c.is_some.ensures ∙ ap is_some (c.find_prefix.ensures ps w) ∙ found_listed ps c.args.prefix.now
