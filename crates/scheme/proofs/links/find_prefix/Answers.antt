-- `scheme::links::find_prefix` meets its contract: the code of the prefix is looked up.
-- Assumes nothing.
use Rattle.scheme.proofs.LookupLaws.{find_coded}
use Rattle.scheme.proofs.links.find_prefix.Goals as goal

pub returns : goal.returns
returns c =
    find_coded c.args.codes.now c.args.prefix.now c.code_of.result c.code_of.ensures c.find.result c.find.ensures
