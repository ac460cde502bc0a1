-- `word::permutation::stands_from` meets its contract.
-- Assumes nothing.
use Rattle.std.proofs.Common.{rules, ◌-◌, length-drop, ◌≡◌, drop, length, ◌∙◌, sym, ap, arith}
use lib.Seq.{take_all}
use Rattle.word.specs.Word.{has}
use Rattle.word.proofs.Chains.{has_list}
use Rattle.word.proofs.Listed.{has_none}
use Rattle.word.proofs.permutation.stands_from.Goals as goal

pub returns-in-Some : goal.returns-in-Some
returns-in-Some c =
    let s = c.args.s.now in
    let from = c.args.from in
    let here = c.in-Some.ensures.lookup.0 in
    let rest : c.in-Some.rest.now ≡ drop from s =
    here.2 ∙ take_all (length s - from) (drop from s) (omega (arith, length-drop from s)) in
    c.contains.ensures.value ∙ sym (has_list c.args.x c.in-Some.rest.now) ∙ ap (has c.args.x) rest

pub returns-in-None : goal.returns-in-None
returns-in-None c = sym (has_none c.args.x c.args.s.now c.args.from (search rules))
