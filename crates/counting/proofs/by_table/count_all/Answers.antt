-- `counting::by_table::count_all` meets its contract: n, then the table, then the counts.
-- Assumes nothing.
use mathlib.Core.Path.{sym, ap, ◌∙◌, subst}
use lib.ListN.{length}
use Rattle.forms.specs.SchemeMemory.{patterns_in, scheme_in}
use Rattle.scheme.specs.ProperLaws.{proper}
use Rattle.count_plan.specs.Layout.{need_of}
use Rattle.count_rows.specs.Run.{cleared, Counts}
use Rattle.count_answer.proofs.CountLaws.{table_good}
use Rattle.count_answer.proofs.MeasureLaws.{given_of, last_is}
use Rattle.counting.proofs.by_table.count_all.Goals as goal

pub measured-requires : goal.measured-requires
measured-requires c = (proper (scheme_in c.args.scheme) c.requires.0.scheme, c.binomials-b.ensures)

pub all_counts-counts-requires : goal.all_counts-counts-requires
all_counts-counts-requires c =
    let a = c.args in
    let m = c.in_ok-m in
    let good = table_good (scheme_in a.scheme) a.n (length a.table.now) (sym m.ensures.0) in
    (given_of a.patterns a.scheme a.n m.m a.table.now m.ensures.1 c.requires.0 c.requires.1 good.0 good.1, c.binomials-b.ensures)

pub returns : goal.returns
returns c =
    let a = c.args in
    let m = c.in_ok-m in
    let all = c.all_counts-counts in
    let last = last_is a.scheme a.n m.m m.ensures.1 in
    record {
      counts = (m.ensures.0, subst (λ n. Counts (patterns_in a.patterns) (scheme_in a.scheme) n all.result) last all.ensures.counts);
      table = all.ensures.table ∙ ap (λ n. cleared (need_of n (scheme_in a.scheme)) a.table.now) last;
    }
