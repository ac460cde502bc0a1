-- `judge::judging::judge_claims` meets its contract: the slices hold the patterns, the tests on the
-- basis are those on the set, and what is added up and the entries from the index on are all
-- compared cells.
-- Assumes nothing.
use Rattle.std.proofs.Common.{rules, arith, ℕ, List, true, false, ◌≡◌, ◌≤◌, ◌∙◌, sym, ap, length}
use Rattle.std.proofs.Math.Option.{Option}
use Rattle.word.specs.Ceilings.{PATTERNS}
use Rattle.word.specs.Finding.{first_fault}
use Rattle.cell.specs.Basis.{basis}
use Rattle.cell.specs.Cell.{m_of}
use Rattle.basis.specs.BasisSetLaws.{basis_held}
use Rattle.forms.specs.SchemeMemory.{Fault, patterns_in, scheme_in, fault_of, faulty}
use Rattle.forms.specs.SetMemory.{held_in}
use Rattle.forms.specs.declared.memory.Scheme.{Scheme}
use Rattle.scheme.specs.ProperLaws.{proper as proper-scheme, proper_count, proper_at}
use Rattle.scheme.specs.SetLaws.{slice_holds}
use Rattle.verdict.specs.Verdict.{Verdict, claim_tests, compared_cells, answered}
use Rattle.verdict.specs.Witness.{word_shown}
use Rattle.lost_word.specs.Shown.{ShowsWord}
use Rattle.claims.specs.EntryMemory.{ProperSet}
use Rattle.judge.specs.ProperSetLaws.{proper_set}
use Rattle.judge.proofs.JudgementLaws.{refused_answer}
use Rattle.judge.proofs.JudgeLaws.{basis_m, basis_proper, claims_live, claims_lost, claims_answer, live_shown, lost_shown}
use Rattle.judge.proofs.LossLaws.{shows_none}
use Rattle.judge.proofs.EntryWalkLaws.{cells_start, cells_next, cells_end}
use Rattle.std.proofs.Common.{length-take, refl}
use Rattle.std.specs.Prelude.{Ok, Err, is_err}
use lib.ListN.{length-map}
use Rattle.forms.specs.SetMemory.{held}
use Rattle.scheme.specs.Proper.{Proper}
use Rattle.judge.proofs.judging.judge_claims.Goals as goal
use Rattle.judge.proofs.judging.judge_claims.Goals.{After-as_slice-set, After-live_fault-live, After-irreversible_fault-loss}

-- the place behind which the set, its basis and the first finding are there
abbrev Live : Type 0
Live = After-live_fault-live

-- the place behind which the second finding is there
abbrev Lost : Type 0
Lost = After-irreversible_fault-loss

-- the slice of the set, and that of its basis
abbrev set : Live → List (List ℕ)
set c = held_in c.as_slice-set.result.now

abbrev basic : Live → List (List ℕ)
basic c = held_in c.as_slice-basis.result.now

holds : (c : After-as_slice-set) → held_in c.as_slice-set.result.now ≡ patterns_in c.args.patterns
holds c =
    let all : length c.args.patterns.items ≡ PATTERNS = search rules in
    ap held_in c.as_slice-set.ensures ∙ slice_holds c.args.patterns c.requires.patterns all

basis-is : (c : Live) → basic c ≡ basis (set c)
basis-is c =
    let b = c.basis_of-held in
    let all : length b.result.items ≡ PATTERNS = (let o = b.type_inv in search rules) in
    ap held_in c.as_slice-basis.ensures ∙ basis_held (set c) b.result b.ensures all

proper : (c : After-as_slice-set) → ProperSet (held_in c.as_slice-set.result.now)
proper c = rw (holds c) (proper_set c.args.patterns c.requires.patterns)

-- there are no more patterns in the basis than in a set
few : (c : Live) → length (basic c) ≤ PATTERNS
few c =
    let b = c.basis_of-held in
    omega (
      arith,
      length-map c.as_slice-basis.result.now held,
      ap length c.as_slice-basis.ensures,
      length-take b.result.count b.result.items,
      b.ensures.few,
    )

scheme-proper : (c : Live) → Proper (scheme_in c.args.scheme)
scheme-proper c = proper-scheme (scheme_in c.args.scheme) c.requires.scheme

-- what the tests on the basis find is what those on the set find
abbrev claimed : Live → Fault
claimed c = fault_of (first_fault (claim_tests (set c) (scheme_in c.args.scheme)))

pub basis_of-held-requires : goal.basis_of-held-requires
basis_of-held-requires c = omega (arith, (proper c).few, length-map c.as_slice-set.result.now held)

pub live_fault-live-requires : goal.live_fault-live-requires
live_fault-live-requires c = proper-scheme (scheme_in c.args.scheme) c.requires.scheme

-- what is shown with the claims of a set
abbrev shownOf : Scheme → List (List ℕ) → Option (List ℕ)
shownOf s P = word_shown P (scheme_in s) (fault_of (first_fault (claim_tests P (scheme_in s))))

-- a fault that the tests find is the answer
refused : (P Q : List (List ℕ)) (s : Scheme) (f : Fault) (r : Verdict) → Q ≡ P → faulty f ≡ true →
    f ≡ fault_of (first_fault (claim_tests Q (scheme_in s))) → r ≡ answered f 0 →
    r ≡ answered (fault_of (first_fault (claim_tests P (scheme_in s)))) (compared_cells P (scheme_in s))
refused P Q s f r same h found e =
    e ∙ refused_answer f 0 (compared_cells P (scheme_in s)) h ∙
    ap (λ (x : Fault). answered x (compared_cells P (scheme_in s)))
    (found ∙ ap (λ (R : List (List ℕ)). fault_of (first_fault (claim_tests R (scheme_in s)))) same)

-- a finding is a fault if it is no Ok
fault-told : (f : Fault) → faulty f ≡ is_err f
fault-told (Ok u) = refl
fault-told (Err e) = refl

pub returns-then-is_err : goal.returns-then-is_err
returns-then-is_err c =
    let place = goal.at.returns-then-is_err c in
    let o = place.After-live_fault-live in
    let same = holds place.After-as_slice-set in
    let P = patterns_in c.args.patterns in
    let live = c.live_fault-live in
    let h : faulty live.result ≡ true = fault-told live.result ∙ sym c.is_err.ensures.value ∙ c.if-is_err.true in
    let first = claims_live (set o) (basic o) (proper place.After-as_slice-set) (basis-is o)
    c.args.scheme (scheme-proper o) live.result live.ensures h in
    let nothing = live_shown (set o) (basic o) (proper place.After-as_slice-set) (basis-is o)
    c.args.scheme (scheme-proper o) live.result live.ensures h in
    record {
      verdict = refused P (set o) c.args.scheme live.result c.refused.result.verdict same h first c.refused.ensures.0;
      shows = rw c.refused.ensures.1 (shows_none (shownOf c.args.scheme P) (ap (shownOf c.args.scheme) (sym same) ∙ nothing));
    }

-- m is the length of the longest pattern of the basis
long-basis : (c : Lost) → c.longest_length-m.result ≡ m_of (held_in c.as_slice-set.result.now)
long-basis c =
    let o = (goal.at.After-irreversible_fault-loss c).After-live_fault-live in
    let s = (goal.at.After-irreversible_fault-loss c).After-as_slice-set in
    basis_m (set o) (basic o) (proper s) (basis-is o) c.longest_length-m.result c.longest_length-m.ensures.0

-- what test 11 finds, where test 10 finds nothing, and what is shown with it
lost : (c : Lost) → faulty c.live_fault-live.result ≡ false →
    c.irreversible_fault-loss.result.fault ≡
    fault_of (first_fault (claim_tests (held_in c.as_slice-set.result.now) (scheme_in c.args.scheme)))
lost c h =
    let o = (goal.at.After-irreversible_fault-loss c).After-live_fault-live in
    let s = (goal.at.After-irreversible_fault-loss c).After-as_slice-set in
    claims_lost (set o) (basic o) (proper s) (basis-is o) c.args.scheme (scheme-proper o)
    c.live_fault-live.result c.live_fault-live.ensures c.longest_length-m.result (long-basis c)
    c.irreversible_fault-loss.result.fault c.irreversible_fault-loss.ensures.found h

shown-lost : (c : Lost) → faulty c.live_fault-live.result ≡ false →
    ShowsWord (shownOf c.args.scheme (patterns_in c.args.patterns)) c.irreversible_fault-loss.result.word
shown-lost c h =
    let o = (goal.at.After-irreversible_fault-loss c).After-live_fault-live in
    let s = (goal.at.After-irreversible_fault-loss c).After-as_slice-set in
    rw (← holds s) (lost_shown (set o) (basic o) (proper s) (basis-is o) c.args.scheme (scheme-proper o)
    c.live_fault-live.result c.live_fault-live.ensures c.longest_length-m.result (long-basis c)
    c.irreversible_fault-loss.result c.irreversible_fault-loss.ensures h)

pub irreversible_fault-loss-requires : goal.irreversible_fault-loss-requires
irreversible_fault-loss-requires c =
    let place = goal.at.irreversible_fault-loss-requires c in
    let o = place.After-live_fault-live in
    let m = c.longest_length-m in (
      basis_proper (set o) (basic o) (proper place.After-as_slice-set) (basis-is o) (few o),
      omega (arith, m.ensures.0),
      m.ensures.1,
      scheme-proper o,
    )

pub returns-then-is_err-2 : goal.returns-then-is_err-2
returns-then-is_err-2 c =
    let place = goal.at.returns-then-is_err-2 c in
    let o = place.After-irreversible_fault-loss in
    let live = c.live_fault-live.result in
    let fault = c.irreversible_fault-loss.result.fault in
    let clean : faulty live ≡ false = fault-told live ∙ sym c.is_err.ensures.value ∙ c.if-is_err.false in
    let h : faulty fault ≡ true = fault-told fault ∙ sym c.is_err-2.ensures.value ∙ c.if-is_err-2.true in
    let r = c.refused-then-is_err-2 in
    record {
      verdict = refused (patterns_in c.args.patterns) (held_in c.as_slice-set.result.now) c.args.scheme fault
          r.result.verdict (holds place.After-as_slice-set) h (lost o clean) r.ensures.0;
      shows = rw r.ensures.1 (shown-lost o clean);
    }

pub loop-i-init : goal.loop-i-init
loop-i-init c = (
  proper_count c.args.scheme (proper-scheme (scheme_in c.args.scheme) c.requires.scheme),
  omega arith,
  cells_start c.longest_length-m.result c.args.scheme,
)

pub compared_with-cells-requires : goal.compared_with-cells-requires
compared_with-cells-requires c = (
  c.longest_length-m.ensures.1,
  proper_at c.args.scheme (proper-scheme (scheme_in c.args.scheme) c.requires.scheme) c.loop-i.i (omega arith),
)

pub overflow_add-cells : goal.overflow_add-cells
overflow_add-cells c =
    let l = c.loop-i in
    let small = c.compared_with-cells.ensures.small in
    let few = l.invariant.0 in
    let low = l.invariant.1 in
    omega arith

pub loop-i-preserved : goal.loop-i-preserved
loop-i-preserved c =
    let l = c.loop-i in
    let w = c.compared_with-cells.ensures in (
      l.invariant.0,
      omega (arith, w.small, l.invariant.1),
      cells_next c.longest_length-m.result c.args.scheme l.i l.cells c.compared_with-cells.result (omega arith)
          l.invariant.2 w.compares,
    )

pub returns : goal.returns
returns c =
    let place = goal.at.returns c in
    let o = place.After-irreversible_fault-loss in
    let l = c.loop-i in
    let m = c.longest_length-m in
    let live = c.live_fault-live.result in
    let clean : faulty live ≡ false = fault-told live ∙ sym c.is_err.ensures.value ∙ c.if-is_err.false in
    record {
      verdict = c.answer-verdict.ensures ∙
          claims_answer c.args.patterns c.args.scheme (held_in c.as_slice-set.result.now) c.irreversible_fault-loss.result.fault
          m.result l.cells (holds place.After-as_slice-set) (lost o clean) (long-basis o)
          (sym (l.invariant.2 ∙ cells_end m.result c.args.scheme l.i l.cells (omega arith)));
      shows = shown-lost o clean;
    }
