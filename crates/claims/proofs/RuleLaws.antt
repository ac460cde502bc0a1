-- The rule of an entry: the deletion that the candidate search decides, what is shown of it, and
-- the number of compared cells.
-- Assumes nothing.
use Prim.Native.Nat.{ℕ, ◌+◌, ◌≤◌, ◌<◌}
use native.Mathlib.Omega.{arith}
use mathlib.Core.Path.{◌≡◌, sym, ap, ap₂, ◌∙◌}
use mathlib.Core.Bool.{true, false}
use mathlib.Core.List.{List, [], Memᴰ}
use Rattle.std.specs.Prelude.{Option, Some, None, is_some}
use Rattle.placing.specs.declared.tables.Word.{Word}
use Rattle.word.specs.ListLaws.{get_or_mem}
use mathlib.Core.Logic.{◌↔◌}
use mathlib.Core.Option.{none}
use lib.ListN.{length, take, get_or}
use lib.Seq.{length-take-le}
use Rattle.word.specs.Ceilings.{DIGITS, PREFIX, PARTS}
use Rattle.word.specs.Lists.{all}
use Rattle.word.specs.Word.{within, longest, is_perm}
use Rattle.cell.specs.Cell.{total, compared_to}
use Rattle.cell.specs.Candidate.{violated_first, lost_words, least_of, least_candidate}
use Rattle.cell.specs.Claim.{DeletionClaim}
use Rattle.cell.proofs.BasisLaws.{longest_basis}
use Rattle.forms.specs.GapRows.{gaps_of}
use Rattle.candidate.specs.Ready.{Given, FoundAt, EntryAnswer}
use Rattle.lost_word.specs.Shown.{ShowsWord}
use Rattle.candidate.specs.declared.search.Lost.{Lost}
use Rattle.candidate.proofs.CandidateWalk.{located_total}
use Rattle.lost_word.proofs.LeastWalk.{candidate_none, candidate_some, candidate_found, shows_found}
use Rattle.forms.specs.SchemeList.{deletes}
use Rattle.scheme.specs.WellFormed.{outside}
use Rattle.forms.specs.SchemeMemory.{six_of, positions_in, does_of, entry_in}
use Rattle.forms.specs.MemoryLaws.{padded_within, length_padded}
use Rattle.forms.specs.declared.memory.Entry.{Entry}
use Rattle.forms.specs.declared.memory.Positions.{Positions}
use Rattle.forms.specs.declared.memory.Rule.{Rule}
use Rattle.forms.specs.declared.memory.Rule.TheVariants.{Expand, Delete}
use Rattle.verdict.specs.Verdict.{differs_under, compared_with_under}
use Rattle.scheme.specs.FindingLaws.{same_failure}
use Rattle.scheme.specs.Proper.{ProperEntry}
use Rattle.scheme.specs.PositionLaws.{positions_inside, positions_few}
use Rattle.verdict.specs.VerdictLaws.{differs_law}
use Rattle.claims.specs.EntryMemory.{ProperSet, DeletesAt, rule_candidate, LostAnswer, ComparedAnswer}
use Rattle.scheme.specs.EntryMemoryLaws.{entry_short, gaps_hold, prefix_is, prefix_perm}
use Rattle.claims.specs.ComparedLaws.{compared_small}

-- an expanding entry
pub expands_answer : (m : ℕ) (P : List (List ℕ)) (e : Entry) → e.rule ≡ Expand → LostAnswer m P (entry_in e) None
unfolding differs_under rule_candidate
expands_answer m P e q =
    record {
      said = sym (ap (λ (x : Rule). differs_under m P (entry_in e).prefix (entry_in e).gaps (does_of x)) q);
      shows = rw q tt;
    }

module _ (e : Entry) (proper : ProperEntry (entry_in e)) (six : length e.prefix ≡ PREFIX) (d : Positions) (rule : DeletesAt e d) where
  deletes_inside : outside (length (entry_in e).prefix) (deletes (positions_in d)) ≡ false
  deletes_inside = ap (λ (x : Rule). outside (length (entry_in e).prefix) (does_of x)) (sym rule) ∙ proper.inside

  -- the positions that have a name are all of them
  pub positions_named : (d.count ≤ PREFIX) × (positions_in d ≡ take d.count (six_of d))
  positions_named =
      let short = proper.short in
      let few : d.count ≤ PREFIX = omega (
        arith,
        positions_few (length (entry_in e).prefix) (positions_in d) deletes_inside,
        length_padded d.count (six_of d),
      ) in
      (few, padded_within d.count (six_of d) (omega (arith, few, length_padded PREFIX d.positions)))

  pub set_inside : all (within (length (take e.length e.prefix))) (positions_in d) ≡ true
  set_inside =
      ap (λ (u : List ℕ). all (within (length u)) (positions_in d)) (sym (prefix_is e proper six)) ∙
      positions_inside (length (entry_in e).prefix) (positions_in d) deletes_inside

  -- what the search is given
  pub given : (P : List (List ℕ)) → ProperSet P → Given P (take e.length e.prefix) (positions_in d)
  given P q =
      record {
        few = q.few;
        patterns = λ (i : ℕ) (h : i < length P). q.perms (get_or P i []) (get_or_mem P i [] h);
        perm = prefix_perm e proper six;
        short = omega (arith, entry_short e proper, length-take-le e.length e.prefix (omega (arith, entry_short e proper)));
        inside = set_inside;
      }

  module _ (m : ℕ) (P : List (List ℕ)) (lost : Option Lost) (all : length e.gaps ≡ PARTS)
      (a : EntryAnswer m P (take e.length e.prefix) (gaps_of e.gaps (e.length + 1) e.gap_count) (positions_in d) lost) where
    -- what the search answers is test 11 on the entry
    answers : longest P ≤ m → ((β : List ℕ) → Memᴰ β P → is_perm β ≡ true) →
        is_some lost ≡ differs_under m P (entry_in e).prefix (entry_in e).gaps (entry_in e).rule
    answers reach perms =
        let low = longest_basis P in
        let claimed : (is_some lost ≡ false) ↔ DeletionClaim P (entry_in e).prefix (entry_in e).gaps (positions_in d) =
        rw (prefix_is e proper six, ← gaps_hold e proper all) (a.claimed reach) in
        same_failure (is_some lost) (differs_under m P (entry_in e).prefix (entry_in e).gaps (deletes (positions_in d))) claimed
        (differs_law m P (omega arith) perms (entry_in e).prefix (entry_in e).gaps (deletes (positions_in d)) proper.perm
        deletes_inside) ∙
        ap (λ (x : Rule). differs_under m P (entry_in e).prefix (entry_in e).gaps (does_of x)) (sym rule)

    size : length (take e.length e.prefix) ≡ e.length
    size = length-take-le e.length e.prefix (omega (arith, entry_short e proper))

    at : FoundAt e.length (violated_first m P (take e.length e.prefix)
        (gaps_of e.gaps (e.length + 1) e.gap_count) (positions_in d)) lost
    at = rw size at a.located

    -- what is shown of the entry
    rule_is : rule_candidate m P (entry_in e).prefix (entry_in e).gaps (entry_in e).rule ≡
        least_candidate m P (take e.length e.prefix) (gaps_of e.gaps (e.length + 1) e.gap_count) (positions_in d)
    unfolding rule_candidate
    rule_is =
        ap (λ (x : Rule). rule_candidate m P (entry_in e).prefix (entry_in e).gaps (does_of x)) rule ∙
        ap₂ (λ (u : List ℕ) (B : List (List ℕ)). least_candidate m P u B (positions_in d)) (prefix_is e proper six)
        (sym (gaps_hold e proper all))

  -- where nothing is found
  pub answers_none : (m : ℕ) (P : List (List ℕ)) (all : length e.gaps ≡ PARTS) →
      EntryAnswer m P (take e.length e.prefix) (gaps_of e.gaps (e.length + 1) e.gap_count) (positions_in d) None →
      longest P ≤ m → ((β : List ℕ) → Memᴰ β P → is_perm β ≡ true) → LostAnswer m P (entry_in e) None
  answers_none m P all a reach perms =
      record {
        said = answers m P None all a reach perms;
        shows =
            rw (rule_is m P None all a ∙ candidate_none m P (take e.length e.prefix)
            (gaps_of e.gaps (e.length + 1) e.gap_count) (positions_in d) e.length (at m P None all a)) tt;
      }

  module _ (m : ℕ) (P : List (List ℕ)) (l : Lost) (all : length e.gaps ≡ PARTS)
      (a : EntryAnswer m P (take e.length e.prefix) (gaps_of e.gaps (e.length + 1) e.gap_count) (positions_in d) (Some l)) where
    -- the total of the spacing that was found
    pub found_total : m ≤ DIGITS → (l.total < DIGITS) × (total (take (e.length + 1) l.spacing) ≡ l.total)
    found_total most =
        let (low, whole) = located_total m P (take e.length e.prefix) (gaps_of e.gaps (e.length + 1) e.gap_count)
        (positions_in d) e.length l (at m P (Some l) all a) in
        (omega arith, whole)

    pub answers_some : longest P ≤ m → ((β : List ℕ) → Memᴰ β P → is_perm β ≡ true) → (w : Option Word) →
        ShowsWord (least_of none (lost_words P (take e.length e.prefix) (positions_in d) (take (e.length + 1) l.spacing))) w →
        LostAnswer m P (entry_in e) w
    answers_some reach perms w s =
        record {
          said =
              shows_found (least_of none (lost_words P (take e.length e.prefix) (positions_in d)
              (take (e.length + 1) l.spacing))) w s ∙
              candidate_found m P (take e.length e.prefix) (gaps_of e.gaps (e.length + 1) e.gap_count)
              (positions_in d) e.length l (at m P (Some l) all a) ∙ answers m P (Some l) all a reach perms;
          shows =
              rw (rule_is m P (Some l) all a ∙ candidate_some m P (take e.length e.prefix)
              (gaps_of e.gaps (e.length + 1) e.gap_count) (positions_in d) e.length l (at m P (Some l) all a)) s;
        }

-- the number of compared cells
pub expands_compared : (m : ℕ) (e : Entry) → e.rule ≡ Expand → ComparedAnswer m (entry_in e) 0
unfolding compared_with_under
expands_compared m e q =
    record {
      compares = ap (λ (x : Rule). compared_with_under m (entry_in e).prefix (entry_in e).gaps (does_of x)) (sym q);
      small = omega arith;
    }

pub deletes_compared : (m : ℕ) (e : Entry) (d : Positions) (n : ℕ) → m ≤ DIGITS → ProperEntry (entry_in e) → e.rule ≡ Delete d →
    length e.gaps ≡ PARTS → n ≡ length (compared_to m e.length (gaps_of e.gaps (e.length + 1) e.gap_count)) →
    ComparedAnswer m (entry_in e) n
unfolding compared_with_under
deletes_compared m e d n low proper q all is =
    record {
      compares =
          is ∙
          ap₂ (λ (k : ℕ) (B : List (List ℕ)). length (compared_to m k B)) (sym (length_padded e.length e.prefix))
          (gaps_hold e proper all) ∙
          ap (λ (x : Rule). compared_with_under m (entry_in e).prefix (entry_in e).gaps (does_of x)) (sym q);
      small = omega (
        arith,
        is,
        compared_small m e.length (gaps_of e.gaps (e.length + 1) e.gap_count) low
            (entry_short e proper),
      );
    }
