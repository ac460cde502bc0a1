-- Laws of the first and the next avoider of a text: a fault of reading refuses, and else the list
-- decides.
use Rattle.std.specs.Prelude.{ℕ, ◌≡◌, refl, true, false, List, length}
use Rattle.std.proofs.Common.{sym, ap, ◌∙◌}
use Rattle.std.proofs.Math.Option.{Option}
use Rattle.word.specs.ListLaws.{true_not_false}
use Rattle.word.specs.Listing.{first_avoider, next_avoider}
use Rattle.word.specs.Finding.{Finding, first_fault}
use Rattle.forms.specs.SchemeMemory.{Fault, patterns_in, fault_of, or_else, faulty}
use Rattle.std.specs.Prelude.{Ok, Err}
use Rattle.wellformed.proofs.OrderLaws.{or_else_fault, or_else_clean}
use Rattle.notation.specs.Answers.{read_fault, read_list}
use Rattle.notation.specs.PatternAnswers.{PatternsRead, patterns_answer}
use Rattle.lexicographic.specs.Answers.{Listed, first_tests, next_tests, answered, listed_or, page_after, Lists, ListsFirst, ListsNext}
use Rattle.twin_exports.specs.ListCodes.{listed_code, patterns_of_text, found_on, FirstOfText, NextOfText}

-- a fault leaves the page as it is
refused_by : (f : Fault) (o : Option (List ℕ)) → faulty f ≡ true → listed_or f ≡ answered f o
refused_by (Ok u) o h = absurd (true_not_false (sym h))
refused_by (Err e) o h = refl

kept_by : (f : Fault) (o : Option (List ℕ)) (page : List ℕ) → faulty f ≡ true → page ≡ page_after f o page
kept_by (Ok u) o page h = absurd (true_not_false (sym h))
kept_by (Err e) o page h = refl

-- What was read from the text s.
module _ (s : List ℕ) (p : PatternsRead) (is : p ≡ patterns_answer s) where
  module _ (h : faulty (read_fault p) ≡ true) (tests : List (List ℕ) → List Finding) (o : Option (List ℕ)) where
    found : found_on s tests ≡ (read_fault p)
    found =
        ap (λ (x : PatternsRead). or_else (read_fault x) (fault_of (first_fault (tests (patterns_of_text s))))) (sym is) ∙
        or_else_fault (read_fault p) (fault_of (first_fault (tests (patterns_of_text s)))) h

    pub refused_code : (c : Listed) (r : ℕ) → c ≡ listed_or (read_fault p) → r ≡ listed_code c →
        r ≡ listed_code (answered (found_on s tests) o)
    refused_code c r e k =
        k ∙ ap listed_code (e ∙ refused_by (read_fault p) o h ∙ ap (λ (f : Fault). answered f o) (sym found))

    pub refused_page : (page : List ℕ) → page ≡ page_after (found_on s tests) o page
    refused_page page = kept_by (read_fault p) o page h ∙ ap (λ (f : Fault). page_after f o page) (sym found)

  module _ (h : faulty (read_fault p) ≡ false) where
    then_found : (tests : List (List ℕ) → List Finding) → fault_of (first_fault (tests (patterns_of_text s))) ≡ found_on s tests
    then_found tests =
        sym (ap (λ (x : PatternsRead). or_else (read_fault x) (fault_of (first_fault (tests (patterns_of_text s))))) (sym is) ∙
        or_else_clean (read_fault p) (fault_of (first_fault (tests (patterns_of_text s)))) h)

    module _ (tests : List (List ℕ) → List Finding) (o : Option (List ℕ)) (n : ℕ) (page after : List ℕ) (c : Listed)
        (l : Lists (first_fault (tests (patterns_of_text s))) o n page after c) where
      done_code : (r : ℕ) → r ≡ listed_code c → r ≡ listed_code (answered (found_on s tests) o)
      done_code r k =
          k ∙ ap listed_code (l.answer ∙ ap (λ (f : Fault). answered f o) (then_found tests))

      done_page : after ≡ page_after (found_on s tests) o page
      done_page = l.written ∙ ap (λ (f : Fault). page_after f o page) (then_found tests)

    pub first_done : (n : ℕ) (page after : List ℕ) (c : Listed) (r : ℕ) → ListsFirst (read_list patterns_in p) n page after c →
        r ≡ listed_code c → FirstOfText s n page after r
    first_done n page after c r d k =
        let l : Lists (first_fault (first_tests (patterns_of_text s) n (length page))) (first_avoider (patterns_of_text s) n) n page after
        c =
        rw is at d.lists in
        record {
          answer = done_code (λ P. first_tests P n (length page)) (first_avoider (patterns_of_text s) n) n page after c l r k;
          page = done_page (λ P. first_tests P n (length page)) (first_avoider (patterns_of_text s) n) n page after c l;
        }

    pub next_done : (w page after : List ℕ) (c : Listed) (r : ℕ) → ListsNext (read_list patterns_in p) w page after c →
        r ≡ listed_code c → NextOfText s w page after r
    next_done w page after c r d k =
        let l : Lists (first_fault (next_tests (patterns_of_text s) w (length page))) (next_avoider (patterns_of_text s) w) (length w)
        page after c =
        rw is at d.lists in
        record {
          answer = done_code (λ P. next_tests P w (length page)) (next_avoider (patterns_of_text s) w) (length w) page after c l r k;
          page = done_page (λ P. next_tests P w (length page)) (next_avoider (patterns_of_text s) w) (length w) page after c l;
        }

  module _ (h : faulty (read_fault p) ≡ true) where
    pub first_refused : (n : ℕ) (page : List ℕ) (c : Listed) (r : ℕ) → c ≡ listed_or (read_fault p) → r ≡ listed_code c →
        FirstOfText s n page page r
    first_refused n page c r e k =
        record {
          answer = refused_code h (λ P. first_tests P n (length page)) (first_avoider (patterns_of_text s) n) c r e k;
          page = refused_page h (λ P. first_tests P n (length page)) (first_avoider (patterns_of_text s) n) page;
        }

    pub next_refused : (w page : List ℕ) (c : Listed) (r : ℕ) → c ≡ listed_or (read_fault p) → r ≡ listed_code c →
        NextOfText s w page page r
    next_refused w page c r e k =
        record {
          answer = refused_code h (λ P. next_tests P w (length page)) (next_avoider (patterns_of_text s) w) c r e k;
          page = refused_page h (λ P. next_tests P w (length page)) (next_avoider (patterns_of_text s) w) page;
        }
