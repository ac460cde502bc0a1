-- Laws of the tests of the two operations: which of them refuses, and what holds where none does.
use Rattle.std.specs.Prelude.{ℕ, ◌≤◌, ◌<◌, ◌≡◌, refl, Bool, true, false, not, List, [], ◌∷◌, ◌++◌, length, ltb}
use Rattle.std.proofs.Common.{sym, ap, ◌∙◌, lt-ltb, le-ltb, ltb-false}
use mathlib.Core.List.Memᴰ
use Rattle.std.proofs.Math.Option.{Option}
use Rattle.word.specs.Ceilings.{WORD}
use Rattle.word.specs.Word.{is_perm, avoids}
use Rattle.word.specs.Listing.{first_avoider, next_avoider}
use Rattle.word.specs.ListingLaws.{first_given, next_given}
use Rattle.word.specs.ListLaws.{true_not_false}
use Rattle.word.specs.Finding.{Finding, clean, fault, test, first_fault}
use Rattle.word.specs.declared.refusal.Refusal.TheVariants.{Oversize, NoPermutation, ShortPage, NoAvoider}
use Rattle.std.specs.Prelude.{Ok, Err}
use Rattle.word.specs.Refusal.{refused_at}
use Rattle.forms.specs.SchemeMemory.{Fault, fault_of, faulty}
use Rattle.scheme.specs.WellFormed.{pattern_tests}
use Rattle.scheme.specs.FindingLaws.{clean_in, clean_left, clean_right, clean_append, clean_test}
use Rattle.lexicographic.specs.Answers.{Listed, length_tests, word_tests, first_tests, next_tests, listed_or, Puts, ListsFirst, ListsNext}
use Rattle.lexicographic.proofs.AnswerLaws.{lists_refused, lists_put, lists_first, lists_next}

-- the first tests find a fault
pub found_before : (l m : List Finding) (f : Fault) → f ≡ fault_of (first_fault l) → faulty f ≡ true → f ≡ fault_of (first_fault (l ++ m))
found_before l m f e h = go l e
  where
    go : (l : List Finding) → f ≡ fault_of (first_fault l) → f ≡ fault_of (first_fault (l ++ m))
    go [] q = absurd (true_not_false (sym h ∙ ap faulty q))
    go (clean ∷ l) q = go l q
    go (fault r i ∷ l) q = q

-- a test in front that finds nothing
behind_one : (x : Finding) (l : List Finding) → first_fault (x ∷ l) ≡ clean → first_fault l ≡ clean
behind_one x l e = clean_right (x ∷ []) l e

front_one : (x : Finding) (l : List Finding) → first_fault (x ∷ l) ≡ clean → x ≡ clean
front_one x l e = clean_in (x ∷ l) (Memᴰ.head refl) e

module _ (P : List (List ℕ)) (formed : first_fault (pattern_tests P) ≡ clean) where
  -- the patterns are clean, so the tests behind them decide
  decides : (m : List Finding) (f : Finding) → first_fault m ≡ f → fault_of f ≡ fault_of (first_fault (pattern_tests P ++ m))
  decides m f e = sym (ap fault_of (clean_append (pattern_tests P) m formed ∙ e))

  pub first_long : (n room : ℕ) → WORD < n → Err (refused_at Oversize 0) ≡ fault_of (first_fault (first_tests P n room))
  first_long n room h = decides (length_tests n room) (fault Oversize 0) (rw (lt-ltb WORD n h) refl)

  pub first_short : (n room : ℕ) → n ≤ WORD → room < n → Err (refused_at ShortPage 0) ≡ fault_of (first_fault (first_tests P n room))
  first_short n room h k = decides (length_tests n room) (fault ShortPage 0) (rw (le-ltb WORD n h, lt-ltb room n k) refl)

  pub first_clean : (n room : ℕ) → n ≤ WORD → n ≤ room → Ok tt ≡ fault_of (first_fault (first_tests P n room))
  first_clean n room h k = decides (length_tests n room) clean (rw (le-ltb WORD n h, le-ltb room n k) refl)

  module _ (w : List ℕ) (room : ℕ) where
    pub next_long : WORD < length w → Err (refused_at Oversize 0) ≡ fault_of (first_fault (next_tests P w room))
    next_long h = decides (word_tests P w room) (fault Oversize 0) (rw (lt-ltb WORD (length w) h) refl)

    module _ (h : length w ≤ WORD) where
      pub next_no_permutation : is_perm w ≡ false → Err (refused_at NoPermutation 0) ≡ fault_of (first_fault (next_tests P w room))
      next_no_permutation p = decides (word_tests P w room) (fault NoPermutation 0) (rw (le-ltb WORD (length w) h, p) refl)

      module _ (p : is_perm w ≡ true) where
        pub next_no_avoider : avoids P w ≡ false → Err (refused_at NoAvoider 0) ≡ fault_of (first_fault (next_tests P w room))
        next_no_avoider a = decides (word_tests P w room) (fault NoAvoider 0) (rw (le-ltb WORD (length w) h, p, a) refl)

        pub next_short : avoids P w ≡ true → room < length w → Err (refused_at ShortPage 0) ≡ fault_of (first_fault (next_tests P w room))
        next_short a k = decides (word_tests P w room) (fault ShortPage 0)
            (rw (le-ltb WORD (length w) h, p, a, lt-ltb room (length w) k) refl)

        pub next_clean : avoids P w ≡ true → length w ≤ room → Ok tt ≡ fault_of (first_fault (next_tests P w room))
        next_clean a k = decides (word_tests P w room) clean (rw (le-ltb WORD (length w) h, p, a, le-ltb room (length w) k) refl)

-- what holds where the tests find nothing
pub record FirstPassed (P : List (List ℕ)) (n room : ℕ) : Type 0 where
  pub formed : first_fault (pattern_tests P) ≡ clean
  pub small : n ≤ WORD
  pub fits : n ≤ room

pub first_passed : (P : List (List ℕ)) (n room : ℕ) → first_fault (first_tests P n room) ≡ clean → FirstPassed P n room
first_passed P n room e =
    let over = test Oversize (ltb WORD n) in
    let short = test ShortPage (ltb room n) in
    let r = clean_right (pattern_tests P) (length_tests n room) e in record {
      formed = clean_left (pattern_tests P) (length_tests n room) e;
      small = ltb-false WORD n (clean_test Oversize (ltb WORD n) (front_one over (short ∷ []) r));
      fits = ltb-false room n (clean_test ShortPage (ltb room n) (front_one short [] (behind_one over (short ∷ []) r)));
    }

pub record NextPassed (P : List (List ℕ)) (w : List ℕ) (room : ℕ) : Type 0 where
  pub formed : first_fault (pattern_tests P) ≡ clean
  pub small : length w ≤ WORD
  pub perm : is_perm w ≡ true
  pub avoids_all : avoids P w ≡ true
  pub fits : length w ≤ room

not_false : (b : Bool) → not b ≡ false → b ≡ true
not_false true e = refl
not_false false e = absurd (true_not_false e)

pub next_passed : (P : List (List ℕ)) (w : List ℕ) (room : ℕ) → first_fault (next_tests P w room) ≡ clean → NextPassed P w room
next_passed P w room e =
    let over = test Oversize (ltb WORD (length w)) in
    let other = test NoPermutation (not (is_perm w)) in
    let holds = test NoAvoider (not (avoids P w)) in
    let short = test ShortPage (ltb room (length w)) in
    let r = clean_right (pattern_tests P) (word_tests P w room) e in
    let r2 = behind_one over (other ∷ holds ∷ short ∷ []) r in
    let r3 = behind_one other (holds ∷ short ∷ []) r2 in record {
      formed = clean_left (pattern_tests P) (word_tests P w room) e;
      small = ltb-false WORD (length w) (clean_test Oversize (ltb WORD (length w)) (front_one over (other ∷ holds ∷ short ∷ []) r));
      perm = not_false (is_perm w) (clean_test NoPermutation (not (is_perm w)) (front_one other (holds ∷ short ∷ []) r2));
      avoids_all = not_false (avoids P w) (clean_test NoAvoider (not (avoids P w)) (front_one holds (short ∷ []) r3));
      fits = ltb-false room (length w) (clean_test ShortPage (ltb room (length w)) (front_one short [] (behind_one holds (short ∷ []) r3)));
    }

-- the first avoider: the call is refused, or the avoider is put on the page
pub first_refused : (P : List (List ℕ)) (n : ℕ) (page : List ℕ) (f : Fault) (r : Listed) →
    f ≡ fault_of (first_fault (first_tests P n (length page))) → faulty f ≡ true → r ≡ listed_or f → ListsFirst P n page page r
first_refused P n page f r e h q =
    lists_first P n page page r (lists_refused (first_fault (first_tests P n (length page))) (first_avoider P n) n page r
    (q ∙ ap listed_or e) (ap faulty (sym e) ∙ h))

pub first_put : (P : List (List ℕ)) (n : ℕ) (page after : List ℕ) (o : Option (List ℕ)) (r : Listed) →
    first_fault (first_tests P n (length page)) ≡ clean → o ≡ first_avoider P n → Puts o page after r → ListsFirst P n page after r
first_put P n page after o r c e p =
    lists_first P n page after r (lists_put (first_fault (first_tests P n (length page))) (first_avoider P n) n page after r c
    (rw e at p) (λ w q. (first_given P n w q).size) (first_passed P n (length page) c).fits)

-- the next, likewise
pub next_refused : (P : List (List ℕ)) (w page : List ℕ) (f : Fault) (r : Listed) →
    f ≡ fault_of (first_fault (next_tests P w (length page))) → faulty f ≡ true → r ≡ listed_or f → ListsNext P w page page r
next_refused P w page f r e h q =
    lists_next P w page page r (lists_refused (first_fault (next_tests P w (length page))) (next_avoider P w) (length w) page r
    (q ∙ ap listed_or e) (ap faulty (sym e) ∙ h))

pub next_put : (P : List (List ℕ)) (w page after : List ℕ) (o : Option (List ℕ)) (r : Listed) →
    first_fault (next_tests P w (length page)) ≡ clean → o ≡ next_avoider P w → Puts o page after r → ListsNext P w page after r
next_put P w page after o r c e p =
    lists_next P w page after r (lists_put (first_fault (next_tests P w (length page))) (next_avoider P w) (length w) page after r c
    (rw e at p) (λ v q. (next_given P w v q).size) (next_passed P w (length page) c).fits)
