-- What giving the first and the next avoider answers and leaves on the page (02, order 2).
-- Definitions only.
use Rattle.std.specs.Prelude.{ℕ, ◌≡◌, true, false, not, Bool, List, [], ◌∷◌, ◌++◌, length, take, drop, ltb}
use Rattle.std.specs.Prelude.{Ok, Err}
use Rattle.std.specs.declared.result.Result.{Result}
use Rattle.std.proofs.Math.Option.{Option, none, some}
use Rattle.word.specs.Ceilings.{WORD}
use Rattle.word.specs.Word.{is_perm, avoids, before}
use Rattle.word.specs.Listing.{first_avoider, next_avoider, LeastAvoider}
use Rattle.word.specs.Finding.{Finding, clean, fault, test, first_fault}
use Rattle.word.specs.Told.{Told, told_by}
use Rattle.word.specs.declared.refusal.Refusal.TheVariants.{Oversize, NoPermutation, ShortPage, NoAvoider}
use Rattle.forms.specs.SchemeMemory.{Fault, fault_of}
use Rattle.scheme.specs.WellFormed.{pattern_tests}
use Rattle.text_page.specs.Page.{overlay}
use Rattle.word.specs.declared.refusal.Refused.{Refused}

-- the length, then "a page shorter than that length is refused 13, last"
abbrev pub length_tests : ℕ → ℕ → List Finding
length_tests n room = test Oversize (ltb WORD n) ∷ test ShortPage (ltb room n) ∷ []

-- "then the starting permutation: 2, 3, and 14 (contains) where it contains a pattern"; then the
-- page
abbrev pub word_tests : List (List ℕ) → List ℕ → ℕ → List Finding
word_tests P w room =
    test Oversize (ltb WORD (length w)) ∷ test NoPermutation (not (is_perm w)) ∷
    test NoAvoider (not (avoids P w)) ∷ test ShortPage (ltb room (length w)) ∷ []

-- "The patterns are judged first"
abbrev pub first_tests : List (List ℕ) → ℕ → ℕ → List Finding
first_tests P n room = pattern_tests P ++ length_tests n room

abbrev pub next_tests : List (List ℕ) → List ℕ → ℕ → List Finding
next_tests P w room = pattern_tests P ++ word_tests P w room

-- the answer: whether an avoider was given, or a refusal with the index at fault
abbrev pub Listed : Type 0
Listed = Result Bool Refused

-- the answer, where the tests find this and that avoider, or none, is to be given
abbrev pub answered : Fault → Option (List ℕ) → Listed
answered (Ok u) (some w) = Ok true
answered (Ok u) none = Ok false
answered (Err e) o = Err e

-- a refusal, or that there is nothing
abbrev pub listed_or : Fault → Listed
listed_or (Ok u) = Ok false
listed_or (Err e) = Err e

-- "It goes to the front of a lent page, one byte an entry"; "When it was the last, or there is
-- none, nothing is written", nor where the call is refused
abbrev pub page_after : Fault → Option (List ℕ) → List ℕ → List ℕ
page_after (Ok u) (some w) page = overlay 0 w page
page_after (Ok u) none page = page
page_after (Err e) o page = page

-- the answer in the numbers of document 01: the value is how many avoiders were given
abbrev pub given : Option (List ℕ) → ℕ
given (some w) = 1
given none = 0

abbrev pub told_listed : Listed → Told
told_listed (Ok true) = told_by clean (1 ∷ [])
told_listed (Ok false) = told_by clean (0 ∷ [])
told_listed (Err e) = told_by (fault e.refusal e.index) []

-- the answer r, and the page before and after, where nothing is refused
pub record Puts (o : Option (List ℕ)) (page after : List ℕ) (r : Listed) : Type 0 where
  pub answer : r ≡ answered (Ok tt) o
  pub written : after ≡ page_after (Ok tt) o page

-- the answer r, and the page before and after, where the tests find this and that avoider of length
-- n, or none, is to be given
pub record Lists (f : Finding) (o : Option (List ℕ)) (n : ℕ) (page after : List ℕ) (r : Listed) : Type 0 where
  pub answer : r ≡ answered (fault_of f) o
  -- the number and the value of document 01
  pub numbers : told_listed r ≡ told_by f (given o ∷ [])
  pub written : after ≡ page_after (fault_of f) o page
  -- where one is given, it stands at the front, and the bytes behind it are untouched
  pub front : r ≡ Ok true → o ≡ some (take n after)
  pub rest : r ≡ Ok true → drop n after ≡ drop n page

-- the first avoider of length n
pub record ListsFirst (P : List (List ℕ)) (n : ℕ) (page after : List ℕ) (r : Listed) : Type 0 where
  pub lists : Lists (first_fault (first_tests P n (length page))) (first_avoider P n) n page after r
  -- what is given is an avoider of length n, and none comes before it
  pub least : r ≡ Ok true → LeastAvoider P n (λ w. true) (take n after)
  -- where there is none, no permutation of length n avoids the patterns
  pub empty : r ≡ Ok false → (x : List ℕ) → is_perm x ≡ true → length x ≡ n → avoids P x ≡ true → ⊥

-- the next after w
pub record ListsNext (P : List (List ℕ)) (w page after : List ℕ) (r : Listed) : Type 0 where
  pub lists : Lists (first_fault (next_tests P w (length page))) (next_avoider P w) (length w) page after r
  -- what is given is an avoider of the same length that comes after w, and none stands between
  pub next : r ≡ Ok true → LeastAvoider P (length w) (before w) (take (length w) after)
  -- where it was the last, no avoider of that length comes after w
  pub last : r ≡ Ok false → (x : List ℕ) → is_perm x ≡ true → length x ≡ length w → avoids P x ≡ true → before w x ≡ false
