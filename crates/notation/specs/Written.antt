-- What writing a list answers, and what it leaves on the page: the tests of the list, then the
-- length of the page.
use Rattle.std.specs.Prelude.{ℕ, ◌≡◌, List, [], ◌∷◌, ◌++◌, length, take, drop, ltb, Ok, Err}
use Rattle.std.specs.declared.result.Result.{Result}
use Rattle.word.specs.Finding.{Finding, clean, fault, test, first_fault}
use Rattle.word.specs.Told.{Told, told_by}
use Rattle.word.specs.declared.refusal.Refusal.TheVariants.{ShortPage}
use Rattle.word.specs.declared.refusal.Refused.{Refused}
use Rattle.forms.specs.SchemeMemory.{Fault, fault_of}
use Rattle.text_page.specs.Page.{overlay}

-- what writing answers: the number of bytes, or a refusal with its index
abbrev pub Written : Type 0
Written = Result ℕ Refused

-- so many bytes, or a refusal
abbrev pub written_or : Fault → ℕ → Written
written_or (Ok u) n = Ok n
written_or (Err e) n = Err e

-- the answer in the numbers of document 01
abbrev pub told_written : Written → Told
told_written (Ok n) = told_by clean (n ∷ [])
told_written (Err e) = told_by (fault e.refusal e.index) []

-- "writing them 2 to 4 and then 13" (01): the tests of the list, and then a page of n bytes that is
-- shorter than the text
abbrev pub writing : List Finding → List ℕ → ℕ → Finding
writing tests xs n = first_fault (tests ++ (test ShortPage (ltb n (length xs)) ∷ []))

-- "Lent memory keeps its content" (01) where the call is refused
abbrev pub page_after : Finding → List ℕ → List ℕ → List ℕ
page_after clean xs page = overlay 0 xs page
page_after (fault r i) xs page = page

-- the answer r, and the page before and after, where a list has these tests and this text
pub record Writing (tests : List Finding) (xs before after : List ℕ) (r : Written) : Type 0 where
  pub result : r ≡ written_or (fault_of (writing tests xs (length before))) (length xs)
  -- the number and the value of document 01
  pub numbers : told_written r ≡ told_by (writing tests xs (length before)) (length xs ∷ [])
  pub page : after ≡ page_after (writing tests xs (length before)) xs before
  -- where it is written, the tests found nothing, the page begins with the text, and the bytes
  -- after it are untouched
  pub passed : (n : ℕ) → r ≡ Ok n → first_fault tests ≡ clean
  pub text : (n : ℕ) → r ≡ Ok n → take n after ≡ xs
  pub rest : (n : ℕ) → r ≡ Ok n → drop n after ≡ drop n before
