-- What reading and writing answer, and what the answers say of the text, for lists of any kind: L
-- is the type of the lists, R that of the answers of reading.
use Rattle.std.specs.Prelude.{ℕ, ◌≤◌, ◌≡◌, cond, List, [], length, take, ltb, Ok, Err}
use Rattle.std.specs.declared.result.Result.{Result}
use Rattle.std.proofs.Math.Option.{Option, none, some}
use Rattle.word.specs.Finding.{Finding, clean, fault, first_fault}
use Rattle.word.specs.Told.{told_by}
use Rattle.word.specs.declared.refusal.Refusal.{Refusal}
use Rattle.word.specs.declared.refusal.Refusal.TheVariants.{Misspelt, Oversize}
use Rattle.word.specs.Refusal.{refused_at}
use Rattle.word.specs.declared.refusal.Refused.{Refused}
use Rattle.forms.specs.SchemeMemory.{Fault, told_or}
use Rattle.text_grammar.specs.Spelling.{Token, spaceless}
use Rattle.text_grammar.specs.Tokens.{tokens}
use Rattle.notation.specs.Written.{Written, Writing}

module _ {L R : Type 0} (refused : Refusal → ℕ → R) (tested : L → R) where
  -- a text that spells no list is refused with 1; then the tests of the list that it spells
  abbrev pub answer_from : Option L → R
  answer_from none = refused Misspelt 0
  answer_from (some l) = tested l

  -- "Text length comes before spelling, then the numbers in order" (01)
  abbrev pub answer_to : ℕ → (List Token → Option L) → List ℕ → R
  answer_to most read s = cond (ltb most (length s)) (refused Oversize 0) (answer_from (read (tokens s)))

-- what reading finds: the length of the text, then its spelling, then the tests of the list that
-- it spells
module _ {L : Type 0} (tests : L → List Finding) where
  abbrev pub found_from : Option L → Finding
  found_from none = fault Misspelt 0
  found_from (some l) = first_fault (tests l)

  abbrev pub found_in : ℕ → (List Token → Option L) → List ℕ → Finding
  found_in most read s = cond (ltb most (length s)) (fault Oversize 0) (found_from (read (tokens s)))

-- the finding in an answer, and the list: where there is a refusal, that of no items
abbrev pub read_fault : {M : Type 0} → Result M Refused → Fault
read_fault (Ok m) = Ok tt
read_fault (Err e) = Err e

abbrev pub read_list : {M A : Type 0} → (M → List A) → Result M Refused → List A
read_list kept (Ok m) = kept m
read_list kept (Err e) = []

-- the answer r to the text s, in terms of what the text spells: `most` is the ceiling of its
-- length, `read` the reader of the grammar, `fault_in` and `listIn` are the finding and the list in
-- an answer, `tested` is the answer to a text that spells a list
pub record ReadsList {L R : Type 0} (most : ℕ) (read : List Token → Option L) (Spells : List ℕ → L → Type 0) (tests : L → List Finding)
    (written : L → List ℕ) (fault_in : R → Fault) (listIn : R → L) (tested : L → R) (s : List ℕ) (r : R) : Type 0 where
  -- the number and the index of document 01; a list that is read has no values beside itself
  pub numbers : told_or (fault_in r) [] ≡ told_by (found_in tests most read s) []
  -- within the ceiling a text is refused with 1 exactly if it spells no list
  pub nothing : length s ≤ most → ((l : L) → Spells s l → ⊥) → fault_in r ≡ Err (refused_at Misspelt 0)
  pub misspelt : (i : ℕ) → fault_in r ≡ Err (refused_at Misspelt i) → (l : L) → Spells s l → ⊥
  -- a list that the text spells decides the answer by its tests
  pub spelt : (l : L) → length s ≤ most → Spells s l → r ≡ tested l
  -- what is read is the list that the text spells, its tests find nothing, and writing it gives the
  -- text without its spaces
  pub reads : fault_in r ≡ Ok tt → Spells s (listIn r)
  pub passes : fault_in r ≡ Ok tt → first_fault (tests (listIn r)) ≡ clean
  pub writes : fault_in r ≡ Ok tt → written (listIn r) ≡ spaceless s

-- the answer r to writing the list l, in terms of what the page spells afterwards: `answer` is that
-- of reading, `whole` the answer that gives a list, `kept` the list that its memory stands for
pub record WritesList {L R : Type 0} (Spells : List ℕ → L → Type 0) (tests : L → List Finding) (written : L → List ℕ) (answer : List ℕ → R)
    (whole : L → R) (kept : L → L) (l : L) (before after : List ℕ) (r : Written) : Type 0 where
  pub writes : Writing (tests l) (written l) before after r
  -- what is written spells the list, and reading it back gives the list
  pub spells : (n : ℕ) → r ≡ Ok n → Spells (take n after) l
  pub back : (n : ℕ) → r ≡ Ok n → answer (take n after) ≡ whole l
  pub same : (n : ℕ) → r ≡ Ok n → kept l ≡ l
