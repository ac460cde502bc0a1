-- What reading and writing a scheme answer, and what the answer says of the text.
use Rattle.std.specs.Prelude.{ℕ, List, Ok, Err}
use Rattle.std.specs.declared.result.Result.{Result}
use Rattle.word.specs.Ceilings.{SCHEME_TEXT}
use Rattle.word.specs.Finding.{first_fault}
use Rattle.word.specs.declared.refusal.Refusal.{Refusal}
use Rattle.scheme.specs.WellFormed.{scheme_tests}
use Rattle.forms.specs.SchemeList.{EntryList}
use Rattle.word.specs.Refusal.{refused_at}
use Rattle.word.specs.declared.refusal.Refused.{Refused}
use Rattle.forms.specs.SchemeMemory.{Fault, scheme_in, fault_of}
use Rattle.forms.specs.declared.memory.Scheme.{Scheme}
use Rattle.text_grammar.specs.Spelling.{SpellsScheme, written_scheme}
use Rattle.text_grammar.specs.Grammar.{read_entries}
use Rattle.text_schemes.specs.SchemeLoaded.{loaded_scheme}
use Rattle.notation.specs.Answers.{answer_to, read_fault, read_list, ReadsList, WritesList}
use Rattle.notation.specs.Written.{Written}

-- what reading a scheme answers: the scheme where there is no fault, or a refusal with its index
abbrev pub SchemeRead : Type 0
SchemeRead = Result Scheme Refused

-- a refusal with its index
abbrev pub refused_scheme : Refusal → ℕ → SchemeRead
refused_scheme r i = Err (refused_at r i)

-- the scheme, or what their tests found
abbrev pub read_scheme_or : Fault → Scheme → SchemeRead
read_scheme_or (Ok u) m = Ok m
read_scheme_or (Err e) m = Err e

-- the answer to a text that spells a list: the tests 2 to 9
abbrev pub tested_scheme : List EntryList → SchemeRead
tested_scheme E = read_scheme_or (fault_of (first_fault (scheme_tests E))) (loaded_scheme E)

-- "scheme text 32,768" (01)
abbrev pub scheme_answer : List ℕ → SchemeRead
scheme_answer s = answer_to refused_scheme tested_scheme SCHEME_TEXT read_entries s

-- the answer r to the text s, in terms of what the text spells
abbrev pub ReadsScheme : List ℕ → SchemeRead → Type 0
ReadsScheme s r = ReadsList SCHEME_TEXT read_entries SpellsScheme scheme_tests written_scheme read_fault
    (read_list scheme_in) tested_scheme s r

-- the answer to writing the list E, in terms of what the page spells afterwards
abbrev pub WritesScheme : List EntryList → List ℕ → List ℕ → Written → Type 0
WritesScheme E before after r =
    WritesList SpellsScheme scheme_tests written_scheme scheme_answer
    (λ l. Ok (loaded_scheme l)) (λ l. scheme_in (loaded_scheme l)) E before after r
