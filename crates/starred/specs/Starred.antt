-- The starred examples of document 01, and examples of orders 1, 3, 4 and 5 of document 02: one
-- table, and one theorem for all of it.
use Rattle.std.specs.Prelude.{ℕ, suc, ◌≡◌, refl, Bool, true, false, List, [], ◌∷◌, ◌++◌, map, length, replicate, eqb, is_some, Ok}
use Rattle.std.specs.Prelude.{Err, Result}
use Rattle.std.specs.Prelude.{Option as Maybe}
use Prim.Native.String.{String}
use Rattle.std.proofs.Math.Option.{Option, none, some}
use Rattle.word.specs.Lists.{all, keep, each, row}
use Rattle.word.specs.Word.{first_copy, reduce, is_perm}
use Rattle.word.specs.Inversions.{figures}
use Rattle.word.specs.Told.{Told}
use Rattle.word.specs.Earliest.{earliest, positions_of}
use Rattle.word.specs.Refusal.{refused_at}
use Rattle.word.specs.declared.refusal.Refused.{Refused}
use Rattle.containment.specs.Containment.{containment}
use Rattle.word.specs.declared.refusal.Refusal.TheVariants.{Rootless, NoPosition, LiveGap, Irreversible}
use Rattle.cell.specs.Basis.{same, basis}
use Rattle.cell.specs.Cell.{spacing, cell, deleted, merged, vectors, free, total, children, m_of, compared_to}
use Rattle.forms.specs.SchemeList.{Does, expands, deletes, EntryList}
use Rattle.forms.specs.SchemeMemory.{Fault, patterns_in, scheme_in}
use Rattle.text_grammar.specs.Tokens.{tokens, tokens_after, token_at}
use Rattle.text_grammar.specs.Grammar.{items_of, read_patterns, read_entries}
use Rattle.text_patterns.specs.PatternMemory.{loaded_patterns}
use Rattle.text_gaps.specs.GapMemory.{parts_of_all, widths_of}
use Rattle.text_schemes.specs.SchemeLoaded.{loaded_scheme}
use Rattle.notation.specs.Answers.{read_fault, read_list}
use Rattle.notation.specs.PatternAnswers.{patterns_answer}
use Rattle.notation.specs.SchemeAnswers.{scheme_answer}
use Rattle.verdict.specs.Verdict.{Verdict, verdict_of, told_verdict, compared_cells_under, live_gap, differs_under, sizes_differ}
use Rattle.verdict.specs.Verdict.{compared_with_under}
use Rattle.judge_texts.specs.TextJudgement.{verdict_of_texts, verdict_read_on, page_read}
use Rattle.verdict.specs.Witness.{shown_word_under, shown_word}
use Rattle.verdict.specs.Value.{count_of}
use Rattle.starred.specs.Utf8.{bytes}

-- what an example asks
pub data Question : Type 0 where
  -- does the permutation contain the pattern?
  contains_pattern : (permutation pattern : List ℕ) → Question
  -- which prefix and spacing have these first entries of a permutation of length n?
  first_entries : (n : ℕ) (entries : List ℕ) → Question
  -- which prefix and spacing does deleting these positions give?
  deletion : (positions prefix spacing : List ℕ) → Question
  -- the sizes of the cell, and of the cell of the shorter prefix and merged spacing
  sizes : (patterns : List (List ℕ)) (prefix positions spacing : List ℕ) → Question
  -- do these sizes agree at all spacings up to the total that are at least no listed vector?
  agree_to : (patterns : List (List ℕ)) (prefix : List ℕ) (vectors : List (List ℕ)) (positions : List ℕ) (total : ℕ) → Question
  -- with what is the text of a scheme refused when it is read?
  reading : (text : List ℕ) → Question
  -- what is the verdict on the scheme?
  judging : (patterns : List (List ℕ)) (scheme : List EntryList) → Question
  -- what is the count for n?
  counting : (patterns : List (List ℕ)) (scheme : List EntryList) (n : ℕ) → Question
  -- which permutation and which copy are shown for the entry, if its deletion is refused?
  showing : (patterns : List (List ℕ)) (prefix : List ℕ) (vectors : List (List ℕ)) (positions : List ℕ) → Question
  -- with what are the texts refused, and what does a page of so many bytes 7 hold afterwards?
  judging_page : (patterns scheme : String) (size : ℕ) → Question
  -- the number of cells that are compared under this m
  comparing_under : (m : ℕ) (E : List EntryList) → Question
  -- the verdict and the count on the texts of the set and of the scheme
  judging_texts : (patterns scheme : String) → Question
  counting_texts : (patterns scheme : String) (n : ℕ) → Question
  -- how many avoiders of length n have 0, 1, .., n(n - 1)/2 inversions?
  by_inversions : (patterns : List (List ℕ)) (n : ℕ) → Question

-- the answer of the engine to a question
pub data Answer : Type 0 where
  contained : Bool → Answer
  prefix_and_spacing : List ℕ → List ℕ → Answer
  sizes_are : ℕ → ℕ → Answer
  holds : Bool → Answer
  refused_as : Fault → Answer
  verdict_is : Verdict → Answer
  count_is : ℕ → Answer
  shows : (permutation copy : List ℕ) → Answer
  shows_nothing : Answer
  holds_page : (number : ℕ) (page : List ℕ) → Answer
  -- the number of a refusal, 0 for none, and its index or the value
  tells : (number : ℕ) (values : List ℕ) → Answer
  figures_are : List ℕ → Answer

-- a row of the table: a question, and the answer of document 01
pub record Example : Type 0 where
  pub asked : Question
  pub told : Answer

-- the size of the shorter cell
unfoldable pub shorter_size : List (List ℕ) → List ℕ → List ℕ → List ℕ → ℕ
unfolding cell deleted merged
shorter_size P p R g = length (cell P (deleted R p) (merged R p g))

-- whether there is a copy, or the refusal
abbrev contained_as : Result (Maybe (List ℕ)) Refused → Answer
contained_as (Ok copy) = contained (is_some copy)
contained_as (Err r) = refused_as (Err r)

-- an answer in the numbers of document 01
abbrev told_as : Told → Answer
told_as t = tells t.number t.values

-- the permutation that is shown, and the copy in it
abbrev shown_in : List (List ℕ) → Option (List ℕ) → Answer
shown_in P none = shows_nothing
shown_in P (some w) = shows w (positions_of (earliest P w))

-- a page of n bytes 7
abbrev sevens : ℕ → List ℕ
sevens n = replicate n 7

unfoldable pub answer : Question → Answer
unfolding shown_word_under earliest count_of first_copy is_perm reduce spacing shorter_size vectors free total children deleted merged cell
    basis m_of compared_to compared_cells_under live_gap differs_under sizes_differ compared_with_under tokens tokens_after token_at
    read_patterns
    read_entries items_of same loaded_patterns loaded_scheme bytes parts_of_all widths_of figures
answer (contains_pattern w β) = contained_as (containment β w)
answer (first_entries n u) = prefix_and_spacing (reduce u) (spacing n u)
answer (deletion R p g) = prefix_and_spacing (deleted R p) (merged R p g)
answer (sizes P p R g) = sizes_are (length (cell P p g)) (shorter_size P p R g)
answer (agree_to P p B R t) =
    holds (all (λ g. eqb (length (cell P p g)) (shorter_size P p R g)) (keep (free B) (each (vectors (suc (length p))) (row 0 (suc t)))))
answer (reading s) = refused_as (read_fault (scheme_answer s))
answer (judging P E) = verdict_is (verdict_of P E)
answer (counting P E n) = count_is (count_of P E n)
answer (showing P p B R) = shown_in P (shown_word P p B R)
answer (judging_page s t n) =
    holds_page (told_verdict (verdict_read_on n (patterns_answer (bytes s)) (scheme_answer (bytes t)))).number
    (page_read (patterns_answer (bytes s)) (scheme_answer (bytes t)) (sevens n))
answer (comparing_under m E) = count_is (compared_cells_under m E)
answer (judging_texts s t) = told_as (told_verdict (verdict_of_texts (bytes s) (bytes t)))
answer (counting_texts s t n) =
    count_is (count_of (read_list patterns_in (patterns_answer (bytes s))) (read_list scheme_in (scheme_answer (bytes t))) n)
answer (by_inversions P n) = figures_are (figures P n)

-- an entry of a scheme
abbrev entry : List ℕ → List (List ℕ) → Does → EntryList
entry p B r = record { prefix = p; gaps = B; rule = r }

-- the set {123}, and its scheme with 12 deleting position r
abbrev set123 : List (List ℕ)
set123 = (1 ∷ 2 ∷ 3 ∷ []) ∷ []

abbrev scheme123 : ℕ → List EntryList
scheme123 r =
    entry [] [] expands ∷ entry (1 ∷ []) [] expands ∷ entry (1 ∷ 2 ∷ []) ((0 ∷ 0 ∷ 1 ∷ []) ∷ []) (deletes (r ∷ [])) ∷ entry
    (2 ∷ 1 ∷ []) [] (deletes (1 ∷ [])) ∷ []

-- the set {12345}, which is superfluous beside {123}
abbrev set12345 : List (List ℕ)
set12345 = (1 ∷ 2 ∷ 3 ∷ 4 ∷ 5 ∷ []) ∷ []

-- `{(ε,∅,∅),(1,∅,{1})}` with these gap vectors on ε and on 1
abbrev scheme1 : List (List ℕ) → List (List ℕ) → List EntryList
scheme1 B C = entry [] B expands ∷ entry (1 ∷ []) C (deletes (1 ∷ [])) ∷ []

-- the set {132}, and a scheme for it with 12 deleting the positions R
abbrev set132 : List (List ℕ)
set132 = (1 ∷ 3 ∷ 2 ∷ []) ∷ []

abbrev scheme132 : List ℕ → List EntryList
scheme132 R =
    entry [] [] expands ∷ entry (1 ∷ []) [] expands ∷ entry (1 ∷ 2 ∷ []) ((0 ∷ 1 ∷ 0 ∷ []) ∷ []) (deletes R) ∷ entry
    (2 ∷ 1 ∷ []) [] (deletes (1 ∷ [])) ∷ []

unfoldable pub starred : List Example
starred =
    -- 239145678 contains 312 (000)
    record { asked = contains_pattern (2 ∷ 3 ∷ 9 ∷ 1 ∷ 4 ∷ 5 ∷ 6 ∷ 7 ∷ 8 ∷ []) (3 ∷ 1 ∷ 2 ∷ []); told = contained true } ∷
    -- it avoids 321 (000)
    record { asked = contains_pattern (2 ∷ 3 ∷ 9 ∷ 1 ∷ 4 ∷ 5 ∷ 6 ∷ 7 ∷ 8 ∷ []) (3 ∷ 2 ∷ 1 ∷ []); told = contained false } ∷
    -- 391867452 contains 51342 (001)
    record { asked = contains_pattern (3 ∷ 9 ∷ 1 ∷ 8 ∷ 6 ∷ 7 ∷ 4 ∷ 5 ∷ 2 ∷ []) (5 ∷ 1 ∷ 3 ∷ 4 ∷ 2 ∷ []); told = contained true } ∷
    -- first entries 7, 2, 3 of length 9: prefix 312, spacing (1,0,3,2)
    record { asked = first_entries 9 (7 ∷ 2 ∷ 3 ∷ []); told = prefix_and_spacing (3 ∷ 1 ∷ 2 ∷ []) (1 ∷ 0 ∷ 3 ∷ 2 ∷ []) } ∷
    -- deleting position 1: prefix 12, spacing (1,0,5)
    record { asked = deletion (1 ∷ []) (3 ∷ 1 ∷ 2 ∷ []) (1 ∷ 0 ∷ 3 ∷ 2 ∷ []); told = prefix_and_spacing (1 ∷ 2 ∷ []) (1 ∷ 0 ∷ 5 ∷ []) } ∷
    -- {123}, prefix 12 with ⟨0,0,1⟩ deleting 1: sizes agree to total 1
    record {
      asked = agree_to ((1 ∷ 2 ∷ 3 ∷ []) ∷ []) (1 ∷ 2 ∷ []) ((0 ∷ 0 ∷ 1 ∷ []) ∷ []) (1 ∷ []) 1;
      told = holds true;
    } ∷
    -- at (0,2,0) they are 1 and 2
    record { asked = sizes ((1 ∷ 2 ∷ 3 ∷ []) ∷ []) (1 ∷ 2 ∷ []) (1 ∷ []) (0 ∷ 2 ∷ 0 ∷ []); told = sizes_are 1 2 } ∷
    -- {123}, `{(ε,∅,∅),(1,∅,∅),(12,{⟨0,0,1⟩},{2}),(21,∅,{1})}`: accepted, 16 compared cells
    record { asked = judging set123 (scheme123 2); told = verdict_is (Ok 16) } ∷
    record { asked = judging_texts "{123}" "{(ε,∅,∅),(1,∅,∅),(12,{⟨0,0,1⟩},{2}),(21,∅,{1})}"; told = tells 0 (16 ∷ []) } ∷
    -- the same with 12 deleting 1: refused 11, index 2
    record { asked = judging set123 (scheme123 1); told = verdict_is (Err (refused_at Irreversible 2)) } ∷
    record { asked = judging_texts "{123}" "{(ε,∅,∅),(1,∅,∅),(12,{⟨0,0,1⟩},{1}),(21,∅,{1})}"; told = tells 11 (2 ∷ []) } ∷
    -- ∅ with `{(ε,∅,∅),(1,∅,{1})}`: 0 compared cells
    record { asked = judging [] (scheme1 [] []); told = verdict_is (Ok 0) } ∷
    record { asked = judging_texts "∅" "{(ε,∅,∅),(1,∅,{1})}"; told = tells 0 (0 ∷ []) } ∷
    -- n = 4 gives 24
    record { asked = counting [] (scheme1 [] []) 4; told = count_is 24 } ∷
    record { asked = counting_texts "∅" "{(ε,∅,∅),(1,∅,{1})}" 4; told = count_is 24 } ∷
    -- {1} with `{(ε,∅,∅),(1,{⟨0,0⟩},{1})}`: accepted, with no compared cell
    record { asked = judging ((1 ∷ []) ∷ []) (scheme1 [] ((0 ∷ 0 ∷ []) ∷ [])); told = verdict_is (Ok 0) } ∷
    record { asked = judging_texts "{1}" "{(ε,∅,∅),(1,{⟨0,0⟩},{1})}"; told = tells 0 (0 ∷ []) } ∷
    -- n = 0 gives 1, n = 1 gives 0
    record { asked = counting ((1 ∷ []) ∷ []) (scheme1 [] ((0 ∷ 0 ∷ []) ∷ [])) 0; told = count_is 1 } ∷
    record { asked = counting ((1 ∷ []) ∷ []) (scheme1 [] ((0 ∷ 0 ∷ []) ∷ [])) 1; told = count_is 0 } ∷
    record { asked = counting_texts "{1}" "{(ε,∅,∅),(1,{⟨0,0⟩},{1})}" 0; told = count_is 1 } ∷
    record { asked = counting_texts "{1}" "{(ε,∅,∅),(1,{⟨0,0⟩},{1})}" 1; told = count_is 0 } ∷
    -- {1} with ⟨0⟩ on ε and entry 1 as before: 10, index 0
    record {
      asked = judging ((1 ∷ []) ∷ []) (scheme1 ((0 ∷ []) ∷ []) ((0 ∷ 0 ∷ []) ∷ []));
      told =
          verdict_is (Err (refused_at LiveGap 0));
    } ∷
    record { asked = judging_texts "{1}" "{(ε,{⟨0⟩},∅),(1,{⟨0,0⟩},{1})}"; told = tells 10 (0 ∷ []) } ∷
    -- the scheme ∅: 5
    record { asked = reading (0xE2 ∷ 0x88 ∷ 0x85 ∷ []); told = refused_as (Err (refused_at Rootless 0)) } ∷
    record { asked = judging_texts "{1}" "∅"; told = tells 5 (0 ∷ []) } ∷
    -- order 1 of document 02: {123} with 12 deleting 1 shows 1423 and the copy at 1, 3, 4
    record { asked = showing set123 (1 ∷ 2 ∷ []) ((0 ∷ 0 ∷ 1 ∷ []) ∷ []) (1 ∷ []); told = shows (1 ∷ 4 ∷ 2 ∷ 3 ∷ []) (1 ∷ 3 ∷ 4 ∷ []) } ∷
    -- with 12 deleting 2 nothing is lost
    record { asked = showing set123 (1 ∷ 2 ∷ []) ((0 ∷ 0 ∷ 1 ∷ []) ∷ []) (2 ∷ []); told = shows_nothing } ∷
    -- {132,12} with `(132,∅,{1})` shows 132 and the copy of 132: superfluous, and the earliest
    record {
      asked = showing ((1 ∷ 3 ∷ 2 ∷ []) ∷ (1 ∷ 2 ∷ []) ∷ []) (1 ∷ 3 ∷ 2 ∷ []) [] (1 ∷ []);
      told = shows (1 ∷ 3 ∷ 2 ∷ []) (1 ∷ 2 ∷ 3 ∷ []);
    } ∷
    -- {12,132} shows the copy of 12
    record {
      asked = showing ((1 ∷ 2 ∷ []) ∷ (1 ∷ 3 ∷ 2 ∷ []) ∷ []) (1 ∷ 3 ∷ 2 ∷ []) [] (1 ∷ []);
      told = shows (1 ∷ 3 ∷ 2 ∷ []) (1 ∷ 2 ∷ []);
    } ∷
    -- a page of 40 bytes: 16 for the permutation, 16 for the copy, and the last eight as they were
    record {
      asked = judging_page "{123}" "{(ε,∅,∅),(1,∅,∅),(12,{⟨0,0,1⟩},{1}),(21,∅,{1})}" 40;
      told = holds_page 11 ((4 ∷ 1 ∷ 4 ∷ 2 ∷ 3 ∷ replicate 11 0) ++ ((3 ∷ 1 ∷ 3 ∷ 4 ∷ replicate 12 0) ++ sevens 8));
    } ∷
    -- a page of 31 bytes is refused, and so is a text that is none; both stay as they were
    record {
      asked = judging_page "{123}" "{(ε,∅,∅),(1,∅,∅),(12,{⟨0,0,1⟩},{1}),(21,∅,{1})}" 31;
      told = holds_page 13 (sevens 31);
    } ∷
    record { asked = judging_page "{123" "{(ε,∅,∅)}" 32; told = holds_page 1 (sevens 32) } ∷
    -- order 3 of document 02: {123,12345} and {12345,123} with the scheme of {123}, "and our m is 5
    -- where the literature has 3": accepted, 16 compared cells; under 5 there are 50
    record { asked = judging (set123 ++ set12345) (scheme123 2); told = verdict_is (Ok 16) } ∷
    record { asked = judging (set12345 ++ set123) (scheme123 2); told = verdict_is (Ok 16) } ∷
    record { asked = judging_texts "{123,12345}" "{(ε,∅,∅),(1,∅,∅),(12,{⟨0,0,1⟩},{2}),(21,∅,{1})}"; told = tells 0 (16 ∷ []) } ∷
    record { asked = judging_texts "{12345,123}" "{(ε,∅,∅),(1,∅,∅),(12,{⟨0,0,1⟩},{2}),(21,∅,{1})}"; told = tells 0 (16 ∷ []) } ∷
    record { asked = comparing_under 5 (scheme123 2); told = count_is 50 } ∷
    -- order 4 of document 02: {132} with 12 and ⟨0,1,0⟩ deletes {1}, and deletes {2}, 16 compared
    -- cells each, but not {1,2}: 1243 is shown, and the copy at 1, 3, 4
    record { asked = judging set132 (scheme132 (1 ∷ [])); told = verdict_is (Ok 16) } ∷
    record { asked = judging set132 (scheme132 (2 ∷ [])); told = verdict_is (Ok 16) } ∷
    record { asked = judging set132 (scheme132 (1 ∷ 2 ∷ [])); told = verdict_is (Err (refused_at Irreversible 2)) } ∷
    record {
      asked = showing set132 (1 ∷ 2 ∷ []) ((0 ∷ 1 ∷ 0 ∷ []) ∷ []) (1 ∷ 2 ∷ []);
      told = shows (1 ∷ 2 ∷ 4 ∷ 3 ∷ []) (1 ∷ 3 ∷ 4 ∷ []);
    } ∷
    record { asked = judging_texts "{132}" "{(ε,∅,∅),(1,∅,∅),(12,{⟨0,1,0⟩},{1}),(21,∅,{1})}"; told = tells 0 (16 ∷ []) } ∷
    record { asked = judging_texts "{132}" "{(ε,∅,∅),(1,∅,∅),(12,{⟨0,1,0⟩},{2}),(21,∅,{1})}"; told = tells 0 (16 ∷ []) } ∷
    record { asked = judging_texts "{132}" "{(ε,∅,∅),(1,∅,∅),(12,{⟨0,1,0⟩},{1,2}),(21,∅,{1})}"; told = tells 11 (2 ∷ []) } ∷
    -- a deletion of two positions, and the spacing with both runs of components merged
    record { asked = deletion (1 ∷ 2 ∷ []) (3 ∷ 1 ∷ 2 ∷ []) (1 ∷ 0 ∷ 3 ∷ 2 ∷ []); told = prefix_and_spacing (1 ∷ []) (1 ∷ 5 ∷ []) } ∷
    -- "an empty set, or a repeated, falling or outside position, is refused 7"
    record { asked = judging set132 (scheme132 []); told = verdict_is (Err (refused_at NoPosition 2)) } ∷
    record { asked = judging set132 (scheme132 (1 ∷ 1 ∷ [])); told = verdict_is (Err (refused_at NoPosition 2)) } ∷
    record { asked = judging_texts "{132}" "{(ε,∅,∅),(1,∅,∅),(12,{⟨0,1,0⟩},{2,1}),(21,∅,{1})}"; told = tells 7 (2 ∷ []) } ∷
    record { asked = judging_texts "{132}" "{(ε,∅,∅),(1,∅,∅),(12,{⟨0,1,0⟩},{1,3}),(21,∅,{1})}"; told = tells 7 (2 ∷ []) } ∷
    record { asked = judging_texts "{132}" "{(ε,∅,∅),(1,∅,∅),(12,{⟨0,1,0⟩},{1,}),(21,∅,{1})}"; told = tells 1 (0 ∷ []) } ∷
    -- ∅ with `(12,∅,{1,2}),(21,∅,{1,2})`: n = 4 gives 24
    record { asked = counting_texts "∅" "{(ε,∅,∅),(1,∅,∅),(12,∅,{1,2}),(21,∅,{1,2})}" 4; told = count_is 24 } ∷
    -- order 5 of document 02: the permutations of length 4 by their inversions, then those that
    -- avoid 123, which have two or more, and those that avoid 132
    record { asked = by_inversions [] 4; told = figures_are (1 ∷ 3 ∷ 5 ∷ 6 ∷ 5 ∷ 3 ∷ 1 ∷ []) } ∷
    record { asked = by_inversions set123 4; told = figures_are (0 ∷ 0 ∷ 1 ∷ 4 ∷ 5 ∷ 3 ∷ 1 ∷ []) } ∷
    record { asked = by_inversions set132 4; told = figures_are (1 ∷ 1 ∷ 2 ∷ 3 ∷ 3 ∷ 3 ∷ 1 ∷ []) } ∷
    -- the empty permutation and that of length 1 have none, so there is one figure; {1} leaves none
    -- of length 1
    record { asked = by_inversions [] 0; told = figures_are (1 ∷ []) } ∷
    record { asked = by_inversions [] 1; told = figures_are (1 ∷ []) } ∷
    record { asked = by_inversions ((1 ∷ []) ∷ []) 1; told = figures_are (0 ∷ []) } ∷
    []

-- every row of the table holds
pub starred_hold : map (λ e. answer e.asked) starred ≡ map (λ e. e.told) starred
unfolding answer starred
starred_hold = refl
