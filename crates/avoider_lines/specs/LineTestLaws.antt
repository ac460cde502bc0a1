-- Laws of what two lines ask for: the kept part of a line decides, and where nothing is wrong the
-- set passes its tests.
use Rattle.std.specs.Prelude.{ℕ, suc, ◌≤◌, ◌<◌, ◌≡◌, refl, Bool, true, false, cond, List, [], ◌∷◌, length, take, ltb, Option}
use Rattle.std.specs.Prelude.{Some, None, Result, Ok, Err, IfOk}
use Rattle.std.proofs.Common.{sym, ap, ap₂, subst, ◌∙◌, ltb-false, lt-ltb, le-ltb}
use Rattle.std.proofs.Math.Option.{Option as Maybe, none, some}
use Rattle.word.specs.Ceilings.{PATTERN_TEXT, WORD}
use Rattle.word.specs.Finding.{Finding, clean, fault, test, first_fault}
use Rattle.word.specs.declared.refusal.Refusal.TheVariants.{Misspelt, Oversize}
use Rattle.word.specs.ListLaws.{true_not_false}
use Rattle.scheme.specs.WellFormed.{pattern_tests}
use Rattle.forms.specs.SchemeMemory.{Fault, patterns_in, fault_of, or_else, faulty}
use Rattle.forms.specs.declared.memory.Patterns.{Patterns}
use Rattle.word.specs.Refusal.{refused_at}
use Rattle.word.specs.declared.refusal.Refused.{Refused}
use Rattle.text_grammar.specs.Grammar.{read_patterns}
use Rattle.text_grammar.specs.Tokens.{tokens}
use Rattle.text_patterns.specs.PatternMemory.{loaded_patterns}
use Rattle.notation.specs.Answers.{found_from, answer_from, answer_to, read_fault, read_list}
use Rattle.notation.specs.PatternAnswers.{PatternsRead, refused_patterns, tested_patterns, read_or, patterns_answer}
use Rattle.notation.proofs.AnswerLaws.{answer_cut}
use Rattle.notation.proofs.PatternAnswerLaws.{answered}
use Rattle.wellformed.proofs.OrderLaws.{two_faults}
use Rattle.table_lines.specs.Lines.{number_in}
use Rattle.table_lines.specs.Kept.{set_room, Memory, kept_of, as_number}
use Rattle.avoider_lines.specs.TwoLines.{Two, two_lines, is_two, held_two, two_in}
use Rattle.avoider_lines.specs.TwoLineLaws.{fronts_if, kept_two}
use Rattle.avoider_lines.specs.LineTests.{set_found, length_found, value_of, patterns_or}
use Rattle.avoider_lines.specs.LineTests.{fault_in, Asks, AsksFor, AsksBy}
use Rattle.avoider_lines.specs.declared.judging.Asked.{Asked}
use Rattle.avoider_lines.specs.declared.judging.Wrong.{Wrong}

-- the fault in the answer to a text is what the tests of the first line find
pub set_found_lem : (s : List ℕ) → read_fault (patterns_answer s) ≡ fault_of (set_found s)
set_found_lem s = split (ltb PATTERN_TEXT (length s)) (read_patterns (tokens s))
  where
    or_fault : (f : Fault) (m : Patterns) → read_fault (read_or f m) ≡ f
    or_fault (Ok u) m = refl
    or_fault (Err e) m = refl

    split : (b : Bool) (o : Maybe (List (List ℕ))) →
        read_fault (cond b (refused_patterns Oversize 0) (answer_from refused_patterns tested_patterns o)) ≡
        fault_of (cond b (fault Oversize 0) (found_from pattern_tests o))
    split true o = refl
    split false none = refl
    split false (some P) = or_fault (fault_of (first_fault (pattern_tests P))) (loaded_patterns P)

-- the first bytes of a line are enough

number_cut : (n : ℕ) (l : List ℕ) → number_in (take (suc (suc (suc n))) l) ≡ number_in l
number_cut n [] = refl
number_cut n (a ∷ []) = refl
number_cut n (a ∷ b ∷ []) = refl
number_cut n (a ∷ b ∷ c ∷ l) = refl

set_cut : (s : List ℕ) → patterns_answer (take set_room s) ≡ patterns_answer s
set_cut s = answer_cut refused_patterns tested_patterns PATTERN_TEXT read_patterns s

-- what the tests of the first line find is an answer of reading, with a finding in its place
found_answer : (s : List ℕ) → set_found s ≡ answer_to fault (λ P. first_fault (pattern_tests P)) PATTERN_TEXT read_patterns s
found_answer s = split (read_patterns (tokens s))
  where
    split : (o : Maybe (List (List ℕ))) → cond (ltb PATTERN_TEXT (length s)) (fault Oversize 0) (found_from pattern_tests o) ≡
        cond (ltb PATTERN_TEXT (length s)) (fault Oversize 0) (answer_from fault (λ P. first_fault (pattern_tests P)) o)
    split none = refl
    split (some P) = refl

found_cut : (s : List ℕ) → set_found (take set_room s) ≡ set_found s
found_cut s =
    found_answer (take set_room s) ∙ answer_cut fault (λ (P : List (List ℕ)). first_fault (pattern_tests P)) PATTERN_TEXT read_patterns s ∙
    sym (found_answer s)

asks_fronts : (o : Maybe Two) (r : Result Asked Wrong) → Asks (fronts_if o) r → Asks o r
asks_fronts none r a = a
asks_fronts (some t) r a =
    let number = ap as_number (number_cut 32766 t.last) in
    record {
      fault = a.fault ∙
          ap₂ (λ (x : Finding) (m : Option ℕ). fault_of (first_fault (x ∷ length_found m ∷ []))) (found_cut t.set) number;
      patterns = a.patterns ∙ ap patterns_or (set_cut t.set);
      length = a.length ∙ ap value_of number;
    }

asks_lines : (t : Two) (r : Result Asked Wrong) → AsksBy (patterns_answer t.set) (as_number (number_in t.last)) r → Asks (some t) r
asks_lines t r a =
    let m = as_number (number_in t.last) in
    record {
      fault = a.0 ∙ ap (λ (f : Fault). or_else f (fault_of (length_found m))) (set_found_lem t.set) ∙
          sym (two_faults (set_found t.set) (length_found m));
      patterns = a.1;
      length = a.2;
    }

-- what is asked for by the lines in memory is asked for by those of the input
held_kept : (memory : Memory) (r : Result Asked Wrong) → Asks (two_in memory) r → (input : List ℕ) → memory ≡ kept_of input →
    Asks (two_lines input) r
held_kept memory r a input e =
    asks_fronts (two_lines input) r (subst (λ (o : Maybe Two). Asks o r) (ap two_in e ∙ kept_two input) a)

err_ne_ok : (e : Refused) → ◌≡◌ {A = Fault} (Err e) (Ok tt) → ⊥
err_ne_ok e h = true_not_false (ap faulty h)

-- a length that passes its tests is within the ceiling
length_within : (m : Option ℕ) → fault_of (length_found m) ≡ Ok tt → value_of m ≤ WORD
length_within None e = absurd (err_ne_ok (refused_at Misspelt 0) e)
length_within (Some n) e = split (ltb WORD n) refl e
  where
    split : (b : Bool) → ltb WORD n ≡ b → fault_of (test Oversize b) ≡ Ok tt → n ≤ WORD
    split true h k = absurd (err_ne_ok (refused_at Oversize 0) k)
    split false h k = ltb-false WORD n h

both_clean : (a b : Fault) → or_else a b ≡ Ok tt → (a ≡ Ok tt) × (b ≡ Ok tt)
both_clean (Ok u) b e = (refl, e)
both_clean (Err x) b e = absurd (err_ne_ok x e)

read_same : (p : PatternsRead) → read_fault p ≡ Ok tt → read_list patterns_in p ≡ patterns_in (patterns_or p)
read_same (Ok m) e = refl
read_same (Err x) e = absurd (err_ne_ok x e)

module _ (memory : Memory) (r : Result Asked Wrong) where
  -- a line is missing, or there is a third
  pub asks_missing : is_two memory.lines ≡ false → Asks none r → AsksFor memory r
  asks_missing e a =
      let held : Asks (two_in memory) r =
      subst (λ (b : Bool). Asks (cond b (some (held_two memory)) none) r) (sym e) a in
      record { held = held; kept = held_kept memory r held; passes = by r a.fault }
    where
      by : (q : Result Asked Wrong) → fault_in q ≡ Err (refused_at Misspelt 0)
          → IfOk q (λ x. (first_fault (pattern_tests (patterns_in x.patterns)) ≡ clean) × (x.length ≤ WORD))
      by (Ok x) f = absurd (err_ne_ok (refused_at Misspelt 0) (sym f))
      by (Err w) f = tt

  -- both lines are there
  pub asks_both : is_two memory.lines ≡ true → (p : PatternsRead) →
      p ≡ patterns_answer (held_two memory).set → (m : Option ℕ) → m ≡ as_number (number_in (held_two memory).last) →
      AsksBy p m r → AsksFor memory r
  asks_both e p answers m number a =
      record { held = held; kept = held_kept memory r held; passes = by r a }
    where
      t : Two
      t = held_two memory

      lines : Asks (some t) r
      lines = asks_lines t r (subst (λ (q : PatternsRead). AsksBy q (as_number (number_in t.last)) r) answers
          (subst (λ (k : Option ℕ). AsksBy p k r) number a))

      held : Asks (two_in memory) r
      held = subst (λ (b : Bool). Asks (cond b (some t) none) r) (sym e) lines

      by : (q : Result Asked Wrong) → AsksBy p m q
          → IfOk q (λ x. (first_fault (pattern_tests (patterns_in x.patterns)) ≡ clean) × (x.length ≤ WORD))
      by (Err w) b = tt
      by (Ok x) b =
          let both = both_clean (read_fault p) (fault_of (length_found m)) (sym b.0) in (
            ap (λ (q : Patterns). first_fault (pattern_tests (patterns_in q))) b.1
                ∙ sym (ap (λ (l : List (List ℕ)). first_fault (pattern_tests l)) (read_same p both.0))
                ∙ (answered t.set p answers).1.passes both.0,
            subst (λ (k : ℕ). k ≤ WORD) (sym b.2) (length_within m both.1),
          )

-- the length, as the code tests it
pub length_large : (n : ℕ) → WORD < n → Err (refused_at Oversize 0) ≡ fault_of (length_found (Some n))
length_large n h = rw (lt-ltb WORD n h) refl

pub length_small : (n : ℕ) → n ≤ WORD → Ok tt ≡ fault_of (length_found (Some n))
length_small n h = rw (le-ltb WORD n h) refl
