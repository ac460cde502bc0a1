-- Laws of listing: what an answer shows, and that following next goes through the list of the
-- avoiders.
use Rattle.std.specs.Prelude.{ℕ, suc, min, ◌+◌, ◌≤◌, ◌<◌, ◌≡◌, Bool, true, false, cond, take, get_or}
use Rattle.std.proofs.Common.{arith, ap₂, ◌∙◌, length-append, length-take-le, ltb-true}
use Rattle.std.proofs.Math.Path.{refl, sym, ap}
use mathlib.Core.List.Memᴰ
use mathlib.Core.List.{List, [], ◌∷◌, ◌++◌, append-nil, append_assoc}
use Rattle.std.proofs.Math.Option.{Option, none, some}
use Rattle.std.proofs.Math.ListN.{length}
use Rattle.std.proofs.lemmas.List.{get_or_at}
use Rattle.word.specs.Ceilings.{WORD}
use Rattle.word.specs.Lists.{first, keep}
use Rattle.word.specs.Word.{is_perm, avoids, avoiders, before, perms}
use Rattle.word.specs.Listing.{head_of, first_avoider, next_avoider}
use Rattle.word.specs.ListingLaws.{next_behind}
use Rattle.word.specs.AscendLaws.{ascends, avoiders_are, avoiders_ascend}
use Rattle.word.specs.PermLaws.{length_perms}
use Rattle.word.specs.Finding.{Finding, clean, fault, first_fault}
use Rattle.std.specs.Prelude.{Ok}
use Rattle.scheme.specs.FindingLaws.{clean_finding}
use Rattle.verdict.specs.Size.{VALUES}
use Rattle.verdict.specs.ValueLaws.{factorial_fits}
use Rattle.table_lines.specs.CallerLaws.{take_least}
use Rattle.lexicographic.specs.Answers.{Listed, first_tests, next_tests, Lists, ListsFirst, ListsNext}
use Rattle.lexicographic.proofs.TestLaws.{next_clean, first_passed}
use Rattle.avoider_lines.specs.Followed.{is_given, unless_fault, listed_if, listed}

-- what stands on the page where it was given is the avoider
pub shown_listed : (f : Finding) (o : Option (List ℕ)) (n : ℕ) (page after : List ℕ) (r : Listed) → Lists f o n page after r →
    cond (is_given r) (some (take n after)) none ≡ unless_fault f o
shown_listed clean (some w) n page after r l =
    ap (λ (x : Listed). cond (is_given x) (some (take n after)) none) l.answer ∙ sym (l.front l.answer)
shown_listed clean none n page after r l = ap (λ (x : Listed). cond (is_given x) (some (take n after)) none) l.answer
shown_listed (fault v i) o n page after r l = ap (λ (x : Listed). cond (is_given x) (some (take n after)) none) l.answer

-- as the code asks for the first, with a word for a page
pub shown_first : (P : List (List ℕ)) (n : ℕ) (page after : List ℕ) (r : Listed) (b : Bool) → length page ≡ WORD →
    ListsFirst P n page after r → b ≡ is_given r →
    cond b (some (take n after)) none ≡ unless_fault (first_fault (first_tests P n WORD)) (first_avoider P n)
shown_first P n page after r b e l g =
    ap (λ (x : Bool). cond x (some (take n after)) none) g ∙
    shown_listed (first_fault (first_tests P n (length page))) (first_avoider P n) n page after r l.lists ∙
    ap (λ (m : ℕ). unless_fault (first_fault (first_tests P n m)) (first_avoider P n)) e

-- and for the next, after the first n entries of a word, or all
module _ (P : List (List ℕ)) (word : List ℕ) (n count : ℕ) (all : length word ≡ WORD) (few : count ≡ min n WORD)
    (page after : List ℕ) (e : length page ≡ WORD) (k : length after ≡ WORD) (r : Listed) where
  pub shown_next : (b : Bool) → ListsNext P (take count word) page after r → b ≡ is_given r →
      cond b (some (take n after)) none ≡ unless_fault (first_fault (next_tests P (take n word) WORD)) (next_avoider P (take n word))
  shown_next b l g =
      let few_word : take count word ≡ take n word =
      ap (λ (m : ℕ). take m word) (few ∙ ap (min n) (sym all)) ∙ take_least word n in
      let size : length (take count word) ≡ min n (length after) =
      length-take-le count word (omega arith) ∙ few ∙ ap (min n) (sym k) in
      let same : take (length (take count word)) after ≡ take n after =
      ap (λ (m : ℕ). take m after) size ∙ take_least after n in
      ap (λ (x : Bool). cond x (some (take n after)) none) g ∙
      ap (λ (v : List ℕ). cond (is_given r) (some v) none) (sym same) ∙
      shown_listed (first_fault (next_tests P (take count word) (length page))) (next_avoider P (take count word))
      (length (take count word))
      page after r l.lists ∙
      ap₂ (λ (v : List ℕ) (m : ℕ). unless_fault (first_fault (next_tests P v m)) (next_avoider P v)) few_word e

some_none : (w : List ℕ) → some w ≡ none → ⊥
some_none w e = let z : ◌≡◌ {A = ℕ} 0 1 = cc in absurd (omega arith)

some_injective : {v w : List ℕ} → some v ≡ some w → v ≡ w
some_injective e = cc

-- a part of a list is no longer
kept_length : (f : List ℕ → Bool) (l : List (List ℕ)) → length (keep f l) ≤ length l
kept_length f [] = omega arith
kept_length f (w ∷ l) = split (f w) (kept_length f l)
  where
    split : (b : Bool) → length (keep f l) ≤ length l → length (cond b (w ∷ keep f l) (keep f l)) ≤ suc (length l)
    split true h = omega arith
    split false h = omega arith

avoiders_few : (P : List (List ℕ)) (n : ℕ) → n ≤ WORD → length (avoiders P n) < VALUES
unfolding avoiders
avoiders_few P n h = omega (arith, kept_length (avoids P) (perms n), length_perms n, factorial_fits n h)

-- The list so far: the avoiders that were listed, those to come, and the one at hand, the first of
-- them, or none.
pub record Follow (P : List (List ℕ)) (n : ℕ) (at-hand : Option (List ℕ)) (lines : ℕ) : Type 0 where
  pub past : List (List ℕ)
  pub rest : List (List ℕ)
  pub whole : listed P n ≡ past ++ rest
  pub head : at-hand ≡ head_of rest
  pub number : lines ≡ length past

-- a list that begins with w
record Begins (w : List ℕ) (l : List (List ℕ)) : Type 0 where
  behind : List (List ℕ)
  same : l ≡ w ∷ behind

-- an avoider at hand is the head of what is to come
at_head : (w : List ℕ) (l : List (List ℕ)) → some w ≡ head_of l → Begins w l
unfolding head_of
at_head w [] e = absurd (some_none w e)
at_head w (x ∷ v) e = record { behind = v; same = ap (λ (y : List ℕ). y ∷ v) (sym (some_injective e)) }

module _ (P : List (List ℕ)) (n : ℕ) where
  -- the first is the head of the list
  pub follow_start : Follow P n (unless_fault (first_fault (first_tests P n WORD)) (first_avoider P n)) 0
  unfolding first_avoider head_of
  follow_start = record { past = []; rest = listed P n; whole = refl; head = split (first_fault (first_tests P n WORD)); number = refl }
    where
      split : (f : Finding) → unless_fault f (first_avoider P n) ≡ head_of (listed_if f (avoiders P n))
      split clean = refl
      split (fault r i) = refl

  -- none at hand: the list is at its end
  pub follow_end : (k : ℕ) → Follow P n none k → k ≡ length (listed P n)
  unfolding head_of
  follow_end k f = f.number ∙ split f.rest f.head f.whole
    where
      split : (l : List (List ℕ)) → none ≡ head_of l → listed P n ≡ f.past ++ l → length f.past ≡ length (listed P n)
      split [] h e = sym (ap length (e ∙ append-nil f.past))
      split (x ∷ v) h e = absurd (some_none x (sym h))

  pub follow_most : (o : Option (List ℕ)) (k : ℕ) → Follow P n o k → k ≤ length (listed P n)
  follow_most o k f = omega (arith, f.number, ap length f.whole, length-append f.past f.rest)

  -- there are fewer than 2 ^ 64
  pub listed_few : length (listed P n) < VALUES
  listed_few = split (first_fault (first_tests P n WORD)) refl
    where
      split : (f : Finding) → first_fault (first_tests P n WORD) ≡ f → length (listed_if f (avoiders P n)) < VALUES
      split clean e = avoiders_few P n (first_passed P n WORD e).small
      split (fault r i) e = ltb-true 0 VALUES refl

  module _ (w : List ℕ) (k : ℕ) (f : Follow P n (some w) k) (b : Begins w f.rest) where
    here : listed P n ≡ f.past ++ (w ∷ b.behind)
    here = f.whole ∙ ap (λ (l : List (List ℕ)). f.past ++ l) b.same

    follow_below : k < length (listed P n)
    follow_below = omega (arith, f.number, ap length here, length-append f.past (w ∷ b.behind))

    -- the avoider at hand is the one with the index k
    is_there : w ≡ get_or (listed P n) k []
    is_there = sym (ap (λ (l : List (List ℕ)). get_or l k []) here ∙ get_or_at f.past w b.behind [] k (sym f.number))

    -- so the tests of the patterns and of the length find nothing
    passed : first_fault (first_tests P n WORD) ≡ clean
    passed = split (first_fault (first_tests P n WORD)) follow_below
      where
        split : (g : Finding) → k < length (listed_if g (avoiders P n)) → g ≡ clean
        split clean h = refl
        split (fault r i) h = absurd (omega arith)

    all_here : avoiders P n ≡ f.past ++ (w ∷ b.behind)
    all_here = sym (ap (λ (g : Finding). listed_if g (avoiders P n)) passed) ∙ here

    is : (is_perm w ≡ true) × (length w ≡ n) × (avoids P w ≡ true)
    is = avoiders_are P n {w = w} (rw all_here (Memᴰ.append_right f.past (Memᴰ.head refl)))

    next_is : next_avoider P w ≡ head_of b.behind
    unfolding next_avoider
    next_is =
        ap (λ (m : ℕ). first (before w) (avoiders P m)) is.1 ∙ ap (first (before w)) all_here ∙
        next_behind f.past w b.behind (ap ascends (sym all_here) ∙ avoiders_ascend P n)

    next_passed : first_fault (next_tests P w WORD) ≡ clean
    next_passed =
        let first = first_passed P n WORD passed in
        let short : length w ≤ WORD = omega (arith, is.1, first.small) in
        clean_finding (first_fault (next_tests P w WORD)) (Ok tt) (next_clean P first.formed w WORD short is.0 is.2 short) refl

    -- one line more, and the next at hand
    follow_more : Follow P n (unless_fault (first_fault (next_tests P w WORD)) (next_avoider P w)) (k + 1)
    follow_more =
        record {
          past = f.past ++ (w ∷ []);
          rest = b.behind;
          whole = here ∙ sym (append_assoc f.past (w ∷ []) b.behind);
          head = ap (λ (g : Finding). unless_fault g (next_avoider P w)) next_passed ∙ next_is;
          number = omega (arith, f.number, length-append f.past (w ∷ []));
        }

  module _ (w : List ℕ) (k : ℕ) (f : Follow P n (some w) k) where
    pub at_hand_is : w ≡ get_or (listed P n) k []
    at_hand_is = is_there w k f (at_head w f.rest f.head)

    pub lines_below : k < length (listed P n)
    lines_below = follow_below w k f (at_head w f.rest f.head)

    pub lines_more : Follow P n (unless_fault (first_fault (next_tests P w WORD)) (next_avoider P w)) (k + 1)
    lines_more = follow_more w k f (at_head w f.rest f.head)
