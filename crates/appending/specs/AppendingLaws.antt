-- Laws of appending: the unused values are those that can follow, one after the other they are
-- exchanged to the next place, and what the ways of the search to its end show.
use Rattle.std.specs.Prelude.{ℕ, suc, ◌+◌, ◌≤◌, ◌<◌, ◌≡◌, refl, Bool, true, false, not, ◌||◌, ◌⊎◌, length, get_or, take, drop, set}
use Rattle.std.proofs.Common.{sym, ap, ◌∙◌, inl, inr, add-one, arith, take-append-drop, take-take}
use Rattle.std.proofs.Common.{take-suc, length-take-le, drop-set-lt, drop-drop, drop-cons}
use Rattle.std.proofs.Math.Bool.{and-false}
use mathlib.Core.List.{List, [], ◌∷◌, ◌++◌, append-nil, append_assoc, Memᴰ}
use Rattle.std.proofs.lemmas.Bool.{not-true}
use Rattle.std.proofs.Math.Seq.{slice_empty, slice-cons}
use Rattle.word.specs.Lists.{any, one_to}
use Rattle.word.specs.Word.{is_perm, avoids, has}
use Rattle.word.specs.ListLaws.{true_not_false, and_left, same_test, fails_with, any_out, any_in, all_out, row_out, row_in}
use Rattle.word.specs.PermLaws.{has_out, has_in, perm_bounds, perm_has}
use Rattle.completion.specs.Completion.{begins, completable, allowed, all_allowed, goes_on}
use Rattle.completion.specs.CompletionLaws.{begins_out, begins_in, completable_next, completable_avoids}
use Rattle.std.specs.Prelude.{Option}
use Rattle.arrangement.specs.Said.{said_yes, said_no, word_in}
use Rattle.arrangement.specs.declared.searched.Searched.{Searched}
use Rattle.arrangement.specs.declared.searched.Searched.TheVariants.{Completed, Impossible, Undecided}
use Rattle.arrangement.specs.Exchange.{exchange, Rearranged}
use Rattle.arrangement.specs.ExchangeLaws.{exchange_next, rearranged_none, rearranged_more}
use Rattle.arrangement.specs.Searching.{Completes, Searches}
use Rattle.arrangement.specs.UnusedLaws.{next_value}
use Rattle.crowding.specs.Crowding.{crowded}
use Rattle.crowding.specs.CrowdingLaws.{crowded_empty}
use Rattle.appending.specs.Appending.{Shortest, RuledOut}
use Rattle.appending.specs.Pairs.{all_pairs}
use Rattle.appending.specs.PairLaws.{pairs_none}

-- a permutation, cut behind its first `len` entries
cut : (n len : ℕ) (word : List ℕ) → len ≤ n → take len word ++ drop len (take n word) ≡ take n word
cut n len word h = ap (λ (t : List ℕ). t ++ drop len (take n word)) (sym (take-take len n word h)) ∙ take-append-drop len (take n word)

-- the values by which the first entries can go on stand behind them
goes_on_unused : (P : List (List ℕ)) (n len : ℕ) (word : List ℕ) → len < n → n ≤ length word → is_perm (take n word) ≡ true →
    completable P n (take len word) ≡ any (goes_on P n (take len word)) (drop len (take n word))
unfolding goes_on
goes_on_unused P n len word h l p =
    completable_next P n u (omega (arith, length-take-le len word (omega arith))) ∙
    same_test (any (goes_on P n u) (one_to n)) (any (goes_on P n u) rest) there back
  where
    u : List ℕ
    u = take len word

    rest : List ℕ
    rest = drop len (take n word)

    size : length (take n word) ≡ n
    size = length-take-le n word l

    behind : (v : ℕ) → not (has v u) ≡ true → Memᴰ v u ⊎ Memᴰ v rest → Memᴰ v rest
    behind v f (inl m) = absurd (true_not_false (sym f ∙ ap not (has_in m)))
    behind v f (inr m) = m

    there : any (goes_on P n u) (one_to n) ≡ true → any (goes_on P n u) rest ≡ true
    there e =
        let (v, m, g) = any_out (goes_on P n u) (one_to n) e in
        let (low, high) = row_out 1 n m in
        let k = has_out v (take n word) (perm_has (take n word) v p low (omega (arith, size))) in
        any_in (goes_on P n u) (behind v (and_left (not (has v u)) (completable P n (u ++ (v ∷ []))) g)
        (mathlib.Core.List.Memᴰ.append_cases u (rw (← cut n len word (omega arith)) at k))) g

    back : any (goes_on P n u) rest ≡ true → any (goes_on P n u) (one_to n) ≡ true
    back e =
        let (v, m, g) = any_out (goes_on P n u) rest e in
        let k : Memᴰ v (take n word) = rw (cut n len word (omega arith)) at (mathlib.Core.List.Memᴰ.append_right u m) in
        let (low, high) = perm_bounds (take n word) p k in
        any_in (goes_on P n u) (row_in 1 n v low (omega (arith, size))) g

not_going : (P : List (List ℕ)) (n : ℕ) (u : List ℕ) (v : ℕ) → completable P n (u ++ (v ∷ [])) ≡ false → goes_on P n u v ≡ false
unfolding goes_on
not_going P n u v e = rw e (and-false (not (has v u)))

-- an unused value that is allowed
allowed_next : (P : List (List ℕ)) (n : ℕ) (u : List ℕ) (v : ℕ) → all_allowed P n u ≡ true → 1 ≤ v → v ≤ n → has v u ≡ false →
    avoids P (u ++ (v ∷ [])) ≡ true
unfolding all_allowed allowed
allowed_next P n u v a low high f = decide (has v u) f (all_out (allowed P u) (row_in 1 n v low (omega arith)) a)
  where
    decide : (b : Bool) → b ≡ false → b || avoids P (u ++ (v ∷ [])) ≡ true → avoids P (u ++ (v ∷ [])) ≡ true
    decide true q e = absurd (true_not_false q)
    decide false q e = e

-- the entries behind both places stay
exchange_behind : (m i j : ℕ) (w : List ℕ) → i < m → j < m → drop m (exchange i j w) ≡ drop m w
unfolding exchange
exchange_behind m i j w h k = drop-set-lt m (set w i (get_or w j 0)) j (get_or w i 0) k ∙ drop-set-lt m w i (get_or w j 0) h

-- The places from `len` up: w has the entries of the word up to `len` and from j on, and the first
-- entries can be completed if they can go on by a value that stands at j or behind.
pub record Tries (P : List (List ℕ)) (n : ℕ) (word : List ℕ) (len j : ℕ) (w : List ℕ) : Type 0 where
  pub low : len ≤ j
  pub high : j ≤ n
  pub kept : Rearranged n len word w
  pub same : drop j w ≡ drop j word
  pub left : completable P n (take len word) ≡ any (goes_on P n (take len word)) (drop j (take n word))

module _ (P : List (List ℕ)) (n : ℕ) (word : List ℕ) (len : ℕ) (k : len < n) (l : n ≤ length word) (p : is_perm (take n word) ≡ true) where
  pub tries_start : Tries P n word len len word
  tries_start = record {
    low = omega arith;
    high = omega arith;
    kept = rearranged_none n len word;
    same = refl;
    left = goes_on_unused P n len word k l p;
  }

  pub tries_end : (j : ℕ) (w : List ℕ) → Tries P n word len j w → n ≤ j → completable P n (take len word) ≡ false
  tries_end j w t h =
      let e : j ≡ n = omega (arith, t.high) in
      t.left ∙ ap (λ (m : ℕ). any (goes_on P n (take len word)) (drop m (take n word))) e ∙
      ap (any (goes_on P n (take len word))) (slice_empty n word)

  module _ (j : ℕ) (w : List ℕ) (t : Tries P n word len j w) (h : j < n) where
    more : Rearranged n len word (exchange len j w)
    more = rearranged_more n len len j word w (omega arith) t.low k h l t.kept

    pub tries_perm : is_perm (take n (exchange len j w)) ≡ true
    tries_perm = more.perm p

    -- the value at j stands behind the first entries now
    pub tries_word : take (len + 1) (exchange len j w) ≡ take len word ++ (get_or word j 0 ∷ [])
    tries_word =
        rw (add-one len) (exchange_next len j w t.low (omega (arith, t.kept.size))) ∙
        ap (λ (u : List ℕ). u ++ (get_or w j 0 ∷ [])) t.kept.front ∙
        ap (λ (x : ℕ). take len word ++ (x ∷ [])) at_j
      where
        at_j : get_or w j 0 ≡ get_or word j 0
        at_j = ap (λ (s : List ℕ). get_or s 0 0)
            (sym (drop-cons w j 0 (omega (arith, t.kept.size))) ∙ t.same ∙ drop-cons word j 0 (omega arith))

    -- and the word avoids the patterns, since every value is allowed there
    pub tries_avoids : all_allowed P n (take len word) ≡ true → avoids P (take (len + 1) (exchange len j w)) ≡ true
    tries_avoids a =
        let w' = exchange len j w in
        let room : n ≤ length w' = omega (arith, more.size) in
        let (low, high, fresh) = next_value n len w' k room tries_perm in
        rw (add-one len, take-suc w' len 0 (omega arith), more.front)
        (allowed_next P n (take len word) (get_or w' len 0) a low high (rw more.front at fresh))

    pub tries_more : completable P n (take (len + 1) (exchange len j w)) ≡ false → Tries P n word len (j + 1) (exchange len j w)
    tries_more e = record {
      low = omega (arith, t.low);
      high = omega arith;
      kept = more;
      same = exchange_behind (j + 1) len j w (omega (arith, t.low)) (omega arith) ∙ sym (drop-drop 1 j w) ∙ ap (drop 1) t.same ∙
          drop-drop 1 j word;
      left = t.left ∙ ap (any on) (slice-cons j n word 0 h l) ∙
          ap (λ (b : Bool). b || any on (drop (suc j) (take n word)))
          (not_going P n (take len word) (get_or word j 0) (ap (completable P n) (sym tries_word) ∙ e)) ∙
          ap (λ (m : ℕ). any on (drop m (take n word))) (sym (add-one j));
    }
      where
        on : ℕ → Bool
        on = goes_on P n (take len word)

    -- what the call for one value says is passed on where it is no "none"
    pub tries_passed : (r : Searched) → ((b : Option ℕ) → r ≡ Impossible b → ⊥) → Searches P n (take (len + 1) (exchange len j w)) r →
        Searches P n (take len word) r
    tries_passed r f g = record {
      yes = λ (y : said_yes r ≡ true). shorter (g.yes y);
      no = λ (y : said_no r ≡ true). absurd (is_no r y f);
    }
      where
        shorter : Completes P n (take (len + 1) (exchange len j w)) (take n (word_in r)) →
            Completes P n (take len word) (take n (word_in r))
        shorter c = let (s, e) = begins_out (take len word ++ (get_or word j 0 ∷ [])) (take n (word_in r)) (rw tries_word at c.front) in
            record {
              perm = c.perm;
              size = c.size;
              avoids_all = c.avoids_all;
              front = ap (begins (take len word)) (sym e ∙ append_assoc (take len word) (get_or word j 0 ∷ []) s) ∙
                  begins_in (take len word) (get_or word j 0 ∷ s);
            }

        is_no : (s : Searched) → said_no s ≡ true → ((b : Option ℕ) → s ≡ Impossible b → ⊥) → ⊥
        is_no (Completed x) y f = true_not_false (sym y)
        is_no (Impossible b) y f = f b refl
        is_no Undecided y f = true_not_false (sym y)

-- the ways in which a call ends: no completion, a whole word, an end of the budget
pub searches_none : (P : List (List ℕ)) (n : ℕ) (u : List ℕ) (b : Option ℕ) → completable P n u ≡ false → Searches P n u (Impossible b)
searches_none P n u b e = record { yes = λ (y : false ≡ true). absurd (true_not_false (sym y)); no = λ y. e }

pub searches_undecided : (P : List (List ℕ)) (n : ℕ) (u : List ℕ) → Searches P n u Undecided
searches_undecided P n u = record {
  yes = λ (y : false ≡ true). absurd (true_not_false (sym y));
  no = λ (y : false ≡ true). absurd (true_not_false (sym y));
}

pub searches_whole : (P : List (List ℕ)) (n : ℕ) (word : List ℕ) (len : ℕ) → len ≡ n → n ≤ length word →
    is_perm (take n word) ≡ true → avoids P (take len word) ≡ true → Searches P n (take len word) (Completed word)
searches_whole P n word len h l p a = record {
  yes = λ y. rw h (record {
    perm = p;
    size = length-take-le n word l;
    avoids_all = ap (λ (m : ℕ). avoids P (take m word)) (sym h) ∙ a;
    front = ap (begins (take n word)) (sym (append-nil (take n word))) ∙ begins_in (take n word) [];
  });
  no = λ (y : false ≡ true). absurd (true_not_false (sym y));
}

-- what rules a completion out: a pattern in the first entries, too many values between two bounds
pub contained_none : (P : List (List ℕ)) (n : ℕ) (u : List ℕ) → avoids P u ≡ false → completable P n u ≡ false
contained_none P n u e = fails_with (completable P n u) (avoids P u) (completable_avoids P n u) e

pub crowded_none : (P : List (List ℕ)) (n : ℕ) (word : List ℕ) (len rises falls : ℕ) → len ≤ n → n ≤ length word →
    is_perm (take n word) ≡ true → Shortest P rises falls → crowded rises falls n (take len word) (drop len (take n word)) ≡ true →
    completable P n (take len word) ≡ false
crowded_none P n word len rises falls h l p s e =
    crowded_empty P n (take len word) (drop len (take n word)) (ap is_perm (cut n len word h) ∙ p)
    (ap length (cut n len word h) ∙ length-take-le n word l) (rw (s.rising, s.falling) at e)

pub ruled_out : (P : List (List ℕ)) (n : ℕ) (u : List ℕ) → completable P n u ≡ false → RuledOut P n u true
ruled_out P n u e = record {
  yes = λ y. e;
  no = λ (y : true ≡ false). absurd (true_not_false y);
}

pub not_ruled_out : (P : List (List ℕ)) (n : ℕ) (u : List ℕ) → all_allowed P n u ≡ true → RuledOut P n u false
not_ruled_out P n u a = record {
  yes = λ (y : false ≡ true). absurd (true_not_false (sym y));
  no = λ y. a;
}

-- where every value is allowed, the test of pairs may still rule a completion out
pub ruled_by_pairs : (P : List (List ℕ)) (n : ℕ) (word : List ℕ) (len : ℕ) (b : Bool) → len ≤ n → n ≤ length word →
    is_perm (take n word) ≡ true → all_allowed P n (take len word) ≡ true → b ≡ all_pairs P (take len word) (drop len (take n word)) →
    RuledOut P n (take len word) (not b)
ruled_by_pairs P n word len b h l p a e = record {
  yes = λ (y : not b ≡ true). pairs_none P n (take len word) (drop len (take n word)) (ap is_perm (cut n len word h) ∙ p)
      (ap length (cut n len word h) ∙ length-take-le n word l) (sym e ∙ not-true b y);
  no = λ y. a;
}
