-- The values from v to n, and what one of them adds to the two tests of the emptiness search; a
-- word, entry by entry.
-- Assumes nothing.
use Prim.Native.Nat.{ℕ, suc, ◌+◌, ◌-◌, ◌≤◌, ◌<◌}
use mathlib.Core.Path.{◌≡◌, refl, sym, ap, ◌∙◌}
use mathlib.Core.Bool.{Bool, true, false, not, and-false}
use mathlib.Core.List.{List, [], ◌∷◌, ◌++◌}
use native.Mathlib.Numerals.{add-one}
use native.Mathlib.Omega.{arith}
use lib.ListN.{length, get_or, take, drop, take-append-drop}
use lib.Seq.{take-suc, take-add, drop-cons}
use Rattle.word.specs.Lists.{all, any, row, one_to}
use Rattle.word.specs.Word.{avoids, has}
use Rattle.completion.specs.Completion.{completable, begun, allowed, all_allowed, goes_on}
use Rattle.completion.specs.CompletionLaws.{completable_whole, completable_next, begun_snoc, begun_last}

-- the values from v to n
abbrev pub values : ℕ → ℕ → List ℕ
values v n = row v (suc n - v)

pub values_all : (n : ℕ) → one_to n ≡ values 1 n
values_all n = let e : n ≡ suc n - 1 = omega arith in ap (row 1) e

pub values_cons : (v n : ℕ) → v ≤ n → values v n ≡ v ∷ values (v + 1) n
values_cons v n h = go (suc n - v) (suc n - (v + 1)) (omega arith)
  where
    go : (a b : ℕ) → a ≡ suc b → row v a ≡ v ∷ row (v + 1) b
    go a b e = rw (e, add-one v) refl

pub values_none : (v n : ℕ) → n < v → values v n ≡ []
values_none v n h = go (suc n - v) (omega arith)
  where
    go : (a : ℕ) → a ≡ 0 → row v a ≡ []
    go a e = rw e refl

pub allowed_start : (P : List (List ℕ)) (n : ℕ) (u : List ℕ) → all_allowed P n u ≡ all (allowed P u) (values 1 n)
unfolding all_allowed
allowed_start P n u = ap (all (allowed P u)) (values_all n)

-- a word of all entries: the answer is whether it contains no pattern
pub whole_answer : (P : List (List ℕ)) (n : ℕ) (u : List ℕ) (r : Bool) → r ≡ not (avoids P u) → begun n u ≡ true →
    length u ≡ n → not r ≡ completable P n u
whole_answer P n u r e b l = ap not e ∙ twice (avoids P u) ∙ sym (completable_whole P n u b l)
  where
    twice : (t : Bool) → not (not t) ≡ t
    twice true = refl
    twice false = refl

-- a begun word that is shorter than n, before the first value is tried
pub goes_start : (P : List (List ℕ)) (n : ℕ) (u : List ℕ) → length u < n → completable P n u ≡ any (goes_on P n u) (values 1 n)
goes_start P n u h = completable_next P n u h ∙ ap (any (goes_on P n u)) (values_all n)

-- the forward check at the value v
module _ (P : List (List ℕ)) (u : List ℕ) (v : ℕ) (n : ℕ) (h : v ≤ n) where
  pub allowed_stands : has v u ≡ true → all (allowed P u) (values v n) ≡ all (allowed P u) (values (v + 1) n)
  unfolding allowed
  allowed_stands e = rw (values_cons v n h, e) refl

  pub allowed_fits : has v u ≡ false → avoids P (u ++ (v ∷ [])) ≡ true → all (allowed P u) (values v n) ≡
      all (allowed P u) (values (v + 1) n)
  unfolding allowed
  allowed_fits e a = rw (values_cons v n h, e, a) refl

  pub allowed_fails : has v u ≡ false → avoids P (u ++ (v ∷ [])) ≡ false → all (allowed P u) (values v n) ≡ false
  unfolding allowed
  allowed_fails e a = rw (values_cons v n h, e, a) refl

  -- the search at the value v
  pub goes_stands : has v u ≡ true → any (goes_on P n u) (values v n) ≡ any (goes_on P n u) (values (v + 1) n)
  unfolding goes_on
  goes_stands e = rw (values_cons v n h, e) refl

  pub goes_not : completable P n (u ++ (v ∷ [])) ≡ false → any (goes_on P n u) (values v n) ≡ any (goes_on P n u) (values (v + 1) n)
  unfolding goes_on
  goes_not e = rw (values_cons v n h, e, and-false (not (has v u))) refl

  pub goes_there : has v u ≡ false → completable P n (u ++ (v ∷ [])) ≡ true → any (goes_on P n u) (values v n) ≡ true
  unfolding goes_on
  goes_there e a = rw (values_cons v n h, e, a) refl

-- the front of a word, cut at one of its entries
pub front_cut : (w : List ℕ) (i len : ℕ) → i < len → len ≤ length w →
    take len w ≡ take i w ++ (get_or w i 0 ∷ take (len - suc i) (drop (suc i) w))
front_cut w i len h k =
    let e : len ≡ i + suc (len - suc i) = omega arith in
    let here : i < length w = omega arith in
    ap (λ (m : ℕ). take m w) e ∙ take-add i (suc (len - suc i)) w ∙ rw (drop-cons w i 0 here) refl

-- a word, cut at one of its entries
cut_at : (w : List ℕ) (i : ℕ) → i < length w → w ≡ take i w ++ (get_or w i 0 ∷ drop (suc i) w)
cut_at w i h = sym (take-append-drop i w) ∙ ap (λ (t : List ℕ). take i w ++ t) (drop-cons w i 0 h)

pub begun_none : (n : ℕ) → begun n [] ≡ true
unfolding begun
begun_none n = refl

-- one entry more of a begun word
pub begun_more : (n : ℕ) (w : List ℕ) (i : ℕ) → i < length w → begun n (take i w) ≡ true → (get_or w i 0 ≡ 0 → ⊥) → get_or w i 0 ≤ n →
    has (get_or w i 0) (take i w) ≡ false → begun n (take (i + 1) w) ≡ true
begun_more n w i h b z a e = rw (add-one i, take-suc w i 0 h) (begun_snoc n (take i w) (get_or w i 0) b (omega arith) a e)

-- an entry that breaks a begun word
pub begun_fails : (n : ℕ) (w : List ℕ) (i : ℕ) → i < length w →
    ((1 ≤ get_or w i 0) → (get_or w i 0 ≤ n) → (has (get_or w i 0) (take i w) ≡ false) → ⊥) → begun n w ≡ false
begun_fails n w i k f = go (begun n w) refl
  where
    go : (b : Bool) → begun n w ≡ b → b ≡ false
    go true e =
        let (l, m, q) = begun_last n (take i w) (get_or w i 0) (drop (suc i) w) (ap (begun n) (sym (cut_at w i k)) ∙ e) in
        absurd (f l m q)
    go false e = refl
