-- Laws of words in memory: the entries from 1 to n in a row, unused values, and what one entry more
-- makes of a front.
use Rattle.std.specs.Prelude.{ℕ, zero, suc, ◌+◌, ◌≤◌, ◌<◌, ◌≡◌, refl, Bool, true, false, ◌||◌, ◌⊎◌, length, get_or, take, drop, eqb}
use Rattle.std.proofs.Common.{sym, ap, ◌∙◌, inl, inr, arith, take-append-drop, take-take}
use Rattle.std.proofs.Common.{length-take-le, get_or-take, drop-cons, add-one, eqb-true}
use mathlib.Core.List.{List, [], ◌∷◌, ◌++◌, Memᴰ}
use Rattle.std.proofs.Math.Seq.{drop-length}
use Rattle.word.specs.Lists.{any, row, one_to}
use Rattle.word.specs.Word.{is_perm, distinct, has}
use Rattle.word.specs.ListLaws.{true_not_false, same_or_not, row_out, length_row}
use Rattle.word.specs.PermLaws.{has_out, has_in, distinct_in, perm_in, perm_has}
use Rattle.completion.specs.Completion.{completable, begun}
use Rattle.completion.specs.CompletionLaws.{not_begun, begun_last}
use Rattle.arrangement.specs.Exchange.{exchange}
use Rattle.arrangement.specs.ExchangeLaws.{exchange_next}
use Rattle.std.specs.Prelude.{Some, None, Option, cond}
use Rattle.std.proofs.Math.Option.{none, some}
use Rattle.std.proofs.lemmas.Option.{same_Some, none-some}
use Rattle.arrangement.specs.Said.{said_yes, said_no}
use Rattle.arrangement.specs.Searching.{Completes, Searches, Decides}
use Rattle.arrangement.specs.SearchingLaws.{yes_decides, no_decides}
use Rattle.arrangement.specs.declared.searched.Searched.{Searched}
use Rattle.arrangement.specs.declared.searched.Searched.TheVariants.{Completed, Impossible, Undecided}
use Rattle.successor.specs.Values.{NoneBetween, SeeksValue, given_in}

-- numbers in a row are distinct, so 1 to n is a permutation
row_distinct : (a n : ℕ) → distinct (row a n) ≡ true
unfolding distinct
row_distinct a zero = refl
row_distinct a (suc n) =
    distinct_in a (row (suc a) n) (λ (m : Memᴰ a (row (suc a) n)). let (h, k) = row_out (suc a) n m in absurd (omega arith))
    (row_distinct (suc a) n)

pub perm_row : (n : ℕ) → is_perm (one_to n) ≡ true
perm_row n =
    perm_in (row 1 n) (λ (x : ℕ) (m : Memᴰ x (row 1 n)). let (h, k) = row_out 1 n m in (h, omega (arith, k, length_row 1 n)))
    (row_distinct 1 n)

pub take_row : (k a n : ℕ) → k ≤ n → take k (row a n) ≡ row a k
take_row zero a n h = refl
take_row (suc k) a zero h = absurd (omega arith)
take_row (suc k) a (suc n) h = ap (λ (t : List ℕ). a ∷ t) (take_row k (suc a) n (omega arith))

-- a value that stands in a front cannot follow it
pub used_value : (P : List (List ℕ)) (n : ℕ) (u : List ℕ) (v : ℕ) → has v u ≡ true → completable P n (u ++ (v ∷ [])) ≡ false
used_value P n u v h = not_begun P n (u ++ (v ∷ [])) (go (begun n (u ++ (v ∷ []))) refl)
  where
    go : (b : Bool) → begun n (u ++ (v ∷ [])) ≡ b → b ≡ false
    go true e = let (low, high, f) = begun_last n u v [] e in absurd (true_not_false (sym h ∙ f))
    go false e = refl

-- nor can 0
pub zero_value : (P : List (List ℕ)) (n : ℕ) (u : List ℕ) → completable P n (u ++ (0 ∷ [])) ≡ false
zero_value P n u = not_begun P n (u ++ (0 ∷ [])) (go (begun n (u ++ (0 ∷ []))) refl)
  where
    go : (b : Bool) → begun n (u ++ (0 ∷ [])) ≡ b → b ≡ false
    go true e = let (low, high, f) = begun_last n u 0 [] e in absurd (omega (arith, low))
    go false e = refl

-- a value that does not stand behind a front stands in it
pub behind_or_used : (w : List ℕ) (n i v : ℕ) → is_perm (take n w) ≡ true → length (take n w) ≡ n → i ≤ n → 1 ≤ v → v ≤ n →
    has v (drop i (take n w)) ≡ false → has v (take i w) ≡ true
behind_or_used w n i v p l h low high misses =
    let m = has_out v (take n w) (perm_has (take n w) v p low (omega (arith, high, l))) in
    let e : take i (take n w) ++ drop i (take n w) ≡ take n w = take-append-drop i (take n w) in
    go (mathlib.Core.List.Memᴰ.append_cases (take i (take n w)) (rw e m))
  where
    go : Memᴰ v (take i (take n w)) ⊎ Memᴰ v (drop i (take n w)) → has v (take i w) ≡ true
    go (inl m) = rw (← take-take i n w h) (has_in m)
    go (inr m) = absurd (true_not_false (sym (has_in m) ∙ misses))

-- what is left of the entries from a place on, one entry further
pub has_later : (w : List ℕ) (n j v : ℕ) → j < n → n ≤ length w → (get_or w j 0 ≡ v → ⊥) →
    has v (drop j (take n w)) ≡ has v (drop (j + 1) (take n w))
unfolding has
has_later w n j v h k ne =
    let size = length-take-le n w k in
    let here : get_or (take n w) j 0 ≡ get_or w j 0 = get_or-take n w j 0 h in
    ap (any (eqb v)) (drop-cons (take n w) j 0 (omega (arith, size))) ∙
    ap (λ (b : Bool). b || any (eqb v) (drop (suc j) (take n w))) (other (eqb v (get_or (take n w) j 0)) refl here) ∙
    ap (λ (m : ℕ). any (eqb v) (drop m (take n w))) (sym (add-one j))
  where
    other : (b : Bool) → eqb v (get_or (take n w) j 0) ≡ b → get_or (take n w) j 0 ≡ get_or w j 0 → b ≡ false
    other true e here = absurd (ne (sym here ∙ sym (eqb-true v (get_or (take n w) j 0) e)))
    other false e here = refl

pub has_end : (w : List ℕ) (n v : ℕ) → n ≤ length w → has v (drop n (take n w)) ≡ false
unfolding has
has_end w n v k =
    ap (λ (m : ℕ). any (eqb v) (drop m (take n w))) (sym (length-take-le n w k)) ∙ ap (any (eqb v)) (drop-length (take n w))

-- one number more in a row
pub row_more : (a n : ℕ) → row a (suc n) ≡ row a n ++ ((a + n) ∷ [])
row_more a zero = ap (λ (x : ℕ). x ∷ []) (omega arith)
row_more a (suc n) = ap (λ (t : List ℕ). a ∷ t)
    (row_more (suc a) n ∙ ap (λ (x : ℕ). row (suc a) n ++ (x ∷ [])) (omega arith))

-- what is decided where there is no completion
pub decides_none : (P : List (List ℕ)) (n : ℕ) (u : List ℕ) → completable P n u ≡ false → Decides P n u None
decides_none P n u e = record { decided = sym e; word = λ w q. absurd (none-some w q) }

-- the front with an entry brought behind it
pub brought : (w r : List ℕ) (i j v : ℕ) → i ≤ j → j < length w → get_or w j 0 ≡ v → r ≡ exchange i j w →
    take (i + 1) r ≡ take i w ++ (v ∷ [])
brought w r i j v h k e q =
    ap (λ (m : ℕ). take m r) (add-one i) ∙ ap (take (suc i)) q ∙ exchange_next i j w h k ∙ ap (λ (x : ℕ). take i w ++ (x ∷ [])) e

-- one value more with which a front cannot be completed
pub none_more : (P : List (List ℕ)) (n : ℕ) (u : List ℕ) (low v : ℕ) → NoneBetween P n u low v → completable P n (u ++ (v ∷ [])) ≡ false →
    NoneBetween P n u low (v + 1)
none_more P n u low v h e y a b = go (same_or_not y v)
  where
    go : (y ≡ v) ⊎ (y ≡ v → ⊥) → completable P n (u ++ (y ∷ [])) ≡ false
    go (inl q) = ap (λ (x : ℕ). completable P n (u ++ (x ∷ []))) q ∙ e
    go (inr q) = h y a (omega (arith, b, q))

-- the answers of the search for a value
pub seeks_found : (P : List (List ℕ)) (n : ℕ) (u : List ℕ) (low high v : ℕ) (w : List ℕ) → Completes P n (u ++ (v ∷ [])) (take n w) →
    low ≤ v → v < high → NoneBetween P n u low v → SeeksValue P n u low high (Some w)
seeks_found P n u low high v w c a b h = record {
  yes = λ x q. record { value = v; from = a; below = b; least = h; completes = rw (same_Some w x q) at c };
  no = λ q. absurd (none-some w (sym q));
}

pub seeks_none : (P : List (List ℕ)) (n : ℕ) (u : List ℕ) (low high : ℕ) → NoneBetween P n u low high → SeeksValue P n u low high None
seeks_none P n u low high h = record { yes = λ w q. absurd (none-some w q); no = λ q. h }

-- what an answer gives
pub given_some : (n : ℕ) (r : Option (List ℕ)) (w : List ℕ) → r ≡ Some w → given_in n r ≡ some (take n w)
given_some n r w e = rw e refl

pub given_none : (n : ℕ) (r : Option (List ℕ)) → r ≡ None → given_in n r ≡ none
given_none n r e = rw e refl

-- the word of a search that said yes
abbrev pub found_by : Searched → Option (List ℕ)
found_by (Completed w) = Some w
found_by (Impossible l) = None
found_by Undecided = None

-- a search that said yes or no has decided
pub searches_decide : (P : List (List ℕ)) (n : ℕ) (u : List ℕ) (r : Searched) → Searches P n u r →
    said_yes r || said_no r ≡ true → Decides P n u (found_by r)
searches_decide P n u (Completed w) s d = yes_decides P n u w (Completed w) s refl
searches_decide P n u (Impossible l) s d = no_decides P n u (Impossible l) s refl
searches_decide P n u Undecided s d = absurd (true_not_false (sym d))

-- a budget that counts has an end
pub spent_ends : (endless : Bool) (budget : ℕ) → cond endless false (eqb budget 0) ≡ true → endless ≡ false
spent_ends true budget e = absurd (true_not_false (sym e))
spent_ends false budget e = refl
