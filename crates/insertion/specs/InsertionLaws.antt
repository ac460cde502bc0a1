-- Laws of putting values in: a word that is part of a larger one stays a part of it with one more
-- value at some place, so all places together leave nothing out.
use Rattle.std.specs.Prelude.{ℕ, zero, suc, ◌+◌, ◌-◌, ◌≤◌, ◌<◌, ◌≡◌, refl, Bool, true, false}
use Rattle.std.specs.Prelude.{◌⊎◌, length, get_or, take, drop, Option, is_none}
use Rattle.std.proofs.Common.{sym, ap, ◌∙◌, subst, inl, inr, add-one, arith, take-append-drop, take-suc, take-take, take_at, length-take-le}
use mathlib.Core.List.{List, [], ◌∷◌, ◌++◌, append-nil, Memᴰ}
use mathlib.Core.List.Sublistᴰ
use mathlib.Core.List.{Sublistᴰ}
use Rattle.std.proofs.lemmas.List.{take-append-le}
use Rattle.std.proofs.Math.Seq.{slice_empty}
use Rattle.word.specs.Word.{is_perm, avoids, has}
use Rattle.word.specs.ListLaws.{true_not_false, same_or_not}
use Rattle.word.specs.ContainsLaws.{avoids_sublist}
use Rattle.word.specs.PermLaws.{has_out, has_in, perm_has}
use Rattle.cell.specs.SublistLaws.{sublist_length}
use Rattle.completion.specs.Completion.{begins, completable}
use Rattle.completion.specs.CompletionLaws.{begins_in, completable_out}
use Rattle.arrangement.specs.Said.{said_yes, said_no}
use Rattle.arrangement.specs.declared.searched.Searched.{Searched}
use Rattle.arrangement.specs.declared.searched.Searched.TheVariants.{Completed, Impossible, Undecided}
use Rattle.arrangement.specs.Exchange.{exchange, Rearranged}
use Rattle.arrangement.specs.ExchangeLaws.{take_exchange, rearranged_none, rearranged_more}
use Rattle.arrangement.specs.Searching.{Searches}
use Rattle.arrangement.specs.UnusedLaws.{next_value}
use Rattle.insertion.specs.Insertion.{put_in, NoneAround, PutsIn}

-- a value of a larger word fits in at some place
fits_somewhere : {x w : List ℕ} (v : ℕ) → Sublistᴰ x w → Memᴰ v w → (Memᴰ v x → ⊥) →
    (p : ℕ) × (p ≤ length x) × Sublistᴰ (put_in p v x) w
fits_somewhere v Sublistᴰ.slnil m f = absurd (mathlib.Core.List.Memᴰ.not-nil m)
fits_somewhere v (Sublistᴰ.cons d) (mathlib.Core.List.Memᴰ.head e) f = (0, omega arith, Sublistᴰ.cons-cons e d)
fits_somewhere v (Sublistᴰ.cons d) (mathlib.Core.List.Memᴰ.tail m) f =
    let (p, h, t) = fits_somewhere v d m f in (p, h, Sublistᴰ.cons t)
fits_somewhere v (Sublistᴰ.cons-cons q d) (mathlib.Core.List.Memᴰ.head e) f = absurd (f (mathlib.Core.List.Memᴰ.head (e ∙ sym q)))
fits_somewhere v (Sublistᴰ.cons-cons {l₁ = x} q d) (mathlib.Core.List.Memᴰ.tail m) f =
    let (p, h, t) = fits_somewhere v d m (λ (k : Memᴰ v x). f (mathlib.Core.List.Memᴰ.tail k)) in
    (suc p, omega arith, Sublistᴰ.cons-cons q t)

-- a sublist without the first entry
behind_first : {a b : ℕ} {x w : List ℕ} → Sublistᴰ (a ∷ x) (b ∷ w) → Sublistᴰ x w
behind_first {a} {b} {x} {w} d = go (Sublistᴰ.cases_cons-cons d)
  where
    go : Sublistᴰ (a ∷ x) w ⊎ ((a ≡ b) × Sublistᴰ x w) → Sublistᴰ x w
    go (inl t) = Sublistᴰ.trans (Sublistᴰ.cons (Sublistᴰ.refl x)) t
    go (inr (e, t)) = t

-- where both words begin with the same `fixed` entries, the place is behind them
pub fits_behind : (fixed : ℕ) (x w : List ℕ) (v : ℕ) → fixed ≤ length x → take fixed w ≡ take fixed x → Sublistᴰ x w → Memᴰ v w →
    (Memᴰ v x → ⊥) → (p : ℕ) × (fixed ≤ p) × (p ≤ length x) × Sublistᴰ (put_in p v x) w
fits_behind zero x w v h e d m f = let (p, k, t) = fits_somewhere v d m f in (p, omega arith, k, t)
fits_behind (suc fixed) [] w v h e d m f = absurd (omega arith)
fits_behind (suc fixed) (a ∷ x) [] v h e d m f = absurd (omega (arith, sublist_length d))
fits_behind (suc fixed) (a ∷ x) (b ∷ w) v h e d (mathlib.Core.List.Memᴰ.head q) f =
    let s : b ≡ a = ap (λ (t : List ℕ). get_or t 0 0) e in absurd (f (mathlib.Core.List.Memᴰ.head (q ∙ s)))
fits_behind (suc fixed) (a ∷ x) (b ∷ w) v h e d (mathlib.Core.List.Memᴰ.tail m) f =
    let s : b ≡ a = ap (λ (t : List ℕ). get_or t 0 0) e in
    let (p, k, l, t) = fits_behind fixed x w v (omega arith) (ap (drop 1) e) (behind_first d) m
    (λ (n : Memᴰ v x). f (mathlib.Core.List.Memᴰ.tail n)) in
    (suc p, omega arith, omega arith, Sublistᴰ.cons-cons (sym s) t)

-- exchanged with the entry before it, a value that was put in stands one place before
put_before : (q v : ℕ) (x : List ℕ) → q < length x → exchange q (suc q) (put_in (suc q) v x) ≡ put_in q v x
unfolding exchange
put_before zero v [] h = absurd (omega arith)
put_before zero v (a ∷ x) h = refl
put_before (suc q) v [] h = absurd (omega arith)
put_before (suc q) v (a ∷ x) h = ap (λ (t : List ℕ). a ∷ t) (put_before q v x (omega arith))

put_exchange : (len q v : ℕ) (x w : List ℕ) → length x ≡ len → q < len → take (len + 1) w ≡ put_in (suc q) v x →
    take (len + 1) (exchange q (suc q) w) ≡ put_in q v x
put_exchange len q v x w l h e =
    take_exchange (len + 1) q (suc q) w (omega arith) (omega arith) ∙ ap (exchange q (suc q)) e ∙ put_before q v x (omega arith)

-- the entries before the place stay
put_front : (m p v : ℕ) (x : List ℕ) → m ≤ p → p ≤ length x → take m (put_in p v x) ≡ take m x
put_front m p v x h k =
    take-append-le m (take p x) (v ∷ drop p x) (omega (arith, length-take-le p x k)) ∙ take-take m p x h

-- a word on the way that contains a pattern is part of no avoider
pub none_contained : (P : List (List ℕ)) (n fixed : ℕ) (x : List ℕ) → avoids P x ≡ false → NoneAround P n fixed x
none_contained P n fixed x e w a = true_not_false (sym (avoids_sublist P a.part a.avoids_all) ∙ e)

-- with none around the word at any place behind the fixed entries there is none around it
none_put : (P : List (List ℕ)) (n fixed v : ℕ) (x : List ℕ) → fixed ≤ length x → 1 ≤ v → v ≤ n → has v x ≡ false →
    ((p : ℕ) → fixed ≤ p → p ≤ length x → NoneAround P n fixed (put_in p v x)) → NoneAround P n fixed x
none_put P n fixed v x h low high fresh none w a =
    let m : Memᴰ v w = has_out v w (perm_has w v a.perm low (omega (arith, a.size))) in
    let (p, k, l, t) = fits_behind fixed x w v h a.front a.part m (λ (s : Memᴰ v x). true_not_false (sym (has_in s) ∙ fresh)) in
    none p k l w (record {
      perm = a.perm;
      size = a.size;
      avoids_all = a.avoids_all;
      front = a.front ∙ sym (put_front fixed p v x k l);
      part = t;
    })

-- The places from the last one down: the value stands at `place` in w, and there is none around
-- the word with the value at a place behind that one.
pub record Turns (P : List (List ℕ)) (n fixed : ℕ) (word : List ℕ) (len place : ℕ) (w : List ℕ) : Type 0 where
  pub low : fixed ≤ place
  pub high : place ≤ len
  pub kept : Rearranged n fixed word w
  pub here : take (len + 1) w ≡ put_in place (get_or word len 0) (take len word)
  pub tried : (p : ℕ) → place < p → p ≤ len → NoneAround P n fixed (put_in p (get_or word len 0) (take len word))

module _ (P : List (List ℕ)) (n fixed : ℕ) (word : List ℕ) (len : ℕ) (h : fixed ≤ len) (k : len < n) (l : n ≤ length word) where
  pub turns_start : Turns P n fixed word len len word
  turns_start = record {
    low = h;
    high = omega arith;
    kept = rearranged_none n fixed word;
    here = rw add-one (take-suc word len 0 (omega arith) ∙ last);
    tried = λ (p : ℕ) (a : len < p) (b : p ≤ len). absurd (omega arith);
  }
    where
      last : take len word ++ (get_or word len 0 ∷ []) ≡ put_in len (get_or word len 0) (take len word)
      last = sym (rw (take-take len len word (omega arith), slice_empty len word) refl)

  -- the place that was tried is done as well
  turns_done : (place : ℕ) (w : List ℕ) → Turns P n fixed word len place w → NoneAround P n fixed (take (len + 1) w) →
      (p : ℕ) → place ≤ p → p ≤ len → NoneAround P n fixed (put_in p (get_or word len 0) (take len word))
  turns_done place w t none p a b = go (same_or_not place p)
    where
      go : (place ≡ p) ⊎ (place ≡ p → ⊥) → NoneAround P n fixed (put_in p (get_or word len 0) (take len word))
      go (inl e) = rw (← e, ← t.here) none
      go (inr f) = t.tried p (omega arith) b

  pub turns_more : (place : ℕ) (w : List ℕ) → (place ≡ fixed → ⊥) → Turns P n fixed word len place w →
      NoneAround P n fixed (take (len + 1) w) → Turns P n fixed word len (place - 1) (exchange (place - 1) place w)
  turns_more place w f t none = record {
    low = omega (arith, t.low);
    high = omega (arith, t.high);
    kept = rearranged_more n fixed (place - 1) place word w (omega (arith, t.low)) t.low
        (omega (arith, t.high)) (omega (arith, t.high)) l t.kept;
    here = one_before;
    tried = λ (p : ℕ) (a : place - 1 < p) (b : p ≤ len). turns_done place w t none p (omega (arith, t.low)) b;
  }
    where
      one_before : take (len + 1) (exchange (place - 1) place w) ≡ put_in (place - 1) (get_or word len 0) (take len word)
      one_before =
          let e : place ≡ suc (place - 1) = omega (arith, t.low) in
          subst (λ (m : ℕ). take (len + 1) (exchange (place - 1) m w) ≡ put_in (place - 1) (get_or word len 0) (take len word)) (sym e)
          (put_exchange len (place - 1) (get_or word len 0) (take len word) w (length-take-le len word (omega arith))
          (omega (arith, t.high))
          (t.here ∙ ap (λ (m : ℕ). put_in m (get_or word len 0) (take len word)) e))

  pub turns_end : (place : ℕ) (w : List ℕ) → place ≡ fixed → Turns P n fixed word len place w → is_perm (take n word) ≡ true →
      NoneAround P n fixed (take (len + 1) w) → NoneAround P n fixed (take len word)
  turns_end place w e t p none =
      let (low, high, fresh) = next_value n len word k l p in
      let size = length-take-le len word (omega arith) in
      none_put P n fixed (get_or word len 0) (take len word) (omega (arith, size)) low high fresh
      (λ (q : ℕ) (a : fixed ≤ q) (b : q ≤ length (take len word)). turns_done place w t none q (omega arith) (omega (arith, size)))

-- what the call for one place says is passed on where it is no "none"
pub passed_on : (P : List (List ℕ)) (n fixed : ℕ) (word : List ℕ) (len place : ℕ) (w : List ℕ) (endless : Bool) (r : Searched) →
    fixed ≤ len → Turns P n fixed word len place w → ((b : Option ℕ) → r ≡ Impossible b → ⊥) →
    PutsIn P n fixed (take (len + 1) w) endless r → PutsIn P n fixed (take len word) endless r
passed_on P n fixed word len place w endless r h t e g = record {
  yes = λ (y : said_yes r ≡ true). rw same_front at (g.yes y);
  no = λ (y : said_no r ≡ true). absurd (is_no r y e);
  ends = g.ends;
  left = g.left;
}
  where
    same_front : take fixed (take (len + 1) w) ≡ take fixed (take len word)
    same_front = take-take fixed (len + 1) w (omega arith) ∙ t.kept.front ∙ sym (take-take fixed len word h)

    is_no : (s : Searched) → said_no s ≡ true → ((b : Option ℕ) → s ≡ Impossible b → ⊥) → ⊥
    is_no (Completed x) y f = true_not_false (sym y)
    is_no (Impossible b) y f = f b refl
    is_no Undecided y f = true_not_false (sym y)

-- the ways in which a call ends: none around the word, a whole word, an end of the budget
pub puts_none : (P : List (List ℕ)) (n fixed : ℕ) (x : List ℕ) (endless : Bool) (b : Option ℕ) → is_none b ≡ endless →
    NoneAround P n fixed x → PutsIn P n fixed x endless (Impossible b)
puts_none P n fixed x endless b e none = record {
  yes = λ (y : false ≡ true). absurd (true_not_false (sym y));
  no = λ y. none;
  ends = λ y. refl;
  left = λ d q. let same : b ≡ d = cc in ap is_none (sym same) ∙ e;
}

pub puts_whole : (P : List (List ℕ)) (n fixed : ℕ) (word : List ℕ) (len : ℕ) (endless : Bool) → len ≡ n → n ≤ length word →
    is_perm (take n word) ≡ true → avoids P (take len word) ≡ true → PutsIn P n fixed (take len word) endless (Completed word)
puts_whole P n fixed word len endless h l p a = record {
  yes = λ y. record {
    perm = p;
    size = length-take-le n word l;
    avoids_all = ap (λ (m : ℕ). avoids P (take m word)) (sym h) ∙ a;
    front = ap (λ (m : ℕ). begins (take fixed (take m word)) (take n word)) h ∙
        ap (begins (take fixed (take n word))) (sym (take-append-drop fixed (take n word))) ∙
        begins_in (take fixed (take n word)) (drop fixed (take n word));
  };
  no = λ (y : false ≡ true). absurd (true_not_false (sym y));
  ends = λ y. refl;
  left = λ d q. cc;
}

pub puts_undecided : (P : List (List ℕ)) (n fixed : ℕ) (x : List ℕ) (endless : Bool) →
    endless ≡ false → PutsIn P n fixed x endless Undecided
puts_undecided P n fixed x endless e = record {
  yes = λ (y : false ≡ true). absurd (true_not_false (sym y));
  no = λ (y : false ≡ true). absurd (true_not_false (sym y));
  ends = λ (y : endless ≡ true). absurd (true_not_false (sym y ∙ e));
  left = λ d q. cc;
}

-- with no value put in yet, the answer is that for the fixed entries
pub puts_searches : (P : List (List ℕ)) (n fixed : ℕ) (word : List ℕ) (endless : Bool) (r : Searched) → fixed ≤ length word →
    PutsIn P n fixed (take fixed word) endless r → Searches P n (take fixed word) r
puts_searches P n fixed word endless r l g = record {
  yes = λ (y : said_yes r ≡ true). rw (take-take fixed fixed word (omega arith)) at (g.yes y);
  no = λ (y : said_no r ≡ true). not_so (completable P n (take fixed word)) refl (g.no y);
}
  where
    not_so : (b : Bool) → completable P n (take fixed word) ≡ b → NoneAround P n fixed (take fixed word) → b ≡ false
    not_so true e none =
        let (s, p, size, a) = completable_out P n (take fixed word) e in
        absurd (none (take fixed word ++ s) (record {
          perm = p;
          size = size;
          avoids_all = a;
          front = take_at (take fixed word) s fixed (length-take-le fixed word l) ∙ sym (take-take fixed fixed word (omega arith));
          part = rw (append-nil (take fixed word)) at (Sublistᴰ.append (Sublistᴰ.refl (take fixed word)) (Sublistᴰ.nil-sublist s));
        }))
    not_so false e none = refl
