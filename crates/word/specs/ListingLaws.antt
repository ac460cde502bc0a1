-- Laws of the first and the next avoider: what they are, and that following next from the first
-- gives the list of all avoiders.
use Rattle.std.specs.Prelude.{ℕ, ◌≡◌, refl, Bool, true, false, cond, List, [], ◌∷◌, ◌++◌, length, get_or, ◌<◌}
use Rattle.std.proofs.Common.{sym, ap, subst, ◌∙◌, append_assoc, map-id, arith}
use mathlib.Core.List.Memᴰ
use Rattle.std.proofs.Math.Option.{Option, none, some}
use Rattle.word.specs.Lists.{all, first}
use Rattle.word.specs.Word.{is_perm, avoids, avoiders, before}
use Rattle.word.specs.Listing.{head_of, first_avoider, next_avoider, Follows, LeastAvoider}
use Rattle.word.specs.ListLaws.{true_not_false, and_left, and_right, all_out, first_some}
use Rattle.word.specs.CopyLaws.{before_irrefl}
use Rattle.word.specs.AscendLaws.{ascends, ascends_once, avoiders_are, avoiders_all, avoiders_ascend}
use Rattle.word.specs.FirstLaws.{none_first, before_asym, first_ordered}

-- the first avoider for which a test holds
pub first_least : (P : List (List ℕ)) (n : ℕ) (f : List ℕ → Bool) (v : List ℕ) → first f (avoiders P n) ≡ some v → LeastAvoider P n f v
first_least P n f v e =
    let (m, t) = first_some f (avoiders P n) v e in
    let (p, l, a) = avoiders_are P n m in record {
      perm = p;
      size = l;
      avoids_all = a;
      holds = t;
      least = λ x q k b g. first_ordered (λ w. w) f (avoiders P n) v x
          (ap ascends (map-id (avoiders P n)) ∙ avoiders_ascend P n) e (avoiders_all P n x q k b) g;
    }

-- The next is an avoider of the same length, comes after w, and no avoider stands between.
pub next_given : (P : List (List ℕ)) (w v : List ℕ) → next_avoider P w ≡ some v → LeastAvoider P (length w) (before w) v
unfolding next_avoider
next_given P w v e = first_least P (length w) (before w) v e

-- Where there is none, no avoider of that length comes after w.
pub next_none : (P : List (List ℕ)) (w x : List ℕ) → next_avoider P w ≡ none → is_perm x ≡ true → length x ≡ length w →
    avoids P x ≡ true → before w x ≡ false
unfolding next_avoider
next_none P w x e p l a = none_first (before w) (avoiders P (length w)) e x (avoiders_all P (length w) x p l a)

-- the head of a list is the first that passes the test that all pass
pub head_first : (l : List (List ℕ)) → head_of l ≡ first (λ w. true) l
unfolding head_of
head_first [] = refl
head_first (w ∷ l) = refl

-- The first is an avoider, and no avoider of that length comes before it.
pub first_given : (P : List (List ℕ)) (n : ℕ) (v : List ℕ) → first_avoider P n ≡ some v → LeastAvoider P n (λ w. true) v
unfolding first_avoider
first_given P n v e = first_least P n (λ w. true) v (sym (head_first (avoiders P n)) ∙ e)

-- Where there is none, no permutation of that length avoids the patterns.
pub first_none_avoids : (P : List (List ℕ)) (n : ℕ) (x : List ℕ) → first_avoider P n ≡ none → is_perm x ≡ true → length x ≡ n →
    avoids P x ≡ true → ⊥
unfolding first_avoider
first_none_avoids P n x e p l a =
    true_not_false (none_first (λ w. true) (avoiders P n) (sym (head_first (avoiders P n)) ∙ e) x (avoiders_all P n x p l a))

-- behind a word of an ascending list comes the head of what is left
behind_head : (x : List ℕ) (v : List (List ℕ)) → all (before x) v ≡ true → first (before x) v ≡ head_of v
unfolding head_of
behind_head x [] a = refl
behind_head x (y ∷ v) a =
    ap (λ (b : Bool). cond b (some y) (first (before x) v)) (and_left (before x y) (all (before x) v) a)

pub next_behind : (u : List (List ℕ)) (x : List ℕ) (v : List (List ℕ)) → ascends (u ++ (x ∷ v)) ≡ true →
    first (before x) (u ++ (x ∷ v)) ≡ head_of v
unfolding ascends
next_behind [] x v a =
    ap (λ (b : Bool). cond b (some x) (first (before x) v)) (before_irrefl x) ∙
    behind_head x v (and_left (all (before x) v) (ascends v) a)
next_behind (y ∷ u) x v a =
    let l = u ++ (x ∷ v) in
    let h : before y x ≡ true =
    all_out (before y) (Memᴰ.append_right u (Memᴰ.head refl)) (and_left (all (before y) l) (ascends l) a) in
    ap (λ (b : Bool). cond b (some y) (first (before x) l)) (not_after (before x y) refl h) ∙
    next_behind u x v (and_right (all (before y) l) (ascends l) a)
  where
    not_after : (b : Bool) → before x y ≡ b → before y x ≡ true → before x y ≡ false
    not_after true e h = absurd (before_asym x y e h)
    not_after false e h = e

-- Starting at the first and following next until there is none gives the list of the avoiders
-- itself: every avoider appears.
pub follows_avoiders : (P : List (List ℕ)) (n : ℕ) → Follows P (first_avoider P n) (avoiders P n)
unfolding first_avoider head_of next_avoider Follows
follows_avoiders P n = go [] (avoiders P n) refl
  where
    rest : (u : List (List ℕ)) (x : List ℕ) (v : List (List ℕ)) → avoiders P n ≡ u ++ (x ∷ v) → next_avoider P x ≡ head_of v
    rest u x v e =
        let (p, l, a) = avoiders_are P n {w = x} (rw e (Memᴰ.append_right u (Memᴰ.head refl))) in
        ap (λ (k : ℕ). first (before x) (avoiders P k)) l ∙ ap (first (before x)) e ∙
        next_behind u x v (ap ascends (sym e) ∙ avoiders_ascend P n)

    go : (u v : List (List ℕ)) → avoiders P n ≡ u ++ v → Follows P (head_of v) v
    go u [] e = refl
    go u (x ∷ v) e = (
      refl,
      subst (λ (o : Option (List ℕ)). Follows P o v) (sym (rest u x v e))
          (go (u ++ (x ∷ [])) v (e ∙ sym (append_assoc u (x ∷ []) v))),
    )

none_some : (w : List ℕ) → none ≡ some w → ⊥
none_some w e = let z : ◌≡◌ {A = ℕ} 0 1 = cc in absurd (omega arith)

some_injective : {v w : List ℕ} → some v ≡ some w → v ≡ w
some_injective e = cc

-- and gives no other list
pub follows_once : (P : List (List ℕ)) (o : Option (List ℕ)) (k l : List (List ℕ)) → Follows P o k → Follows P o l → k ≡ l
unfolding Follows
follows_once P o [] [] f g = refl
follows_once P o [] (w ∷ l) f g = absurd (none_some w (sym f ∙ g.0))
follows_once P o (v ∷ k) [] f g = absurd (none_some v (sym g ∙ f.0))
follows_once P o (v ∷ k) (w ∷ l) f g =
    let e : v ≡ w = some_injective (sym f.0 ∙ g.0) in
    ap (λ (t : List ℕ). t ∷ k) e ∙
    ap (λ (t : List (List ℕ)). w ∷ t) (follows_once P (next_avoider P w) k l
    (subst (λ (t : List ℕ). Follows P (next_avoider P t) k) e f.1) g.1)

-- so none appears twice
pub follows_ascends : (P : List (List ℕ)) (n : ℕ) (l : List (List ℕ)) → Follows P (first_avoider P n) l → ascends l ≡ true
follows_ascends P n l f =
    ap ascends (follows_once P (first_avoider P n) l (avoiders P n) f (follows_avoiders P n)) ∙ avoiders_ascend P n

pub follows_apart : (P : List (List ℕ)) (n : ℕ) (l : List (List ℕ)) → Follows P (first_avoider P n) l →
    (i j : ℕ) → i < j → j < length l → get_or l i [] ≡ get_or l j [] → ⊥
follows_apart P n l f i j h k q = ascends_once l i j (follows_ascends P n l f) h k q

-- and their number is that of the avoiders
pub follows_number : (P : List (List ℕ)) (n : ℕ) (l : List (List ℕ)) → Follows P (first_avoider P n) l → length l ≡ length (avoiders P n)
follows_number P n l f = ap length (follows_once P (first_avoider P n) l (avoiders P n) f (follows_avoiders P n))
