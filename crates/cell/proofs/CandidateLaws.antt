-- The candidates decide the deletion claim: no compared spacing has a violation exactly if the
-- claim holds.
use Prim.Native.Nat.{ℕ, suc, ◌+◌, ◌≤◌, ◌<◌}
use Rattle.std.proofs.Common.{zero-add, suc-add, add-suc, add-zero, arith, sym, ap, ◌∙◌, ltb-true, lt-ltb}
use Rattle.std.specs.Prelude.{◌≡◌, ◌↔◌, ◌&&◌, cond, length, get_or, ltb}
use Rattle.std.proofs.Math.Path.{refl}
use Rattle.std.proofs.Math.Bool.{Bool, true, false}
use mathlib.Core.List.{List, [], ◌∷◌, map, Memᴰ}
use mathlib.Core.List.Sublistᴰ
use mathlib.Core.List.{Sublistᴰ}
use Rattle.word.specs.Lists.{all, any}
use Rattle.word.specs.Word.{iso, avoids, longest, under, reduce, has, distinct, within, is_perm, entry}
use Rattle.word.specs.ListLaws.{true_not_false, and_left, and_right, and_in, fails_with, any_out, any_in}
use Rattle.word.specs.ContainsLaws.{contains_in, avoids_not}
use Rattle.word.specs.PermLaws.{has_out, has_in, perm_reduce, length_reduce}
use Rattle.cell.specs.Cell.{total, without, compared_to}
use Rattle.cell.specs.Claim.{DeletionClaim}
use Rattle.cell.specs.Built.{level, built}
use Rattle.cell.specs.Candidate.{place, hit, violates, violated, rest_of, irreversible}
use Rattle.cell.proofs.SpacingWalk.{compared_are, compared_all}
use Rattle.word.specs.ListLaws.{sublist_mem}
use Rattle.cell.proofs.RestLaws.{Within, built_sublist}
use Rattle.cell.proofs.FiniteTest.{Agrees, Clean}
use Rattle.cell.proofs.WithoutLaws.{without_from, without_from_lem}
use Rattle.cell.proofs.PlaceLaws.{Placed, place_out, place_in, head_of, tail_of, cut_joined, tail_length}
use Rattle.cell.proofs.PlaceLaws.{tail_distinct, copy_in, Cut, copy_out}
use Rattle.cell.proofs.Theorems.{prefix_within, claim_of_clean, agrees_of_claim}

module _ {A : Type 0} where
  -- where no element passes, each fails
  any_fails : (f : A → Bool) {x : A} {l : List A} → any f l ≡ false → Memᴰ x l → f x ≡ false
  any_fails f {x} {l} h m = fails_with (f x) (any f l) (any_in f m) h

  -- where each fails, none passes
  none_any : (f : A → Bool) (l : List A) → ((x : A) → Memᴰ x l → f x ≡ false) → any f l ≡ false
  none_any f l h = go (any f l) refl
    where
      go : (t : Bool) → any f l ≡ t → t ≡ false
      go true e = let (x, m, k) = any_out f l e in absurd (true_not_false (sym k ∙ h x m))
      go false e = refl

-- a sublist with no entry that stands at a position of R, where the first position of w is i
kept_from_lem : (R : List ℕ) (i : ℕ) {a w : List ℕ} → Sublistᴰ a w →
    ((j : ℕ) → j < length w → has (i + j) R ≡ true → Memᴰ (get_or w j 0) a → ⊥) →
    Sublistᴰ a (without_from R i w)
unfolding without_from
kept_from_lem R i Sublistᴰ.slnil h = Sublistᴰ.slnil
kept_from_lem R i (Sublistᴰ.cons {a = y} {l₁ = a} {l₂ = w} d) h = go (has i R) (kept_from_lem R (suc i) d later)
  where
    later : (j : ℕ) → j < length w → has (suc i + j) R ≡ true → Memᴰ (get_or w j 0) a → ⊥
    later j l e m = h (suc j) (omega arith) (rw (add-suc, ← suc-add) e) m

    go : (b : Bool) → Sublistᴰ a (without_from R (suc i) w) → Sublistᴰ a (cond b (without_from R (suc i) w) (y ∷ without_from R (suc i) w))
    go true s = s
    go false s = Sublistᴰ.cons s
kept_from_lem R i (Sublistᴰ.cons-cons {a = x} {b = y} {l₁ = a} {l₂ = w} q d) h = go (has i R) refl (kept_from_lem R (suc i) d later)
  where
    later : (j : ℕ) → j < length w → has (suc i + j) R ≡ true → Memᴰ (get_or w j 0) a → ⊥
    later j l e m = h (suc j) (omega arith) (rw (add-suc, ← suc-add) e) (mathlib.Core.List.Memᴰ.tail m)

    go : (b : Bool) → has i R ≡ b → Sublistᴰ a (without_from R (suc i) w) →
        Sublistᴰ (x ∷ a) (cond b (without_from R (suc i) w) (y ∷ without_from R (suc i) w))
    go true e s = absurd (h 0 (omega arith) (rw add-zero e) (mathlib.Core.List.Memᴰ.head (sym q)))
    go false e s = Sublistᴰ.cons-cons q s

-- x is the entry of w at a position of R
abbrev pub gone : List ℕ → List ℕ → ℕ → Bool
gone w R x = has x (map (entry w) R)

-- a sublist of w that has no entry of the positions R is a sublist of what is left without them
pub sublist_kept : (R : List ℕ) {a w : List ℕ} → Sublistᴰ a w → any (gone w R) a ≡ false → Sublistᴰ a (without R w)
unfolding entry
sublist_kept R {a} {w} d h = rw (without_from_lem R w) (kept_from_lem R 1 d used)
  where
    used : (j : ℕ) → j < length w → has (1 + j) R ≡ true → Memᴰ (get_or w j 0) a → ⊥
    used j l e m =
        let k : Memᴰ (suc j) R = has_out (suc j) R (rw (suc-add, zero-add) at e) in
        true_not_false (sym (any_in (gone w R) m (has_in (mathlib.Core.List.Memᴰ.map (entry w) k))) ∙ h)

-- A pattern hits exactly if it has a copy with a part of the prefix, a deleted value in it, and the
-- whole rest.

hit_out : (p R g β : List ℕ) → hit p R g β ≡ true →
    (total g < length β) × Placed (under (tail_of β (total g))) (level g) (gone p R) false [] [] (head_of β (total g)) p
unfolding hit iso
hit_out p R g β h =
    let found : Bool = place (under (tail_of β (total g))) (level g) (gone p R) false [] [] (head_of β (total g)) p in (
      ltb-true (total g) (length β) (and_left (ltb (total g) (length β)) found h),
      place_out (under (tail_of β (total g))) (level g) (gone p R) false [] [] (head_of β (total g)) p
          (and_right (ltb (total g) (length β)) found h) refl,
    )

pub hit_in : (p R g β a σ : List ℕ) → Cut β a g σ → Sublistᴰ a p → any (gone p R) a ≡ true → hit p R g β ≡ true
unfolding hit
hit_in p R g β a σ c d e =
    and_in (ltb (total g) (length β)) (place (under (tail_of β (total g))) (level g) (gone p R) false [] [] (head_of β (total g)) p)
    (lt-ltb (total g) (length β) c.short)
    (place_in (under (tail_of β (total g))) (level g) (gone p R) false [] [] (head_of β (total g)) d refl c.levels c.copy e)

module _ (P : List (List ℕ)) (p R : List ℕ) (perm : is_perm p ≡ true) (apart : (β : List ℕ) → Memᴰ β P → distinct β ≡ true)
    (g : List ℕ) (size : length g ≡ suc (length p)) where
  -- without a violation at g no copy of a pattern is lost ..
  pub clean_of_candidates : violated P p R g ≡ false → Clean P p (without R p) g
  unfolding violated violates
  clean_of_candidates h β m a d some σ sp sl i = go (any (gone p R) a) refl
    where
      lost : any (gone p R) a ≡ true → Cut β a g σ → avoids P (built (without R p) g σ) ≡ false
      lost e c =
          rw c.rest (ap (λ (t : Bool). t && avoids P (built (without R p) g (reduce (tail_of β (total g)))))
          (sym (hit_in p R g β a σ c d e)) ∙
          any_fails (violates P p R g) h m)

      go : (t : Bool) → any (gone p R) a ≡ t → avoids P (built (without R p) g σ) ≡ false
      go true e = lost e (copy_out β a g σ (apart β m) sp sl
          (λ (x : ℕ) (n : Memᴰ x a). prefix_within p g perm size x (sublist_mem d n)) some i)
      go false e = avoids_not P (built (without R p) g σ) m (contains_in β (built_sublist g (sublist_kept R d e) (Sublistᴰ.refl σ)) i)

  -- A pattern that violates: the rest that its last entries make avoids without the deleted
  -- positions, and not with them.
  pub violates_out : (β : List ℕ) → Memᴰ β P → violates P p R g β ≡ true →
      (is_perm (rest_of β (total g)) ≡ true) × (length (rest_of β (total g)) ≡ total g) ×
      (avoids P (built (without R p) g (rest_of β (total g))) ≡ true) × (avoids P (built p g (rest_of β (total g))) ≡ false)
  unfolding violates
  violates_out β m e =
      let avoiding : Bool = avoids P (built (without R p) g rest) in
      let (l, f) = hit_out p R g β (and_left (hit p R g β) avoiding e) in
      let w : Within f.at g = λ (x : ℕ) (n : Memᴰ x f.at). prefix_within p g perm size x (sublist_mem f.part n) in
      let i : iso β (built f.at g rest) ≡ true =
      rw (cut_joined β (total g)) at (copy_in (head_of β (total g)) (tail_of β (total g)) f.at g w f.copy f.levels) in (
        perm_reduce (tail_of β (total g)) (tail_distinct β (total g) (apart β m)),
        length_reduce (tail_of β (total g)) ∙ tail_length β (total g) (omega arith),
        and_right (hit p R g β) avoiding e,
        avoids_not P (built p g rest) m (contains_in β (built_sublist g f.part (Sublistᴰ.refl rest)) i),
      )
    where
      rest : List ℕ
      rest = rest_of β (total g)

  -- .. and if no rest is lost, there is no violation.
  pub candidates_of_agrees : Agrees P p (without R p) g → violated P p R g ≡ false
  unfolding violated
  candidates_of_agrees agree = none_any (violates P p R g) P (λ β m. go β m (violates P p R g β) refl)
    where
      go : (β : List ℕ) → Memᴰ β P → (t : Bool) → violates P p R g β ≡ t → t ≡ false
      go β m true e =
          let (s, l, a, n) = violates_out β m e in absurd (true_not_false (sym (agree (rest_of β (total g)) s l a) ∙ n))
      go β m false e = refl

-- The candidates find no violation at the spacings compared under m exactly if the deletion claim
-- holds at every length, for every m that is at least the length of the longest pattern.
pub irreversible_law : (m : ℕ) (P : List (List ℕ)) → longest P ≤ m → (p R : List ℕ) → is_perm p ≡ true →
    all (within (length p)) R ≡ true → ((β : List ℕ) → Memᴰ β P → distinct β ≡ true) → (B : List (List ℕ)) →
    (irreversible m P p B R ≡ false) ↔ DeletionClaim P p B R
unfolding irreversible
irreversible_law m P reach p R perm inside apart B = (
  λ h. claim_of_clean P p R perm inside B
      (λ g size f t. clean_of_candidates P p R perm apart g size (any_fails (violated P p R) h
      (compared_all m (length p) B g size (omega arith) f))),
  λ claim. none_any (violated P p R) (compared_to m (length p) B)
      (λ g d. let (size, t, f) = compared_are m (length p) B d in
      candidates_of_agrees P p R perm apart g size (agrees_of_claim P p R perm inside B claim g size f)),
)
