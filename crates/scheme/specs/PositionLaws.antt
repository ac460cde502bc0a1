-- Laws of a set of positions that passes test 7: it rises within 1 to k, so it is no longer than k,
-- and a word without these positions is shorter by their number.
use Rattle.std.specs.Prelude.{ℕ, zero, suc, ◌+◌, ◌≤◌, ◌<◌, ◌≡◌, refl, Bool, true, false, cond, ◌||◌, List, [], ◌∷◌, ◌⊎◌, length, get_or}
use Rattle.std.specs.Prelude.{drop, leb, ltb, eqb}
use Rattle.std.proofs.Common.{subst, arith, ap, ◌∙◌, inl, inr, leb-false, ltb-false, eq-eqb, ne_eqb, le-ltb}
use Rattle.std.proofs.lemmas.Bool.{eqb-false, lt-leb}
use Rattle.word.specs.Lists.{all}
use Rattle.word.specs.Word.{within, has, distinct}
use Rattle.word.specs.ListLaws.{and_in, same_or_not}
use Rattle.word.specs.PermLaws.{within_in}
use Rattle.cell.specs.Cell.{deleted}
use Rattle.cell.proofs.WithoutLaws.{without_from, without_from_lem, from_passed}
use Rattle.cell.proofs.DeletionLaws.{deleted_length}
use Rattle.forms.specs.SchemeList.{deletes}
use Rattle.scheme.specs.WellFormed.{astray, outside}
use Rattle.scheme.specs.TestLaws.{or_left, or_right}

-- one position: above the one before it, at most k, and so are those behind it
module _ (k a r : ℕ) (R : List ℕ) (e : astray k a (r ∷ R) ≡ false) where
  here : leb r a || ltb k r ≡ false
  here = or_left (leb r a || ltb k r) (astray k r R) e

  above : a < r
  above = leb-false r a (or_left (leb r a) (ltb k r) here)

  below : r ≤ k
  below = ltb-false k r (or_right (leb r a) (ltb k r) here)

  behind : astray k r R ≡ false
  behind = or_right (leb r a || ltb k r) (astray k r R) e

-- A list that rises within 1 to k is no longer than k.
rising_few : (k a : ℕ) (R : List ℕ) → a ≤ k → astray k a R ≡ false → a + length R ≤ k
rising_few k a [] h e = omega arith
rising_few k a (r ∷ R) h e = omega (arith, above k a r R e, rising_few k r R (below k a r R e) (behind k a r R e))

rising_inside : (k a : ℕ) (R : List ℕ) → astray k a R ≡ false → all (within k) R ≡ true
rising_inside k a [] e = refl
rising_inside k a (r ∷ R) e =
    and_in (within k r) (all (within k) R) (within_in k r (omega (arith, above k a r R e)) (below k a r R e))
    (rising_inside k r R (behind k a r R e))

-- the position at an index lies above a, those behind it rise above it, and there is room for them
pub rising_at : (k a t : ℕ) (R : List ℕ) → astray k a R ≡ false → t < length R →
    (a < get_or R t 0) × (astray k (get_or R t 0) (drop (suc t) R) ≡ false) × (get_or R t 0 + length (drop (suc t) R) ≤ k)
rising_at k a t [] e h = absurd (omega arith)
rising_at k a zero (r ∷ R) e h = (above k a r R e, behind k a r R e, rising_few k r R (below k a r R e) (behind k a r R e))
rising_at k a (suc t) (r ∷ R) e h =
    let (low, rise, room) = rising_at k r t R (behind k a r R e) (omega arith) in
    (omega (arith, low, above k a r R e), rise, room)

-- no position of a list that rises above i is i
pub has_none : (k a i : ℕ) (R : List ℕ) → i ≤ a → astray k a R ≡ false → has i R ≡ false
unfolding has
has_none k a i [] h e = refl
has_none k a i (r ∷ R) h e =
    let l = above k a r R e in
    rw (ne_eqb i r (λ (q : i ≡ r). omega arith)) (has_none k r i R (omega arith) (behind k a r R e))

-- so it has no position twice
rising_distinct : (k a : ℕ) (R : List ℕ) → astray k a R ≡ false → distinct R ≡ true
unfolding distinct
rising_distinct k a [] e = refl
rising_distinct k a (r ∷ R) e =
    rw (has_none k r r R (omega arith) (behind k a r R e)) (rising_distinct k r R (behind k a r R e))

module _ (k : ℕ) (R : List ℕ) (inside : outside k (deletes R) ≡ false) where
  pub positions_rise : astray k 0 R ≡ false
  positions_rise = or_right (eqb (length R) 0) (astray k 0 R) inside

  -- each lies within 1 to k
  pub positions_inside : all (within k) R ≡ true
  positions_inside = rising_inside k 0 R positions_rise

  -- none stands twice
  pub positions_distinct : distinct R ≡ true
  positions_distinct = rising_distinct k 0 R positions_rise

  -- there is one
  pub positions_some : 1 ≤ length R
  positions_some =
      let n : length R ≡ 0 → ⊥ = eqb-false (length R) 0 (or_left (eqb (length R) 0) (astray k 0 R) inside) in
      omega arith

  -- there are at most k
  pub positions_few : length R ≤ k
  positions_few = omega (arith, rising_few k 0 R (omega arith) positions_rise)

-- more than k positions are refused, whatever they are
pub positions_many : (k : ℕ) (R : List ℕ) → k < length R → outside k (deletes R) ≡ true
positions_many k R h = go (outside k (deletes R)) refl
  where
    go : (b : Bool) → outside k (deletes R) ≡ b → b ≡ true
    go true e = refl
    go false e = absurd (omega (arith, positions_few k R e))

-- The length of a word without the positions

-- what rises above a number rises above every number below its first position
above_other : (k a b r : ℕ) (R : List ℕ) → b < r → astray k a (r ∷ R) ≡ false → astray k b (r ∷ R) ≡ false
above_other k a b r R h e = rw (lt-leb r b h, le-ltb k r (below k a r R e)) (behind k a r R e)

-- positions from i on, one after the other
from_size : (i : ℕ) (R w : List ℕ) → astray (i + length w) i R ≡ false → length (without_from R (suc i) w) + length R ≡ length w
unfolding without_from has
from_size i [] [] e = refl
from_size i (r ∷ R) [] e = absurd (omega (arith, above (i + 0) i r R e, below (i + 0) i r R e))
from_size i [] (x ∷ w) e = omega (arith, from_size (suc i) [] w refl)
from_size i (r ∷ R) (x ∷ w) e =
    go (λ (h : astray (suc i + length w) (suc i) R ≡ false). from_size (suc i) R w h)
    (λ (h : astray (suc i + length w) (suc i) (r ∷ R) ≡ false). from_size (suc i) (r ∷ R) w h) (same_or_not (suc i) r)
  where
    k : i + suc (length w) ≡ suc i + length w
    k = omega arith

    moved : astray (suc i + length w) i (r ∷ R) ≡ false
    moved = subst (λ (n : ℕ). astray n i (r ∷ R) ≡ false) k e

    go : (astray (suc i + length w) (suc i) R ≡ false → length (without_from R (suc (suc i)) w) + length R ≡ length w) →
        (astray (suc i + length w) (suc i) (r ∷ R) ≡ false →
        length (without_from (r ∷ R) (suc (suc i)) w) + suc (length R) ≡ length w) →
        (suc i ≡ r) ⊎ (suc i ≡ r → ⊥) → length (cond (has (suc i) (r ∷ R)) (without_from (r ∷ R) (suc (suc i)) w)
        (x ∷ without_from (r ∷ R) (suc (suc i)) w)) + suc (length R) ≡ suc (length w)
    go gone kept (inl q) =
        let next : astray (suc i + length w) (suc i) R ≡ false = rw (← q) at (behind (suc i + length w) i r R moved) in
        rw (eq-eqb (suc i) r q) (omega (arith, ap length (from_passed r (suc (suc i)) R w (omega arith)), gone next))
    go gone kept (inr q) =
        let far : suc i < r = (let l = above (suc i + length w) i r R moved in omega arith) in
        let next = above_other (suc i + length w) i (suc i) r R far moved in
        rw (has_none (suc i + length w) (suc i) (suc i) (r ∷ R) (omega arith) next) (omega (arith, kept next))

pub deleted_size : (R p : List ℕ) → outside (length p) (deletes R) ≡ false → length (deleted R p) + length R ≡ length p
deleted_size R p e =
    let n : length (deleted R p) ≡ length (without_from R 1 p) = deleted_length R p ∙ ap length (without_from_lem R p) in
    let o : 0 + length p ≡ length p = omega arith in
    omega (arith, from_size 0 R p (rw o (positions_rise (length p) R e)))
