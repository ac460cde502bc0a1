-- The cells that a step goes through, and the sums of what they hold, term by term.
-- Assumes nothing.
use Prim.Native.Nat.{ℕ, suc, ◌+◌, ◌*◌, ◌-◌, min, ◌≤◌, ◌<◌}
use native.Mathlib.Nat.{zero-add}
use native.Mathlib.Numerals.{add-one}
use native.Mathlib.Omega.{arith}
use mathlib.Core.Path.{◌≡◌, refl, sym, ap, ap₂, ◌∙◌, subst}
use mathlib.Core.List.{List, [], ◌∷◌, ◌++◌, map, map-append}
use lib.ListN.{length, get_or, take, drop, length-drop, drop_of_length-le}
use lib.Seq.{length-take-le, get_or-take, drop-cons}
use Rattle.word.specs.Ceilings.{COMPONENTS, PREFIX, LENGTH, COUNTS}
use Rattle.cell.specs.Cell.{total}
use Rattle.cell.specs.Binomial.{binomial}
use Rattle.spacing.specs.Sizes.{CHOICES, RANKS}
use Rattle.spacing.specs.Rank.{rank_from, rank_after}
use Rattle.spacing.specs.RankLaws.{after_head}
use Rattle.spacing.specs.PascalLaws.{binomial_small}
use Rattle.spacing.specs.TotalLaws.{total_append}
use Rattle.count_step.specs.Step.{held}
use Rattle.count_step.specs.Sums.{part_places, places_from, places_of, sum_of}

-- the spacing has one component more than the prefix
pub spacing_size : (k : ℕ) (g : List ℕ) → length g ≡ COMPONENTS → k ≤ PREFIX → length (take (k + 1) g) ≡ k + 1
spacing_size k g seven short = length-take-le (k + 1) g (omega (arith, seven, short))

-- one of its components, as it is read
pub component : (k i x : ℕ) (g : List ℕ) → x ≡ get_or g i 0 → i ≤ k → x ≡ get_or (take (k + 1) g) i 0
component k i x g e h = e ∙ sym (get_or-take (k + 1) g i 0 (omega arith))

-- the last component, behind the loop
pub last_component : (k i x : ℕ) (g : List ℕ) → x ≡ get_or g k 0 → k ≡ i → x ≡ get_or (take (k + 1) g) i 0
last_component k i x g e q = component k k x g e (omega arith) ∙ ap (λ (j : ℕ). get_or (take (k + 1) g) j 0) q

-- the first cell of a part, and the others
pub part_cut : (at col z end : ℕ) → z < end →
    part_places at col z (end - z) ≡ (at + binomial z col) ∷ part_places at col (z + 1) (end - (z + 1))
part_cut at col z end h =
    let e : end - z ≡ suc (end - (z + 1)) = omega arith in
    rw (e, add-one z) refl

-- Sums with a cap M, term by term

module _ (M : ℕ) where
  -- one term more
  pub cap_more : (s x r n : ℕ) → n ≡ min (s + x) M → min (n + r) M ≡ min (s + (x + r)) M
  cap_more s x r n e = omega arith

  -- a sum that is at its end
  pub cap_end : (s t : ℕ) → s ≤ M → min (s + 0) M ≡ min t M → s ≡ min t M
  cap_end s t h e = omega arith

  -- a part that is itself a sum with the cap
  pub cap_part : (s x : ℕ) → min (s + min x M) M ≡ min (s + x) M
  cap_part s x = omega arith

  -- The sum over a component: what is summed, and what is still to come.
  pub record Part (T : List ℕ) (at col first n end sum z : ℕ) : Type 0 where
    pub whole : min (sum + sum_of T (part_places at col z (end - z))) M ≡ min (sum_of T (part_places at col first n)) M
    pub high : z ≤ end
    pub low : sum ≤ M

  module _ (T : List ℕ) (at col first n : ℕ) where
    pub part_start : Part T at col first n (first + n) 0 first
    part_start =
        let e : first + n - first ≡ n = omega arith in
        record {
          whole = rw e (ap (λ m. min m M) (zero-add (sum_of T (part_places at col first n))));
          high = omega arith;
          low = omega arith;
        }

    module _ (end sum z : ℕ) (p : Part T at col first n end sum z) where
      part_next : z < end → sum_of T (part_places at col z (end - z)) ≡
          get_or T (at + binomial z col) 0 + sum_of T (part_places at col (z + 1) (end - (z + 1)))
      unfolding total
      part_next h = ap (sum_of T) (part_cut at col z end h)

      pub part_more : (x y : ℕ) → z < end → x ≡ get_or T (at + binomial z col) 0 → y ≡ min (sum + x) M → Part T at col first n end y (z + 1)
      part_more x y h e f =
          record {
            whole = cap_more sum x (sum_of T (part_places at col (z + 1) (end - (z + 1)))) y f ∙
                ap (λ r. min (sum + r) M) (ap (λ u. u + sum_of T (part_places at col (z + 1) (end - (z + 1)))) e ∙ sym (part_next h)) ∙
                p.whole;
            high = omega arith;
            low = omega arith;
          }

      pub part_end : end ≤ z → sum ≡ min (sum_of T (part_places at col first n)) M
      unfolding total
      part_end h =
          let e : end - z ≡ 0 = omega arith in
          cap_end sum (sum_of T (part_places at col first n)) p.low
          (ap (λ r. min (sum + sum_of T (part_places at col z r)) M) (sym e) ∙ p.whole)

  -- the cells of one component more, and those behind them
  pub cap_cells : (T : List ℕ) (s p n : ℕ) (here rest : List ℕ) → p ≡ min (sum_of T here) M → n ≡ min (s + p) M →
      min (n + sum_of T rest) M ≡ min (s + sum_of T (here ++ rest)) M
  cap_cells T s p n here rest pe ne =
      let X : ℕ = sum_of T here in
      let both : sum_of T (here ++ rest) ≡ X + sum_of T rest = ap total (map-append (held T) here rest) ∙
      total_append (map (held T) here) (map (held T) rest) in
      let sum_is : n ≡ min (s + X) M = ne ∙ ap (λ m. min (s + m) M) pe ∙ cap_part s X in
      cap_more s X (sum_of T rest) n sum_is ∙ ap (λ m. min (s + m) M) (sym both)

-- How large ranks are

from_small : (i z : ℕ) (g : List ℕ) → z + total g + length g ≤ LENGTH → rank_from i z g ≤ length g * CHOICES
unfolding rank_from total
from_small i z [] h = omega arith
from_small i z (y ∷ g) h = omega (arith, from_small (suc i) (suc z + y) g (omega arith), binomial_small z (suc i) (omega arith))

pub after_small : (i a : ℕ) (g : List ℕ) → a + total g + length g ≤ COUNTS → rank_after i a g ≤ length g * CHOICES
unfolding rank_after total
after_small i a [] h = omega arith
after_small i a (x ∷ g) h = omega (arith, from_small i (a + x) g (omega arith))

-- The cells of every next entry, component by component: what is still to come. G is the spacing, z
-- the first value of component i; `left` says of the cells that are left what is kept of them.
pub record Coming (left : List ℕ → Type 0) (links G : List ℕ) (k above below z i : ℕ) : Type 0 where
  pub rest : left (places_from links i below z (drop i G))
  pub high : above ≡ rank_after (i + 1) z (drop i G)
  pub fits : z + total (drop i G) + (k - i) ≤ LENGTH
  pub low : below ≤ i * CHOICES
  pub reach : i ≤ k

module _ (links G : List ℕ) (k : ℕ) (size : length G ≡ k + 1) where
  pub coming_start : (left : List ℕ → Type 0) (a : ℕ) → a ≡ rank_after 1 0 G → k + total G ≤ LENGTH → left (places_of links G) →
      Coming left links G k a 0 0 0
  unfolding places_of
  coming_start left a e h all = record { rest = all; high = e; fits = omega arith; low = omega arith; reach = omega arith }

  module _ (left : List ℕ → Type 0) (above below z i : ℕ) (s : Coming left links G k above below z i) where
    cut : drop i G ≡ get_or G i 0 ∷ drop (suc i) G
    cut = drop-cons G i 0 (omega (arith, s.reach))

    behind : length (drop (suc i) G) + suc i ≡ k + 1
    behind = omega (arith, length-drop (suc i) G, s.reach)

    whole : total (drop i G) ≡ get_or G i 0 + total (drop (suc i) G)
    unfolding total
    whole = ap total cut

    pub above_small : above ≤ RANKS + k * CHOICES
    above_small =
        let l : length (drop i G) ≡ k + 1 - i = omega (arith, length-drop i G) in
        omega (arith, s.high, after_small (i + 1) z (drop i G) (omega (arith, s.fits, s.reach)))

    pub component_small : (x : ℕ) → x ≡ get_or G i 0 → z + x ≤ LENGTH
    component_small x e = omega (arith, s.fits, whole)

    module _ (x : ℕ) (e : x ≡ get_or G i 0) where
      shape : drop i G ≡ x ∷ drop (suc i) G
      shape = cut ∙ ap (λ n. n ∷ drop (suc i) G) (sym e)

      above_from : above ≡ rank_from (suc i) (z + x) (drop (suc i) G)
      unfolding rank_after
      above_from = s.high ∙ rw (add-one i) (ap (rank_after (suc i) z) shape)

      module _ (h : i < k) where
        above_head : above ≡ binomial (z + x) (suc (suc i)) + rank_after (suc (suc i)) (suc (z + x)) (drop (suc i) G)
        above_head = above_from ∙ after_head (suc i) (z + x) (drop (suc i) G) (omega (arith, behind))

        pub above_enough : (w : ℕ) → w ≡ binomial (z + x) (i + 2) → w ≤ above
        above_enough w f =
            let o : i + 2 ≡ suc (suc i) = omega arith in
            omega (arith, f ∙ ap (binomial (z + x)) o, above_head)

        -- one component more
        pub coming_more : (next : List ℕ → Type 0) (y w : ℕ) →
            ((l : List ℕ) → left (part_places (get_or links i 0 + (below + above)) (i + 1) z x ++ l) → next l) →
            y ≡ binomial (z + x) (i + 1) → w ≡ binomial (z + x) (i + 2) →
            Coming next links G k (above - w) (below + y) (z + x + 1) (i + 1)
        unfolding places_from
        coming_more next y w go ye we =
            let o : i + 2 ≡ suc (suc i) = omega arith in
            let z1 : suc (z + x) ≡ z + x + 1 = omega arith in
            let i1 : suc i ≡ i + 1 = omega arith in
            let step : places_from links i below z (drop i G) ≡
            part_places (get_or links i 0 + (below + above)) (i + 1) z x ++
            places_from links (i + 1) (below + y) (z + x + 1) (drop (i + 1) G) =
            ap (places_from links i below z) shape ∙
            ap₂ ◌++◌ (ap₂ (λ a c. part_places (get_or links i 0 + (below + a)) c z x) (sym above_from) i1)
            (ap (λ c. places_from links c (below + binomial (z + x) c) (suc (z + x)) (drop c G)) i1 ∙
            ap₂ (λ u c. places_from links (i + 1) (below + u) c (drop (i + 1) G)) (sym ye) z1) in
            let tail_is : rank_after (suc (suc i)) (suc (z + x)) (drop (suc i) G) ≡ rank_after (i + 1 + 1) (z + x + 1) (drop (i + 1) G) =
            rw (add-one i, add-one (suc i), ← z1) refl in
            record {
              rest = go (places_from links (i + 1) (below + y) (z + x + 1) (drop (i + 1) G)) (subst left step s.rest);
              high = omega (arith, we ∙ ap (binomial (z + x)) o, above_head, tail_is);
              fits = rw (add-one i) (omega (arith, s.fits, whole));
              low = omega (arith, s.low, ye, binomial_small (z + x) (i + 1) (component_small x e));
              reach = omega arith;
            }

      -- the last component
      pub coming_end : k ≤ i → left (part_places (get_or links k 0 + below) (k + 1) z x ++ [])
      unfolding places_from rank_from
      coming_end h =
          let q : i ≡ k = omega (arith, s.reach) in
          let len : length G ≤ suc i = omega arith in
          let none : drop (suc i) G ≡ [] = drop_of_length-le G len in
          let b0 : below + 0 ≡ below = omega arith in
          let step : places_from links i below z (drop i G) ≡ part_places (get_or links k 0 + below) (k + 1) z x ++ [] =
          ap (places_from links i below z) (shape ∙ ap (λ (l : List ℕ). x ∷ l) none) ∙ rw (b0, q, add-one k) refl in
          subst left step s.rest

-- The sum over every next entry with the cap M: what is summed, and what is still to come.
abbrev pub Summing : ℕ → List ℕ → List ℕ → List ℕ → ℕ → List ℕ → Type 0
Summing M T links G sum l = min (sum + sum_of T l) M ≡ min (sum_of T (places_of links G)) M
