-- Numbers that memory keeps as bytes, up to a number of places; and the rule of an entry in memory,
-- which is refused where the rule is, and is the rule itself where it is not.
use Rattle.std.specs.Prelude.{ℕ, ◌≤◌, ◌<◌, ◌≡◌, refl, ◌⊎◌, Bool, true, false, ◌||◌, List, [], ◌∷◌, ◌++◌, map}
use Rattle.std.specs.Prelude.{length, take, replicate, leb, eqb}
use Rattle.std.proofs.Common.{arith, sym, ap, ap₂, ◌∙◌, inl, inr, lt-ltb}
use Rattle.std.proofs.lemmas.List.{length-map}
use Rattle.word.specs.Ceilings.{PREFIX, COMPONENTS}
use Rattle.word.specs.Lists.{all}
use Rattle.word.specs.Word.{within}
use Rattle.word.specs.ListLaws.{and_left, and_right, below_or_not}
use Rattle.word.specs.PermLaws.{within_out}
use Rattle.forms.specs.SchemeList.{Does, expands, deletes}
use Rattle.forms.specs.SchemeMemory.{padded, six_of, positions_in, does_of}
use Rattle.forms.specs.MemoryLaws.{length_padded}
use Rattle.scheme.specs.WellFormed.{astray, outside}
use Rattle.scheme.specs.PositionLaws.{positions_inside, positions_few, positions_many}
use Rattle.text_patterns.specs.PatternMemory.{filled}
use Rattle.text_patterns.specs.PatternLoading.{take_filled}
use Rattle.text_gaps.specs.GapMemory.{part_of}
use Rattle.text_gaps.specs.GapMemoryLaws.{part_same, part_most}
use Rattle.text_schemes.specs.SchemeLoaded.{positions_of, rule_of}

-- as many numbers as there are places are all there as bytes
pub few_kept : (c : ℕ) (b : List ℕ) → c ≤ 255 → length b ≤ c → padded (part_of (length b)) (filled c 0 (map part_of b)) ≡ map part_of b
few_kept c b k h =
    let size : part_of (length b) ≡ length (map part_of b) = part_same (length b) (omega arith) ∙ sym (length-map b part_of) in
    ap (λ (n : ℕ). take n (filled c 0 (map part_of b) ++ replicate (part_of (length b)) 0)) size
    ∙ take_filled c (map part_of b) (replicate (part_of (length b)) 0) (omega (arith, length-map b part_of))

-- of more than there are places the number is large
pub many_kept : (c : ℕ) (b l : List ℕ) → c < 255 → c < length b → c < length (padded (part_of (length b)) l)
many_kept c b l k h = step (below_or_not 255 (length b))
  where
    step : (255 < length b) ⊎ (length b ≤ 255) → c < length (padded (part_of (length b)) l)
    step (inl i) = omega (arith, length_padded (part_of (length b)) l, part_most (length b) i)
    step (inr i) = omega (arith, length_padded (part_of (length b)) l, part_same (length b) i)

-- the positions that have a place are the first ones
six_filled : (l : List ℕ) → padded PREFIX (take PREFIX (filled COMPONENTS 0 l)) ≡ filled PREFIX 0 l
six_filled [] = refl
six_filled (a ∷ []) = refl
six_filled (a ∷ (b ∷ [])) = refl
six_filled (a ∷ (b ∷ (c ∷ []))) = refl
six_filled (a ∷ (b ∷ (c ∷ (d ∷ [])))) = refl
six_filled (a ∷ (b ∷ (c ∷ (d ∷ (e ∷ []))))) = refl
six_filled (a ∷ (b ∷ (c ∷ (d ∷ (e ∷ (f ∷ l)))))) = refl

abbrev kept_set : List ℕ → List ℕ
kept_set R = positions_in (positions_of R)

few_positions : (R : List ℕ) → length R ≤ PREFIX → kept_set R ≡ map part_of R
few_positions R h = ap (padded (part_of (length R))) (six_filled (map part_of R)) ∙ few_kept PREFIX R (omega arith) h

-- a position beyond 255 is astray, and so is 255
astray_kept : (k a : ℕ) (R : List ℕ) → k < 255 → astray k a (map part_of R) ≡ astray k a R
astray_kept k a [] h = refl
astray_kept k a (r ∷ R) h = step (below_or_not 255 r) (astray_kept k r R h)
  where
    far : (x : ℕ) (Q : List ℕ) → k < x → astray k a (x ∷ Q) ≡ true
    far x Q i = rw (lt-ltb k x i) (over (leb x a))
      where
        over : (b : Bool) → (b || true) || astray k x Q ≡ true
        over true = refl
        over false = refl

    step : (255 < r) ⊎ (r ≤ 255) → astray k r (map part_of R) ≡ astray k r R → astray k a (map part_of (r ∷ R)) ≡ astray k a (r ∷ R)
    step (inl i) e = far (part_of r) (map part_of R) (omega (arith, part_most r i)) ∙ sym (far r R (omega arith))
    step (inr i) e = rw (part_same r i, e) refl

inside_kept : (k : ℕ) (R : List ℕ) → k ≤ 255 → all (within k) R ≡ true → map part_of R ≡ R
inside_kept k [] h e = refl
inside_kept k (r ∷ R) h e =
    let b = within_out k r (and_left (within k r) (all (within k) R) e) in
    ap₂ ◌∷◌ (part_same r (omega (arith, b.1))) (inside_kept k R h (and_right (within k r) (all (within k) R) e))

-- the rule of an entry that is not large
abbrev pub kept_rule : Does → Does
kept_rule m = does_of (rule_of m)

pub outside_kept : (k : ℕ) (m : Does) → k ≤ PREFIX → outside k (kept_rule m) ≡ outside k m
outside_kept k expands h = refl
outside_kept k (deletes R) h = step (below_or_not PREFIX (length R))
  where
    step : (PREFIX < length R) ⊎ (length R ≤ PREFIX) → outside k (deletes (kept_set R)) ≡ outside k (deletes R)
    step (inl i) =
        let many : PREFIX < length (kept_set R) = many_kept PREFIX R (six_of (positions_of R)) (omega arith) i in
        positions_many k (kept_set R) (omega arith) ∙ sym (positions_many k R (omega arith))
    step (inr i) =
        ap (λ (Q : List ℕ). outside k (deletes Q)) (few_positions R i)
        ∙ ap₂ ◌||◌ (ap (λ (n : ℕ). eqb n 0) (length-map R part_of)) (astray_kept k 0 R (omega arith))

pub rule_kept : (k : ℕ) (m : Does) → k ≤ PREFIX → outside k m ≡ false → kept_rule m ≡ m
rule_kept k expands h e = refl
rule_kept k (deletes R) h e =
    ap deletes (few_positions R (omega (arith, positions_few k R e)) ∙ inside_kept k R (omega arith) (positions_inside k R e))
