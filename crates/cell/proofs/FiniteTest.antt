-- The finite test of a deletion: a violation at any spacing gives one whose rest is shorter than
-- the longest pattern.
use Rattle.std.specs.Prelude.{ℕ, zero, suc, ◌+◌, ◌-◌, ◌≤◌, ◌<◌, ◌≡◌, refl, Bool, true, false, ◌↔◌, length}
use Rattle.std.proofs.Common.{sym, ap, ap₂, ◌∙◌, subst, arith}
use mathlib.Core.List.Sublistᴰ
use mathlib.Core.List.{List, [], ◌∷◌, ◌++◌, map, Memᴰ, Sublistᴰ}
use Rattle.std.proofs.lemmas.List.{length-map}
use Rattle.word.specs.Word.{iso, avoids, is_perm, bump, longest}
use Rattle.word.specs.ListLaws.{true_not_false}
use Rattle.word.specs.IsoLaws.{iso_length}
use Rattle.word.specs.ContainsLaws.{contains_out, contains_in, avoids_fails, avoids_not, avoids_sublist, longest_at_least}
use Rattle.cell.specs.Cell.{total, at_least}
use Rattle.cell.specs.Built.{val, lift, built}
use Rattle.cell.proofs.SpacingWalk.{at_least_refl, at_least_trans}
use Rattle.word.specs.ListLaws.{sublist_mem}
use Rattle.cell.specs.SublistLaws.{sublist_length, sublist_whole, sublist_spare, sublist_of_append, sublist_of_map}
use Rattle.cell.proofs.BuiltWords.{built_length}
use Rattle.cell.proofs.RestLaws.{lowered, total_lowered, at_least_lowered}
use Rattle.cell.proofs.RestLaws.{take_out, Within, within_lowered, copy_lowered, avoids_lowered, built_sublist}

-- at spacing g: if q with a rest avoids the patterns, p with that rest does
abbrev pub Agrees : List (List ℕ) → List ℕ → List ℕ → List ℕ → Type 0
Agrees P p q g = (σ : List ℕ) → is_perm σ ≡ true → length σ ≡ total g → avoids P (built q g σ) ≡ true → avoids P (built p g σ) ≡ true

-- at spacing g: if a non-empty sublist of p with a rest is a copy of a pattern, q with that rest
-- does not avoid the patterns
abbrev pub Clean : List (List ℕ) → List ℕ → List ℕ → List ℕ → Type 0
Clean P p q g = (β : List ℕ) → Memᴰ β P → (a : List ℕ) → Sublistᴰ a p → (a ≡ [] → ⊥) →
    (σ : List ℕ) → is_perm σ ≡ true → length σ ≡ total g → iso β (built a g σ) ≡ true → avoids P (built q g σ) ≡ false

-- the other direction of Agrees holds for every sublist q of p
pub avoids_shorter : (P : List (List ℕ)) (p q g σ : List ℕ) → Sublistᴰ q p → avoids P (built p g σ) ≡ true → avoids P (built q g σ) ≡ true
avoids_shorter P p q g σ d h = avoids_sublist P (built_sublist g d (Sublistᴰ.refl σ)) h

-- a sublist of a built word is built from a sublist of the prefix and a sublist of the rest
pub sublist_of_built : (p g σ : List ℕ) {s : List ℕ} → Sublistᴰ s (built p g σ) →
    (a : List ℕ) × (r : List ℕ) × (s ≡ built a g r) × Sublistᴰ a p × Sublistᴰ r σ
unfolding built
sublist_of_built p g σ d =
    let (x, y, e, dx, dy) = sublist_of_append (map (val g) p) (map (lift g) σ) d in
    let (a, ea, da) = sublist_of_map (val g) p dx in
    let (r, er, dr) = sublist_of_map (lift g) σ dy in
    (a, r, e ∙ ap₂ ◌++◌ ea er, da, dr)

-- at spacing g: a and a part r of the rest σ are a copy of β, and q with the rest σ avoids P
pub record Copied (P : List (List ℕ)) (β q a g σ r : List ℕ) : Type 0 where
  pub below_q : Within q g
  pub below_a : Within a g
  pub perm : is_perm σ ≡ true
  pub size : length σ ≡ total g
  pub part : Sublistᴰ r σ
  pub copy : iso β (built a g r) ≡ true
  pub avoiding : avoids P (built q g σ) ≡ true

-- a copy at a spacing that g is at least, with a rest of length n and a part of length k
pub record Smaller (P : List (List ℕ)) (β q a g : List ℕ) (n k : ℕ) : Type 0 where
  pub b : List ℕ
  pub τ : List ℕ
  pub t : List ℕ
  pub at_most : at_least g b ≡ true
  pub rest_length : length τ ≡ n
  pub part_length : length t ≡ k
  pub copied : Copied P β q a b τ t

-- an entry of the rest that is not in r goes
pub one_less : (P : List (List ℕ)) (β q a g σ r : List ℕ) (n : ℕ) → Copied P β q a g σ r → length σ ≡ suc n →
    length r ≤ n → Smaller P β q a g n (length r)
one_less P β q a g σ r n c k l = spare (sublist_spare c.part (omega arith))
  where
    shorter : (u : List ℕ) (s : ℕ) (v τ t : List ℕ) → σ ≡ u ++ (s ∷ v) → is_perm τ ≡ true → map (bump s) τ ≡ u ++ v →
        suc (length τ) ≡ length σ →
        1 ≤ s → s ≤ length σ → r ≡ map (bump s) t → Sublistᴰ t τ → Smaller P β q a g n (length r)
    shorter u s v τ t split p j one low high step d = record {
      b = lowered g s;
      τ = τ;
      t = t;
      at_most = at_least_lowered g s;
      rest_length = omega arith;
      part_length = sym (ap length step ∙ length-map t (bump s));
      copied = record {
        below_q = within_lowered q g s c.below_q;
        below_a = within_lowered a g s c.below_a;
        perm = p;
        size = omega (arith, total_lowered g s low (omega arith));
        part = d;
        copy = copy_lowered β a g r s t low c.below_a (sym step) c.copy;
        avoiding = avoids_lowered P q g σ u s v τ split low c.below_q j c.avoiding;
      };
    }

    taken : (u : List ℕ) (s : ℕ) (v : List ℕ) → σ ≡ u ++ (s ∷ v) → Sublistᴰ r (u ++ v) →
        (τ : List ℕ) × (is_perm τ ≡ true) × (map (bump s) τ ≡ u ++ v) × (suc (length τ) ≡ length σ) × (1 ≤ s) × (s ≤ length σ) →
        Smaller P β q a g n (length r)
    taken u s v split d (τ, p, j, one, low, high) =
        let (t, step, e) = sublist_of_map (bump s) τ (rw (← j) at d) in shorter u s v τ t split p j one low high step e

    spare : (u : List ℕ) × (s : ℕ) × (v : List ℕ) × (σ ≡ u ++ (s ∷ v)) × Sublistᴰ r (u ++ v) → Smaller P β q a g n (length r)
    spare (u, s, v, split, d) = taken u s v split d (take_out σ u s v split c.perm)

-- what is smaller than something smaller
further : (P : List (List ℕ)) (β q a g : List ℕ) (n k : ℕ) (m : Smaller P β q a g n k) →
    Smaller P β q a m.b (length m.t) (length m.t) → Smaller P β q a g k k
further P β q a g n k m l = record {
  b = l.b;
  τ = l.τ;
  t = l.t;
  at_most = at_least_trans g m.b l.b m.at_most l.at_most;
  rest_length = l.rest_length ∙ m.part_length;
  part_length = l.part_length ∙ m.part_length;
  copied = l.copied;
}

-- all entries of the rest that are not in r go, one after the other
shrink : (P : List (List ℕ)) (β q a : List ℕ) (n : ℕ) (g σ r : List ℕ) → Copied P β q a g σ r → length σ ≡ length r + n →
    Smaller P β q a g (length r) (length r)
shrink P β q a zero g σ r c k = record {
  b = g;
  τ = σ;
  t = r;
  at_most = at_least_refl g;
  rest_length = omega arith;
  part_length = refl;
  copied = c;
}
shrink P β q a (suc n) g σ r c k =
    let m = one_less P β q a g σ r (length r + n) c (omega arith) (omega arith) in
    further P β q a g (length r + n) (length r) m
    (shrink P β q a n m.b m.τ m.t m.copied (omega (arith, m.rest_length, m.part_length)))

-- a violation of Clean at a spacing that g is at least, with a total below the length of the
-- longest pattern
pub record Violation (P : List (List ℕ)) (p q g : List ℕ) : Type 0 where
  pub b : List ℕ
  pub β : List ℕ
  pub a : List ℕ
  pub τ : List ℕ
  pub at_most : at_least g b ≡ true
  pub short : total b < longest P
  pub pattern : Memᴰ β P
  pub part : Sublistᴰ a p
  pub some_part : a ≡ [] → ⊥
  pub perm : is_perm τ ≡ true
  pub size : length τ ≡ total b
  pub copy : iso β (built a b τ) ≡ true
  pub avoiding : avoids P (built q b τ) ≡ true

-- a rest that avoids the patterns with q and not with p gives such a violation
pub minimal_violation : (P : List (List ℕ)) (p q g σ : List ℕ) → Within p g → Sublistᴰ q p → is_perm σ ≡ true → length σ ≡ total g →
    avoids P (built q g σ) ≡ true → avoids P (built p g σ) ≡ false → Violation P p q g
minimal_violation P p q g σ w d e l h k =
    let (β, m, c) = avoids_fails P (built p g σ) k in
    let (s, ds, i) = contains_out β (built p g σ) c in
    let (a, r, es, da, dr) = sublist_of_built p g σ ds in
    go β m a r da dr (rw es at i)
  where
    found : (β : List ℕ) → Memᴰ β P → (x : ℕ) (a r : List ℕ) → Sublistᴰ (x ∷ a) p →
        Smaller P β q (x ∷ a) g (length r) (length r) → Violation P p q g
    found β m x a r da f =
        let whole : f.t ≡ f.τ = sublist_whole f.copied.part (omega (arith, f.rest_length, f.part_length)) in
        let copy : iso β (built (x ∷ a) f.b f.τ) ≡ true =
        subst (λ (z : List ℕ). iso β (built (x ∷ a) f.b z) ≡ true) whole f.copied.copy in
        let long : length β ≡ suc (length a) + length f.τ = iso_length β (built (x ∷ a) f.b f.τ) copy ∙
        built_length (x ∷ a) f.b f.τ in
        record {
          b = f.b;
          β = β;
          a = x ∷ a;
          τ = f.τ;
          at_most = f.at_most;
          short = omega (arith, longest_at_least P m, f.copied.size);
          pattern = m;
          part = da;
          some_part = λ z. let c : ◌≡◌ {A = ℕ} 0 1 = cc in omega arith;
          perm = f.copied.perm;
          size = f.copied.size;
          copy = copy;
          avoiding = f.copied.avoiding;
        }

    go : (β : List ℕ) → Memᴰ β P → (a r : List ℕ) → Sublistᴰ a p → Sublistᴰ r σ → iso β (built a g r) ≡ true → Violation P p q g
    go β m [] r da dr i =
        absurd (true_not_false (sym h ∙ avoids_not P (built q g σ) m (contains_in β (built_sublist g (Sublistᴰ.nil-sublist q) dr) i)))
    go β m (x ∷ a) r da dr i = found β m x a r da (shrink P β q (x ∷ a) (length σ - length r) g σ r c (omega (arith, sublist_length dr)))
      where
        c : Copied P β q (x ∷ a) g σ r
        c = record {
          below_q = λ y n. w y (sublist_mem d n);
          below_a = λ y n. w y (sublist_mem da n);
          perm = e;
          size = l;
          part = dr;
          copy = i;
          avoiding = h;
        }

-- Clean below the length of the longest pattern is enough, for any set S of spacings that is closed
-- downwards.
pub finite_test : (P : List (List ℕ)) (p q : List ℕ) (S : List ℕ → Type 0) → ((g b : List ℕ) → S g → at_least g b ≡ true → S b) →
    ((g : List ℕ) → S g → Within p g) → Sublistᴰ q p → ((g : List ℕ) → S g → total g < longest P → Clean P p q g) →
    (g : List ℕ) → S g → Agrees P p q g
finite_test P p q S down w d clean g i σ e l h = go (avoids P (built p g σ)) refl
  where
    no : Violation P p q g → ⊥
    no v = true_not_false (sym v.avoiding ∙
        clean v.b (down g v.b i v.at_most) v.short v.β v.pattern v.a v.part v.some_part
        v.τ v.perm v.size v.copy)

    go : (t : Bool) → avoids P (built p g σ) ≡ t → t ≡ true
    go true f = refl
    go false f = absurd (no (minimal_violation P p q g σ (w g i) d e l h f))

-- the other way round, at each spacing: a copy of a pattern in a sublist of built p is one in built
-- p
pub clean_of_agrees : (P : List (List ℕ)) (p q g : List ℕ) → Agrees P p q g → Clean P p q g
clean_of_agrees P p q g agrees β m a d n σ e l i = go (avoids P (built q g σ)) refl
  where
    go : (t : Bool) → avoids P (built q g σ) ≡ t → t ≡ false
    go true f = absurd (true_not_false (sym (agrees σ e l f) ∙
        avoids_not P (built p g σ) m (contains_in β (built_sublist g d (Sublistᴰ.refl σ)) i)))
    go false f = refl

-- Two sets of patterns that the same words avoid give the same test: patterns that contain another
-- pattern of the set may be left out.
pub clean_basis : (P Q : List (List ℕ)) (p q g : List ℕ) → ((w : List ℕ) → avoids P w ≡ avoids Q w) → Agrees P p q g ↔ Agrees Q p q g
clean_basis P Q p q g same = (
  λ h σ e l k. sym (same (built p g σ)) ∙ h σ e l (same (built q g σ) ∙ k),
  λ h σ e l k. same (built p g σ) ∙ h σ e l (sym (same (built q g σ)) ∙ k),
)
