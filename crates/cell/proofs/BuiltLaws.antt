-- How the entries of a built member of a cell compare.
use Rattle.std.specs.Prelude.{ℕ, zero, suc, ◌+◌, ◌-◌, ◌≤◌, ◌<◌, ◌≡◌, refl, true, List, [], ◌∷◌, ◌++◌, map, ◌⊎◌, length, get_or, ltb}
use Rattle.std.proofs.Common.{sym, ap, ◌∙◌, inl, inr, arith, lt-ltb, le-ltb, le-leb}
use Rattle.std.specs.Bool.{beq}
use Rattle.std.proofs.lemmas.List.{length-map}
use Rattle.std.proofs.lemmas.Bool.{lt-leb}
use Rattle.word.specs.Word.{alike, iso}
use Rattle.word.specs.ListLaws.{below_or_not, true_not_false, and_in, and_left, and_right, beq_refl}
use Rattle.word.specs.IsoLaws.{iso_length, iso_sym, iso_map}
use Rattle.cell.specs.Built.{level, val, lift, built}

-- the value of a rest value lies in the first component or above it
data Lifted (x : ℕ) (g : List ℕ) (s : ℕ) : Type 0 where
  low : s ≤ x → lift (x ∷ g) s ≡ s → Lifted x g s
  high : x < s → lift (x ∷ g) s ≡ suc (x + lift g (s - x)) → Lifted x g s

lifted : (x : ℕ) (g : List ℕ) (s : ℕ) → Lifted x g s
unfolding lift
lifted x g s = go (below_or_not x s)
  where
    go : (x < s) ⊎ (s ≤ x) → Lifted x g s
    go (inl h) = high h (rw (lt-leb s x h) refl)
    go (inr h) = low h (rw (le-leb s x h) refl)

pub lift_rises : (g : List ℕ) (s t : ℕ) → s < t → lift g s < lift g t
unfolding lift
lift_rises [] s t h = h
lift_rises (x ∷ g) s t h = go (lift_rises g) (lifted x g s) (lifted x g t)
  where
    go : ((a b : ℕ) → a < b → lift g a < lift g b) → Lifted x g s → Lifted x g t → lift (x ∷ g) s < lift (x ∷ g) t
    go ih (low a p) (low b q) = rw (p, q) h
    go ih (low a p) (high b q) = rw (p, q) (omega arith)
    go ih (high a p) (low b q) = absurd (omega arith)
    go ih (high a p) (high b q) = rw (p, q) (omega (arith, ih (s - x) (t - x) (omega arith)))

-- a function that rises keeps comparisons
pub rises_keeps : (f : ℕ → ℕ) → ((s t : ℕ) → s < t → f s < f t) → (s t : ℕ) → ltb (f s) (f t) ≡ ltb s t
rises_keeps f up s t = go (below_or_not s t) (below_or_not t s)
  where
    go : (s < t) ⊎ (t ≤ s) → (t < s) ⊎ (s ≤ t) → ltb (f s) (f t) ≡ ltb s t
    go (inl h) k = lt-ltb (f s) (f t) (up s t h) ∙ sym (lt-ltb s t h)
    go (inr h) (inl k) = le-ltb (f s) (f t) (omega (arith, up t s k)) ∙ sym (le-ltb s t h)
    go (inr h) (inr k) =
        let e : s ≡ t = omega arith in
        le-ltb (f s) (f t) (omega (arith, ap f e)) ∙ sym (le-ltb s t h)

pub lift_keeps : (g : List ℕ) (s t : ℕ) → ltb (lift g s) (lift g t) ≡ ltb s t
lift_keeps g = rises_keeps (lift g) (lift_rises g)

pub level_mono : (g : List ℕ) (a b : ℕ) → a ≤ b → level g a ≤ level g b
unfolding level
level_mono g zero b h = omega arith
level_mono [] (suc a) zero h = absurd (omega arith)
level_mono [] (suc a) (suc b) h = omega arith
level_mono (x ∷ g) (suc a) zero h = absurd (omega arith)
level_mono (x ∷ g) (suc a) (suc b) h = omega (arith, level_mono g a b (omega arith))

pub val_rises : (g : List ℕ) (a b : ℕ) → a < b → val g a < val g b
unfolding val
val_rises g a b h = omega (arith, level_mono g a b (omega arith))

pub val_keeps : (g : List ℕ) (a b : ℕ) → ltb (val g a) (val g b) ≡ ltb a b
val_keeps g = rises_keeps (val g) (val_rises g)

-- a prefix value against a rest value: the level decides

below_lift : (g : List ℕ) (a s : ℕ) → a < length g → level g a < s → val g a < lift g s
unfolding val
below_lift [] a s h k = absurd (omega arith)
below_lift (x ∷ g) zero s h k = omega (arith, lift_rises (x ∷ g) 0 s k)
below_lift (x ∷ g) (suc a) s h k = go (below_lift g a (s - x) (omega arith)) (lifted x g s)
  where
    go : (level g a < s - x → val g a < lift g (s - x)) → Lifted x g s → val (x ∷ g) (suc a) < lift (x ∷ g) s
    go ih (low b q) = absurd (omega arith)
    go ih (high b q) = rw q (omega (arith, ih (omega arith)))

above_lift : (g : List ℕ) (a s : ℕ) → a < length g → s ≤ level g a → lift g s ≤ val g a
unfolding val
above_lift [] a s h k = absurd (omega arith)
above_lift (x ∷ g) zero s h k = go (lifted x g s)
  where
    go : Lifted x g s → lift (x ∷ g) s ≤ 0 + 0
    go (low b q) = rw q (omega arith)
    go (high b q) = absurd (omega arith)
above_lift (x ∷ g) (suc a) s h k = go (above_lift g a (s - x) (omega arith)) (lifted x g s)
  where
    go : (s - x ≤ level g a → lift g (s - x) ≤ val g a) → Lifted x g s → lift (x ∷ g) s ≤ val (x ∷ g) (suc a)
    go ih (low b q) = rw q (omega arith)
    go ih (high b q) = rw q (omega (arith, ih (omega arith)))

pub val_lift : (g : List ℕ) (a s : ℕ) → a < length g → ltb (val g a) (lift g s) ≡ ltb (level g a) s
val_lift g a s h = go (below_or_not (level g a) s)
  where
    go : (level g a < s) ⊎ (s ≤ level g a) → ltb (val g a) (lift g s) ≡ ltb (level g a) s
    go (inl k) = lt-ltb (val g a) (lift g s) (below_lift g a s h k) ∙ sym (lt-ltb (level g a) s k)
    go (inr k) = le-ltb (val g a) (lift g s) (above_lift g a s h k) ∙ sym (le-ltb (level g a) s k)

-- two words that are cut at the same place: their parts are isomorphic, and the entries before the
-- cut compare alike with those behind it

alike_append : (x : ℕ) (u v : List ℕ) (y : ℕ) (u' v' : List ℕ) → alike x u y u' ≡ true → alike x v y v' ≡ true →
    alike x (u ++ v) y (u' ++ v') ≡ true
unfolding alike
alike_append x [] v y [] v' h k = k
alike_append x [] v y (c ∷ u') v' h k = absurd (true_not_false (sym h))
alike_append x (a ∷ u) v y [] v' h k = absurd (true_not_false (sym h))
alike_append x (a ∷ u) v y (c ∷ u') v' h k =
    and_in (beq (ltb x a) (ltb y c)) (alike x (u ++ v) y (u' ++ v')) (and_left (beq (ltb x a) (ltb y c)) (alike x u y u') h)
    (alike_append x u v y u' v' (and_right (beq (ltb x a) (ltb y c)) (alike x u y u') h) k)

alike_by : (x y : ℕ) (v v' : List ℕ) → length v ≡ length v' →
    ((j : ℕ) → j < length v → ltb x (get_or v j 0) ≡ ltb y (get_or v' j 0)) → alike x v y v' ≡ true
unfolding alike
alike_by x y [] [] l f = refl
alike_by x y [] (c ∷ v') l f = absurd (omega arith)
alike_by x y (a ∷ v) [] l f = absurd (omega arith)
alike_by x y (a ∷ v) (c ∷ v') l f =
    and_in (beq (ltb x a) (ltb y c)) (alike x v y v') (rw (f 0 (omega arith)) (beq_refl (ltb y c)))
    (alike_by x y v v' (omega arith) (λ j h. f (suc j) (omega arith)))

pub iso_append : (u v u' v' : List ℕ) → iso u u' ≡ true → iso v v' ≡ true →
    ((i j : ℕ) → i < length u → j < length v → ltb (get_or u i 0) (get_or v j 0) ≡ ltb (get_or u' i 0) (get_or v' j 0)) →
    iso (u ++ v) (u' ++ v') ≡ true
unfolding iso
iso_append [] v [] v' h k f = k
iso_append [] v (c ∷ u') v' h k f = absurd (true_not_false (sym h))
iso_append (a ∷ u) v [] v' h k f = absurd (true_not_false (sym h))
iso_append (a ∷ u) v (c ∷ u') v' h k f =
    and_in (alike a (u ++ v) c (u' ++ v')) (iso (u ++ v) (u' ++ v'))
    (alike_append a u v c u' v' (and_left (alike a u c u') (iso u u') h)
    (alike_by a c v v' (iso_length v v' k) (λ j l. f 0 j (omega arith) l)))
    (iso_append u v u' v' (and_right (alike a u c u') (iso u u') h) k (λ i j b l. f (suc i) j (omega arith) l))

pub get_d_map : (f : ℕ → ℕ) (u : List ℕ) (i : ℕ) → i < length u → get_or (map f u) i 0 ≡ f (get_or u i 0)
get_d_map f [] i h = absurd (omega arith)
get_d_map f (x ∷ u) zero h = refl
get_d_map f (x ∷ u) (suc i) h = get_d_map f u i (omega arith)

-- Built words are isomorphic where their prefixes and their rests are, and where each prefix entry
-- is below the same entries of the rest.
pub iso_built : (p g σ q h τ : List ℕ) → iso p q ≡ true → iso σ τ ≡ true →
    ((i : ℕ) → i < length p → get_or p i 0 < length g) → ((i : ℕ) → i < length p → get_or q i 0 < length h) →
    ((i j : ℕ) → i < length p → j < length σ → ltb (level g (get_or p i 0)) (get_or σ j 0) ≡ ltb (level h (get_or q i 0)) (get_or τ j 0)) →
    iso (built p g σ) (built q h τ) ≡ true
unfolding built
iso_built p g σ q h τ a b pg qh f =
    iso_append (map (val g) p) (map (lift g) σ) (map (val h) q) (map (lift h) τ) (mapped (val g) (val h) (val_keeps g) (val_keeps h) p q a)
    (mapped (lift g) (lift h) (lift_keeps g) (lift_keeps h) σ τ b) crosses
  where
    mapped : (e f : ℕ → ℕ) → ((x y : ℕ) → ltb (e x) (e y) ≡ ltb x y) → ((x y : ℕ) → ltb (f x) (f y) ≡ ltb x y) →
        (u v : List ℕ) → iso u v ≡ true → iso (map e u) (map f v) ≡ true
    mapped e f ke kf u v t = iso_map f kf (map e u) v ∙ iso_sym (map e u) v ∙ iso_map e ke v u ∙ iso_sym v u ∙ t

    crosses : (i j : ℕ) → i < length (map (val g) p) → j < length (map (lift g) σ) →
        ltb (get_or (map (val g) p) i 0) (get_or (map (lift g) σ) j 0) ≡ ltb (get_or (map (val h) q) i 0) (get_or (map (lift h) τ) j 0)
    crosses i j r s =
        let rp : i < length p = omega (arith, length-map p (val g)) in
        let rq : i < length q = omega (arith, iso_length p q a) in
        let sσ : j < length σ = omega (arith, length-map σ (lift g)) in
        let sτ : j < length τ = omega (arith, iso_length σ τ b) in
        rw (get_d_map (val g) p i rp, get_d_map (lift g) σ j sσ, get_d_map (val h) q i rq, get_d_map (lift h) τ j sτ)
        (val_lift g (get_or p i 0) (get_or σ j 0) (pg i rp) ∙ f i j rp sσ ∙ sym (val_lift h (get_or q i 0) (get_or τ j 0) (qh i rp)))
