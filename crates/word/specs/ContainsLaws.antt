-- Laws of containment and avoidance: copies are sublists, containment is transitive, and neither
-- sees more of a word than its order.
use Rattle.std.specs.Prelude.{ℕ, ◌≤◌, ◌≡◌, refl, Bool, true, false, not, length, ltb}
use Rattle.std.proofs.Common.{sym, ap, ◌∙◌, ap₂, subst, arith}
use Rattle.std.proofs.Math.Path.{fun_ext}
use Rattle.std.specs.Bool.{beq}
use mathlib.Core.List.{List, [], ◌∷◌, map, Memᴰ}
use mathlib.Core.List.Sublistᴰ
use mathlib.Core.List.{Sublistᴰ}
use Rattle.std.proofs.lemmas.Bool.{not-true, not-false}
use Rattle.word.specs.Lists.{any, sublists}
use Rattle.word.specs.Word.{alike, iso, contains, avoids, longest, reduce}
use Rattle.word.specs.ListLaws.{true_not_false, and_left, and_right, and_in, same_test, fails_with}
use Rattle.word.specs.ListLaws.{any_out, any_in, all_out, all_in, all_fails, fails_all, all_same, mem_sublists_in, mem_sublists_out}
use Rattle.word.specs.IsoLaws.{iso_refl, iso_sym, iso_trans, iso_same, iso_length, iso_map_on, iso_reduce}

-- Containment

-- a copy is a sublist that is isomorphic to the pattern
pub contains_out : (β w : List ℕ) → contains β w ≡ true → (s : List ℕ) × Sublistᴰ s w × (iso β s ≡ true)
unfolding contains
contains_out β w h = let r = any_out (iso β) (sublists (length β) w) h in (r.0, (mem_sublists_out (length β) w r.1).0, r.2)

pub contains_in : (β : List ℕ) {s w : List ℕ} → Sublistᴰ s w → iso β s ≡ true → contains β w ≡ true
unfolding contains
contains_in β {s} {w} d e =
    any_in (iso β) (subst (λ (k : ℕ). Memᴰ s (sublists k w)) (sym (iso_length β s e)) (mem_sublists_in d)) e

pub contains_self : (w : List ℕ) → contains w w ≡ true
contains_self w = contains_in w (Sublistᴰ.refl w) (iso_refl w)

pub contains_sublist : (β : List ℕ) {v w : List ℕ} → Sublistᴰ v w → contains β v ≡ true → contains β w ≡ true
contains_sublist β {v} d h = let r = contains_out β v h in contains_in β (Sublistᴰ.trans r.1 d) r.2

-- the entries of v at the places of a sublist s of α: isomorphic to s, and seen by other entries as
-- s is
sublist_places : {s α : List ℕ} → Sublistᴰ s α → (v : List ℕ) → iso α v ≡ true
    → (t : List ℕ) × Sublistᴰ t v × (iso s t ≡ true) × ((a b : ℕ) → alike a α b v ≡ true → alike a s b t ≡ true)
unfolding iso
sublist_places Sublistᴰ.slnil [] h = ([], Sublistᴰ.slnil, refl, λ a b k. k)
sublist_places Sublistᴰ.slnil (y ∷ v) h = absurd (true_not_false (sym h))
sublist_places (Sublistᴰ.cons d) [] h = absurd (true_not_false (sym h))
sublist_places (Sublistᴰ.cons {a = x} {l₁ = s} {l₂ = α} d) (y ∷ v) h =
    let r = sublist_places d v (and_right (alike x α y v) (iso α v) h) in
    (r.0, Sublistᴰ.cons r.1, r.2, λ a b k. r.3 a b (and_right (beq (ltb a x) (ltb b y)) (alike a α b v) k))
sublist_places (Sublistᴰ.cons-cons e d) [] h = absurd (true_not_false (sym h))
sublist_places (Sublistᴰ.cons-cons {a = z} {b = x} {l₁ = s} {l₂ = α} e d) (y ∷ v) h =
    let r = sublist_places d v (and_right (alike x α y v) (iso α v) h) in
    let t : List ℕ = r.0 in
    let head : alike x s y t ≡ true = r.3 x y (and_left (alike x α y v) (iso α v) h) in (
      y ∷ t,
      Sublistᴰ.cons-cons refl r.1,
      and_in (alike z s y t) (iso s t) (rw e head) r.2,
      λ a b k. and_in (beq (ltb a z) (ltb b y)) (alike a s b t)
          (rw e (and_left (beq (ltb a x) (ltb b y)) (alike a α b v) k))
          (r.3 a b (and_right (beq (ltb a x) (ltb b y)) (alike a α b v) k)),
    )

-- if α and v are isomorphic, each sublist of α is isomorphic to a sublist of v
pub iso_sublist : {s α : List ℕ} → Sublistᴰ s α → (v : List ℕ) → iso α v ≡ true → (t : List ℕ) × Sublistᴰ t v × (iso s t ≡ true)
iso_sublist d v h = let r = sublist_places d v h in (r.0, r.1, r.2)

pub contains_trans : (β α w : List ℕ) → contains β α ≡ true → contains α w ≡ true → contains β w ≡ true
contains_trans β α w h k =
    let p = contains_out β α h in
    let q = contains_out α w k in
    let r = iso_sublist p.1 q.0 q.2 in
    contains_in β (Sublistᴰ.trans r.1 q.1) (iso_trans β p.0 r.0 p.2 r.2)

-- isomorphic patterns are contained in the same words
pub contains_iso : (α β w : List ℕ) → iso α β ≡ true → contains α w ≡ contains β w
unfolding contains
contains_iso α β w h =
    ap₂ (λ (f : List ℕ → Bool) (k : ℕ). any f (sublists k w)) (fun_ext (λ s. iso_same α β s h)) (iso_length α β h)

-- isomorphic words contain the same patterns
pub contains_word_iso : (β v w : List ℕ) → iso v w ≡ true → contains β v ≡ contains β w
contains_word_iso β v w h =
    same_test (contains β v) (contains β w)
    (λ k. contains_trans β v w k (contains_in v (Sublistᴰ.refl w) h))
    (λ k. contains_trans β w v k (contains_in w (Sublistᴰ.refl v) (iso_sym w v ∙ h)))

pub contains_map_on : (f : ℕ → ℕ) (w : List ℕ) → ((x y : ℕ) → Memᴰ x w → Memᴰ y w → ltb (f x) (f y) ≡ ltb x y)
    → (β : List ℕ) → contains β (map f w) ≡ contains β w
contains_map_on f w h β = sym (contains_word_iso β w (map f w) (iso_map_on f w h w ∙ iso_refl w))

pub contains_map : (f : ℕ → ℕ) → ((x y : ℕ) → ltb (f x) (f y) ≡ ltb x y) → (β w : List ℕ) → contains β (map f w) ≡ contains β w
contains_map f h β w = contains_map_on f w (λ x y m n. h x y) β

pub contains_reduce : (β w : List ℕ) → contains β (reduce w) ≡ contains β w
contains_reduce β w = sym (contains_word_iso β w (reduce w) (iso_reduce w))

-- Avoidance

-- a word that does not avoid the patterns contains one of them
pub avoids_fails : (P : List (List ℕ)) (w : List ℕ) → avoids P w ≡ false → (β : List ℕ) × Memᴰ β P × (contains β w ≡ true)
unfolding avoids
avoids_fails P w h = let r = all_fails (λ β. not (contains β w)) P h in (r.0, r.1, not-false (contains r.0 w) r.2)

-- a word that avoids the patterns contains none of them
pub avoids_none : (P : List (List ℕ)) (w : List ℕ) {β : List ℕ} → Memᴰ β P → avoids P w ≡ true → contains β w ≡ false
unfolding avoids
avoids_none P w {β} m h = not-true (contains β w) (all_out (λ β. not (contains β w)) m h)

-- a word that contains none of the patterns avoids them
pub avoids_by : (P : List (List ℕ)) (w : List ℕ) → ((β : List ℕ) → Memᴰ β P → contains β w ≡ false) → avoids P w ≡ true
unfolding avoids
avoids_by P w h = all_in (λ β. not (contains β w)) P (λ β m. ap not (h β m))

-- a word that contains one of the patterns does not avoid them
pub avoids_not : (P : List (List ℕ)) (w : List ℕ) {β : List ℕ} → Memᴰ β P → contains β w ≡ true → avoids P w ≡ false
unfolding avoids
avoids_not P w m h = fails_all (λ β. not (contains β w)) m (ap not h)

pub avoids_sublist : (P : List (List ℕ)) {v w : List ℕ} → Sublistᴰ v w → avoids P w ≡ true → avoids P v ≡ true
avoids_sublist P {v} {w} d h =
    avoids_by P v (λ β m. fails_with (contains β v) (contains β w) (contains_sublist β d) (avoids_none P w m h))

-- words that contain the same patterns avoid the same patterns
pub avoids_same : (P : List (List ℕ)) (v w : List ℕ) → ((β : List ℕ) → contains β v ≡ contains β w) → avoids P v ≡ avoids P w
unfolding avoids
avoids_same P v w h = all_same (λ β. not (contains β v)) (λ β. not (contains β w)) P (λ β m. ap not (h β))

pub avoids_word_iso : (P : List (List ℕ)) (v w : List ℕ) → iso v w ≡ true → avoids P v ≡ avoids P w
avoids_word_iso P v w h = avoids_same P v w (λ β. contains_word_iso β v w h)

pub avoids_map_on : (f : ℕ → ℕ) (w : List ℕ) → ((x y : ℕ) → Memᴰ x w → Memᴰ y w → ltb (f x) (f y) ≡ ltb x y)
    → (P : List (List ℕ)) → avoids P (map f w) ≡ avoids P w
avoids_map_on f w h P = avoids_same P (map f w) w (contains_map_on f w h)

pub avoids_map : (f : ℕ → ℕ) → ((x y : ℕ) → ltb (f x) (f y) ≡ ltb x y) → (P : List (List ℕ)) (w : List ℕ) → avoids P (map f w) ≡ avoids P w
avoids_map f h P w = avoids_same P (map f w) w (λ β. contains_map f h β w)

pub avoids_reduce : (P : List (List ℕ)) (w : List ℕ) → avoids P (reduce w) ≡ avoids P w
avoids_reduce P w = avoids_same P (reduce w) w (λ β. contains_reduce β w)

pub longest_at_least : (P : List (List ℕ)) {β : List ℕ} → Memᴰ β P → length β ≤ longest P
unfolding longest
longest_at_least [] {β = β} m = elim m [ ]
longest_at_least (α ∷ P) (Memᴰ.head e) = omega (arith, ap length e)
longest_at_least (α ∷ P) (Memᴰ.tail m) = omega (arith, longest_at_least P m)

-- a word that does not avoid the patterns has a sublist, no longer than the longest pattern, that
-- no avoiding word contains
pub short_fault : (P : List (List ℕ)) (w : List ℕ) → avoids P w ≡ false
    → (s : List ℕ) × Sublistᴰ s w × (length s ≤ longest P) × ((v : List ℕ) → contains s v ≡ true → avoids P v ≡ false)
short_fault P w h =
    let r = avoids_fails P w h in
    let β : List ℕ = r.0 in
    let q = contains_out β w r.2 in
    let s : List ℕ = q.0 in
    let short : length s ≤ longest P = omega (arith, iso_length β s q.2, longest_at_least P r.1) in
    (s, q.1, short, λ v k. avoids_not P v r.1 (contains_iso β s v q.2 ∙ k))
