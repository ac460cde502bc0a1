-- Laws of placing: what the search finds, and how a pattern that is cut before its last entries
-- compares with a built word.
use Rattle.std.specs.Prelude.{ℕ, suc, ◌+◌, ◌≤◌, ◌<◌, refl, ◌⊎◌, false, ◌&&◌, ◌||◌, cond, get_or, take, drop, leb, ltb}
use Rattle.std.proofs.Common.{arith, ap₂, ◌∙◌, inl, inr, take-append-drop, length-drop, length-take-le, ltb-true, ltb-false, lt-ltb}
use Rattle.std.proofs.Common.{le-ltb, le-leb, eqb-true, eq-eqb}
use Rattle.std.proofs.Math.Path.{◌≡◌, sym, ap}
use Rattle.std.proofs.Math.Bool.{Bool, true, or-true, or-false, or_assoc}
use Rattle.std.specs.Bool.{beq}
use mathlib.Core.List.{List, [], ◌∷◌, ◌++◌, map, append-nil, append_assoc, Memᴰ}
use mathlib.Core.List.Sublistᴰ
use mathlib.Core.List.{Sublistᴰ}
use Rattle.std.proofs.Math.ListN.{length, length-append}
use Rattle.std.proofs.lemmas.List.{length-map}
use Rattle.std.proofs.Math.Dec.{eqb}
use Rattle.std.proofs.lemmas.Bool.{lt-leb}
use Rattle.word.specs.Lists.{any}
use Rattle.word.specs.Word.{alike, iso, under, reduce, distinct, is_perm}
use Rattle.word.specs.ListLaws.{true_not_false, and_left, and_right, and_in, beq_true, get_or_mem}
use Rattle.word.specs.Vocabulary.{fits}
use Rattle.word.specs.IsoLaws.{iso_snoc, iso_prefix, iso_map, iso_length, iso_reduce, under_mono, under_strict}
use Rattle.word.specs.PermLaws.{perm_distinct, reduce_perm, under_perm}
use Rattle.cell.specs.Cell.{total}
use Rattle.cell.proofs.BuiltLaws.{val_keeps, lift_keeps, val_lift, iso_append, get_d_map}
use Rattle.cell.specs.Built.{level, val, lift, built}
use Rattle.cell.specs.Candidate.{place, head_length}
use Rattle.cell.proofs.BuiltWords.{level_at_most, built_length}
use Rattle.cell.proofs.RestLaws.{Within}
use Rattle.cell.proofs.WithoutLaws.{distinct_sublist}
use Rattle.cell.proofs.DeletionLaws.{iso_reduces}

-- a disjunction that is true
or_cases : (a b : Bool) → a || b ≡ true → (a ≡ true) ⊎ (b ≡ true)
or_cases true b h = inl refl
or_cases false b h = inr h

-- What the search finds: a sublist of ps whose levels are those that hs needs, and that compares as
-- hs does, after c as hs after b. One of its entries is gone, if none was before.
pub record Placed (need lev : ℕ → ℕ) (gone : ℕ → Bool) (used : Bool) (b c hs ps : List ℕ) : Type 0 where
  pub at : List ℕ
  pub part : Sublistᴰ at ps
  pub levels : map lev at ≡ map need hs
  pub copy : iso (b ++ hs) (c ++ at) ≡ true
  pub gone_one : used || any gone at ≡ true

module _ (need lev : ℕ → ℕ) (gone : ℕ → Bool) where
  -- the head's first entry stands at y
  placed_here : (used : Bool) (b c : List ℕ) (x : ℕ) (hs : List ℕ) (y : ℕ) (ps : List ℕ) → lev y ≡ need x →
      Placed need lev gone (used || gone y) (b ++ (x ∷ [])) (c ++ (y ∷ [])) hs ps → Placed need lev gone used b c (x ∷ hs) (y ∷ ps)
  placed_here used b c x hs y ps e r = record {
    at = y ∷ r.at;
    part = Sublistᴰ.cons-cons refl r.part;
    levels = ap₂ ◌∷◌ e r.levels;
    copy = simp append_assoc at r.copy;
    gone_one = sym (or_assoc used (gone y) (any gone r.at)) ∙ r.gone_one;
  }

  placed_later : (used : Bool) (b c hs : List ℕ) (y : ℕ) (ps : List ℕ) → Placed need lev gone used b c hs ps →
      Placed need lev gone used b c hs (y ∷ ps)
  placed_later used b c hs y ps r =
      record { at = r.at; part = Sublistᴰ.cons r.part; levels = r.levels; copy = r.copy; gone_one = r.gone_one }

  -- where the search passes, it has found such a sublist
  pub place_out : (used : Bool) (b c hs ps : List ℕ) → place need lev gone used b c hs ps ≡ true → iso b c ≡ true →
      Placed need lev gone used b c hs ps
  unfolding place
  place_out used b c [] ps h i = record {
    at = [];
    part = Sublistᴰ.nil-sublist ps;
    levels = refl;
    copy = rw (append-nil b, append-nil c) i;
    gone_one = or-false used ∙ h;
  }
  place_out used b c (x ∷ hs) [] h i = absurd (true_not_false (sym h))
  place_out used b c (x ∷ hs) (y ∷ ps) h i =
      go (place_out (used || gone y) (b ++ (x ∷ [])) (c ++ (y ∷ [])) hs ps) (place_out used b c (x ∷ hs) ps)
      (or_cases (eqb (lev y) (need x) && (fits b x c y && place need lev gone (used || gone y) (b ++ (x ∷ [])) (c ++ (y ∷ [])) hs ps))
      (place need lev gone used b c (x ∷ hs) ps) h)
    where
      more : Bool
      more = place need lev gone (used || gone y) (b ++ (x ∷ [])) (c ++ (y ∷ [])) hs ps

      go : (more ≡ true → iso (b ++ (x ∷ [])) (c ++ (y ∷ [])) ≡ true →
          Placed need lev gone (used || gone y) (b ++ (x ∷ [])) (c ++ (y ∷ [])) hs ps) →
          (place need lev gone used b c (x ∷ hs) ps ≡ true → iso b c ≡ true → Placed need lev gone used b c (x ∷ hs) ps) →
          (eqb (lev y) (need x) && (fits b x c y && more) ≡ true) ⊎ (place need lev gone used b c (x ∷ hs) ps ≡ true) →
          Placed need lev gone used b c (x ∷ hs) (y ∷ ps)
      go here later (inl t) =
          let both : fits b x c y && more ≡ true = and_right (eqb (lev y) (need x)) (fits b x c y && more) t in
          placed_here used b c x hs y ps (eqb-true (lev y) (need x) (and_left (eqb (lev y) (need x)) (fits b x c y && more) t))
          (here (and_right (fits b x c y) more both) (iso_snoc b x c y ∙ and_in (iso b c) (fits b x c y) i
          (and_left (fits b x c y) more both)))
      go here later (inr t) = placed_later used b c (x ∷ hs) y ps (later t i)

  -- it has an entry for each of hs
  pub placed_length : (used : Bool) (b c hs ps : List ℕ) (r : Placed need lev gone used b c hs ps) → length r.at ≡ length hs
  placed_length used b c hs ps r = sym (length-map r.at lev) ∙ ap length r.levels ∙ length-map hs need

  -- with no entry of hs left, one was gone before
  used_before : (used : Bool) (a : List ℕ) → map lev a ≡ [] → used || any gone a ≡ true → used ≡ true
  used_before used [] e g = sym (or-false used) ∙ g
  used_before used (z ∷ a) e g = let c : ◌≡◌ {A = ℕ} 0 1 = cc in absurd (omega arith)

  -- where there is such a sublist, the search passes
  pub place_in : (used : Bool) (b c hs : List ℕ) {a ps : List ℕ} → Sublistᴰ a ps → length b ≡ length c → map lev a ≡ map need hs →
      iso (b ++ hs) (c ++ a) ≡ true → used || any gone a ≡ true → place need lev gone used b c hs ps ≡ true
  unfolding place
  place_in used b c [] {a} {ps} d l e i g = used_before used a e g
  place_in used b c (x ∷ hs) Sublistᴰ.slnil l e i g = let z : ◌≡◌ {A = ℕ} 0 1 = cc in absurd (omega arith)
  place_in used b c (x ∷ hs) (Sublistᴰ.cons {a = y} {l₁ = a} {l₂ = ps} d) l e i g =
      let here : Bool = eqb (lev y) (need x) && (fits b x c y && place need lev gone (used || gone y)
      (b ++ (x ∷ [])) (c ++ (y ∷ [])) hs ps) in
      ap (◌||◌ here) (place_in used b c (x ∷ hs) d l e i g) ∙ or-true here
  place_in used b c (x ∷ hs) (Sublistᴰ.cons-cons {a = z} {b = y} {l₁ = a} {l₂ = ps} q d) l e i g =
      let first : lev y ≡ need x = cc in
      let later : map lev a ≡ map need hs = cc in
      let j : iso ((b ++ (x ∷ [])) ++ hs) ((c ++ (y ∷ [])) ++ a) ≡ true = simp append_assoc (rw q at i) in
      let k : length (b ++ (x ∷ [])) ≡ length (c ++ (y ∷ [])) = simp length-append (omega arith) in
      let more : Bool = place need lev gone (used || gone y) (b ++ (x ∷ [])) (c ++ (y ∷ [])) hs ps in
      let s : iso b c && fits b x c y ≡ true = sym (iso_snoc b x c y) ∙ iso_prefix (b ++ (x ∷ [])) hs (c ++ (y ∷ [])) a k j in
      let m : more ≡ true = place_in (used || gone y) (b ++ (x ∷ [])) (c ++ (y ∷ [])) hs d k later j
      (or_assoc used (gone y) (any gone a) ∙ (rw q at g)) in
      ap (λ (t : Bool). t || place need lev gone used b c (x ∷ hs) ps)
      (and_in (eqb (lev y) (need x)) (fits b x c y && more) (eq-eqb (lev y) (need x) first)
      (and_in (fits b x c y) more (and_right (iso b c) (fits b x c y) s) m))

-- A word cut before its last t entries

abbrev pub head_of : List ℕ → ℕ → List ℕ
head_of β t = take (head_length β t) β

abbrev pub tail_of : List ℕ → ℕ → List ℕ
tail_of β t = drop (head_length β t) β

pub cut_joined : (β : List ℕ) (t : ℕ) → head_of β t ++ tail_of β t ≡ β
cut_joined β t = take-append-drop (head_length β t) β

pub tail_length : (β : List ℕ) (t : ℕ) → t ≤ length β → length (tail_of β t) ≡ t
tail_length β t h = length-drop (head_length β t) β ∙ omega arith

pub head_length_lem : (β : List ℕ) (t : ℕ) → length (head_of β t) ≡ head_length β t
head_length_lem β t = length-take-le (head_length β t) β (omega arith)

pub head_some : (β : List ℕ) (t : ℕ) → t < length β → head_of β t ≡ [] → ⊥
head_some β t h e = omega (arith, head_length_lem β t, ap length e)

pub tail_distinct : (β : List ℕ) (t : ℕ) → distinct β ≡ true → distinct (tail_of β t) ≡ true
tail_distinct β t h =
    distinct_sublist (Sublistᴰ.append (Sublistᴰ.nil-sublist (head_of β t)) (Sublistᴰ.refl (tail_of β t))) (rw (cut_joined β t) h)

-- a number against an entry of u compares as the numbers of entries of u at most them do
under_against : (u : List ℕ) (x y : ℕ) → Memᴰ y u → ltb (under u x) (under u y) ≡ ltb x y
under_against u x y n = go (ltb x y) refl
  where
    go : (t : Bool) → ltb x y ≡ t → ltb (under u x) (under u y) ≡ t
    go true e = lt-ltb (under u x) (under u y) (under_strict u x y (ltb-true x y e) n)
    go false e = le-ltb (under u x) (under u y) (under_mono u y x (ltb-false x y e))

-- the head placed at a with the levels that it needs, and the tail as the rest, are a copy
pub copy_in : (h u a g : List ℕ) → Within a g → iso h a ≡ true → map (level g) a ≡ map (under u) h →
    iso (h ++ u) (built a g (reduce u)) ≡ true
unfolding built reduce
copy_in h u a g w i e =
    iso_append h u (map (val g) a) (map (lift g) (map (under u) u)) (iso_map (val g) (val_keeps g) h a ∙ i)
    (iso_map (lift g) (lift_keeps g) u (map (under u) u) ∙ iso_reduce u) crosses
  where
    crosses : (i j : ℕ) → i < length h → j < length u →
        ltb (get_or h i 0) (get_or u j 0) ≡ ltb (get_or (map (val g) a) i 0) (get_or (map (lift g) (map (under u) u)) j 0)
    crosses k j hk hj =
        let ak : k < length a = omega (arith, iso_length h a i) in
        let rj : j < length (map (under u) u) = omega (arith, length-map u (under u)) in
        let need : level g (get_or a k 0) ≡ under u (get_or h k 0) =
        sym (get_d_map (level g) a k ak) ∙ ap (λ (l : List ℕ). get_or l k 0) e ∙ get_d_map (under u) h k hk in
        rw (get_d_map (val g) a k ak, get_d_map (lift g) (map (under u) u) j rj, get_d_map (under u) u j hj)
        (sym (under_against u (get_or h k 0) (get_or u j 0) (get_or_mem u j 0 hj)) ∙
        ap (λ (n : ℕ). ltb n (under u (get_or u j 0))) (sym need)
        ∙ sym (val_lift g (get_or a k 0) (under u (get_or u j 0)) (w (get_or a k 0) (get_or_mem a k 0 ak))))

-- what follows in isomorphic words after as many entries

alike_suffix : (x : ℕ) (h u : List ℕ) (y : ℕ) (k v : List ℕ) → length h ≡ length k → alike x (h ++ u) y (k ++ v) ≡
    true → alike x u y v ≡ true
unfolding alike
alike_suffix x [] u y [] v l e = e
alike_suffix x [] u y (c ∷ k) v l e = absurd (omega arith)
alike_suffix x (a ∷ h) u y [] v l e = absurd (omega arith)
alike_suffix x (a ∷ h) u y (c ∷ k) v l e =
    alike_suffix x h u y k v (omega arith) (and_right (beq (ltb x a) (ltb y c)) (alike x (h ++ u) y (k ++ v)) e)

iso_suffix : (h u k v : List ℕ) → length h ≡ length k → iso (h ++ u) (k ++ v) ≡ true → iso u v ≡ true
unfolding iso
iso_suffix [] u [] v l e = e
iso_suffix [] u (c ∷ k) v l e = absurd (omega arith)
iso_suffix (a ∷ h) u [] v l e = absurd (omega arith)
iso_suffix (a ∷ h) u (c ∷ k) v l e = iso_suffix h u k v (omega arith) (and_right (alike a (h ++ u) c (k ++ v)) (iso (h ++ u) (k ++ v)) e)

-- an entry d at the prefix value a: as many entries of u are at most d as entries of the rest are
-- at most the level of a
alike_level : (d : ℕ) (u g : List ℕ) (a : ℕ) (σ : List ℕ) → a < length g → alike d u (val g a) (map (lift g) σ) ≡
    true → under u d ≡ under σ (level g a)
unfolding alike under
alike_level d [] g a [] l e = refl
alike_level d [] g a (s ∷ σ) l e = absurd (true_not_false (sym e))
alike_level d (y ∷ u) g a [] l e = absurd (true_not_false (sym e))
alike_level d (y ∷ u) g a (s ∷ σ) l e =
    let first : Bool = beq (ltb d y) (ltb (val g a) (lift g s)) in
    let rest : Bool = alike d u (val g a) (map (lift g) σ) in
    ap₂ (λ (b : Bool) (n : ℕ). cond b (suc n) n)
    (turn (ltb d y) refl (beq_true (ltb d y) (ltb (val g a) (lift g s)) (and_left first rest e) ∙ val_lift g a s l))
    (alike_level d u g a σ l (and_right first rest e))
  where
    turn : (b : Bool) → ltb d y ≡ b → ltb d y ≡ ltb (level g a) s → leb y d ≡ leb s (level g a)
    turn true t q = lt-leb y d (ltb-true d y t) ∙ sym (lt-leb s (level g a) (ltb-true (level g a) s (sym q ∙ t)))
    turn false t q = le-leb y d (ltb-false d y t) ∙ sym (le-leb s (level g a) (ltb-false (level g a) s (sym q ∙ t)))

-- so its level is the number of entries of u at most d
copy_levels : (h u a g σ : List ℕ) → length h ≡ length a → Within a g → is_perm σ ≡ true → length σ ≡ total g →
    iso (h ++ u) (built a g σ) ≡ true → map (level g) a ≡ map (under u) h
unfolding iso built
copy_levels [] u [] g σ l w p t e = refl
copy_levels [] u (x ∷ a) g σ l w p t e = absurd (omega arith)
copy_levels (d ∷ h) u [] g σ l w p t e = absurd (omega arith)
copy_levels (d ∷ h) u (x ∷ a) g σ l w p t e =
    let first : Bool = alike d (h ++ u) (val g x) (map (val g) a ++ map (lift g) σ) in
    let rest : Bool = iso (h ++ u) (map (val g) a ++ map (lift g) σ) in
    let k : length h ≡ length (map (val g) a) = omega (arith, length-map a (val g)) in
    let i : alike d u (val g x) (map (lift g) σ) ≡ true =
    alike_suffix d h u (val g x) (map (val g) a) (map (lift g) σ) k (and_left first rest e) in
    let high : level g x ≤ length σ = omega (arith, level_at_most g x) in
    ap₂ ◌∷◌ (sym (alike_level d u g x σ (w x (Memᴰ.head refl)) i ∙ under_perm σ (level g x) p high))
    (copy_levels h u a g σ (omega arith) (λ (y : ℕ) (m : Memᴰ y a). w y (Memᴰ.tail m)) p t (and_right first rest e))

-- A copy with a in the prefix and the rest σ: its last entries, as many as the rest has, are the
-- rest, and the others are placed at a.
pub record Cut (β a g σ : List ℕ) : Type 0 where
  pub short : total g < length β
  pub size : length a ≡ head_length β (total g)
  pub copy : iso (head_of β (total g)) a ≡ true
  pub rest : σ ≡ reduce (tail_of β (total g))
  pub levels : map (level g) a ≡ map (under (tail_of β (total g))) (head_of β (total g))

pub copy_out : (β a g σ : List ℕ) → distinct β ≡ true → is_perm σ ≡ true → length σ ≡ total g → Within a g → (a ≡ [] → ⊥) →
    iso β (built a g σ) ≡ true → Cut β a g σ
unfolding built
copy_out β a g σ apart p t w some i = go (some_length a some)
  where
    h : List ℕ
    h = head_of β (total g)

    u : List ℕ
    u = tail_of β (total g)

    some_length : (a : List ℕ) → (a ≡ [] → ⊥) → 1 ≤ length a
    some_length [] n = absurd (n refl)
    some_length (x ∷ a) n = omega arith

    long : length β ≡ length a + total g
    long = iso_length β (built a g σ) i ∙ built_length a g σ ∙ ap (◌+◌ (length a)) t

    joined : iso (h ++ u) (built a g σ) ≡ true
    joined = rw (cut_joined β (total g)) i

    size : length h ≡ length a
    size = omega (arith, head_length_lem β (total g), long)

    values : length h ≡ length (map (val g) a)
    values = size ∙ sym (length-map a (val g))

    tails : iso u σ ≡ true
    tails = sym (iso_map (lift g) (lift_keeps g) u σ) ∙ iso_suffix h u (map (val g) a) (map (lift g) σ) values joined

    go : 1 ≤ length a → Cut β a g σ
    go one = record {
      short = omega (arith, long);
      size = omega (arith, long);
      copy = sym (iso_map (val g) (val_keeps g) h a) ∙ iso_prefix h u (map (val g) a) (map (lift g) σ) values joined;
      rest = sym (iso_reduces u σ (tail_distinct β (total g) apart) (perm_distinct σ p) tails ∙ reduce_perm σ p);
      levels = copy_levels h u a g σ size w p t joined;
    }
