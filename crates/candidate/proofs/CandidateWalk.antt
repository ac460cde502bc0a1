-- The walks of the candidate search: over the patterns, over the spacings of a total, over the
-- totals.
-- Assumes nothing.
use Prim.Native.Nat.{ℕ, suc, ◌+◌, ◌-◌, ◌≤◌, ◌<◌}
use mathlib.Core.Path.{◌≡◌, refl, sym, ap, ◌∙◌}
use mathlib.Core.Bool.{Bool, true, false, cond, ◌&&◌, ◌||◌}
use mathlib.Core.List.Memᴰ
use mathlib.Core.List.{List, [], ◌∷◌, ◌++◌, map, Memᴰ}
use mathlib.Core.Logic.{◌↔◌}
use native.Mathlib.Nat.{sub-zero}
use native.Mathlib.Numerals.{add-one}
use native.Mathlib.Omega.{arith}
use lib.ListN.{length, get_or, take, drop, drop_of_length-le}
use lib.Seq.{drop-cons}
use mathlib.Core.Option.{Option as Maybe, none, some}
use Rattle.std.specs.Prelude.{Option, Some, None, is_some}
use Rattle.word.specs.Lists.{any, keep, first, each, row}
use Rattle.word.specs.Word.{contains, avoids, longest, reduce, has, distinct, entry, is_perm}
use Rattle.word.specs.PermLaws.{perm_bounds, perm_distinct}
use Rattle.cell.specs.Claim.{DeletionClaim}
use Rattle.cell.proofs.CandidateLaws.{irreversible_law}
use Rattle.placing.specs.Tabled.{Tabled, IsCandidate}
use Rattle.word.specs.ListLaws.{true_not_false, first_some, get_or_mem}
use Rattle.word.specs.CopyLaws.{found, first_found}
use Rattle.word.specs.ContainsLaws.{avoids_none}
use Rattle.cell.specs.Cell.{total, without, free, vectors, compared_to}
use Rattle.cell.proofs.SpacingWalk.{compared_are}
use Rattle.cell.specs.Built.{level, built}
use Rattle.cell.specs.Candidate.{head_length, hit, violates, violated, irreversible, violated_first}
use Rattle.placing.specs.Lookup.{need_at, Says, Flags}
use Rattle.candidate.specs.Ready.{Ready, Needs, Given, Looked, Violates, FlaggedFor, FreeAnswer, FoundAt, TotalAnswer, EntryAnswer}
use Rattle.candidate.specs.declared.search.Lost.{Lost}
use Rattle.spacing.specs.Following.{first_vector, later, Follows}
use Rattle.spacing.specs.SpacingOrder.{vectors_first, first_length, first_total}
use Rattle.candidate.proofs.HitLaws.{hit_short}

-- what is looked up for the pattern at place i
pub ready : (P : List (List ℕ)) (p R g levels gone : List ℕ) (needs : List ℕ) (t i : ℕ) →
    Given P p R → length g ≡ suc (length p) → total g ≡ t → Says levels (suc (length p)) (level g) →
    Flags gone 9 (λ v. has v (map (entry p) R)) → Needs P t needs → i < length P → length (get_or P i []) ≤ 8 →
    Ready p R g (get_or P i []) levels gone (need_at needs t i)
ready P p R g levels gone needs t i G size e L F N h eight =
    record {
      perm = G.perm;
      short = G.short;
      inside = G.inside;
      size = size;
      pattern = G.patterns i h;
      digits = eight;
      said_levels = L;
      said_gone = F;
      said_need = rw e (N i h);
    }

-- over the patterns: some one from place i on violates

module _ (f : List ℕ → Bool) (P : List (List ℕ)) (i : ℕ) where
  pub some_counted : length P ≤ i → any f (drop i P) ≡ false
  some_counted h = ap (any f) (drop_of_length-le P h)

  module _ (hn : i < length P) where
    some_cons : any f (drop i P) ≡ f (get_or P i []) || any f (drop (i + 1) P)
    some_cons = rw (add-one i) (ap (any f) (drop-cons P i [] hn))

    pub some_here : f (get_or P i []) ≡ true → any f (drop i P) ≡ true
    some_here e = some_cons ∙ rw e refl

    pub some_later : f (get_or P i []) ≡ false → any f (drop i P) ≡ any f (drop (i + 1) P)
    some_later e = some_cons ∙ rw e refl

-- the violation by one pattern
pub violates_missed : (P : List (List ℕ)) (p R g β : List ℕ) → hit p R g β ≡ false → violates P p R g β ≡ false
unfolding violates
violates_missed P p R g β e = rw e refl

pub violates_hit : (P : List (List ℕ)) (p R g β w : List ℕ) → hit p R g β ≡ true → w ≡
    built (without R p) g (reduce (drop (head_length β (total g)) β)) →
    violates P p R g β ≡ avoids P w
unfolding violates
violates_hit P p R g β w e q = rw (e, q) refl

-- over the spacings of one total, in lexicographic order

-- the first of two results
abbrev or_else : Maybe (List ℕ) → Maybe (List ℕ) → Maybe (List ℕ)
or_else none o = o
or_else (some g) o = some g

first_append : (f : List ℕ → Bool) (k l : List (List ℕ)) → first f (k ++ l) ≡ or_else (first f k) (first f l)
first_append f [] l = refl
first_append f (x ∷ k) l = go (f x) (first_append f k l)
  where
    go : (c : Bool) → first f (k ++ l) ≡ or_else (first f k) (first f l) →
        cond c (some x) (first f (k ++ l)) ≡ or_else (cond c (some x) (first f k)) (first f l)
    go true e = refl
    go false e = e

-- the first of those that pass h
first_keep : (h f : List ℕ → Bool) (l : List (List ℕ)) → first f (keep h l) ≡ first (λ x. h x && f x) l
first_keep h f [] = refl
first_keep h f (x ∷ l) = go (h x) (first_keep h f l)
  where
    go : (c : Bool) → first f (keep h l) ≡ first (λ x. h x && f x) l → first f (cond c (x ∷ keep h l) (keep h l)) ≡
        cond (c && f x) (some x) (first (λ x. h x && f x) l)
    go true e = ap (cond (f x) (some x)) e
    go false e = e

found_either : (a b : Maybe (List ℕ)) → found (or_else a b) ≡ found a || found b
found_either none b = refl
found_either (some g) b = refl

-- what is found in the first part is found, and else the second decides
found_here : (k : ℕ) (a b : Maybe (List ℕ)) (r : Option Lost) → is_some r ≡ true → FoundAt k a r → FoundAt k (or_else a b) r
found_here k a b None h e = absurd (true_not_false (sym h))
found_here k none b (Some l) h e = absurd e
found_here k (some g) b (Some l) h e = e

found_later : (k : ℕ) (a b : Maybe (List ℕ)) (r : Option Lost) → is_some r ≡ false → FoundAt k a r → or_else a b ≡ b
found_later k a b (Some l) h e = absurd (true_not_false h)
found_later k none b None h e = refl
found_later k (some g) b None h e = absurd e

module _ (f : List ℕ → Bool) where
  pub walk_start : (k t : ℕ) → first f (vectors (suc k) t) ≡ first f (first_vector k t ∷ later (first_vector k t))
  walk_start k t = ap (first f) (vectors_first k t)

  pub walk_here : (v : List ℕ) → f v ≡ true → first f (v ∷ later v) ≡ some v
  walk_here v e = rw e refl

  pub walk_last : (v n : List ℕ) (found : Bool) → Follows v found n → f v ≡ false → found ≡ false → first f (v ∷ later v) ≡ none
  walk_last v n found F e h = rw (e, F.rest, h) refl

  pub walk_next : (v n : List ℕ) (found : Bool) → Follows v found n → f v ≡ false → found ≡ true →
      first f (v ∷ later v) ≡ first f (n ∷ later n)
  walk_next v n found F e h = rw (e, F.rest, h) refl

  -- over the totals from t on
  unfoldable pub from_total : ℕ → ℕ → ℕ → Maybe (List ℕ)
  from_total k m t = first f (each (vectors (suc k)) (row t (m - t)))

  pub totals_start : (k m : ℕ) → first f (each (vectors (suc k)) (row 0 m)) ≡ from_total k m 0
  unfolding from_total
  totals_start k m = rw (sub-zero m) refl

  pub totals_end : (k m t : ℕ) → m ≤ t → from_total k m t ≡ none
  unfolding from_total
  totals_end k m t h = go (m - t) (omega arith)
    where
      go : (n : ℕ) → n ≡ 0 → first f (each (vectors (suc k)) (row t n)) ≡ none
      go n e = rw e refl

  totals_cons : (k m t : ℕ) → t < m → from_total k m t ≡ or_else (first f (vectors (suc k) t)) (from_total k m (t + 1))
  unfolding from_total
  totals_cons k m t h = rw (add-one t) (go (m - t) (m - suc t) (omega arith))
    where
      go : (n r : ℕ) → n ≡ suc r →
          first f (each (vectors (suc k)) (row t n)) ≡
          or_else (first f (vectors (suc k) t)) (first f (each (vectors (suc k)) (row (suc t) r)))
      go n r e = rw e (first_append f (vectors (suc k) t) (each (vectors (suc k)) (row (suc t) r)))

  -- whether there is one at all
  module _ (k m t : ℕ) (h : t < m) where
    seen_either : found (from_total k m t) ≡ any f (vectors (suc k) t) || found (from_total k m (t + 1))
    seen_either =
        ap found (totals_cons k m t h) ∙ found_either (first f (vectors (suc k) t)) (from_total k m (t + 1)) ∙
        ap (λ (b : Bool). b || found (from_total k m (t + 1))) (first_found f (vectors (suc k) t))

    pub seen_here : any f (vectors (suc k) t) ≡ true → found (from_total k m t) ≡ true
    seen_here e = seen_either ∙ rw e refl

    pub seen_later : any f (vectors (suc k) t) ≡ false → found (from_total k m t) ≡ found (from_total k m (t + 1))
    seen_later e = seen_either ∙ rw e refl

  module _ (k m t : ℕ) (h : t < m) (r : Option Lost) (here : FoundAt k (first f (vectors (suc k) t)) r) where
    pub totals_here : is_some r ≡ true → FoundAt k (from_total k m t) r
    totals_here e =
        rw (totals_cons k m t h) (found_here k (first f (vectors (suc k) t)) (from_total k m (t + 1)) r e here)

    pub totals_later : is_some r ≡ false → from_total k m t ≡ from_total k m (t + 1)
    totals_later e = totals_cons k m t h ∙ found_later k (first f (vectors (suc k) t)) (from_total k m (t + 1)) r e here

module _ (P : List (List ℕ)) (needs : List ℕ) (p gone levels : List ℕ) (t : ℕ) where
  module _ (i : ℕ) (hn : i < length P) (eight : length (get_or P i []) ≤ 8) where
    look : (R g : List ℕ) → Looked P needs p gone levels t R g →
        Ready p R g (get_or P i []) levels gone (need_at needs t i)
    look R g L = ready P p R g levels gone needs t i L.given L.size L.whole L.said
        L.flags L.needed hn eight

    -- a pattern that is not longer than the total
    pub violates_short : length (get_or P i []) ≤ t → Violates P needs p gone levels t i false
    violates_short h R g L =
        violates_missed P p R g (get_or P i [])
        (hit_short p R g (get_or P i []) t L.whole h)

    module _ (r : Bool) (hits : (R g : List ℕ) → Ready p R g (get_or P i []) levels gone
        (need_at needs t i) → total g ≡ t → r ≡ hit p R g (get_or P i [])) where
      -- one that does not hit
      pub violates_not : r ≡ false → Violates P needs p gone levels t i false
      violates_not e R g L =
          violates_missed P p R g (get_or P i [])
          (sym (hits R g (look R g L) L.whole) ∙ e)

      -- one that hits: whether its candidate avoids without the deleted positions
      pub violates_by : r ≡ true → (w : List ℕ) →
          ((R g : List ℕ) → Looked P needs p gone levels t R g →
          w ≡ built (without R p) g (reduce (drop (head_length (get_or P i []) (total g)) (get_or P i [])))) →
          (b : Bool) → avoids P w ≡ b → Violates P needs p gone levels t i b
      violates_by e w word b a R g L =
          violates_hit P p R g (get_or P i []) w
          (sym (hits R g (look R g L) L.whole) ∙ e) (word R g L) ∙ a

  -- the patterns before place i do not violate
  abbrev pub Passed : ℕ → Type 0
  Passed i =
      (R g : List ℕ) → Looked P needs p gone levels t R g →
      violated P p R g ≡ any (violates P p R g) (drop i P)

  pub passed_start : Passed 0
  unfolding violated
  passed_start R g L = refl

  pub passed_end : (i : ℕ) → length P ≤ i → Passed i → (R g : List ℕ) → Looked P needs p gone levels t R g →
      false ≡ violated P p R g
  passed_end i h I R g L = sym (I R g L ∙ some_counted (violates P p R g) P i h)

  module _ (i : ℕ) (hn : i < length P) (I : Passed i) where
    pub passed_later : Violates P needs p gone levels t i false → Passed (i + 1)
    passed_later e R g L = I R g L ∙ some_later (violates P p R g) P i hn (e R g L)

    pub violation : Violates P needs p gone levels t i true → (R g : List ℕ) → Looked P needs p gone levels t R g →
        true ≡ violated P p R g
    violation e R g L =
        sym (I R g L ∙ some_here (violates P p R g) P i hn (e R g L))

-- the word that was made is the candidate
module _ (P : List (List ℕ)) (needs p gone levels : List ℕ) (t i : ℕ) (hn : i < length P) (eight : length (get_or P i []) ≤ 8)
    (short : t ≤ length (get_or P i [])) (w : List ℕ) (made : IsCandidate p levels gone (get_or P i []) t (need_at needs t i) w) where
  tabled : (R g : List ℕ) → Looked P needs p gone levels t R g → Tabled levels gone t (need_at needs t i) p R g (get_or P i [])
  tabled R g L =
      record {
        perm = L.given.perm;
        inside = L.given.inside;
        size = L.size;
        whole = L.whole;
        says_levels = λ v b. L.said v (omega arith);
        flags_gone = L.flags;
        says_need = λ v b. L.needed i hn short v b;
        small = λ y m. let (low, high) = perm_bounds (get_or P i []) (L.given.patterns i hn) m in omega arith;
      }

  pub word_made : (R g : List ℕ) → Looked P needs p gone levels t R g →
      w ≡ built (without R p) g (reduce (drop (head_length (get_or P i []) (total g)) (get_or P i [])))
  word_made R g L =
      made R g (tabled R g L) ∙
      ap (λ (n : ℕ). built (without R p) g (reduce (drop (length (get_or P i []) - n) (get_or P i [])))) (sym L.whole)

-- both tests, where the first is known
pub and_false : (a b : Bool) → a ≡ false → false ≡ a && b
and_false a b e = sym (ap (λ (x : Bool). x && b) e)

pub and_true : (a b r : Bool) → a ≡ true → r ≡ b → r ≡ a && b
and_true a b r e h = h ∙ sym (ap (λ (x : Bool). x && b) e)

-- a spacing that is at least no vector of B, with a violation
abbrev pub lost : List (List ℕ) → List (List ℕ) → List ℕ → List ℕ → List ℕ → Bool
lost B P p R g = free B g && violated P p R g

-- the state of the walk over the spacings of a total: those before v have no violation
pub record Walked (P : List (List ℕ)) (p gone : List ℕ) (B : List (List ℕ))
    (k t : ℕ) (v : List ℕ) : Type 0 where
  pub whole : total v ≡ t
  pub size : length v ≡ suc k
  pub rest :
      (R : List ℕ) → FlaggedFor P p R gone →
      first (lost B P p R) (vectors (suc k) t) ≡
      first (lost B P p R) (v ∷ later v)

module _ (P : List (List ℕ)) (needs : List ℕ) (p gone : List ℕ) (B : List (List ℕ)) (k t : ℕ) where
  pub walked_start : (v : List ℕ) → v ≡ first_vector k t → Walked P p gone B k t v
  walked_start v e =
      record {
        whole = ap total e ∙ first_total k t;
        size = ap length e ∙ first_length k t;
        rest =
            λ R F.
            walk_start (lost B P p R) k t ∙
            ap (λ (u : List ℕ). first (lost B P p R) (u ∷ later u)) (sym e);
      }

  module _ (v : List ℕ) (W : Walked P p gone B k t v) (N : Needs P t needs) (r : Bool)
      (answer : FreeAnswer P needs p gone B v t r) where
    here : (R : List ℕ) → FlaggedFor P p R gone → k ≡ length p → r ≡ lost B P p R v
    here R F e = answer R F (W.size ∙ ap suc e) W.whole N

    pub walked_found : r ≡ true → (g : List ℕ) → take (k + 1) g ≡ v →
        TotalAnswer P p gone B k t (Some (record { total = t; spacing = g }))
    walked_found h g q R F e =
        rw (W.rest R F ∙ walk_here (lost B P p R) v (sym (here R F e) ∙ h)) (q, sym W.whole)

    module _ (h : r ≡ false) (n : List ℕ) (found : Bool) (follows : Follows v found n) where
      pub walked_none : found ≡ false → TotalAnswer P p gone B k t None
      walked_none q R F e =
          rw (W.rest R F ∙ walk_last (lost B P p R) v n found follows (sym (here R F e) ∙ h) q) tt

      pub walked_next : found ≡ true → k ≡ length p → length n ≡ suc k → Walked P p gone B k t n
      walked_next q e size =
          record {
            whole = follows.same_total ∙ W.whole;
            size = size;
            rest = λ R F. W.rest R F ∙ walk_next (lost B P p R) v n found follows (sym (here R F e) ∙ h) q;
          }

-- over the totals: the whole answer

-- the first violation, over all spacings of the totals below m
pub entry_first : (P : List (List ℕ)) (p : List ℕ) (B : List (List ℕ)) (R : List ℕ) (k m : ℕ) → k ≡ length p →
    violated_first m P p B R ≡ first (lost B P p R) (each (vectors (suc k)) (row 0 m))
unfolding violated_first
entry_first P p B R k m e = rw e (first_keep (free B) (violated P p R) (each (vectors (suc (length p))) (row 0 m)))

-- there is a violation exactly if there is a first
entry_found : (m : ℕ) (P : List (List ℕ)) (p : List ℕ) (B : List (List ℕ)) (R : List ℕ) →
    found (violated_first m P p B R) ≡ irreversible m P p B R
unfolding violated_first irreversible
entry_found m P p B R = first_found (violated P p R) (compared_to m (length p) B)

located_found : (k : ℕ) (o : Maybe (List ℕ)) (r : Option Lost) → FoundAt k o r → is_some r ≡ found o
located_found k none None e = refl
located_found k none (Some l) e = absurd e
located_found k (some g) None e = absurd e
located_found k (some g) (Some l) e = refl

mem_place : (P : List (List ℕ)) {β : List ℕ} → Memᴰ β P → (i : ℕ) × (i < length P) × (β ≡ get_or P i [])
mem_place [] m = absurd (Memᴰ.not-nil m)
mem_place (x ∷ P) (Memᴰ.head e) = (0, omega arith, e)
mem_place (x ∷ P) (Memᴰ.tail m) = let (i, h, e) = mem_place P m in (suc i, omega arith, e)

pub entry_answer : (m : ℕ) (P : List (List ℕ)) (p : List ℕ) (B : List (List ℕ))
    (R : List ℕ) (k : ℕ) (r : Option Lost) → Given P p R → k ≡ length p →
    FoundAt k (violated_first m P p B R) r → EntryAnswer m P p B R r
entry_answer m P p B R k r G size at =
    record {
      defined = e;
      claimed = λ reach. (λ h. (law reach).0 (sym e ∙ h), λ claim. e ∙ (law reach).1 claim);
      located = rw size at at;
    }
  where
    e : is_some r ≡ irreversible m P p B R
    e =
        located_found k (violated_first m P p B R) r at ∙
        entry_found m P p B R

    apart : (β : List ℕ) → Memᴰ β P → distinct β ≡ true
    apart β d = let (i, h, q) = mem_place P d in perm_distinct β (ap is_perm q ∙ G.patterns i h)

    law : longest P ≤ m →
        (irreversible m P p B R ≡ false) ↔ DeletionClaim P p B R
    law reach = irreversible_law m P reach p R G.perm G.inside apart B

-- the total of what was found
pub located_total : (m : ℕ) (P : List (List ℕ)) (p : List ℕ) (B : List (List ℕ)) (R : List ℕ) (k : ℕ) (l : Lost) →
    FoundAt k (violated_first m P p B R) (Some l) → (l.total < m) × (total (take (k + 1) l.spacing) ≡ l.total)
unfolding violated_first
located_total m P p B R k l at = go (violated_first m P p B R) refl at
  where
    go : (o : Maybe (List ℕ)) → violated_first m P p B R ≡ o → FoundAt k o (Some l) →
        (l.total < m) × (total (take (k + 1) l.spacing) ≡ l.total)
    go none q e = absurd e
    go (some g) q (s, t) =
        let (d, v) = first_some (violated P p R) (compared_to m (length p) B) g q in
        let c = compared_are m (length p) B d in
        (omega arith, ap total s ∙ sym t)

-- a word that contains the pattern at a place of the set does not avoid the set
pub not_avoided : (P : List (List ℕ)) (i : ℕ) (w : List ℕ) → i < length P → contains (get_or P i []) w ≡ true → avoids P w ≡ false
not_avoided P i w h e = go (avoids P w) refl
  where
    go : (b : Bool) → avoids P w ≡ b → b ≡ false
    go true a = absurd (true_not_false (sym e ∙ avoids_none P w (get_or_mem P i [] h) a))
    go false a = refl
